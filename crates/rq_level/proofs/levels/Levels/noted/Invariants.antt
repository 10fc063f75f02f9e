use Rattle.rq_level.proofs.OneLevel.{AreToldBelow}
use Rattle.rq_level.proofs.levels.Levels.noted.Given as goal

-- those so far were told
abbrev pub invariant-loop-level : goal.invariant-loop-level
invariant-loop-level g l = AreToldBelow l.level l.at l.bytes l.fn.self l.self
