use Rattle.std.proofs.Common.{ℕ, ◌<◌}
use Rattle.rq_level.specs.Meaning.{NotesNothing, meaning_of}
use Rattle.rq_level.proofs.levels.idle_of.Given as goal

-- those so far keep nothing
abbrev pub invariant-loop-number : goal.invariant-loop-number
invariant-loop-number g l = (i : ℕ) → i < l.number → NotesNothing (meaning_of i)
