use Rattle.std.proofs.Common.{◌≡◌, drop}
use Rattle.rq_content.specs.Read.{before_of, without_all}
use Rattle.rq_content.proofs.earlier.Earlier.leave_out_all.Given as goal

-- what is left leads to the same
abbrev pub invariant-loop-done : goal.invariant-loop-done
invariant-loop-done l = without_all l.sender (drop l.done-index l.finished) (before_of l.self) ≡ without_all l.sender l.finished (before_of l.fn.self)
