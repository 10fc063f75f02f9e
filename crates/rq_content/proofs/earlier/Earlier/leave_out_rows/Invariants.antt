use Rattle.std.proofs.Common.{◌≡◌, reverse, drop}
use Rattle.rq_content.specs.Read.{before_of, without_oldest}
use Rattle.rq_content.proofs.earlier.Earlier.leave_out_rows.Given as goal

-- what is left leads to the same
abbrev pub invariant-loop-place : goal.invariant-loop-place
invariant-loop-place l = without_oldest l.sender (drop l.place (reverse l.transactions)) (before_of l.self) ≡ without_oldest l.sender (reverse l.transactions) (before_of l.fn.self)
