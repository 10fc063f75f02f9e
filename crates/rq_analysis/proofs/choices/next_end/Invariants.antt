use Rattle.std.proofs.Common.{◌≡◌, ◌≤◌, drop, length}
use Rattle.rq_analysis.specs.Choices.{least_free}
use Rattle.rq_analysis.proofs.choices.next_end.Given as goal

abbrev pub invariant-loop-place : goal.invariant-loop-place
invariant-loop-place l = record {
  within : l.place ≤ length l.lost;
  least : l.least ≡ least_free l.dues (drop l.place l.lost);
}

abbrev pub decreases-loop-place : goal.decreases-loop-place
decreases-loop-place l = l.place
