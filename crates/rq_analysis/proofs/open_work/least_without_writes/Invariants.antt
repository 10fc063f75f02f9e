use Rattle.std.proofs.Common.{◌≡◌, ◌≤◌, drop, length}
use Rattle.rq_analysis.specs.Least.{least_in}
use Rattle.rq_analysis.proofs.open_work.least_without_writes.Given as goal

abbrev pub invariant-loop-place : goal.invariant-loop-place
invariant-loop-place l = record {
  within : l.place ≤ length l.unfinished;
  least : l.least ≡ least_in l.undoable (drop l.place l.unfinished);
}

abbrev pub decreases-loop-place : goal.decreases-loop-place
decreases-loop-place l = l.place
