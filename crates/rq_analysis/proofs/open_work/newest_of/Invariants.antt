use Rattle.std.proofs.Common.{◌≡◌, ◌≤◌, drop, length, false}
use Rattle.rq_analysis.specs.Pages.{any_undoable}
use Rattle.rq_analysis.proofs.open_work.newest_of.Given as goal

abbrev pub invariant-loop-place : goal.invariant-loop-place
invariant-loop-place l = record {
  within : l.place ≤ length l.undoable;
  none : any_undoable l.sub (drop l.place l.undoable) ≡ false;
}

abbrev pub decreases-loop-place : goal.decreases-loop-place
decreases-loop-place l = l.place
