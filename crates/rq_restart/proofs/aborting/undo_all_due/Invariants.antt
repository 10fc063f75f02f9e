use Rattle.std.proofs.Common.{◌≡◌, None, false, length}
use Rattle.rq_analysis.specs.Choices.{least_free}
use Rattle.rq_restart.specs.Found.{IsAnalysisOf}
use Rattle.rq_analysis.specs.Rules.{FollowAll}
use Rattle.rq_planner.specs.Answered.{KnowsCells}
use Rattle.rq_restart.proofs.RoundsBehind.{IsAbortedTo}
use Rattle.rq_restart.proofs.aborting.undo_all_due.Given as goal

abbrev pub invariant-loop-txn : goal.invariant-loop-txn
invariant-loop-txn g l = record {
  found : IsAnalysisOf l.analysis l.log.records;
  none : least_free l.analysis.dues l.analysis.open_work.active ≡ None;
  follow : g.L.LogDevice.honest l.log.device → FollowAll l.log.records;
  so_far : IsAbortedTo g.P.PageDevice g.L.LogDevice l.fn.pages l.fn.log l.pages l.log;
  running : l.log.failed ≡ false;
  room : l.log.reserved ≡ l.fn.log.reserved;
  cells : KnowsCells l.pages.sizes l.pages.images l.planner;
}

abbrev pub decreases-loop-txn : goal.decreases-loop-txn
decreases-loop-txn g l = length l.analysis.dues
