use Rattle.std.proofs.Common.{◌≡◌, false, length}
use Rattle.rq_analysis.specs.Rules.{FollowAll}
use Rattle.rq_restart.specs.Found.{IsAnalysisOf}
use Rattle.rq_restart.proofs.RoundsBehind.{IsAbortedTo}
use Rattle.rq_restart.proofs.aborting.end_idle.Given as goal

abbrev pub invariant-loop-txn : goal.invariant-loop-txn
invariant-loop-txn g l = record {
  found : IsAnalysisOf l.analysis l.log.records;
  follow : g.L.LogDevice.honest l.log.device → FollowAll l.log.records;
  so_far : IsAbortedTo g.P.PageDevice g.L.LogDevice l.fn.pages l.fn.log l.pages l.log;
  running : l.log.failed ≡ false;
  room : l.log.reserved ≡ l.fn.log.reserved;
  same : l.pages ≡ l.fn.pages;
  planner : l.planner ≡ l.fn.planner;
}

abbrev pub decreases-loop-txn : goal.decreases-loop-txn
decreases-loop-txn g l = length l.analysis.open_work.active
