use Rattle.std.proofs.Common.{◌≡◌, false, take}
use Rattle.rq_restart.specs.Aborting.{IsShownWithin, with_writes}
use Rattle.rq_restart.specs.Found.{IsAnalysisOf}
use Rattle.rq_analysis.specs.Rules.{FollowAll}
use Rattle.rq_planner.specs.Answered.{KnowsCells}
use Rattle.rq_restart.proofs.Carrying.{IsCarriedTo}
use Rattle.rq_restart.proofs.aborting.make_all.Given as goal

abbrev pub invariant-loop-index : goal.invariant-loop-index
invariant-loop-index g l = record {
  found : IsAnalysisOf l.analysis l.log.records;
  follow : g.L.LogDevice.honest l.log.device → FollowAll l.log.records;
  are : with_writes l.due.txn l.operation (take l.index l.writes) l.fn.log.records ≡ l.log.records;
  so_far : IsCarriedTo g.P.PageDevice g.L.LogDevice (with_writes l.due.txn l.operation (take l.index l.writes) l.fn.log.records ≡ l.log.records) l.fn.pages l.fn.log (IsShownWithin l.fn.log.records l.fn.pages l.due l.operation l.writes 0) l.pages l.log (IsShownWithin l.log.records l.pages l.due l.operation l.writes l.index);
  running : l.log.failed ≡ false;
  dues : l.analysis.dues ≡ l.fn.analysis.dues;
  active : l.analysis.open_work.active ≡ l.fn.analysis.open_work.active;
  room : l.log.reserved ≡ l.fn.log.reserved;
  cells : KnowsCells l.pages.sizes l.pages.images l.planner;
}
