use Rattle.std.proofs.Common.{◌≡◌, false}
use Rattle.rq_analysis.specs.Pages.{IsUndoing, work}
use Rattle.rq_analysis.specs.Rules.{FollowAll}
use Rattle.rq_restart.specs.Found.{IsAnalysisOf}
use Rattle.rq_restart.specs.Standing.{Found, NoneHeld, Stands}
use Rattle.rq_restart.specs.Undoing.{AreAsFound, HaveBeenHonest}
use Rattle.rq_restart.proofs.GoingOn.{IsGoingOn}
use Rattle.rq_restart.proofs.undoing.undo_unfinished.Given as goal

abbrev pub invariant-loop-next : goal.invariant-loop-next
invariant-loop-next g l = record {
  found : IsAnalysisOf l.analysis l.log.records;
  follow : g.L.LogDevice.honest l.log.device → FollowAll l.log.records;
  undoing : g.L.LogDevice.honest l.log.device → IsUndoing l.fn.log.records l.log.records;
  going : IsGoingOn g.P.PageDevice g.L.LogDevice l.fn.pages l.fn.log.device l.fn.log.records l.pages l.log.device l.log.records;
  running : l.log.failed ≡ false;
  held : NoneHeld l.pages.frames;
  room : l.log.reserved ≡ l.fn.log.reserved;
  planner : l.planner ≡ l.fn.planner;
  way : HaveBeenHonest g.P.PageDevice g.L.LogDevice l.pages.device l.log.device → (f : Found _ _) → Stands g.P.PageDevice g.L.LogDevice f l.fn.pages l.fn.log → AreAsFound g.P.PageDevice g.L.LogDevice f l.fn.log.records → Stands g.P.PageDevice g.L.LogDevice f l.pages l.log;
}

abbrev pub decreases-loop-next : goal.decreases-loop-next
decreases-loop-next g l = work l.analysis.open_work
