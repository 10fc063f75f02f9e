use Rattle.std.proofs.Common.{◌≡◌, ◌-◌, ◌^◌, [], length}
use Rattle.rq_log.specs.Reading.{IsRead, IsReading}
use Rattle.rq_analysis.specs.Rules.{FollowAll}
use Rattle.rq_restart.specs.Found.{IsAnalysisOf}
use Rattle.rq_restart.specs.Standing.{Found, NoneHeld, StandsRead}
use Rattle.rq_restart.specs.Undoing.{HaveBeenHonest, IsDurable}
use Rattle.rq_restart.proofs.GoingOn.{IsGoingOn}
use Rattle.rq_restart.proofs.redo.repeat_history.Given as goal

abbrev pub invariant-loop-analysis : goal.invariant-loop-analysis
invariant-loop-analysis g l = record {
  found : IsAnalysisOf l.analysis l.reader.records;
  follow : g.L.LogDevice.honest l.reader.device → FollowAll l.reader.records;
  going : IsGoingOn g.P.PageDevice g.L.LogDevice l.fn.pages l.fn.reader.device [] l.pages l.reader.device l.reader.records;
  reading : IsReading g.L.LogDevice l.reader;
  only : IsRead g.L.LogDevice l.fn.reader.device l.reader.device;
  first : l.reader.first ≡ l.fn.reader.first;
  counted : g.L.LogDevice.faults l.reader.device ≡ g.L.LogDevice.faults l.fn.reader.first;
  held : NoneHeld l.pages.frames;
  way : HaveBeenHonest g.P.PageDevice g.L.LogDevice l.pages.device l.reader.device → (f : Found _ _) → StandsRead g.P.PageDevice g.L.LogDevice f l.fn.pages l.fn.reader → IsDurable g.L.LogDevice l.fn.pages l.fn.reader.device → StandsRead g.P.PageDevice g.L.LogDevice f l.pages l.reader;
}

abbrev pub decreases-loop-analysis : goal.decreases-loop-analysis
decreases-loop-analysis g l = 2 ^ 64 - length l.reader.records
