-- Worked cases, by name.
use Rattle.rq_cases.specs.Applied.{CallsAreApplied}
use Rattle.rq_cases.specs.Audits.{AuditsAreJudged}
use Rattle.rq_cases.specs.Bases.{BasesAreJudged}
use Rattle.rq_cases.specs.Bounds.{BoundsAreJudged}
use Rattle.rq_cases.specs.Checkpoints.{CheckpointsAreJudged}
use Rattle.rq_cases.specs.Courses.{CausesAreJudged, StopsAreJudged}
use Rattle.rq_cases.specs.Crashes.{RunsAreJudged}
use Rattle.rq_cases.specs.Formatting.{FormatsAreJudged}
use Rattle.rq_cases.specs.KeptUp.{StartsAreJudged}
use Rattle.rq_cases.specs.RollingBack.{MendsAreJudged}
use Rattle.rq_cases.specs.Openings.{BeginningsAreJudged, ChecksAreJudged, FewFramesAreJudged, RefusalsAreJudged}
use Rattle.rq_cases.specs.Replies.{ReceiptsAreJudged}
use Rattle.rq_cases.specs.Restarting.{RestartsAreJudged}
use Rattle.rq_cases.specs.Sound.{RunIsSound}
use Rattle.rq_cases.specs.Worlds.{CutsAreJudged, WorldsAreJudged}

pub record Cases : Type 0 where
  -- A run of a small store, page by page in bytes: a message is sent, committed, forced and received. Each of its
  -- states is sound, and each call a step of the model.
  pub run_is_sound : RunIsSound
  -- A whole call over devices in memory, the force of a committed message, with what its clauses ask. What no call may answer
  -- or make, field by field.
  pub calls_are_applied : CallsAreApplied
  -- What no start begins where a test of it holds, or refuses where none does, and what it leaves of pages.
  pub starts_are_judged : StartsAreJudged
  -- A store between two happenings, open, shut or fresh, as a history leaves it; and stores that it doesn't.
  pub worlds_are_judged : WorldsAreJudged
  -- Stores behind a checkpoint, and stores in whose checkpoint a device failed, as a history leaves them.
  pub checkpoints_are_judged : CheckpointsAreJudged
  -- What a crash leaves of an open store, and what it may not leave.
  pub cuts_are_judged : CutsAreJudged
  -- Crashes at a device call inside a call: where one may come, and where it may not.
  pub stops_are_judged : StopsAreJudged
  -- Refusals in a course, with their causes and without.
  pub causes_are_judged : CausesAreJudged
  -- Formats in another order, or of other pages, by what a crash at a moment of them leaves.
  pub formats_are_judged : FormatsAreJudged
  -- What a restart does not find, make or refuse: history that isn't repeated, reports and refusals without their causes.
  pub restarts_are_judged : RestartsAreJudged
  -- Stores whose log a Base begins, with what a restart reports of it; and Bases and reports that are none.
  pub bases_are_judged : BasesAreJudged
  -- Audits of a shared engine that replay, and engines that were sound when they were shared; and those that aren't.
  pub audits_are_judged : AuditsAreJudged
  -- What a restart has not checked, of pages, log and history.
  pub checks_are_judged : ChecksAreJudged
  -- What undoes what has no end in a log: a lost transaction, in its turn, and operations; and what does not.
  pub rollbacks_are_judged : MendsAreJudged
  -- Refusals of a restart without their reason.
  pub refusals_are_judged : RefusalsAreJudged
  -- Stores that were opened in few frames, and pages that were written out for that; and those that were not.
  pub few_frames_are_judged : FewFramesAreJudged
  -- What a restart does not add to a log, at each moment, and what does not stay of a store that it doesn't open.
  pub beginnings_are_judged : BeginningsAreJudged
  -- A log at its bound: a commit, a send and a restart that just fit, and those that are refused.
  pub bounds_are_judged : BoundsAreJudged
  -- Runs of calls of two devices: what none goes through.
  pub runs_are_judged : RunsAreJudged
  -- Commits that no crash takes, and one that a crash may take; audits that were taken, and those that were not.
  pub receipts_are_judged : ReceiptsAreJudged
