use Rattle.rq_cases.proofs.Applied.{applied}
use Rattle.rq_cases.proofs.Audits.{audits}
use Rattle.rq_cases.proofs.Bases.{bases}
use Rattle.rq_cases.proofs.Bounds.{bounds}
use Rattle.rq_cases.proofs.Checkpoints.{checkpoints}
use Rattle.rq_cases.proofs.Courses.{causes, stops}
use Rattle.rq_cases.proofs.Crashes.{runs}
use Rattle.rq_cases.proofs.Formatting.{formats}
use Rattle.rq_cases.proofs.KeptUp.{starts}
use Rattle.rq_cases.proofs.RollingBack.{rolls_back}
use Rattle.rq_cases.proofs.Openings.{beginnings, checks, few_frames, refusals}
use Rattle.rq_cases.proofs.Replies.{receipts}
use Rattle.rq_cases.proofs.Restarting.{restarts}
use Rattle.rq_cases.proofs.Sound.{run}
use Rattle.rq_cases.proofs.Worlds.{cuts, worlds}
use Rattle.rq_cases.proofs.worked_cases.Goals as goal

pub returns : goal.returns
returns c = record {
  run_is_sound = run;
  calls_are_applied = applied;
  starts_are_judged = starts;
  worlds_are_judged = worlds;
  checkpoints_are_judged = checkpoints;
  cuts_are_judged = cuts;
  stops_are_judged = stops;
  causes_are_judged = causes;
  formats_are_judged = formats;
  restarts_are_judged = restarts;
  bases_are_judged = bases;
  audits_are_judged = audits;
  checks_are_judged = checks;
  rollbacks_are_judged = rolls_back;
  refusals_are_judged = refusals;
  few_frames_are_judged = few_frames;
  beginnings_are_judged = beginnings;
  bounds_are_judged = bounds;
  runs_are_judged = runs;
  receipts_are_judged = receipts;
}
