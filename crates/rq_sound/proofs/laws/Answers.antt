use Rattle.rq_sound.proofs.Contracts.{calls_keep, planned, answered, opened_is}
use Rattle.rq_sound.proofs.AbortSteps.{abort_steps}
use Rattle.rq_sound.proofs.Checkpoints.{checkpoint, migration}
use Rattle.rq_sound.proofs.DeedSteps.{deed_steps}
use Rattle.rq_sound.proofs.Holders.{views_held}
use Rattle.rq_sound.proofs.Worked.{not_sound}
use Rattle.rq_sound.proofs.Refusals.{refusal_steps, tests_read}
use Rattle.rq_sound.proofs.Waits.{waits_given}
use Rattle.rq_sound.proofs.Groups.{slots_tell}
use Rattle.rq_sound.proofs.Planned.{plans_start}
use Rattle.rq_sound.proofs.Levels.{levels_plan, levels_refuse}
use Rattle.rq_sound.proofs.Chosen.{planned_kept, noted_known}
use Rattle.rq_sound.proofs.Unchanged.{unchanged}
use Rattle.rq_sound.proofs.Latching.{latched_exact}
use Rattle.rq_sound.proofs.Wants.{levels_find}
use Rattle.rq_sound.proofs.Gathering.{wants_needed, slots_gathered}
use Rattle.rq_sound.proofs.laws.Goals as goal

pub returns : goal.returns
returns c = record {
  calls_keep_soundness = calls_keep;
  inverses_can_be_planned = planned;
  tests_are_answered = answered;
  aborts_are_steps = abort_steps;
  checkpoints_are_steps = checkpoint;
  migrations_are_steps = λ s pages k none running room tags. migration s k none pages running room tags;
  deeds_are_steps = deed_steps;
  views_are_of_holders = views_held;
  opened_is_sound = opened_is;
  unsound_stores = not_sound;
  refusals_are_steps = refusal_steps;
  tests_read_rows = tests_read;
  waits_are_given = waits_given;
  slots_tell_groups = slots_tell;
  plans_may_start = plans_start;
  levels_plan_from_slots = levels_plan;
  levels_refuse_exactly = levels_refuse;
  planned_cells_are_kept = planned_kept;
  noted_cells_are_known = noted_known;
  unchanged_are_steps = unchanged;
  latched_is_exact = latched_exact;
  levels_find_all = levels_find;
  wants_are_needed = wants_needed;
  slots_are_gathered = slots_gathered;
}
