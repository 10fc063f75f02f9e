-- What is so of the worked run, and what is not so of its transactions.
use Rattle.rq_cases.specs.Sound.{RunIsSound}
use Rattle.rq_cases.proofs.Bytes.{are_images}
use Rattle.rq_cases.proofs.Linking.{linked, half_way}
use Rattle.rq_cases.proofs.Pages.{are_formatted}
use Rattle.rq_cases.proofs.Running as running

pub run : RunIsSound
run = record {
  images = are_images;
  formatted = are_formatted;
  fresh = running.fresh_sound;
  begun = running.begin;
  started = running.start_send;
  cell_filled = running.step_cell;
  group_counted = running.step_group;
  sent = running.finish_send;
  committed = running.commit_send;
  forced = running.force;
  begun_again = running.begin_again;
  take_started = running.start_take;
  cell_freed = running.step_free;
  take_counted = running.step_taken;
  taken = running.finish_take;
  all_committed = running.commit_take;
  linked = linked;
  half_way = half_way;
}
