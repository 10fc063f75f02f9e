use Rattle.std.proofs.Common.{◌≡◌, ◌<◌, ℕ, [], length, take, get_or}
use Rattle.rq_disk.specs.Choice.{place_of, place_after}
use Rattle.rq_disk.specs.Memory.{image_after, times_written}
use Rattle.rq_disk.specs.Replay.{page_writes}
use Rattle.rq_disk.proofs.replay.survive.Given as goal

abbrev pub invariant-loop-call : goal.invariant-loop-call
invariant-loop-call l = record {
  images : (p : ℕ) → p < length l.pages → get_or l.pages p [] ≡ image_after (page_writes (take l.call-index l.calls)) (get_or l.initial.pages p []) p (place_of l.initial.choice p);
  places : (p : ℕ) → place_of l.choice p ≡ place_after (place_of l.initial.choice p) (times_written p (page_writes (take l.call-index l.calls)));
}
