use Rattle.std.proofs.Common.{◌≡◌, ◌+◌, ◌<◌, ◌^◌, ℕ, drop, length}
use Rattle.rq_groups.specs.Sent.{sent_count}
use Rattle.rq_engine.specs.Moves.{with_tags}
use Rattle.rq_engine.proofs.moves.count_sends.Given as goal

-- what is left leads to the same, and there is room for it
abbrev pub invariant-loop-done : goal.invariant-loop-done
invariant-loop-done l = record {
  same : with_tags l.senders (drop l.done-index l.finished) l.sent ≡ with_tags l.senders l.finished l.fn.sent;
  room : (s : ℕ) → sent_count l.sent s + length (drop l.done-index l.finished) < 2 ^ 64;
}
