use Rattle.std.proofs.Common.{◌≡◌, ◌+◌, ◌<◌, ◌^◌, ℕ, drop, length}
use Rattle.rq_groups.specs.Waiting.{waits}
use Rattle.rq_engine.specs.Moves.{with_sends}
use Rattle.rq_engine.proofs.moves.add_sends.Given as goal

-- what is left leads to the same, and there is room for it
abbrev pub invariant-loop-done : goal.invariant-loop-done
invariant-loop-done l = record {
  same : with_sends (drop l.done-index l.finished) l.waiting ≡ with_sends l.finished l.fn.waiting;
  room : (s : ℕ) → waits l.waiting s + length (drop l.done-index l.finished) < 2 ^ 64;
}
