use Rattle.std.proofs.Common.{◌≡◌, ◌+◌, ◌≤◌, drop, length}
use Rattle.std.specs.List.{sum_by}
use Rattle.rq_store.specs.Settled.{takes_one}
use Rattle.rq_engine.proofs.moves.count_takes.Given as goal

-- what is counted and what is left are all
abbrev pub invariant-loop-done : goal.invariant-loop-done
invariant-loop-done l = record {
  all : l.taken + sum_by takes_one (drop l.done-index l.finished) ≡ sum_by takes_one l.finished;
  few : l.taken + length (drop l.done-index l.finished) ≤ length l.finished;
}
