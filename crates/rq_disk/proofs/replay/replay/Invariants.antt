use Rattle.std.proofs.Common.{◌≡◌, drop}
use Rattle.rq_disk.specs.Replay.{replayed}
use Rattle.rq_disk.proofs.replay.replay.Given as goal

abbrev pub invariant-loop-call : goal.invariant-loop-call
invariant-loop-call l = replayed l.pages (drop l.call-index l.calls) ≡ replayed l.initial.pages l.calls
