use Rattle.std.proofs.Common.{◌≤◌, ◌-◌, length, drop}
use Rattle.rq_wire.specs.Stream.{Begins}
use Rattle.rq_wire.proofs.frames.requests_of.Given as goal

abbrev pub invariant-loop-requests : goal.invariant-loop-requests
invariant-loop-requests l = record {
  begun : Begins l.requests.items l.bytes (drop l.taken l.bytes);
  within : l.taken ≤ length l.bytes;
}

abbrev pub decreases-loop-requests : goal.decreases-loop-requests
decreases-loop-requests l = length l.bytes - l.taken
