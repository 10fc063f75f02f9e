use Rattle.std.proofs.Common.{◌≡◌, ◌-◌, ◌^◌, map}
use Rattle.std.specs.Prelude.{min}
use Rattle.rq_model.specs.Tests.{below, count_rest}
use Rattle.rq_reference.specs.Plain.{done_of}
use Rattle.rq_reference.proofs.scans.cells_held.Given as goal

abbrev pub invariant-loop-sender : goal.invariant-loop-sender
invariant-loop-sender l = l.total ≡ min (2 ^ 128 - 1) (count_rest (below l.sender) (map done_of l.committed))
