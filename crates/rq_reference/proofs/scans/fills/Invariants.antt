use Rattle.std.proofs.Common.{◌≡◌, ◌+◌, ◌-◌, ◌^◌, map, take}
use Rattle.std.specs.Prelude.{min}
use Rattle.std.specs.List.{sum_by}
use Rattle.rq_model.specs.Tests.{below, count_rest, pending}
use Rattle.rq_reference.specs.Plain.{done_of, open_of}
use Rattle.rq_reference.proofs.scans.fills.Given as goal

abbrev pub invariant-loop-row : goal.invariant-loop-row
invariant-loop-row l = l.total ≡ min (2 ^ 128 - 1) (count_rest (below l.senders) (map done_of l.committed) + sum_by pending (map open_of (take l.row-index l.rows)))
