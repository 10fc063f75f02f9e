use Rattle.std.proofs.Common.{◌≡◌, ◌+◌, ◌≤◌, map, drop, length}
use Rattle.std.specs.List.{filter}
use Rattle.rq_model.specs.Tests.{is_sent, pending}
use Rattle.rq_reference.specs.Plain.{op_of, open_of}
use Rattle.rq_reference.proofs.scans.pending.Given as goal

-- what is counted, with what is left to count
abbrev pub invariant-loop-act : goal.invariant-loop-act
invariant-loop-act l = (l.count + length (filter is_sent (map op_of (drop l.act-index l.row.acts.items))) ≡ pending (open_of l.row)) × (l.count ≤ l.act-index + 1)
