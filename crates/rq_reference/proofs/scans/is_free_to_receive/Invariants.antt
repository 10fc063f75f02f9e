use Rattle.std.proofs.Common.{◌≡◌, map, drop}
use Rattle.rq_model.specs.Tests.{free_to_receive}
use Rattle.rq_reference.specs.Plain.{open_of}
use Rattle.rq_reference.proofs.scans.is_free_to_receive.Given as goal

-- the test of what is left is the test of all
abbrev pub invariant-loop-row : goal.invariant-loop-row
invariant-loop-row l = free_to_receive l.txn l.group (map open_of (drop l.row-index l.rows)) ≡ free_to_receive l.txn l.group (map open_of l.rows)
