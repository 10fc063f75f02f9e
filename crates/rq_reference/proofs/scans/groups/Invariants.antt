use Rattle.std.proofs.Common.{◌≡◌, map}
use Rattle.rq_model.specs.Ledger.{group_in}
use Rattle.rq_model.specs.Tests.{below}
use Rattle.rq_reference.specs.Plain.{done_of}
use Rattle.rq_reference.proofs.scans.groups.Given as goal

abbrev pub invariant-loop-sender : goal.invariant-loop-sender
invariant-loop-sender l = l.all.items ≡ map (group_in (map done_of l.committed)) (below l.sender)
