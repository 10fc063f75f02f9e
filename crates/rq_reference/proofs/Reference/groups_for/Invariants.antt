use Rattle.std.proofs.Common.{◌≡◌}
use Rattle.std.specs.List.{filter}
use Rattle.rq_model.specs.Ledger.{found}
use Rattle.rq_model.specs.Tests.{below, gives}
use Rattle.rq_reference.proofs.Reference.groups_for.Given as goal

-- the groups so far
abbrev pub invariant-loop-sender : goal.invariant-loop-sender
invariant-loop-sender l = l.groups.items ≡ filter (gives l.self.ledger l.txn (found l.txn l.self.ledger.open_ones)) (below l.sender)
