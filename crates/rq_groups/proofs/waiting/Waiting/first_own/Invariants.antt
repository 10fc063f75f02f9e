use Rattle.std.proofs.Common.{◌≡◌}
use Rattle.rq_groups.specs.Ends.{held_by}
use Rattle.rq_groups.specs.Waiting.{waits}
use Rattle.rq_groups.proofs.Tails.{IsWalk, left_from}
use Rattle.rq_groups.proofs.waiting.Waiting.first_own.Given as goal

-- of the senders so far no message waits
abbrev pub invariant-loop-next : goal.invariant-loop-next
invariant-loop-next l = IsWalk (held_by l.fn.txn l.ends.receiving) l.next (λ s. waits l.self s ≡ 0)

abbrev pub decreases-loop-next : goal.decreases-loop-next
decreases-loop-next l = left_from l.next (held_by l.fn.txn l.ends.receiving)
