use Rattle.std.proofs.Common.{◌≡◌, ◌↔◌, drop}
use Rattle.rq_shared.proofs.same.same_messages.Given as goal

-- all messages are the same just where those that are left are
abbrev pub invariant-loop-at : goal.invariant-loop-at
invariant-loop-at l = (l.messages ≡ l.others) ↔ (drop l.at l.messages ≡ drop l.at l.others)
