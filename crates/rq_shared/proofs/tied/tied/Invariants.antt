use Rattle.std.proofs.Common.{◌≡◌, ◌≤◌, ◌↔◌, length, drop}
use Rattle.rq_shared.specs.Entries.{entries}
use Rattle.rq_shared.specs.Tied.{own, left_entries, stamps}
use Rattle.rq_shared.proofs.tied.tied.Given as goal

-- the whole lists are the same just where what is left of them is
abbrev pub invariant-loop-stamp : goal.invariant-loop-stamp
invariant-loop-stamp l = (l.at ≤ length l.audit) × ((own l.pass (entries l.audit) ≡ left_entries (stamps l.given)) ↔ (own l.pass (entries (drop l.at l.audit)) ≡ left_entries (stamps (drop l.stamp-index l.given))))
