use Rattle.std.proofs.Common.{◌≡◌, ◌↔◌, drop, map}
use Rattle.rq_content.specs.Read.{group_of}
use Rattle.rq_shared.proofs.same.same_groups.Given as goal

-- all groups are the same just where those that are left are
abbrev pub invariant-loop-at : goal.invariant-loop-at
invariant-loop-at l = (map group_of l.groups ≡ map group_of l.others) ↔ (map group_of (drop l.at l.groups) ≡ map group_of (drop l.at l.others))
