use Rattle.std.proofs.Common.{◌≡◌, map, take}
use Rattle.rq_content.specs.Read.{group_of}
use Rattle.rq_shared.proofs.kept.copy_of_groups.Given as goal

-- the groups so far are copied
abbrev pub invariant-loop-group : goal.invariant-loop-group
invariant-loop-group l = map group_of l.copy.items ≡ map group_of (take l.group-index l.groups)
