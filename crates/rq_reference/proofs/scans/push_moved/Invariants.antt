use Rattle.std.proofs.Common.{◌≡◌, ◌++◌, map, take}
use Rattle.std.specs.List.{filter_map}
use Rattle.rq_reference.specs.Plain.{moved_for, op_of}
use Rattle.rq_reference.proofs.scans.push_moved.Given as goal

-- what was added so far
abbrev pub invariant-loop-act : goal.invariant-loop-act
invariant-loop-act l = l.all.items ≡ l.initial.all.items ++ filter_map (moved_for l.way l.sender) (map op_of (take l.act-index l.acts))
