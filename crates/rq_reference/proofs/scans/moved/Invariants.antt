use Rattle.std.proofs.Common.{◌≡◌, map, take}
use Rattle.rq_reference.specs.Plain.{done_of, moved_in}
use Rattle.rq_reference.proofs.scans.moved.Given as goal

-- what the transactions so far moved
abbrev pub invariant-loop-row : goal.invariant-loop-row
invariant-loop-row l = l.all.items ≡ moved_in l.way (map done_of (take l.row-index l.committed)) l.sender
