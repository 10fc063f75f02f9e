use Rattle.std.proofs.Common.{◌≡◌, map, drop}
use Rattle.rq_model.specs.Ledger.{ended_in}
use Rattle.rq_reference.specs.Plain.{done_of}
use Rattle.rq_reference.proofs.scans.is_closed.Given as goal

-- the search of what is left is the search of all
abbrev pub invariant-loop-row : goal.invariant-loop-row
invariant-loop-row l = ended_in (map done_of (drop l.row-index l.committed)) l.sender ≡ ended_in (map done_of l.committed) l.sender
