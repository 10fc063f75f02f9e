use Rattle.std.proofs.Common.{◌≡◌, ◌+◌, ◌≤◌, map, drop}
use Rattle.rq_model.specs.Ledger.{kept_in}
use Rattle.rq_reference.specs.Plain.{done_of}
use Rattle.rq_reference.proofs.scans.kept_in.Given as goal

-- what is counted, with what is left to count
abbrev pub invariant-loop-row : goal.invariant-loop-row
invariant-loop-row l = (l.kept + kept_in l.records (map done_of (drop l.row-index l.committed)) ≡ kept_in l.records (map done_of l.committed)) × (l.kept ≤ l.row-index)
