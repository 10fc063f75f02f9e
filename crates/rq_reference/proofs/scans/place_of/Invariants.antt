use Rattle.std.proofs.Common.{◌≡◌, map, drop}
use Rattle.rq_reference.specs.Plain.{open_of}
use Rattle.rq_model.specs.Ledger.{found}
use Rattle.rq_reference.proofs.scans.place_of.Given as goal

-- the search of what is left is the search of all
abbrev pub invariant-loop-i : goal.invariant-loop-i
invariant-loop-i l = found l.txn (map open_of (drop l.i l.rows)) ≡ found l.txn (map open_of l.rows)
