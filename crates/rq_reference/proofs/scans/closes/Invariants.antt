use Rattle.std.proofs.Common.{◌≡◌, map, drop}
use Rattle.rq_model.specs.Ledger.{any_ends}
use Rattle.rq_reference.specs.Plain.{op_of}
use Rattle.rq_reference.proofs.scans.closes.Given as goal

-- the search of what is left is the search of all
abbrev pub invariant-loop-act : goal.invariant-loop-act
invariant-loop-act l = any_ends l.sender (map op_of (drop l.act-index l.acts)) ≡ any_ends l.sender (map op_of l.acts)
