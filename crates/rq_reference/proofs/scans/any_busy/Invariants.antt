use Rattle.std.proofs.Common.{◌≡◌, map, drop}
use Rattle.rq_model.specs.Tests.{any_busy}
use Rattle.rq_reference.specs.Plain.{open_of}
use Rattle.rq_reference.proofs.scans.any_busy.Given as goal

-- the search of what is left is the search of all
abbrev pub invariant-loop-row : goal.invariant-loop-row
invariant-loop-row l = any_busy (map open_of (drop l.row-index l.rows)) ≡ any_busy (map open_of l.rows)
