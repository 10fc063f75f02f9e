use Rattle.std.proofs.Common.{◌≡◌, ◌+◌, ◌-◌, ◌^◌, map, take}
use Rattle.std.specs.Prelude.{min}
use Rattle.std.specs.List.{sum_by}
use Rattle.rq_model.specs.Tests.{owed}
use Rattle.rq_reference.specs.Plain.{open_of}
use Rattle.rq_reference.proofs.scans.log_full.Given as goal

-- what is owed so far, as far as 64 bits hold it
abbrev pub invariant-loop-row : goal.invariant-loop-row
invariant-loop-row l = l.total ≡ min (2 ^ 64 - 1) (l.records + sum_by owed (map open_of (take l.row-index l.rows)) + l.more)
