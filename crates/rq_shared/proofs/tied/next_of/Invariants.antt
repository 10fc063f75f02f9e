use Rattle.std.proofs.Common.{◌≡◌, drop}
use Rattle.rq_shared.specs.Entries.{entries}
use Rattle.rq_shared.specs.Tied.{own}
use Rattle.rq_shared.proofs.tied.next_of.Given as goal

-- no entry of the pass stands between
abbrev pub invariant-loop-i : goal.invariant-loop-i
invariant-loop-i l = own l.pass (entries (drop l.fn.from l.audit)) ≡ own l.pass (entries (drop l.i l.audit))
