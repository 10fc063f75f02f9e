use Rattle.std.proofs.Common.{◌≡◌, drop}
use Rattle.rq_level.specs.Given.{has_page}
use Rattle.rq_level.proofs.slots.PageSet.contains.Given as goal

abbrev pub invariant-loop-one : goal.invariant-loop-one
invariant-loop-one l = has_page l.page (drop l.one-index l.one-items) ≡ has_page l.page l.one-items
