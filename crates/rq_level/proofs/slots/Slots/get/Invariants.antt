use Rattle.std.proofs.Common.{◌≡◌, drop}
use Rattle.rq_level.specs.Given.{given_at}
use Rattle.rq_level.proofs.slots.Slots.get.Given as goal

abbrev pub invariant-loop-one : goal.invariant-loop-one
invariant-loop-one l = given_at l.at (drop l.one-index l.one-items) ≡ given_at l.at l.one-items
