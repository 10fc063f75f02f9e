use Rattle.std.proofs.Common.{◌≡◌, ◌/◌, ◌<◌, ◌-◌, ℕ, false}
use Rattle.rq_chain.specs.Cells.{takes}
use Rattle.rq_chain.proofs.cells.FreeCells.lowest.Given as goal

abbrev pub invariant-loop-page : goal.invariant-loop-page
invariant-loop-page l = (l.self ≡ l.initial.self) × ((i : ℕ) → i / 15 < l.from → takes l.layout l.initial.self l.latched.pages i ≡ false)

abbrev pub decreases-loop-page : goal.decreases-loop-page
decreases-loop-page l = 65536 - l.from
