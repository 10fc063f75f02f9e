use Rattle.std.proofs.Common.{◌≡◌, ◌*◌, ◌-◌, ◌/◌, ◌<◌, ◌≤◌, ℕ, false}
use Rattle.rq_chain.specs.Cells.{is_open}
use Rattle.rq_chain.proofs.cells.FreeCells.lowest_of_page.Given as goal

abbrev pub invariant-loop-place : goal.invariant-loop-place
invariant-loop-place l = (l.page * 15 ≤ l.from) × ((i : ℕ) → i / 15 ≡ l.page → i < l.from → is_open l.self i ≡ false)

abbrev pub decreases-loop-place : goal.decreases-loop-place
decreases-loop-place l = 983040 - l.from
