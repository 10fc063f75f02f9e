use Rattle.std.proofs.Common.{ℕ, ◌<◌, ◌≤◌}
use Rattle.rq_page.specs.Pages.{slot_of}
use Rattle.rq_page.specs.Slots.{IsSlotOf}
use Rattle.rq_pool.proofs.reading.is_sound.Given as goal

abbrev pub invariant-loop-slot : goal.invariant-loop-slot
invariant-loop-slot l = (n : ℕ) → 1 ≤ n → n < l.slot → IsSlotOf l.layout l.number n (slot_of n l.page)
