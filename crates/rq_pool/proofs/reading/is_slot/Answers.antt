use Rattle.std.proofs.Common.{refl}
use Rattle.rq_pool.proofs.Slots.{free_is_slot}
use Rattle.rq_pool.proofs.reading.is_slot.Goals as goal

pub returns-then-are_equal : goal.returns-then-are_equal
returns-then-are_equal c =
    (λ _. free_is_slot _ _ _ _ _ c.requires.low c.requires.high c.if-has_cells.ensures (c.if-are_equal.ensures.0 refl) c.requires.free c.slots_are_spellings.ensures.tells, λ _. refl)
