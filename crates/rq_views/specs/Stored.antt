-- The slots of a store, as its pages hold them.
use Rattle.std.specs.Prelude.{ℕ, ◌/◌, ◌%◌, ◌≤◌, ◌<◌, Bool, true, false, cond, nat_lt, List, [], length, slice_index_or}
use Rattle.std.specs.List.{filter}
use Rattle.rq_model.specs.Tests.{below}
use Rattle.rq_page.specs.Pages.{slot_of}
use Rattle.rq_page.specs.Sizes.{Sizes, page_count, cell_count, cell_at}
use Rattle.rq_page.specs.Slots.{Slot, held_in, IsSlotOf}
use Rattle.rq_page.specs.Slots.Slot.{Free, Used, Sender, Client}
use Rattle.rq_views.specs.Log.{Slots}

-- the address is that of a slot of a page behind the first
pub record IsStoreSlot (z : Sizes) (a : ℕ) : Type 0 where
  pub page_low : 1 ≤ a / 16
  pub page_high : a / 16 < page_count z
  pub slot : 1 ≤ a % 16

-- the bytes of the slot at an address, in these images of pages, the first page's first
abbrev pub slot_at : List (List ℕ) → ℕ → List ℕ
slot_at images a = slot_of (a % 16) (slice_index_or images (a / 16) [])

-- what the slots hold
abbrev pub slots_in : Sizes → List (List ℕ) → Slots
slots_in z images a = cond (nat_lt 0 (a % 16)) (held_in z (a / 16) (slot_at images a)) Free

-- every slot of the pages behind the first is one of the store
abbrev pub AreSlots : Sizes → List (List ℕ) → Type 0
AreSlots z images = (a : ℕ) → IsStoreSlot z a → IsSlotOf z (a / 16) (a % 16) (slot_at images a)

abbrev pub is_used : Slot → Bool
is_used Free = false
is_used (Used c) = true
is_used (Sender s d) = false
is_used (Client k) = false

-- how many cells are used
abbrev pub count_used : Sizes → Slots → ℕ
count_used z q = length (filter (λ i. is_used (q (cell_at z i))) (below (cell_count z)))
