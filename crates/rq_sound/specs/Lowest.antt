-- Free cells, and which of them may be taken while others have latched pages.
use Rattle.std.specs.Prelude.{◌≡◌, ℕ, ◌/◌, ◌<◌, true, false, List, [], ◌∷◌}
use Rattle.rq_page.specs.Sizes.{Sizes, IsCellAddress}
use Rattle.rq_page.specs.Slots.Slot.{Free}
use Rattle.rq_views.specs.Log.{Slots}
use Rattle.rq_level.specs.declared.writes.SlotWrite.{SlotWrite}
use Rattle.rq_txn.specs.Rows.{Row, latched_in}

-- each free cell below this one is on a latched page
abbrev pub AreLatchedBelow : Sizes → Slots → List Row → ℕ → Type 0
AreLatchedBelow z slots rows a = (b : ℕ) → IsCellAddress z b → b < a → slots b ≡ Free → latched_in rows (b / 16) ≡ true

-- and each free cell is
abbrev pub AreAllLatched : Sizes → Slots → List Row → Type 0
AreAllLatched z slots rows = (a : ℕ) → IsCellAddress z a → slots a ≡ Free → latched_in rows (a / 16) ≡ true

-- each free cell below the first of the writes is on a latched page, and its own page is none: of a plan that takes a cell,
-- that write is of the lowest free cell on a page that nobody has latched
abbrev pub FirstIsLowest : Sizes → Slots → List Row → List SlotWrite → Type 0
FirstIsLowest z slots rows [] = ⊥
FirstIsLowest z slots rows (w ∷ ws) = AreLatchedBelow z slots rows w.at × (latched_in rows (w.at / 16) ≡ false)
