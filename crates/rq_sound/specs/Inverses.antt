-- When the inverse of a deed needs a page that is latched, when there is one, and which cell it takes.
use Rattle.std.specs.Prelude.{◌≡◌, ◌⊎◌, ℕ, ◌/◌, ◌<◌, true, List, [], ◌∷◌, length}
use Rattle.rq_model.specs.declared.record.Deed.{Deed}
use Rattle.rq_model.specs.declared.record.Deed.TheVariants.{Append, UnlinkHead, Close, Mark}
use Rattle.rq_model.specs.Vocabulary.{client_group}
use Rattle.rq_page.specs.Sizes.{Sizes, cell_count, client_slot_at, directory_at}
use Rattle.rq_views.specs.Items.{items}
use Rattle.rq_views.specs.Legal.{view}
use Rattle.rq_views.specs.Log.{Slots}
use Rattle.rq_views.specs.Stored.{count_used}
use Rattle.rq_level.specs.declared.writes.SlotWrite.{SlotWrite}
use Rattle.rq_txn.specs.Rows.{Row, latched_in}
use Rattle.rq_store.specs.State.{State}
use Rattle.rq_sound.specs.Groups.{slots_now}
use Rattle.rq_sound.specs.Latching.{any_latched, at_head, before_tail}
use Rattle.rq_sound.specs.Lowest.{AreAllLatched, FirstIsLowest}

-- ---- stores

-- a store with these pages, in which the pages are latched that these rows have latched
pub record StandsOn (s : State) (z : Sizes) (pages : List (List ℕ)) (rows : List Row) : Type 0 where
  pub sizes : s.sizes ≡ z
  pub images : s.images ≡ pages
  pub latches : (p : ℕ) → latched_in s.rows p ≡ latched_in rows p

-- some cell is free
abbrev pub HasFree : State → Type 0
HasFree s = count_used s.sizes (slots_now s) < cell_count s.sizes

-- What a deed needs to be undone, whatever others do: its message still stands at the end of its chain; the message was
-- taken, and there is a cell for it.
abbrev pub MayBeUndone : State → Deed → Type 0
MayBeUndone s (Append g n tag previous body) = 0 < length (view (items s.sizes s.records) g).messages
MayBeUndone s (UnlinkHead g n tag body) = (0 < (view (items s.sizes s.records) g).received) × HasFree s
MayBeUndone s (Close g) = Unit {0}
MayBeUndone s (Mark c tag previous) = 0 < length (view (items s.sizes s.records) (client_group c)).messages

-- ---- latches

-- a put-back for the group needs a latched page, or a cell of which none is free on another
abbrev pub PutBackIsLatched : Sizes → Slots → List Row → ℕ → Type 0
PutBackIsLatched z q rows g = (any_latched rows (at_head q g) ≡ true) ⊎ AreAllLatched z q rows

-- the inverse of the deed needs a latched page
abbrev pub InverseIsLatched : Sizes → Slots → List Row → Deed → Type 0
InverseIsLatched z q rows (Append g n tag previous body) = any_latched rows (before_tail q g) ≡ true
InverseIsLatched z q rows (UnlinkHead g n tag body) = PutBackIsLatched z q rows g
InverseIsLatched z q rows (Close g) = latched_in rows (directory_at g / 16) ≡ true
InverseIsLatched z q rows (Mark c tag previous) = any_latched rows (client_slot_at z c ∷ []) ≡ true

-- a message is put back into the lowest free cell on a page that nobody has latched
abbrev pub InverseTakesLowest : Sizes → Slots → List Row → Deed → List SlotWrite → Type 0
InverseTakesLowest z q rows (Append g n tag previous body) ws = Unit {0}
InverseTakesLowest z q rows (UnlinkHead g n tag body) ws = FirstIsLowest z q rows ws
InverseTakesLowest z q rows (Close g) ws = Unit {0}
InverseTakesLowest z q rows (Mark c tag previous) ws = Unit {0}
