-- Pages that fit a log: each is as some of its first records leave it.
use Rattle.std.specs.Prelude.{◌≡◌, ℕ, ◌-◌, ◌<◌, ◌≤◌, List, [], ◌∷◌, length, drop, slice_index_or, Option, Some, None}
use Rattle.rq_model.specs.declared.record.Record.{Record}
use Rattle.rq_model.specs.declared.record.Record.TheVariants.{PageOp, PageUndo}
use Rattle.rq_model.specs.Bases.{base_lsn}
use Rattle.rq_page.specs.Sizes.{Sizes, page_count, address}
use Rattle.rq_page.specs.Pages.{lsn_of, slot_of}
use Rattle.rq_page.specs.Slots.{held_in, IsSlotOf}
use Rattle.rq_page.specs.Formatted.{IsFormatted, IsHeaderOf}
use Rattle.rq_views.specs.Log.{LogState as Slots_state, state_of}
use Rattle.rq_views.specs.Items.{items, layout_of}

-- the slots that a log leaves
abbrev pub left_by : Sizes → List Record → Slots_state
left_by z log = state_of (layout_of z) (items z log)

abbrev pub image_in : List (List ℕ) → ℕ → List ℕ
image_in images page = slice_index_or images page []

-- the first n records of a log
abbrev pub oldest : ℕ → List Record → List Record
oldest n log = drop (length log - n) log

-- a slot write that a record tells: its page and slot, and what it leaves there
pub record ToldWrite : Type 0 where
  pub page : ℕ
  pub slot : ℕ
  pub after : List ℕ

abbrev pub told_by : Record → Option ToldWrite
told_by (PageOp t n page slot before after) = Some (record { page = page; slot = slot; after = after })
told_by (PageUndo t n undone page slot after) = Some (record { page = page; slot = slot; after = after })
told_by _ = None

-- the write is of this page
abbrev pub IsOfPage : ℕ → Option ToldWrite → Type 0
IsOfPage p None = ⊥
IsOfPage p (Some w) = w.page ≡ p

-- the newest of these records, where there is one, writes the page
abbrev pub IsStamp : ℕ → List Record → Type 0
IsStamp p [] = Unit {0}
IsStamp p (r ∷ log) = IsOfPage p (told_by r)

-- each slot of the page holds what the log leaves there
abbrev pub HoldsPage : Sizes → ℕ → List ℕ → List Record → Type 0
HoldsPage z p image log = (n : ℕ) → 1 ≤ n → n ≤ 15 → held_in z p (slot_of n image) ≡ (left_by z log).slots (address p n)

-- A page that is as old as the newest Base, or older, holds what the records up to that left.
abbrev pub HoldsBase : Sizes → List Record → ℕ → List ℕ → Type 0
HoldsBase z log p image = lsn_of image ≤ base_lsn log → HoldsPage z p image (oldest (base_lsn log) log)

abbrev pub AllHoldBase : Sizes → (ℕ → List ℕ) → List Record → Type 0
AllHoldBase z image log = (p : ℕ) → 1 ≤ p → p < page_count z → HoldsBase z log p (image p)

-- A page of the store, as the first records of the log leave it. They are as many as its LSN says, and the last of them wrote
-- it.
pub record FitsPage (z : Sizes) (log : List Record) (p : ℕ) (image : List ℕ) : Type 0 where
  pub slots : (n : ℕ) → 1 ≤ n → n ≤ 15 → IsSlotOf z p n (slot_of n image)
  pub within : lsn_of image ≤ length log
  pub stamped : IsStamp p (oldest (lsn_of image) log)
  pub held : HoldsPage z p image (oldest (lsn_of image) log)

-- the first page tells the sizes, and the pages behind it fit the log
pub record FitsLog (z : Sizes) (image : ℕ → List ℕ) (log : List Record) : Type 0 where
  pub superblock : IsFormatted z 0 (image 0)
  pub headers : (p : ℕ) → 1 ≤ p → p < page_count z → IsHeaderOf z p (image p)
  pub pages : (p : ℕ) → 1 ≤ p → p < page_count z → FitsPage z log p (image p)

-- whichever image each page has of those that it may have
pub record AllFit (may_be : ℕ → List ℕ → Type 0) (z : Sizes) (log : List Record) : Type 0 where
  pub superblock : (c : List ℕ) → may_be 0 c → IsFormatted z 0 c
  pub headers : (p : ℕ) (c : List ℕ) → 1 ≤ p → p < page_count z → may_be p c → IsHeaderOf z p c
  pub pages : (p : ℕ) (c : List ℕ) → 1 ≤ p → p < page_count z → may_be p c → FitsPage z log p c
  pub based : (p : ℕ) (c : List ℕ) → 1 ≤ p → p < page_count z → may_be p c → HoldsBase z log p c
