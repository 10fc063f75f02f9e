-- What is written back to a device of pages.
use Rattle.std.specs.Prelude.{◌≡◌, ◌≢◌, ℕ, ◌+◌, ◌/◌, ◌%◌, ◌^◌, ◌<◌, ◌≤◌, true, false, Bool, List, Option, None, Some, Result, Ok, Err, slice_set}
use Rattle.rq_model.specs.declared.refusal.Refusal.{Refusal}
use Rattle.rq_model.specs.declared.refusal.Refusal.TheVariants as why
use Rattle.rq_disk.specs.Device.{Leaves, Holds, NoMore, Written as OrWritten, Elapses}
use Rattle.rq_disk.specs.declared.device.PageDevice.{Ghosts}
use Rattle.rq_page.specs.Sizes.{Sizes, page_count}
use Rattle.rq_page.specs.Slots.{IsSlotOf}
use Rattle.rq_level.specs.Meaning.{Redo}
use Rattle.rq_page.specs.Pages.{lsn_of}
use Rattle.rq_page.specs.Formatted.{IsFormatted}
use Rattle.rq_pool.specs.declared.Written.{Written}
use Rattle.rq_pool.specs.declared.Written.TheVariants.{Done, Nothing}
use Rattle.rq_pool.specs.Pooled.{Pooled, image_at, is_changed}

-- the page has a change that was not written
pub record IsUnwritten {P : Type 0} (pages : Pooled P) (page : ℕ) : Type 0 where
  pub of_store : page < page_count pages.sizes
  pub changed : is_changed pages.changed page ≡ true

-- some page behind the superblock has a change that was not written, by a record behind this LSN
abbrev pub HasChangeBeyond : {P : Type 0} → Pooled P → ℕ → Type 0
HasChangeBeyond pages lsn = (page : ℕ) × (1 ≤ page) × IsUnwritten pages page × (lsn < lsn_of (image_at pages.images page))

-- none has
abbrev pub NoChangeBeyond : {P : Type 0} → Pooled P → ℕ → Type 0
NoChangeBeyond pages lsn = (page : ℕ) → 1 ≤ page → is_changed pages.changed page ≡ true
    → lsn_of (image_at pages.images page) ≤ lsn

-- when each answer comes, where the log is forced up to this LSN
abbrev pub AnswersWhen : {P : Type 0} → Pooled P → ℕ → ℕ → Result Written Refusal → Type 0
AnswersWhen pages page forced (Ok Done) = IsUnwritten pages page × (lsn_of (image_at pages.images page) ≤ forced)
AnswersWhen pages page forced (Ok Nothing) = is_changed pages.changed page ≡ false
AnswersWhen pages page forced (Err why.NotForced) = IsUnwritten pages page
    × (forced < lsn_of (image_at pages.images page))
AnswersWhen pages page forced (Err why.DiskWrite) = IsUnwritten pages page
    × (lsn_of (image_at pages.images page) ≤ forced)
AnswersWhen pages page forced (Err _) = ⊥

-- which pages count as changed then
abbrev pub changed_after : List Bool → ℕ → Result Written Refusal → List Bool
changed_after changed page (Ok Done) = slice_set changed page false
changed_after changed page (Ok Nothing) = changed
changed_after changed page (Err _) = changed

-- A page was handed to the device, which may have failed. Others read as before, a crash may leave that image of it too, and time
-- goes on.
pub record MayHaveWritten {P : Type 0} (g : Ghosts P) (page : ℕ) (image : List ℕ) (old new : P) : Type 0 where
  pub honest : g.honest new → g.honest old
  pub others : (p : ℕ) → p ≢ page → g.seen new p ≡ g.seen old p
  pub crash : OrWritten page image (g.may_be old) (g.may_be new)
  pub time : Elapses (g.moment old) (g.moment new) (g.left_since old) (g.left_since new) (Leaves (g.may_be new))

-- what each answer says of the device: that it reads the new image, that it failed once more, or that it was left alone
abbrev pub DeviceAfter : {P : Type 0} → Ghosts P → ℕ → List ℕ → P → P → Result Written Refusal → Type 0
DeviceAfter g page image old new (Ok Done) =
    Holds (g.seen old) page image (g.seen new) × MayHaveWritten g page image old new × (g.faults new ≡ g.faults old)
DeviceAfter g page image old new (Ok Nothing) = new ≡ old
DeviceAfter g page image old new (Err why.DiskWrite) =
    MayHaveWritten g page image old new × (g.faults new ≡ (g.faults old + 1) % 2 ^ 64)
DeviceAfter g page image old new (Err _) = new ≡ old

-- a formatted page was handed to the device: it reads that image, or has failed once more
abbrev pub IsFormattedAfter : {P : Type 0} → Ghosts P → Sizes → ℕ → P → P → Result Unit Refusal → Type 0
IsFormattedAfter g z page old new (Ok _) = (image : List ℕ) × IsFormatted z page image
    × Holds (g.seen old) page image (g.seen new) × MayHaveWritten g page image old new × (g.faults new ≡ g.faults old)
IsFormattedAfter g z page old new (Err why.DiskWrite) = (image : List ℕ) × IsFormatted z page image
    × MayHaveWritten g page image old new × (g.faults new ≡ (g.faults old + 1) % 2 ^ 64)
IsFormattedAfter g z page old new (Err _) = ⊥

-- the device has not stopped before, where it is honest
abbrev pub HasRun : {P : Type 0} → Ghosts P → P → P → Type 0
HasRun g old new = g.honest new → g.stopped old → ⊥

-- The device was synced, or has failed in it. It reads as before, and a crash leaves no image that it did not leave before.
-- Time goes on.
pub record MayHaveSynced {P : Type 0} (g : Ghosts P) (old new : P) : Type 0 where
  pub honest : g.honest new → g.honest old
  pub same : g.seen new ≡ g.seen old
  pub crash : NoMore (g.may_be old) (g.may_be new)
  pub time : Elapses (g.moment old) (g.moment new) (g.left_since old) (g.left_since new) (Leaves (g.may_be new))

-- what a record writes may stand at an address
abbrev pub IsRedoAt : Sizes → ℕ → Option Redo → Type 0
IsRedoAt z at None = ⊥
IsRedoAt z at (Some w) = (w.slot ≡ at % 16) × IsSlotOf z (at / 16) (at % 16) w.after
