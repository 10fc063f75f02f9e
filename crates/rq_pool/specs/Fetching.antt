-- What reading a page of a store again may do.
use Rattle.std.specs.Prelude.{◌≡◌, ◌≢◌, ◌⊎◌, ℕ, ◌+◌, ◌%◌, ◌^◌, ◌<◌, ◌≤◌, List, Some, Result, Err, IsOk, IfErr, OnOk}
use Rattle.rq_model.specs.declared.refusal.Refusal.{Refusal}
use Rattle.rq_model.specs.declared.refusal.Refusal.TheVariants as why
use Rattle.rq_model.specs.declared.refusal.Damage.TheVariants as damage
use Rattle.rq_disk.specs.Device.{PageAsk}
use Rattle.rq_disk.specs.Device.PageAsk.{Reads}
use Rattle.rq_disk.specs.declared.device.PageDevice.{Ghosts}
use Rattle.rq_page.specs.Pages.{lsn_of}
use Rattle.rq_page.specs.Sizes.{Sizes, page_count}
use Rattle.rq_pool.specs.Pooled.{Pooled, image_at}
use Rattle.rq_pool.specs.Held.{IsFramed}
use Rattle.rq_pool.specs.Indexed.{AreNotedOn, closed_groups, free_cells}
use Rattle.rq_pool.specs.Reading.{IsSoundPage, OnlyRead}
use Rattle.rq_pool.specs.KeptUp.{IsKeptUp}

-- the page stands in a frame, or apart
abbrev pub IsAtHand : {P : Type 0} → Pooled P → ℕ → Type 0
IsAtHand pages page = IsFramed pages.frames page ⊎ (pages.apart ≡ Some page)

-- each page behind the superblock stands in a frame
abbrev pub AreAllFramed : {P : Type 0} → Pooled P → Type 0
AreAllFramed pages = (p : ℕ) → 1 ≤ p → p < page_count pages.sizes → IsFramed pages.frames p

-- a page behind the superblock stands in no frame
pub record HasOutside {P : Type 0} (pages : Pooled P) : Type 0 where
  pub page : ℕ
  pub behind : 1 ≤ page
  pub within : page < page_count pages.sizes
  pub outside : IsFramed pages.frames page → ⊥

-- What was done to pages of which some were read again, whatever the device is.
pub record MayHaveRead {P : Type 0} (g : Ghosts P) (old new : Pooled P) : Type 0 where
  -- they are kept up, and none is written out
  pub kept : (forced : ℕ) → IsKeptUp g forced old new
  -- the same pages stand in the same frames
  pub frames : new.frames ≡ old.frames
  -- the same ones count as changed
  pub changed : new.changed ≡ old.changed
  -- the device was only read
  pub device : OnlyRead g old.device new.device
  -- nothing happened where each page stands in a frame
  pub stood : AreAllFramed old → new ≡ old
  -- whatever the device is, a page in a frame has its image
  pub held : (p : ℕ) → IsFramed old.frames p → image_at new.images p ≡ image_at old.images p

-- The device failed once: in a call that was asked this.
pub record HasFailed {P : Type 0} (g : Ghosts P) (ask : PageAsk) (old new : P) : Type 0 where
  pub once : g.faults new ≡ (g.faults old + 1) % 2 ^ 64
  -- the device as that call found it
  pub before : P
  pub none : g.faults before ≡ g.faults old
  pub excused : g.excuse ask before new

-- Why a page was not read once more, which had this LSN: its device failed in that. Or, if it is honest, it gave a page with another
-- LSN, or no page of the store, or another than the indexes tell of.
abbrev pub NotReadAgain : {P : Type 0} → Ghosts P → Sizes → (free closed : List ℕ) → (page lsn : ℕ) → Refusal → P → P → Type 0
NotReadAgain g z free closed page lsn why.DiskRead old new = HasFailed g (Reads page) old new
NotReadAgain g z free closed page lsn (why.Damaged (damage.Page n)) old new = (n ≡ page)
    × (g.honest new → lsn_of (g.seen old page) ≡ lsn
    → IsSoundPage z page (g.seen old page) → AreNotedOn (free_cells z) z page (g.seen old page) free
    → AreNotedOn (closed_groups z) z page (g.seen old page) closed → ⊥)
    × (g.faults new ≡ g.faults old)
NotReadAgain g z free closed page lsn _ old new = ⊥

-- why a page was not read: its device failed in that, or is not honest
abbrev pub NotFetched : {P : Type 0} → Ghosts P → ℕ → Refusal → P → P → Type 0
NotFetched g page why.DiskRead old new = HasFailed g (Reads page) old new
NotFetched g page (why.Damaged (damage.Page n)) old new = (n ≡ page) × (g.honest new → ⊥) × (g.faults new ≡ g.faults old)
NotFetched g page _ old new = ⊥

-- What a call answers that has a page be at hand, and leaves.
pub record Fetches {P X : Type 0} (g : Ghosts P) (page : ℕ) (old : Pooled P) (result : Result X Refusal) (new : Pooled P)
    : Type 0 where
  -- nothing happens where it is at hand already
  pub stood : IsAtHand old page → IsOk result × (new ≡ old)
  pub hand : OnOk result (IsAtHand new page)
  pub refused : IfErr result (λ e. NotFetched g page e old.device new.device)
  pub counted : OnOk result (g.faults new.device ≡ g.faults old.device)
  pub read : MayHaveRead g old new
  -- whatever the device is, each other page has its image
  pub others : (p : ℕ) → p ≢ page → image_at new.images p ≡ image_at old.images p

-- How often the device has failed where a call was refused that reads pages on its way: once more, in a read of a page that stood
-- in no frame, where it is told that a page was not read; else as often as before.
abbrev pub ReadFails : {P : Type 0} → Ghosts P → Refusal → Pooled P → Pooled P → Type 0
ReadFails g why.DiskRead old new = (out : HasOutside old) × HasFailed g (Reads out.page) old.device new.device
ReadFails g _ old new = g.faults new.device ≡ g.faults old.device

-- what such a call answers, and leaves
pub record HasReadFor {P X : Type 0} (g : Ghosts P) (old : Pooled P) (result : Result X Refusal) (new : Pooled P) : Type 0 where
  pub read : MayHaveRead g old new
  pub counted : OnOk result (g.faults new.device ≡ g.faults old.device)
  pub refused : IfErr result (λ e. ReadFails g e old new)

-- each page that was read is the store's: the device is honest, or none had to be read
abbrev pub IsReadAsStored : {P : Type 0} → Ghosts P → Pooled P → Pooled P → Type 0
IsReadAsStored g old new = AreAllFramed old ⊎ g.honest new.device

-- And each that had to be read was.
abbrev pub ReadsTruly : {P X : Type 0} → Ghosts P → Pooled P → Result X Refusal → Pooled P → Type 0
ReadsTruly g old result new = IsReadAsStored g old new × (result ≡ Err why.DiskRead → ⊥)

-- Why a page was not read on the way of a call: its device failed, or has lied, as some page stood in no frame. The page that is named
-- then is one of the store.
abbrev pub IsUnread : {P : Type 0} → Ghosts P → Pooled P → Refusal → Pooled P → Type 0
IsUnread g old why.DiskRead new = Unit {0}
IsUnread g old (why.Damaged (damage.Page n)) new = (n < page_count old.sizes) × (IsReadAsStored g old new → ⊥)
IsUnread g old r new = ⊥
