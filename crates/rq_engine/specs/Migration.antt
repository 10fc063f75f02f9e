-- A migration: a store without tag pages gets some. One record, a Base, stands for all, as after a checkpoint, and the first page
-- tells the new sizes last.
use Rattle.std.specs.Prelude.{◌≡◌, ◌≢◌, ◌⊎◌, ℕ, ◌+◌, ◌<◌, ◌≤◌, true, false, List, length}
use Rattle.rq_model.specs.declared.record.Record.{Record}
use Rattle.rq_model.specs.declared.refusal.Refusal.{Refusal}
use Rattle.rq_model.specs.declared.refusal.Refusal.TheVariants as why
use Rattle.rq_model.specs.Tests.{bad_tags}
use Rattle.rq_disk.specs.Device.{Images, Only}
use Rattle.rq_disk.specs.declared.device.LogDevice as log_device
use Rattle.rq_disk.specs.declared.device.PageDevice as page_device
use Rattle.rq_page.specs.Sizes.{Sizes, page_count, with_tags}
use Rattle.rq_page.specs.Formatted.{IsFormatted}
use Rattle.rq_log.specs.Spelled.{AreSpelled, spelled}
use Rattle.rq_pool.specs.Pooled.{image_at}
use Rattle.rq_store.specs.State.{State, size_of}
use Rattle.rq_sound.specs.Calls.{checkpointed, migrated}
use Rattle.rq_sound.specs.Sound.{IsSound}
use Rattle.rq_engine.specs.Checkpoint.{CountsNone, CountsOne, IsCutOrBased, MayMakeOneRecord, NotCheckpointed}
use Rattle.rq_engine.specs.Crash.{AreFit, IsCut}
use Rattle.rq_engine.specs.Devices.{KeepsPage, PagesLeave, Path}
use Rattle.rq_engine.specs.Earlier.{IsEarlier, on, over}
use Rattle.rq_engine.specs.Opened.{AreHonest, OpenStore}

-- these are the pages and the log of a store that was left so, with so many tag pages
abbrev pub IsCutGrown : ℕ → State → Images → List ℕ → Type 0
IsCutGrown n s images bytes = IsCut (record s { sizes = with_tags n s.sizes }) images bytes

-- what a crash leaves is a cut of the store as it was; or of one record for all, without the tag pages or with them
abbrev pub IsCutOrGrown : ℕ → State → Images → List ℕ → Type 0
IsCutOrGrown n s images bytes = IsCutOrBased s images bytes ⊎ IsCutGrown n (checkpointed s) images bytes

-- The store can get so many tag pages: they are 1 to 1,024, and it has none.
abbrev pub MayGetTags : ℕ → State → Type 0
MayGetTags n s = bad_tags (size_of s.sizes) n ≡ false

-- At most the first page was handed to the device, as that of these sizes.
pub record TellsSizes {P : Type 0} (p : page_device.Ghosts P) (z : Sizes) (old new : P) : Type 0 where
  pub first : (c : List ℕ) → p.may_be new 0 c → p.may_be old 0 c ⊎ IsFormatted z 0 c
  pub others : (page : ℕ) (c : List ℕ) → page ≢ 0 → p.may_be new page c → p.may_be old page c
  pub each : PagesLeave p old new (λ images. ((page : ℕ) → page ≢ 0 → p.may_be old page (images page))
      × (p.may_be old 0 (images 0) ⊎ IsFormatted z 0 (images 0)))

-- Behind the store's pages stand the tag pages as they are formatted, and the first page tells them. So it is whatever a crash leaves.
pub record HasTags {P : Type 0} (p : page_device.Ghosts P) (n : ℕ) (z : Sizes) (pages : P) : Type 0 where
  pub superblock : (c : List ℕ) → p.may_be pages 0 c → IsFormatted (with_tags n z) 0 c
  pub added : (page : ℕ) (c : List ℕ) → page_count z ≤ page → page < page_count (with_tags n z)
      → p.may_be pages page c → IsFormatted (with_tags n z) page c

-- Each tag page reads as it is formatted.
abbrev pub AreTagPages : {P : Type 0} → page_device.Ghosts P → ℕ → Sizes → P → Type 0
AreTagPages p n z pages = (page : ℕ) → page_count z ≤ page → page < page_count (with_tags n z)
    → IsFormatted (with_tags n z) page (p.seen pages page)

-- Pages behind them are kept.
abbrev pub KeepsBeyond : {P : Type 0} → page_device.Ghosts P → ℕ → Sizes → P → P → Type 0
KeepsBeyond p n z old new = (page : ℕ) → page_count (with_tags n z) ≤ page → KeepsPage p old new page

module _ {P L : Type 0} (p : page_device.Ghosts P) (l : log_device.Ghosts L) (n : ℕ) where
  -- Of a sound store over honest devices whose pages fit, and whose log no failed call may have replaced. A crash at any moment of the
  -- call leaves a cut of the store as it was, or of what it was to be.
  abbrev pub KeepsOrGrows : OpenStore P L → OpenStore P L → Type 0
  KeepsOrGrows old new = old.replacing ≡ false → AreHonest p l new → (e : List Record) → IsEarlier e old.state
      → IsSound (on e old.state) → AreFit p (over e old)
      → Path p l (IsCutOrGrown n (on e old.state)) old.pages old.log new.pages new.log

  -- The store got its tag pages. One record, with this LSN, was put in the place of all. Whatever a crash leaves, the log is that
  -- record alone, and each page is its image. The new pages are there, and those behind them are as they read before. The store has
  -- stopped.
  pub record HasMigrated (old new : OpenStore P L) (lsn : ℕ) : Type 0 where
    pub could : MayMakeOneRecord old
    pub lsn_is : lsn ≡ length old.state.records + 1
    pub state : new.state ≡ migrated old.state
    pub told : AreSpelled new.state.records
    pub reads : l.honest new.log → l.seen new.log ≡ spelled new.state.records
    pub durable : l.honest new.log → Only (spelled new.state.records) (l.may_leave new.log)
    pub pages : p.honest new.pages → (page : ℕ) → 1 ≤ page → page < page_count old.state.sizes
        → Only (image_at old.state.images page) (p.may_be new.pages page)
    pub tags : HasTags p n old.state.sizes new.pages
    pub beyond : (page : ℕ) → page_count (with_tags n old.state.sizes) ≤ page → Only (p.seen old.pages page) (p.may_be new.pages page)
    pub replacing : new.replacing ≡ old.replacing
    pub counts : CountsNone p l old new

  -- A device failed in it, which stops the store. The log was left alone, or in the end each tag page reads as formatted. Pages behind
  -- them are kept.
  pub record HasStoppedGrowing (old new : OpenStore P L) : Type 0 where
    pub could : MayMakeOneRecord old
    pub state : new.state ≡ record old.state { failed = true }
    pub counts : CountsOne p l old new
    pub first : (new.log ≡ old.log) ⊎ AreTagPages p n old.state.sizes new.pages
    pub beyond : KeepsBeyond p n old.state.sizes old.pages new.pages

  -- Why it did not, and what that leaves: for the tag pages, for what refuses a checkpoint, or for a device, which stops the store.
  abbrev pub NotMigrated : OpenStore P L → OpenStore P L → Refusal → Type 0
  NotMigrated old new why.Failed = (old.state.failed ≡ true) × (new ≡ old)
  NotMigrated old new why.BadTags = (old.state.failed ≡ false) × (bad_tags (size_of old.state.sizes) n ≡ true) × (new ≡ old)
  NotMigrated old new why.DiskWrite = MayGetTags n old.state × HasStoppedGrowing old new
  NotMigrated old new r = MayGetTags n old.state × NotCheckpointed p l old new r
