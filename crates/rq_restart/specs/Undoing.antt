-- Undoing operations that have no end, and where that stops.
use Rattle.std.specs.Prelude.{◌≡◌, ◌≢◌, ◌⊎◌, ℕ, ◌+◌, ◌-◌, ◌%◌, ◌^◌, ◌<◌, ◌≤◌, ◌++◌, false, List, length, Result, IfErr, OnErr, OnOk}
use Rattle.rq_disk.specs.Device.{Images, Only}
use Rattle.rq_disk.specs.Device.PageAsk.{Reads, Writes}
use Rattle.rq_model.specs.declared.record.Record.{Record}
use Rattle.rq_model.specs.declared.refusal.Refusal.{Refusal}
use Rattle.rq_model.specs.declared.refusal.Refusal.TheVariants as why
use Rattle.rq_model.specs.declared.refusal.Damage.TheVariants as damage
use Rattle.rq_page.specs.Pages.{lsn_of}
use Rattle.rq_page.specs.Sizes.{Sizes, page_count}
use Rattle.rq_pool.specs.Pooled.{IsPool, Pooled, image_at}
use Rattle.rq_pool.specs.Fetching.{AreAllFramed, HasFailed, IsReadAsStored}
use Rattle.rq_pool.specs.Fixing.{NotBroughtIn}
use Rattle.rq_pool.specs.Held.{IsFramed}
use Rattle.rq_pool.specs.KeptUp.{IsKeptUp}
use Rattle.rq_disk.specs.declared.device.LogDevice.{Ghosts}
use Rattle.rq_disk.specs.declared.device.PageDevice as page_device
use Rattle.rq_log.specs.Logged.{Logged}
use Rattle.rq_log.specs.Reading.{IsRead}
use Rattle.rq_analysis.specs.OpenWorkView.{open_work_of}
use Rattle.rq_analysis.specs.Pages.{IsNextUndo, IsUndoing}
use Rattle.rq_store.specs.Fitting.{IsOfPage, told_by}
use Rattle.rq_analysis.specs.Recovered.{IsRecovering}
use Rattle.rq_engine.specs.Earlier.{rebased}
use Rattle.rq_restart.specs.Repeating.{AreMarked, ArePagesCounted, Belongs, Repeats, paged}
use Rattle.rq_restart.specs.Leaving.{LeavesRepeated, LeavesSound}
use Rattle.rq_restart.specs.Standing.{Found, KeepsStore, NoneHeld, Stands, before}
use Rattle.rq_restart.specs.Telling.{GoesOnTelling}

-- how often a device had failed, and has
pub record Failures : Type 0 where
  pub before : ℕ
  pub now : ℕ

abbrev pub failures : {D : Type 0} → (D → ℕ) → D → D → Failures
failures faults old new = record { before = faults old; now = faults new }

-- it failed no more
abbrev pub SameFailures : Failures → Type 0
SameFailures f = f.now ≡ f.before

-- it failed once more
abbrev pub OneFailure : Failures → Type 0
OneFailure f = f.now ≡ (f.before + 1) % 2 ^ 64

-- A refusal that names a device tells that one of both failed once more. That of the pages did so in a read of a page, or a write of
-- one. The others, which tell that neither did, are these.
abbrev pub FailsWith : {P : Type 0} → page_device.Ghosts P → (old new : P) → Refusal → (log : Failures) → Type 0
FailsWith p old new why.DiskRead log = ((page : ℕ) × HasFailed p (Reads page) old new × SameFailures log)
    ⊎ (SameFailures (failures p.faults old new) × OneFailure log)
FailsWith p old new why.DiskWrite log = ((page : ℕ) × (image : List ℕ) × HasFailed p (Writes page image) old new × SameFailures log)
    ⊎ (SameFailures (failures p.faults old new) × OneFailure log)
FailsWith p old new why.NoMemory log = SameFailures (failures p.faults old new) × SameFailures log
FailsWith p old new why.LogFull log = SameFailures (failures p.faults old new) × SameFailures log
FailsWith p old new (why.Damaged d) log = SameFailures (failures p.faults old new) × SameFailures log
FailsWith p old new _ log = ⊥

-- neither device failed
abbrev pub NoneFailed : {P L : Type 0} → page_device.Ghosts P → Ghosts L → P → L → P → L → Type 0
NoneFailed p l pages log new_pages new_log = SameFailures (failures p.faults pages new_pages) × SameFailures (failures l.faults log new_log)

-- both devices have been honest
abbrev pub HaveBeenHonest : {P L : Type 0} → page_device.Ghosts P → Ghosts L → P → L → Type 0
HaveBeenHonest p l pages log = p.honest pages × l.honest log

-- What was read is the store's. The log's device has been honest; so has that of the pages, or none of them had to be read again.
abbrev pub HaveToldTruly : {P L : Type 0} → page_device.Ghosts P → Ghosts L → Pooled P → Pooled P → L → Type 0
HaveToldTruly p l old new log = IsReadAsStored p old new × l.honest log

-- with each page in a frame, the device of the pages was left alone, and that of the log was only read
pub record StaysInFrames {P L : Type 0} (l : Ghosts L) (old : Pooled P) (log : L) (new : Pooled P) (now : L) : Type 0 where
  pub device : new.device ≡ old.device
  pub framed : AreAllFramed new
  pub read : IsRead l log now

-- Records were read, or made behind a log, and repeated on the pages. For that pages were read, and some gave way to others in frames;
-- where no page was fixed, none is. A refusal tells which device failed, if one did. What the log's device told it tells, with records behind.
pub record GoesOn {P L X : Type 0} (p : page_device.Ghosts P) (l : Ghosts L) (old : Pooled P) (log : L) (records : List Record)
    (result : Result X Refusal) (new : Pooled P) (now : L) (now_records : List Record) : Type 0 where
  pub sizes : new.sizes ≡ old.sizes
  pub count : length new.frames ≡ length old.frames
  pub held : NoneHeld old.frames → NoneHeld new.frames
  pub marked : AreMarked (length now_records) old new
  pub pages_honest : p.honest new.device → p.honest old.device
  pub log_honest : l.honest now → l.honest log
  pub counted : OnOk result (NoneFailed p l old.device log new.device now)
  pub fails : IfErr result (λ e. FailsWith p old.device new.device e (failures l.faults log now))
  pub stood : AreAllFramed old → StaysInFrames l old log new now
  pub telling : GoesOnTelling l log now (IfErr result (λ e. e ≢ why.DiskWrite))
  pub behind : (made : List Record) × (now_records ≡ made ++ records)
  pub written : LeavesSound p old.sizes old.device new.device
  pub leaves : HaveBeenHonest p l new.device now → (first : Images) → Repeats old.sizes records first (paged old)
      → LeavesRepeated p old.sizes first now_records old.device new.device

-- the log was repeated on the pages before, and is on those now, and what is told there was and is within it
pub record IsRepeatedOn (z : Sizes) (log : List Record) (old : Images) (now : List Record) (new : Images) : Type 0 where
  pub repeated : (first : Images) → Repeats z log first old → Repeats z now first new
  pub counted : ArePagesCounted z (length log) old → ArePagesCounted z (length now) new

-- these are the records of the store that was found, as they were read
abbrev pub AreAsFound : {P L : Type 0} → page_device.Ghosts P → Ghosts L → Found P L → List Record → Type 0
AreAsFound p l f log = rebased (before p l f) log ≡ f.read

-- the record writes this page of the store
pub record IsToBeWritten (z : Sizes) (r : Record) (page : ℕ) : Type 0 where
  pub low : 1 ≤ page
  pub high : page < page_count z
  pub is : IsOfPage page (told_by r)

-- it writes none
abbrev pub NoPageFor : Sizes → Record → Type 0
NoPageFor z r = (page : ℕ) → IsToBeWritten z r page → ⊥

-- what a record writes can be written: its page stands in a frame
abbrev pub StandsToWrite : {P : Type 0} → Pooled P → Record → Type 0
StandsToWrite pages r = (page : ℕ) → IsToBeWritten pages.sizes r page → IsFramed pages.frames page

-- that, or nothing is to be written: its page is as new as the record, which has this LSN
abbrev pub StandsOrIsNewer : {P : Type 0} → Pooled P → ℕ → Record → Type 0
StandsOrIsNewer pages lsn r = (page : ℕ) → IsToBeWritten pages.sizes r page
    → IsFramed pages.frames page ⊎ (lsn ≤ lsn_of (image_at pages.images page))

-- it names a device
abbrev pub NamesDevice : Refusal → Type 0
NamesDevice why.DiskRead = Unit {0}
NamesDevice why.DiskWrite = Unit {0}
NamesDevice _ = ⊥

-- What a call leaves of pages and log that has a page stand in a frame. Nothing happens where each page stands in one. Pages are kept up, and
-- so is what stood of a store, of which the log is one on its way to be recovered.
pub record MakesWay {P L : Type 0} (p : page_device.Ghosts P) (l : Ghosts L) (old : Pooled P) (log : Logged L)
    (result : Result Unit Refusal) (new : Pooled P) (now : Logged L) : Type 0 where
  pub pool : IsPool old.sizes old.images
  pub marks : length old.changed ≡ page_count old.sizes
  pub kept : IsKeptUp p (2 ^ 64 - 1) old new
  pub stood : AreAllFramed old → (new ≡ old) × (now ≡ log)
  pub count : length new.frames ≡ length old.frames
  pub held : NoneHeld new.frames
  pub records : now.records ≡ log.records
  pub room : now.reserved ≡ log.reserved
  pub running : OnOk result (now.failed ≡ false)
  pub honest : l.honest now.device → l.honest log.device
  pub counted : OnOk result (NoneFailed p l old.device log.device new.device now.device)
  pub fails : IfErr result (λ e. FailsWith p old.device new.device e (failures l.faults log.device now.device))
  pub told : IsReadAsStored p old new → IfErr result NamesDevice
  pub telling : GoesOnTelling l log.device now.device (IfErr result (λ e. e ≢ why.DiskWrite))
  pub way : HaveBeenHonest p l new.device now.device → (f : Found P L) → Stands p l f old log
      → IsRecovering f.sizes f.read (rebased (before p l f) log.records)
      → OnOk result (Stands p l f new now) × OnErr result (KeepsStore p l f new.device now.device)

-- where some page stands in no frame, what an honest log's device reads as is durable
abbrev pub IsDurable : {P L : Type 0} → Ghosts L → Pooled P → L → Type 0
IsDurable l pages log = AreAllFramed pages ⊎ (l.honest log → Only (l.seen log) (l.may_leave log))

-- why the page that a record writes does not stand in a frame
abbrev pub NotBroughtFor : {P : Type 0} → page_device.Ghosts P → Record → Refusal → Pooled P → Pooled P → Type 0
NotBroughtFor p r e old new = (page : ℕ) × IsToBeWritten old.sizes r page × NotBroughtIn p page e old new

-- the log, with the records behind that undo operations of it, is at its greatest length
pub record IsFullUndo (log : List Record) : Type 0 where
  pub undone : List Record
  pub undoing : IsUndoing log undone
  pub full : 2 ^ 50 ≤ length undone

-- the record that would undo the next of it, which would have this LSN, doesn't belong there
pub record IsBadUndo (z : Sizes) (log : List Record) (first : Images) (lsn : ℕ) : Type 0 where
  pub undone : List Record
  pub undoing : IsUndoing log undone
  pub newest : Record
  pub next : IsNextUndo (open_work_of undone) newest
  pub place : lsn ≡ length undone + 1
  pub mid : Images
  pub repeated : Repeats z undone first mid
  pub bad : Belongs z undone newest mid → ⊥

-- of the log, with the records behind that undo operations of it, something is to be undone yet
pub record HasUndoLeft (log : List Record) : Type 0 where
  pub undone : List Record
  pub undoing : IsUndoing log undone
  pub newest : Record
  pub next : IsNextUndo (open_work_of undone) newest

-- why the operations of a log that have no end were not undone, once history was repeated
abbrev pub UndoStops : Sizes → List Record → Images → Refusal → Type 0
UndoStops z log first why.NoMemory = HasUndoLeft log
UndoStops z log first why.DiskRead = HasUndoLeft log
UndoStops z log first why.DiskWrite = HasUndoLeft log
UndoStops z log first why.LogFull = IsFullUndo log
UndoStops z log first (why.Damaged (damage.Record lsn)) = IsBadUndo z log first lsn
UndoStops z log first _ = ⊥

-- a call that asks no device may be refused so
abbrev pub NamesNoDevice : Refusal → Type 0
NamesNoDevice why.NoMemory = Unit {0}
NamesNoDevice why.LogFull = Unit {0}
NamesNoDevice (why.Damaged d) = Unit {0}
NamesNoDevice _ = ⊥

-- and one that reads pages
abbrev pub IsOfReads : Refusal → Type 0
IsOfReads why.NoMemory = Unit {0}
IsOfReads why.DiskRead = Unit {0}
IsOfReads (why.Damaged d) = Unit {0}
IsOfReads _ = ⊥

-- why one such record was not made behind so many
abbrev pub StepStops : ℕ → Type 0 → Refusal → Type 0
StepStops count belongs why.NoMemory = Unit {0}
StepStops count belongs why.LogFull = 2 ^ 50 ≤ count
StepStops count belongs (why.Damaged (damage.Record lsn)) = (lsn ≡ count + 1) × (belongs → ⊥)
StepStops count belongs _ = ⊥
