-- What a call that may read pages, and write others out, makes of an open store.
use Rattle.std.specs.Prelude.{◌≡◌, ℕ, Bool, true, false, List, length, Some, Result, Ok, Err, IfErr, IfOk}
use Rattle.rq_model.specs.Causes.{reads_pages, starts_one}
use Rattle.rq_model.specs.History.{Call}
use Rattle.rq_model.specs.declared.refusal.Refusal.{Refusal}
use Rattle.rq_model.specs.declared.refusal.Refusal.TheVariants as why
use Rattle.rq_model.specs.Tests.{NoneHolds, first_of}
use Rattle.rq_disk.specs.Device.PageAsk.{Reads, Writes}
use Rattle.rq_disk.specs.declared.device.PageDevice as page_device
use Rattle.rq_pool.specs.KeptUp.{IsForced, IsKeptUp}
use Rattle.rq_pool.specs.Fetching.{AreAllFramed, HasFailed, HasOutside, MayHaveRead}
use Rattle.rq_pool.specs.Reading.{OnlyRead}
use Rattle.rq_store.specs.State.{State}
use Rattle.rq_planner.specs.Lawful.{MayRefuse}
use Rattle.rq_engine.specs.Opened.{OpenStore, pooled}
use Rattle.rq_engine.specs.Tested.{tested}
use Rattle.rq_engine.specs.declared.event.Reply.{Reply}
use Rattle.rq_engine.specs.declared.event.Reply.TheVariants as reply

-- These are the lists, but that pages which were read again have the images that were read.
abbrev pub AreButRead : State → State → Type 0
AreButRead lists new = new ≡ record lists { images = new.images }

-- the lists, with the images of others
abbrev pub with_images_of : State → State → State
with_images_of old new = record new { images = old.images }

-- a start alone may be refused so
abbrev pub OfStart : Bool → Type 0 → Type 0
OfStart true left = left
OfStart false left = ⊥

-- What is left where such a call was refused. The first of its tests that holds leaves all as it was, the devices too. Behind its
-- tests it has perhaps read pages, and a device that failed as a start wrote a page out stops the store.
abbrev pub RefusedBehind : {P L : Type 0} → (starts : Bool) → List (Bool × Refusal) → OpenStore P L → Refusal → OpenStore P L
    → Type 0
RefusedBehind starts tests old why.DiskWrite new =
    NoneHolds tests × OfStart starts (AreButRead (record old.state { failed = true }) new.state)
RefusedBehind starts tests old why.DiskRead new = NoneHolds tests × AreButRead old.state new.state
RefusedBehind starts tests old (why.Damaged d) new = NoneHolds tests × AreButRead old.state new.state
RefusedBehind starts tests old why.Latched new = NoneHolds tests × OfStart starts (AreButRead old.state new.state)
RefusedBehind starts tests old why.PoolFull new = NoneHolds tests × OfStart starts (AreButRead old.state new.state)
RefusedBehind starts tests old why.NoMemory new = NoneHolds tests × AreButRead old.state new.state
RefusedBehind starts tests old r new = (first_of tests ≡ Some r) × (new ≡ old)

abbrev pub RefusedButRead : {P L : Type 0} → Call → OpenStore P L → Refusal → OpenStore P L → Type 0
RefusedButRead c old r new = RefusedBehind (starts_one c) (tested old.state c) old r new

-- How often the pages' device has failed where a call was refused: once more where it is told that a page was not read, or not
-- written out, else as often as before. A page that was not read stood in no frame. One that was not written out still counts as
-- changed, and its last record is forced; it was to make way, as some page stood in no frame.
abbrev pub RefusalCounts : {P L : Type 0} → page_device.Ghosts P → Refusal → OpenStore P L → OpenStore P L → Type 0
RefusalCounts g why.DiskRead old new = (out : HasOutside (pooled old)) × HasFailed g (Reads out.page) old.pages new.pages
RefusalCounts g why.DiskWrite old new = (page : ℕ) × (image : List ℕ) × IsForced g old.state.forced (pooled new) page image
    × HasFailed g (Writes page image) old.pages new.pages × HasOutside (pooled old)
RefusalCounts g _ old new = g.faults new.pages ≡ g.faults old.pages

abbrev pub AnswerCounts : {P L X : Type 0} → page_device.Ghosts P → Result X Refusal → OpenStore P L → OpenStore P L → Type 0
AnswerCounts g (Ok x) old new = g.faults new.pages ≡ g.faults old.pages
AnswerCounts g (Err r) old new = RefusalCounts g r old new

abbrev pub ReplyCounts : {P L : Type 0} → page_device.Ghosts P → Reply → OpenStore P L → OpenStore P L → Type 0
ReplyCounts g (reply.Refused r) old new = RefusalCounts g r old new
ReplyCounts g _ old new = g.faults new.pages ≡ g.faults old.pages

-- no page is read or written out where each stands in a frame
abbrev pub StayWhereFramed : {P L : Type 0} → OpenStore P L → OpenStore P L → Type 0
StayWhereFramed old new = AreAllFramed (pooled old) → (new.pages ≡ old.pages) × (new.changed ≡ old.changed)
    × (new.state.images ≡ old.state.images)

-- The devices of a store of which pages were read, and others written out. The log's is left alone, and it keeps its number of frames.
abbrev pub KeepsDevices : {P L : Type 0} → page_device.Ghosts P → OpenStore P L → OpenStore P L → Type 0
KeepsDevices g old new = IsKeptUp g old.state.forced (pooled old) (pooled new) × (new.log ≡ old.log)
    × (new.replacing ≡ old.replacing) × (length new.frames ≡ length old.frames) × StayWhereFramed old new

-- Pages of a store were perhaps read, and nothing else happened, whatever the device gave of them.
pub record HasReadPages {P L : Type 0} (g : page_device.Ghosts P) (old new : OpenStore P L) : Type 0 where
  pub pages : MayHaveRead g (pooled old) (pooled new)
  pub lists : AreButRead old.state new.state
  pub log : new.log ≡ old.log
  pub replacing : new.replacing ≡ old.replacing

-- and their device did not fail
abbrev pub HasReadSoFar : {P L : Type 0} → page_device.Ghosts P → OpenStore P L → OpenStore P L → Type 0
HasReadSoFar g old new = HasReadPages g old new × (g.faults new.pages ≡ g.faults old.pages)

-- The answer was given by a device that is honest, and did not fail in a read.
abbrev pub IsGivenBy : {P L X : Type 0} → page_device.Ghosts P → Result X Refusal → OpenStore P L → Type 0
IsGivenBy g answer new = g.honest new.pages × (answer ≡ Err why.DiskRead → ⊥)

-- why a start may be refused behind its tests: as there may be no plan, for frames, or as a page was not written out
abbrev pub MayRefuseStart : Refusal → Type 0
MayRefuseStart why.PoolFull = Unit {0}
MayRefuseStart why.DiskWrite = Unit {0}
MayRefuseStart r = MayRefuse r

-- whether the store has failed that was refused so: a device's failure in a write stops it
abbrev pub failed_by : Bool → Refusal → Bool
failed_by failed why.DiskWrite = true
failed_by failed _ = failed

-- the lists that such a refusal leaves, but for images of pages that were read
abbrev pub IsLeftBy : State → Refusal → State → Type 0
IsLeftBy old r new = AreButRead (record old { failed = failed_by old.failed r }) new

-- what it leaves of the store; latches hold a start up before any page is fixed, so pages were read then, and that is all
abbrev pub StartLeaves : {P L : Type 0} → page_device.Ghosts P → OpenStore P L → Refusal → OpenStore P L → Type 0
StartLeaves g old why.Latched new = HasReadPages g old new
StartLeaves g old r new = IsLeftBy old.state r new.state

-- What a start that passed its tests answers and leaves, whatever the device gave of pages that it read. HasBegun is so of the
-- lists, but for images of those pages, where something has begun.
pub record HasTried {P L X : Type 0} (g : page_device.Ghosts P) (old : OpenStore P L) (HasBegun : State → Type 0)
    (answer : Result X Refusal) (new : OpenStore P L) : Type 0 where
  pub devices : KeepsDevices g old new
  pub counts : AnswerCounts g answer old new
  pub begun : IfOk answer (λ _. HasBegun (with_images_of old.state new.state))
  pub left : IfErr answer (λ r. StartLeaves g old r new)
  pub causes : IfErr answer MayRefuseStart

-- And its lists are as they were, and no device failed. Where the call starts nothing, pages were only read and count as changed as
-- before, and where it reads none, all is as it was.
pub record KeepsUp {P L : Type 0} (g : page_device.Ghosts P) (c : Call) (old new : OpenStore P L) : Type 0 where
  pub devices : KeepsDevices g old new
  pub lists : AreButRead old.state new.state
  pub faults : g.faults new.pages ≡ g.faults old.pages
  pub read : starts_one c ≡ false → OnlyRead g old.pages new.pages × (new.changed ≡ old.changed)
  pub still : reads_pages c ≡ false → new ≡ old

-- what is told of lists where pages were perhaps read again: what a device that is honest gives
abbrev pub OnRead : Bool → Type 0 → Type 0 → Type 0
OnRead true honest told = honest → told
OnRead false honest told = told

-- the pages' device as a call leaves it that may read pages and write others out, and as any other does
abbrev pub PagesStay : {P L : Type 0} → Bool → page_device.Ghosts P → OpenStore P L → Reply → OpenStore P L → Type 0
PagesStay true g old r new = IsKeptUp g old.state.forced (pooled old) (pooled new) × ReplyCounts g r old new
    × StayWhereFramed old new
PagesStay false g old r new = new.pages ≡ old.pages

-- and which pages count as changed: those that are written out do no more, which is said with them
abbrev pub ChangesStay : {P L : Type 0} → Bool → OpenStore P L → OpenStore P L → Type 0
ChangesStay true old new = Unit {0}
ChangesStay false old new = new.changed ≡ old.changed

-- A content is shown of pages that are read: the device reads as before, and a crash leaves nothing more of it. The device is not
-- called where each page stands in a frame.
abbrev pub IsShown : {P L : Type 0} → page_device.Ghosts P → OpenStore P L → OpenStore P L → Type 0
IsShown g old new = IsKeptUp g old.state.forced (pooled old) (pooled new) × OnlyRead g old.pages new.pages
    × StayWhereFramed old new
