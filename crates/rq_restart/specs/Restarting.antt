-- What a restart finds.
use Rattle.std.specs.Prelude.{◌≡◌, ◌≢◌, ◌⊎◌, ℕ, ◌+◌, ◌-◌, ◌%◌, ◌^◌, ◌<◌, ◌≤◌, false, List, [], ◌∷◌, ◌++◌, drop, length}
use Rattle.rq_model.specs.declared.record.Record.{Record}
use Rattle.rq_model.specs.declared.refusal.Refusal.{Refusal}
use Rattle.rq_model.specs.declared.refusal.Refusal.TheVariants as why
use Rattle.rq_groups.specs.Sent.{SentBy, sent_count}
use Rattle.rq_groups.specs.Waiting.{waits}
use Rattle.rq_page.specs.Sizes.{Sizes, page_count, sender_count}
use Rattle.rq_level.specs.LevelState.{LevelState}
use Rattle.rq_planner.specs.Answered.{KnowsCells}
use Rattle.rq_model.specs.Incarnations.{incarnation_of}
use Rattle.rq_model.specs.Unended.{unfinished, lost}
use Rattle.rq_disk.specs.Device.{Images, Leaves, Only}
use Rattle.rq_disk.specs.declared.device.LogDevice as log_device
use Rattle.rq_disk.specs.declared.device.PageDevice as page_device
use Rattle.rq_pool.specs.Reading as pages_read
use Rattle.rq_pool.specs.Reading.{ArePages, AreSeen}
use Rattle.rq_log.specs.Reading.{BeginsWith, IsRead}
use Rattle.rq_log.specs.Logged.{Logged, WasDurable}
use Rattle.rq_log.specs.Crash.{LeavesOnly}
use Rattle.rq_log.specs.Spelled.{spelled, AreSpelled, EndsWith, GoOnTo, GoesOn}
use Rattle.rq_store.specs.Opening.{IsLeft, next_restart, opened, sent_in_slots, waiting_in}
use Rattle.rq_store.specs.Sends.{place_count}
use Rattle.rq_store.specs.State.{State}
use Rattle.rq_store.specs.Whole.{IsWhole}
use Rattle.rq_store.specs.Fitting.{image_in}
use Rattle.rq_analysis.specs.OpenWorkView.{open_work_of}
use Rattle.rq_analysis.specs.Recovered.{IsRecovered}
use Rattle.rq_restart.specs.RolledBack.{HasRepeated, IsAtBound, IsRolledBack, IsRolledBackOn}
use Rattle.rq_restart.specs.Repeating.{AreMarked, HaveLsnsWithin, Repeats, paged}
use Rattle.rq_pool.specs.Fetching.{AreAllFramed}
use Rattle.rq_pool.specs.Pooled.{IsPool, Pooled}
use Rattle.rq_views.specs.Stored.{count_used, slots_in}
use Rattle.rq_restart.specs.declared.restart.Report.{Report}
use Rattle.rq_model.specs.Bases.{IsMarked, gone, marked, standing}
use Rattle.rq_engine.specs.Devices.{PagesLeave}
use Rattle.rq_engine.specs.Earlier.{rebased}
use Rattle.rq_restart.specs.Past.{IsPast, WhereLeft}
use Rattle.rq_restart.specs.Refused.{IsStoppedBehind, WhyShut}
use Rattle.rq_restart.specs.Leaving.{LeavesRepeated, LeavesSound, WasLeftOrRepeated}
use Rattle.rq_restart.specs.Standing.{NoneHeld}
use Rattle.rq_restart.specs.Telling.{GoesOnTelling, TellsBehind, TellsNone}
use Rattle.rq_restart.specs.Undoing.{FailsWith, HaveBeenHonest, HaveToldTruly, NoneFailed, SameFailures, failures}

-- Behind the log that was read stand the records by which what has no end is undone, and then one that begins the
-- incarnation after the last. All are forced.
pub record IsBegun {L : Type 0} (older : List Record) (log : Logged L) : Type 0 where
  pub rolled_back : List Record
  pub rolls_back : IsRolledBack older rolled_back
  pub records : log.records ≡ next_restart rolled_back ∷ rolled_back
  pub forced : log.forced ≡ length log.records
  pub running : log.failed ≡ false

-- what was opened: over the log that was read with the records behind by which what has no end is undone
abbrev pub IsOpenedOver : List Record → State → Type 0
IsOpenedOver older s = IsRolledBack (marked older) (drop 1 s.records) × (s ≡ opened s.sizes s.images (drop 1 s.records))

-- What is reported: the next incarnation, the last LSN, and how many operations and transactions had no end in the log
-- as it was read. In a whole log these are the operations that were unfinished, and the transactions that were lost.
pub record Reports (z : Sizes) (older records : List Record) (incarnation count unfinished_count lost_count : ℕ) : Type 0 where
  pub incarnation_is : incarnation ≡ incarnation_of older + 1
  pub records_are : count ≡ length records
  pub unfinished_read : unfinished_count ≡ length (open_work_of (marked older)).unfinished
  pub lost_read : lost_count ≡ length (open_work_of (marked older)).active
  pub unfinished_are : IsWhole z older → unfinished_count ≡ length (unfinished older)
  pub lost_are : IsWhole z older → lost_count ≡ length (lost older)

-- why a restart was refused, with the failures of the pages' device before and after it, and those of the log's
abbrev pub Stops : Type 0 → Sizes → List Record → Refusal → ℕ → ℕ → ℕ → ℕ → Type 0
Stops left z log why.NoMemory before now old new = Unit {0}
Stops left z log why.DiskRead before now old new = (now ≡ (before + 1) % 2 ^ 64) ⊎ (new ≡ (old + 1) % 2 ^ 64)
Stops left z log why.DiskWrite before now old new = (now ≡ (before + 1) % 2 ^ 64) ⊎ (new ≡ (old + 1) % 2 ^ 64)
Stops left z log why.LogFull before now old new = left → IsAtBound z log
Stops left z log (why.Damaged d) before now old new = left → ⊥
Stops left z log _ before now old new = ⊥

-- an honest device held these records as it was read, with a torn end perhaps
pub record IsReadAs {L : Type 0} (g : log_device.Ghosts L) (old new : L) (older : List Record) : Type 0 where
  pub honest : g.honest new
  pub are_spelled : AreSpelled older
  pub reads : EndsWith older (g.seen old)

-- an honest device held the pages of a store that was left so
pub record IsLeftOn {P : Type 0} (g : page_device.Ghosts P) (z : Sizes) (old new : P)
    (older : List Record) : Type 0 where
  pub honest : g.honest new
  pub left : IsLeft z (g.seen old) older

-- an engine may be opened over the log: incarnations are counted from 1 on, each
-- with a record of its own, it is not over the greatest length, it has
-- not failed, all its records stand on the device, and a crash leaves them, now and when the log was last forced
pub record IsReady {L : Type 0} (g : log_device.Ghosts L) (incarnation : ℕ) (log : Logged L) : Type 0 where
  pub begun : 1 ≤ incarnation
  pub low : incarnation ≤ length log.records
  pub running : log.failed ≡ false
  pub count : length log.records ≤ 2 ^ 50
  pub reads : g.honest log.device → g.seen log.device ≡ spelled log.records
  pub durable : g.honest log.device → Only (spelled log.records) (g.may_leave log.device)
  pub settled : WasDurable g log

-- how many messages wait, by sender, and what sends and marks come to, by place, as the slots tell: no more than there are
-- records
pub record AreTold (z : Sizes) (images : List (List ℕ)) (count : ℕ) (waiting : List ℕ) (sent : SentBy) : Type 0 where
  pub told : waiting ≡ waiting_in z images
  pub senders : length waiting ≡ sender_count z
  pub few : (g : ℕ) → waits waiting g ≤ count
  pub told_sent : sent ≡ sent_in_slots z images
  pub counts : length sent.counts ≡ place_count z
  pub tags : length sent.tags ≡ place_count z
  pub few_sent : (g : ℕ) → sent_count sent g ≤ count

-- Bytes of a log with the first of the records behind it by which what has no end is undone and the next incarnation is
-- begun, and a torn end, of the next of these or of the end that was read; of a store that was left so, these recover
-- the log.
pub record IsBegunBehind (z : Sizes) (images : Images) (older : List Record) (read bytes : List ℕ) : Type 0 where
  pub rolled_back : List Record
  pub rolls_back : IsRolledBack older rolled_back
  pub recovered : WhereLeft z images older (λ e. IsRecovered z (rebased e older) (rebased e rolled_back))
  pub told : AreSpelled older
  pub are_spelled : AreSpelled (next_restart rolled_back ∷ rolled_back)
  -- so many of the newest lack
  pub lacks : ℕ
  pub some : lacks + length older ≤ length rolled_back + 1
  pub left_told : AreSpelled (drop lacks (next_restart rolled_back ∷ rolled_back))
  pub is : EndsWith (drop lacks (next_restart rolled_back ∷ rolled_back)) bytes
  pub from : GoOnTo bytes (spelled (next_restart rolled_back ∷ rolled_back)) ⊎ GoOnTo bytes read

-- those of the log that was read, beside these pages
pub record IsBegunOn (z : Sizes) (images : Images) (read bytes : List ℕ) : Type 0 where
  pub older : List Record
  pub reads : EndsWith older read
  pub marks : IsMarked older
  pub begun : IsBegunBehind z images older read bytes

module _ {L : Type 0} (g : log_device.Ghosts L) where
  -- a crash might have left it of the log before, or it is what was read with the first of the records behind
  abbrev pub WasLeftOrBegun : Sizes → Images → L → List Record → List ℕ → Type 0
  WasLeftOrBegun z images old older c = g.may_leave old c ⊎ IsBegunBehind z images older (g.seen old) c

  -- the same of these records, of which so many were forced
  abbrev pub WasLeftOrForced : L → List Record → ℕ → List ℕ → Type 0
  WasLeftOrForced old records kept c = g.may_leave old c ⊎ (AreSpelled records
      × GoesOn (standing records) (kept - gone records) (g.seen old) c)

  -- Behind the log that was read the next incarnation was begun, as the report says, and the tables tell what these pages
  -- do: an engine may be opened over it.
  pub record IsRestarted (z : Sizes) (images : List (List ℕ)) (old new : Logged L) (waiting : List ℕ) (sent : SentBy)
      (planner : List LevelState) (report : Report) : Type 0 where
    pub forced : new.forced ≡ length new.records
    pub reports : g.honest new.device → (e : List Record) → IsPast e old.records
        → Reports z (rebased e old.records) new.records report.incarnation report.records report.unfinished report.lost
    pub told : AreTold z images (length new.records) waiting sent
    pub known : KnowsCells z images planner
    pub ready : IsReady g report.incarnation new
    pub room : new.reserved ≡ old.reserved

  -- The device of a log that was gone through to these pages: a crash at any moment leaves what it might have left before,
  -- or the first of the records by which the next incarnation is begun.
  pub record LeavesLog (z : Sizes) (pages : Images) (old new : Logged L) : Type 0 where
    pub honest : g.honest new.device → g.honest old.device
    pub any_moment : (first : Images) → Repeats z old.records first pages → g.honest new.device → AreSpelled old.records
        → EndsWith old.records (g.seen old.device) → LeavesOnly g old.device new.device
        (WasLeftOrBegun z first old.device old.records)

  -- whatever a crash at any moment leaves of the log beside these pages: what it might have left before, or what was read
  -- with the first of the records behind
  abbrev pub BeginsAtMost : Sizes → Images → L → L → Type 0
  BeginsAtMost z images old new =
      g.honest new → LeavesOnly g old new (λ c. g.may_leave old c ⊎ IsBegunOn z images (g.seen old) c)

  -- Why a store with these pages was not opened over the log of an honest device: going through it as it was read stopped behind some of its
  -- records, or all of them were read and gone through, and then this.
  abbrev pub StopsOver : Sizes → Images → Refusal → L → L → Type 0
  StopsOver z first e old new =
      IsStoppedBehind g z first e old new
      ⊎ ((older : List Record) × AreSpelled older × (g.honest new → EndsWith older (g.seen old)) × WhyShut z older first e)

  -- the log was read, all of it
  pub record IsLogRead (log : L) (read : Logged L) : Type 0 where
    pub marks : IsMarked read.records
    pub are_spelled : AreSpelled read.records
    pub reads : g.honest read.device → EndsWith read.records (g.seen log)
    pub only : IsRead g log read.device
    pub counted : g.faults read.device ≡ g.faults log
    pub unreserved : read.reserved ≡ 0
    pub running : read.failed ≡ false

module _ {P L : Type 0} (p : page_device.Ghosts P) (l : log_device.Ghosts L) where
  -- What a run of calls leaves that goes on with a restart, of the pages and of both devices. Records may have come behind the log.
  pub record Continues (old : Pooled P) (log : L) (records : List Record) (new : Pooled P) (now : L) (now_records : List Record) : Type 0 where
    pub sizes : new.sizes ≡ old.sizes
    pub count : length new.frames ≡ length old.frames
    pub held : NoneHeld old.frames → NoneHeld new.frames
    pub marked : AreMarked (length now_records) old new
    pub pages_honest : p.honest new.device → p.honest old.device
    pub log_honest : l.honest now → l.honest log
    -- with each page in a frame, the device of the pages is left alone
    pub stood : AreAllFramed old → new.device ≡ old.device
    pub written : LeavesSound p old.sizes old.device new.device
    pub behind : (made : List Record) × (now_records ≡ made ++ records)
    pub leaves : HaveBeenHonest p l new.device now → (first : Images) → Repeats old.sizes records first (paged old)
        → LeavesRepeated p old.sizes first now_records old.device new.device

  -- Over pages that were first so the log was read, gone through and mended, and the next incarnation begun: with these
  -- tables an engine may be opened over it.
  pub record OpensLog (first now : Pooled P) (log : L) (new : Logged L) (cells : ℕ) (waiting : List ℕ) (sent : SentBy)
      (planner : List LevelState) (report : Report) : Type 0 where
    pub continues : Continues first log [] now new.device new.records
    pub none_failed : NoneFailed p l first.device log now.device new.device
    pub pool : IsPool now.sizes now.images
    pub within : HaveLsnsWithin now.sizes (length new.records - 1) (paged now)
    pub cells_used : cells ≡ count_used now.sizes (slots_in now.sizes now.images)
    pub read : Logged L
    pub was_read : IsLogRead l log read
    pub honest : l.honest new.device → l.honest read.device
    -- what is behind it
    pub restarted : IsRestarted l now.sizes now.images read new waiting sent planner report
    pub repeated : HaveToldTruly p l first now new.device
        → HasRepeated first.sizes read.records new.records (paged first) (paged now)
    pub begun : l.honest new.device → IsBegun read.records new
    pub any_moment : AreAllFramed first → BeginsAtMost l first.sizes (paged first) log new.device
    pub telling : GoesOnTelling l log new.device (Unit {0})

  -- what a crash leaves of pages on which some records that were read, and some behind them, were repeated
  pub record LeavesFront (z : Sizes) (first : Images) (pages new_pages : P) (log : L) : Type 0 where
    pub front : List Record
    pub begins : BeginsWith front (l.seen log)
    pub made : List Record
    pub left : LeavesRepeated p z first (made ++ front) pages new_pages

  -- The store with these pages was not opened over the log, and why; both devices are given back.
  pub record RefusesLog (pages : Pooled P) (new_pages : P) (log new_log : L) (e : Refusal) : Type 0 where
    pub honest : p.honest new_pages → p.honest pages.device
    pub fails : FailsWith p pages.device new_pages e (failures l.faults log new_log)
    pub stood : AreAllFramed pages → (new_pages ≡ pages.device) × ((e ≢ why.DiskWrite) → IsRead l log new_log)
        × BeginsAtMost l pages.sizes (paged pages) log new_log
    pub over : (AreAllFramed pages ⊎ p.honest new_pages) × l.honest new_log → StopsOver l pages.sizes (paged pages) e log new_log
    pub leaves : HaveBeenHonest p l new_pages new_log → LeavesFront pages.sizes (paged pages) pages.device new_pages log
    pub written : LeavesSound p pages.sizes pages.device new_pages
    pub telling : GoesOnTelling l log new_log (e ≢ why.DiskWrite)
    pub unread : l.honest new_log → TellsNone l log → IsRead l log new_log

module _ {P L : Type 0} (p : page_device.Ghosts P) (l : log_device.Ghosts L) (pages : P) (log : L) where
  -- the pages were read, and are those of a store of these sizes
  pub record WereRead (new_pages : P) (z : Sizes) (images : List (List ℕ)) : Type 0 where
    pub sound : ArePages z images
    pub seen : p.honest new_pages → AreSeen (p.seen pages) images (page_count z)

  -- What was read of both devices is the store's. That of the log has been honest. So has that of the pages, or so many frames beside that
  -- of the superblock were enough that none had to be read again.
  abbrev pub TellTruly : ℕ → Sizes → P → L → Type 0
  TellTruly count z new_pages new_log = ((page_count z ≤ count + 1) ⊎ p.honest new_pages) × l.honest new_log

  -- bytes of the log that was read with the first of the records behind, beside the pages that were read
  pub record IsBegunFrom (new_pages : P) (bytes : List ℕ) : Type 0 where
    pub sizes : Sizes
    pub images : List (List ℕ)
    pub were : WereRead new_pages sizes images
    pub begun : IsBegunOn sizes (image_in images) (l.seen log) bytes

  -- whatever a crash at any moment leaves of the log: what it might have left before, or such bytes
  abbrev pub BeginsFrom : P → L → Type 0
  BeginsFrom new_pages new_log =
      l.honest new_log → LeavesOnly l log new_log (λ c. l.may_leave log c ⊎ IsBegunFrom new_pages c)

  -- what was checked where it was not: every page as it was read, the log, each record of it and each before-image, and
  -- the pages that history was repeated on, with the records that undo
  pub record WasChecked (z : Sizes) (last : Images) (records : List Record) (new_pages : P) (new_log : L) : Type 0 where
    pub images : List (List ℕ)
    pub sound : ArePages z images
    pub seen : p.honest new_pages → AreSeen (p.seen pages) images (page_count z)
    pub older : List Record
    pub marks : IsMarked older
    pub are_spelled : AreSpelled older
    pub reads : l.honest new_log → EndsWith older (l.seen log)
    pub rolled_back : List Record
    pub rolled_back_on : IsRolledBackOn z older rolled_back (image_in images) last
    pub begun : records ≡ next_restart rolled_back ∷ rolled_back
    pub room : length rolled_back < 2 ^ 50

  -- Of each page a crash leaves, now and at any moment, what it might have left before. Or it leaves an image that the oldest of these
  -- records made of the pages that were read.
  pub record LeavesPages (new_pages : P) (z : Sizes) (records : List Record) : Type 0 where
    pub images : List (List ℕ)
    pub were : WereRead new_pages z images
    pub now : (page : ℕ) (c : List ℕ) → p.may_be new_pages page c → WasLeftOrRepeated p z (image_in images) records pages page c
    pub moments : PagesLeave p pages new_pages (Leaves (WasLeftOrRepeated p z (image_in images) records pages))

  -- the same of some records that were read, and some behind them
  pub record LeavesSome (new_pages : P) (z : Sizes) : Type 0 where
    pub front : List Record
    pub begins : BeginsWith front (l.seen log)
    pub made : List Record
    pub left : LeavesPages new_pages z (made ++ front)

  -- the pages could not be read, and the log was left alone
  pub record IsNotLoaded (e : Refusal) (new_pages : P) (new_log : L) : Type 0 where
    pub stops : pages_read.StopsFor p e pages new_pages
    pub read : pages_read.OnlyRead p pages new_pages
    pub same : new_log ≡ log

  -- The pages were all read and are sound, and then this. Where the frames are enough, the pages were only read, and none failed to be
  -- read again. The log was only read, too, unless a device failed in a write. In any number of frames an honest log that told records tells
  -- these, with others behind, unless a device failed in a write. One that told none was only read. Whatever both devices are, pages of that
  -- store alone were written.
  pub record IsRefusedOver (count : ℕ) (e : Refusal) (new_pages : P) (new_log : L) : Type 0 where
    pub sizes : Sizes
    pub images : List (List ℕ)
    pub were : WereRead new_pages sizes images
    pub fails : FailsWith p pages new_pages e (failures l.faults log new_log)
    pub read : page_count sizes ≤ count + 1 → pages_read.OnlyRead p pages new_pages × ((e ≢ why.DiskWrite) → IsRead l log new_log)
        × BeginsFrom new_pages new_log × SameFailures (failures p.faults pages new_pages)
    pub told : (e ≢ why.DiskWrite) → l.honest new_log → (older : List Record) → AreSpelled older → EndsWith older (l.seen log)
        → TellsBehind older (l.seen log) (l.seen new_log)
    pub unread : l.honest new_log → TellsNone l log → IsRead l log new_log
    pub over : TellTruly count sizes new_pages new_log → StopsOver l sizes (image_in images) e log new_log
    pub leaves : HaveBeenHonest p l new_pages new_log → LeavesSome new_pages sizes
    pub written : LeavesSound p sizes pages new_pages

  -- why a restart was refused, and where
  abbrev pub IsRefusedFor : ℕ → Refusal → P → L → Type 0
  IsRefusedFor count e new_pages new_log = IsNotLoaded e new_pages new_log ⊎ IsRefusedOver count e new_pages new_log
