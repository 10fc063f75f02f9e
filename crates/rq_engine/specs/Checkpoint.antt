-- A checkpoint: one record, a Base, stands for all, and the pages hold what these left.
use Rattle.std.specs.Prelude.{◌≡◌, ◌≢◌, ◌⊎◌, ℕ, ◌+◌, ◌%◌, ◌^◌, ◌<◌, ◌≤◌, Bool, true, false, List, [], length, Result, Ok, Err}
use Rattle.rq_model.specs.declared.record.Record.{Record}
use Rattle.rq_model.specs.declared.refusal.Refusal.{Refusal}
use Rattle.rq_model.specs.declared.refusal.Refusal.TheVariants as why
use Rattle.rq_model.specs.Tests.{log_full}
use Rattle.rq_disk.specs.Device.{Images, Only}
use Rattle.rq_disk.specs.declared.device.LogDevice as log_device
use Rattle.rq_disk.specs.declared.device.PageDevice as page_device
use Rattle.rq_page.specs.Sizes.{page_count}
use Rattle.rq_log.specs.Spelled.{IsBeginning, spelled}
use Rattle.rq_pool.specs.Pooled.{image_at, is_changed}
use Rattle.rq_pool.specs.Writing.{HasChangeBeyond, NoChangeBeyond}
use Rattle.rq_store.specs.State.{State, ledger_of}
use Rattle.rq_sound.specs.Calls.{checkpointed}
use Rattle.rq_sound.specs.Sound.{IsSound}
use Rattle.rq_engine.specs.Crash.{AreFit, IsCut}
use Rattle.rq_engine.specs.Devices.{KeepsPage, Path}
use Rattle.rq_engine.specs.Earlier.{IsEarlier, on, over}
use Rattle.rq_engine.specs.Opened.{AreHonest, OpenStore, pooled}
use Rattle.rq_model.specs.Bases.{based}

-- what a crash leaves is a cut of the store as it was, or as it was to be
abbrev pub IsCutOrBased : State → Images → List ℕ → Type 0
IsCutOrBased s images bytes = IsCut s images bytes ⊎ IsCut (checkpointed s) images bytes

-- Of a sound store over honest devices whose pages fit. They fit after the call, if the store has not failed then. A crash at
-- any moment of it leaves a cut of the store as it was, or as it was to be.
pub record StaysFitOrBased {P L : Type 0} (p : page_device.Ghosts P) (l : log_device.Ghosts L) (old new : OpenStore P L)
    : Type 0 where
  pub fit : new.state.failed ≡ false → AreFit p new
  pub crash : Path p l (IsCutOrBased old.state) old.pages old.log new.pages new.log

abbrev pub KeepsFitOrBased : {P L : Type 0} → page_device.Ghosts P → log_device.Ghosts L → OpenStore P L
    → OpenStore P L → Type 0
KeepsFitOrBased p l old new = old.replacing ≡ false → AreHonest p l new → (e : List Record) → IsEarlier e old.state
    → IsSound (on e old.state) → AreFit p (over e old) → StaysFitOrBased p l (over e old) (over e new)

-- The log holds a beginning of these records, with those that are forced, or a Base alone that stands for all of them.
abbrev pub IsBeginningOrBase : List Record → ℕ → List ℕ → Type 0
IsBeginningOrBase records forced bytes = IsBeginning records forced bytes ⊎ ((i : ℕ) × (bytes ≡ spelled (based i records)))

-- no page has a change to be written that had none
abbrev pub HasFewer : List Bool → List Bool → Type 0
HasFewer old new = (page : ℕ) → is_changed old page ≡ false → is_changed new page ≡ false

-- One record can be put in the place of all. The store runs, no transaction is open, and the log has room for it. No page that
-- is to be written tells a record that is not there.
pub record MayMakeOneRecord {P L : Type 0} (s : OpenStore P L) : Type 0 where
  pub running : s.state.failed ≡ false
  pub none_open : s.state.rows ≡ []
  pub room : log_full (ledger_of s.state) 1 ≡ false
  pub within : NoChangeBeyond (pooled s) (length s.state.records)

module _ {P L : Type 0} (p : page_device.Ghosts P) (l : log_device.Ghosts L) where
  -- neither device has counted a failure more
  abbrev pub CountsNone : OpenStore P L → OpenStore P L → Type 0
  CountsNone old new = (p.faults new.pages ≡ p.faults old.pages) × (l.faults new.log ≡ l.faults old.log)

  -- just one of them has, and just one
  abbrev pub CountsOne : OpenStore P L → OpenStore P L → Type 0
  CountsOne old new =
      ((p.faults new.pages ≡ (p.faults old.pages + 1) % 2 ^ 64) × (l.faults new.log ≡ l.faults old.log))
      ⊎ ((p.faults new.pages ≡ p.faults old.pages) × (l.faults new.log ≡ (l.faults old.log + 1) % 2 ^ 64))

  -- a call that is refused counts one failure, and no other does
  abbrev pub CountsFailure : {T E : Type 0} → OpenStore P L → OpenStore P L → Result T E → Type 0
  CountsFailure old new (Ok x) = CountsNone old new
  CountsFailure old new (Err e) = CountsOne old new

  -- One record, with this LSN, was put in the place of all, where it could be. The log is that record alone, and each page is its
  -- image, with no change to be written, whatever a crash leaves. Pages behind the store's are as they were.
  pub record HasMadeOneRecord (old new : OpenStore P L) (n : ℕ) : Type 0 where
    pub could : MayMakeOneRecord old
    pub lsn : n ≡ length old.state.records + 1
    pub state : new.state ≡ checkpointed old.state
    pub reads : l.honest new.log → l.seen new.log ≡ spelled new.state.records
    pub durable : l.honest new.log → Only (spelled new.state.records) (l.may_leave new.log)
    pub pages : p.honest new.pages → (page : ℕ) → 1 ≤ page → page < page_count old.state.sizes
        → Only (image_at old.state.images page) (p.may_be new.pages page)
    pub clean : (page : ℕ) → 1 ≤ page → page < page_count old.state.sizes → is_changed new.changed page ≡ false
    pub beyond : (page : ℕ) → page_count old.state.sizes ≤ page → KeepsPage p old.pages new.pages page
    pub replacing : new.replacing ≡ old.replacing
    pub counts : CountsNone old new

  -- A device failed as one was made: the store has stopped, and no page has a change to be written that had none. Pages behind
  -- the store's are as they were.
  pub record HasStopped (old new : OpenStore P L) : Type 0 where
    pub could : MayMakeOneRecord old
    pub state : new.state ≡ record old.state { failed = true }
    pub fewer : HasFewer old.changed new.changed
    pub beyond : (page : ℕ) → page_count old.state.sizes ≤ page → KeepsPage p old.pages new.pages page

  -- why a checkpoint was refused, and what that leaves of the store
  abbrev pub NotCheckpointed : OpenStore P L → OpenStore P L → Refusal → Type 0
  NotCheckpointed old new why.Failed = (old.state.failed ≡ true) × (new ≡ old)
  NotCheckpointed old new why.NotQuiet = (old.state.failed ≡ false) × (old.state.rows ≢ []) × (new ≡ old)
  NotCheckpointed old new why.LogFull = (old.state.failed ≡ false) × (old.state.rows ≡ [])
      × (log_full (ledger_of old.state) 1 ≡ true) × (new ≡ old)
  NotCheckpointed old new why.NotForced = (old.state.failed ≡ false) × (old.state.rows ≡ [])
      × (log_full (ledger_of old.state) 1 ≡ false) × HasChangeBeyond (pooled old) (length old.state.records) × (new ≡ old)
  NotCheckpointed old new why.DiskWrite = HasStopped old new × CountsOne old new
  NotCheckpointed old new _ = ⊥

-- it was stopped in its midst by a device, and more may be forced
abbrev pub IsStopped : State → State → Refusal → Type 0
IsStopped old new why.DiskWrite = (new ≡ record old { forced = new.forced; failed = true }) × (old.forced ≤ new.forced)
IsStopped old new _ = ⊥
