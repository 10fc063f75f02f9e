-- What a restart answers: the store that it opened, or why it did not, and what it leaves of both devices.
use Rattle.std.specs.Prelude.{◌≡◌, ℕ, ◌+◌, ◌-◌, ◌<◌, ◌≤◌, List, [], drop, false, length, min, true}
use Rattle.rq_model.specs.declared.record.Record.{Record}
use Rattle.rq_model.specs.declared.refusal.Refusal.{Refusal}
use Rattle.rq_model.specs.Bases.{earlier}
use Rattle.rq_model.specs.Commits.{committed_of}
use Rattle.rq_model.specs.History.Entry.{Restarted}
use Rattle.rq_model.specs.Ledger.{Ledger, after}
use Rattle.rq_disk.specs.Device.{Only}
use Rattle.rq_disk.specs.declared.device.LogDevice as log_device
use Rattle.rq_disk.specs.declared.device.PageDevice as page_device
use Rattle.rq_log.specs.Crash.{LeavesOnly}
use Rattle.rq_log.specs.Spelled.{spelled, AreSpelled, EndsWith}
use Rattle.rq_page.specs.Pages.{lsn_of}
use Rattle.rq_page.specs.Sizes.{Sizes, page_count}
use Rattle.rq_pool.specs.Pooled.{image_at, is_changed}
use Rattle.rq_pool.specs.Reading.{IsSuperblock, OnlyRead}
use Rattle.rq_store.specs.Fitting.{AllFit}
use Rattle.rq_store.specs.State.{ledger_of}
use Rattle.rq_store.specs.Whole.{AreBased}
use Rattle.rq_sound.specs.Sound.{IsSound}
use Rattle.rq_analysis.specs.Recovered.{IsRecovered}
use Rattle.rq_engine.specs.Crash.{AreFit}
use Rattle.rq_engine.specs.Devices.{EachPair, Path}
use Rattle.rq_engine.specs.Earlier.{on, over, rebased}
use Rattle.rq_engine.specs.Opened.{OpenStore, pooled}
use Rattle.rq_restart.specs.declared.restart.Report.{Report}
use Rattle.rq_restart.specs.Leaving.{LeavesSound}
use Rattle.rq_restart.specs.Repeating.{HaveLsnsWithin, paged}
use Rattle.rq_restart.specs.Restarting.{BeginsFrom, IsLeftOn, IsOpenedOver, IsReadAs, IsRefusedFor, LeavesPages, Reports, Stops, TellTruly, WasChecked}
use Rattle.rq_restart.specs.Telling.{WasLeftOrTells}
use Rattle.rq_restart.specs.Underway.{IsLeftOrGoesOn, OfStores}
use Rattle.rq_restart.specs.Undoing.{HaveBeenHonest}

-- What was opened over the log that was read has its commits.
pub record OpensOver {P L : Type 0} (older : List Record) (s : OpenStore P L) (report : Report) : Type 0 where
  pub reports : Reports s.state.sizes older s.state.records report.incarnation report.records report.unfinished
      report.lost
  pub value : IsOpenedOver older s.state
  pub committed : (ledger_of (on (earlier older) s.state)).committed ≡ committed_of older

-- Over the log of a store that was left so, it is sound, and recovers that log. The restart is an entry of its history. Where all
-- that a crash might have left of the pages fitted that log, all that one leaves now fits the log that is forced.
pub record Recovers {P L : Type 0} (p : page_device.Ghosts P) (pages : P) (older : List Record) (s : OpenStore P L)
    (report : Report) : Type 0 where
  pub sound : IsSound (on (earlier older) s.state)
  pub recovered : IsRecovered s.state.sizes older (rebased (earlier older) (drop 1 s.state.records))
  pub entry : (ledger : Ledger) → ledger.committed ≡ committed_of older
      → ledger_of (on (earlier older) s.state) ≡ after (Restarted report.incarnation report.records) ledger
  pub fit : AreBased older → AllFit (p.may_be pages) s.state.sizes older → AreFit p (over (earlier older) s)

-- where so many frames beside that of the superblock are enough for a store, an honest device of pages was only read
abbrev pub ReadWhereEnough : {P : Type 0} → page_device.Ghosts P → P → P → ℕ → Type 0
ReadWhereEnough p pages new_pages count = p.honest new_pages → (z : Sizes) → IsSuperblock z (p.seen pages 0)
    → page_count z ≤ count + 1 → OnlyRead p pages new_pages

module _ {P L : Type 0} (p : page_device.Ghosts P) (l : log_device.Ghosts L) (pages : P) (log : L) where
  -- the store that was opened on these devices, in so many frames beside that of the superblock, and what is reported of it
  pub record Opens (count : ℕ) (s : OpenStore P L) (report : Report) : Type 0 where
    pub sizes : p.honest s.pages → IsSuperblock s.state.sizes (p.seen pages 0)
    -- what was checked, where what was read is the store's
    pub checked : TellTruly p l pages log count s.state.sizes s.pages s.log
        → WasChecked p l pages log s.state.sizes (paged (pooled s)) s.state.records s.pages s.log
    -- an honest device told a log, and what was opened over it has its commits
    pub told : l.honest s.log → (older : List Record) × IsReadAs l log s.log older
    pub over : (older : List Record) → IsReadAs l log s.log older → OpensOver older s report
    pub recovers : (older : List Record) → IsReadAs l log s.log older → IsLeftOn p s.state.sizes pages s.pages older
        → Recovers p pages older s report
    -- it runs, with nothing under way; all its records are forced, and no checkpoint has failed
    pub running : s.state.failed ≡ false
    pub idle : s.state.rows ≡ []
    pub forced : s.state.forced ≡ length s.state.records
    pub reads : l.honest s.log → l.seen s.log ≡ spelled s.state.records
    pub durable : l.honest s.log → Only (spelled s.state.records) (l.may_leave s.log)
    pub untried : s.replacing ≡ false
    pub unfailed : (p.faults s.pages ≡ p.faults pages) × (l.faults s.log ≡ l.faults log)
    pub frames : length s.frames ≡ min (page_count s.state.sizes) (count + 1)
    -- where the frames are enough, the pages were only read, and at every moment the log had at most the records of a restart more
    pub read : page_count s.state.sizes ≤ count + 1 → OnlyRead p pages s.pages × BeginsFrom p l pages log s.pages s.log
    -- no page is older than it was read, and one that counts as changed is newer
    pub later : p.honest s.pages → (q : ℕ) → q < page_count s.state.sizes → lsn_of (p.seen pages q) ≤ lsn_of (image_at s.state.images q)
    pub marked : p.honest s.pages → (q : ℕ) → q < page_count s.state.sizes → is_changed s.changed q ≡ true
        → lsn_of (p.seen pages q) < lsn_of (image_at s.state.images q)
    -- whatever the devices are, the LSN of each page but the superblock is before that of the Restart record, and pages of that
    -- store alone were written
    pub within : HaveLsnsWithin s.state.sizes (length s.state.records - 1) (paged (pooled s))
    pub written : LeavesSound p s.state.sizes pages s.pages
    -- what a crash leaves of the pages, of honest devices
    pub pages_left : HaveBeenHonest p l s.pages s.log → LeavesPages p l pages log s.pages s.state.sizes s.state.records

  -- why none was opened in so many frames, and what that says of honest devices that hold a store
  pub record Refuses (count : ℕ) (e : Refusal) (new_pages : P) (new_log : L) : Type 0 where
    pub cause : IsRefusedFor p l pages log count e new_pages new_log
    pub stops : p.honest new_pages → (z : Sizes) → IsSuperblock z (p.seen pages 0) → (older : List Record)
        → IsReadAs l log new_log older → Stops (IsLeftOn p z pages new_pages older) z older e (p.faults pages)
        (p.faults new_pages) (l.faults log) (l.faults new_log)

  -- Where each pair that a crash might have left is a store, each pair that a crash leaves at any moment is one. Whatever the pages are,
  -- and in any number of frames: where an honest log told records, a crash at any moment leaves what it might have before, or bytes that
  -- tell these with records behind.
  pub record KeepsStores (new_pages : P) (new_log : L) : Type 0 where
    pub pages_honest : p.honest new_pages → p.honest pages
    pub kept : l.honest new_log → (older : List Record) → AreSpelled older → EndsWith older (l.seen log)
        → LeavesOnly l log new_log (WasLeftOrTells l log older)
    pub path : OfStores p l pages log new_pages new_log
        (λ z read. Path p l (IsLeftOrGoesOn l log z read) pages log new_pages new_log)
    pub crash : OfStores p l pages log new_pages new_log
        (λ z read. EachPair p l new_pages new_log (IsLeftOrGoesOn l log z read))
