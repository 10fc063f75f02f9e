-- What one call makes of a whole open store: a force where a message is committed; and answers and stores that no call
-- may give.
use Rattle.std.specs.Prelude.{◌≡◌, ◌≢◌, ◌<◌, ◌^◌, ℕ, List, [], ◌∷◌, Ok, slice_set, take, false, true}
use Rattle.rq_model.specs.declared.refusal.Refusal.TheVariants as why
use Rattle.rq_model.specs.declared.txn.Sub.{Sub}
use Rattle.rq_model.specs.declared.txn.Txn.{Txn}
use Rattle.rq_disk.specs.declared.mem_log.MemLog.{MemLog}
use Rattle.rq_disk.specs.declared.mem_pages.MemPages.{MemPages}
use Rattle.rq_log.specs.Spelled.{spelled}
use Rattle.rq_page.specs.Pages.{lsn_of}
use Rattle.rq_pool.specs.declared.Written.TheVariants.{Done, Nothing}
use Rattle.rq_pool.specs.Fetching.{AreAllFramed}
use Rattle.rq_pool.specs.KeptUp.{IsKeptUp}
use Rattle.rq_pool.specs.Pooled.{Pooled, image_at, is_changed}
use Rattle.rq_pool.specs.Writing.{DeviceAfter}
use Rattle.rq_sound.specs.Sound.{IsSound}
use Rattle.rq_engine.specs.Applied.{Applied}
use Rattle.rq_engine.specs.Crash.{AreFit}
use Rattle.rq_model.specs.Causes.{reads_pages}
use Rattle.rq_engine.specs.Says.{PagesSay, call_of}
use Rattle.rq_engine.specs.Opened.{AreHonest, OpenStore, pooled}
use Rattle.rq_engine.specs.declared.event.Event.{Event}
use Rattle.rq_engine.specs.declared.event.Event.TheVariants as event
use Rattle.rq_engine.specs.declared.event.Reply.{Reply}
use Rattle.rq_engine.specs.declared.event.Reply.TheVariants as reply
use Rattle.rq_core.specs.Devices.{mem_log, mem_pages}
use Rattle.rq_cases.specs.Opened.{AreNewPages, IsForcedSince, IsNewLog, over}
use Rattle.rq_cases.specs.Run.{log_1, log_5, committed, forced}
use Rattle.rq_cases.specs.Store.{cells_1, formatted_pages, page_image}

-- the call was made of the one store, and made the other of it
abbrev pub Makes : OpenStore MemPages MemLog → Event → Reply → OpenStore MemPages MemLog → Type 0
Makes old e r new = Applied mem_pages mem_log old e r new

-- what a clause with a hypothesis asks of a store
pub record MeetsAll (s : OpenStore MemPages MemLog) : Type 0 where
  pub honest : AreHonest mem_pages mem_log s
  pub sound : IsSound s.state
  pub fit : AreFit mem_pages s

-- the store whose message's commit is forced, with a frame for the cell page alone beside that of the superblock
abbrev pub in_two_frames : MemPages → MemLog → OpenStore MemPages MemLog
in_two_frames pages log = record (over forced pages log) {
  frames = record { page = 0; fixed = true } ∷ record { page = 2; fixed = false } ∷ [];
}

-- its page written out to this device
abbrev pub written_out : MemPages → MemPages → MemLog → OpenStore MemPages MemLog
written_out pages new log = record (in_two_frames pages log) { pages = new; changed = slice_set (over forced pages log).changed 2 false }

-- the commit of a message is forced; and what no call may answer or make, whatever else it does
pub record CallsAreApplied : Type 0 where
  pub before_the_force : (pages : MemPages) (log : MemLog) → AreNewPages pages formatted_pages
      → MeetsAll (over committed pages log)
  pub log_forced : (pages : MemPages) (old new : MemLog) → AreNewPages pages formatted_pages → IsNewLog old log_1
      → IsForcedSince old new (spelled (take 4 log_5))
      → Makes (over committed pages old) event.Force (reply.Forced 5) (over forced pages new)
  pub another_sizes : (old new : OpenStore MemPages MemLog) (e : Event) (r : Reply)
      → new.state.sizes ≢ old.state.sizes → Makes old e r new → ⊥
  pub failed_while_it_runs : (old new : OpenStore MemPages MemLog) (e : Event) → old.state.failed ≡ false
      → Makes old e (reply.Refused why.Failed) new → ⊥
  pub answered_while_it_failed : (old new : OpenStore MemPages MemLog) → old.state.failed ≡ true
      → Makes old event.HandOver reply.HandedOver new → ⊥
  pub refused_and_changed : (old new : OpenStore MemPages MemLog) (e : Event) → reads_pages (call_of e) ≡ false → new ≢ old
      → Makes old e (reply.Refused why.NoMemory) new → ⊥
  pub refused_by_a_test_and_changed : (old new : OpenStore MemPages MemLog) (t : Txn) → new ≢ old
      → Makes old (event.StartReceive t) (reply.Refused why.LogFull) new → ⊥
  -- A start may write out a page whose last record is forced; it stays whole. It may write out more.
  pub evicted : (pages new : MemPages) (log : MemLog) (t : Txn) (sub : Sub)
      → DeviceAfter mem_pages 2 (page_image 2 2 2 cells_1) pages new (Ok Done)
      → PagesSay mem_pages (in_two_frames pages log) (written_out pages new log) (event.StartReceive t) (reply.Started sub)
  -- none where each stands in a frame
  pub evicted_for_nothing : (old new : OpenStore MemPages MemLog) (t : Txn) (r : Reply) → AreAllFramed (pooled old)
      → new.pages ≢ old.pages → Makes old (event.StartReceive t) r new → ⊥
  pub evicted_again : (forced : ℕ) (old mid new : Pooled MemPages) → IsKeptUp mem_pages forced old mid
      → IsKeptUp mem_pages forced mid new → IsKeptUp mem_pages forced old new
  pub evicted_and_failed : (old new : OpenStore MemPages MemLog) (t : Txn) → new.state.failed ≡ false
      → Makes old (event.StartReceive t) (reply.Refused why.DiskWrite) new → ⊥
  -- a device that failed is told of, and one that did not is not
  pub failure_passed_over : (old new : OpenStore MemPages MemLog) (t : Txn) (sub : Sub)
      → mem_pages.faults new.pages ≢ mem_pages.faults old.pages
      → Makes old (event.StartReceive t) (reply.Started sub) new → ⊥
  pub failure_made_up : (old new : OpenStore MemPages MemLog) (t : Txn)
      → mem_pages.faults old.pages < 2 ^ 64 → mem_pages.faults new.pages ≡ mem_pages.faults old.pages
      → Makes old (event.StartReceive t) (reply.Refused why.DiskRead) new → ⊥
  pub change_forgotten : (old new : OpenStore MemPages MemLog) (t : Txn) (r : Reply) (page : ℕ)
      → is_changed old.changed page ≡ true → is_changed new.changed page ≡ false
      → old.state.forced < lsn_of (image_at old.state.images page)
      → Makes old (event.StartReceive t) r new → ⊥
  pub page_marked : (old new : OpenStore MemPages MemLog) (t : Txn) (r : Reply) (page : ℕ)
      → is_changed old.changed page ≡ false → is_changed new.changed page ≡ true
      → Makes old (event.StartReceive t) r new → ⊥
  pub clean_page_written : (old new : OpenStore MemPages MemLog) (t : Txn) (r : Reply) (page : ℕ) (c : List ℕ)
      → is_changed old.changed page ≡ false → mem_pages.may_be new.pages page c
      → (mem_pages.may_be old.pages page c → ⊥) → Makes old (event.StartReceive t) r new → ⊥
  pub evicted_ahead_of_its_log : (old new : OpenStore MemPages MemLog) (t : Txn) (r : Reply) (page : ℕ) (c : List ℕ)
      → old.state.forced < lsn_of c → mem_pages.may_be new.pages page c
      → (mem_pages.may_be old.pages page c → ⊥) → Makes old (event.StartReceive t) r new → ⊥
  pub another_image : (old new : OpenStore MemPages MemLog) (t : Txn) (r : Reply) → new.state.images ≢ old.state.images
      → Makes old (event.StartReceive t) r new → ⊥
  pub log_touched : (old new : OpenStore MemPages MemLog) (t : Txn) (r : Reply) → new.log ≢ old.log
      → Makes old (event.StartReceive t) r new → ⊥
  pub written_ahead_of_its_log : (pages : MemPages) (log : MemLog) (new : OpenStore MemPages MemLog)
      → Makes (over committed pages log) (event.WritePage 2) (reply.Written Done) new → ⊥
  pub nothing_to_write : (pages : MemPages) (log : MemLog) (new : OpenStore MemPages MemLog)
      → Makes (over forced pages log) (event.WritePage 2) (reply.Written Nothing) new → ⊥
  pub mark_kept : (pages : MemPages) (log : MemLog) (new : OpenStore MemPages MemLog)
      → new.changed ≡ (over forced pages log).changed
      → Makes (over forced pages log) (event.WritePage 2) (reply.Written Done) new → ⊥
  pub another_page_written : (pages : MemPages) (log : MemLog) (new : OpenStore MemPages MemLog)
      → mem_pages.seen new.pages 1 ≢ mem_pages.seen pages 1
      → Makes (over forced pages log) (event.WritePage 2) (reply.Written Done) new → ⊥
  pub failed_and_runs : (old new : OpenStore MemPages MemLog) → new.state.failed ≡ false
      → Makes old event.Force (reply.Refused why.DiskWrite) new → ⊥
  pub failed_without_a_failure : (pages : MemPages) (log : MemLog) (new : OpenStore MemPages MemLog)
      → mem_log.faults log < 2 ^ 64
      → mem_log.faults new.log ≡ mem_log.faults log
      → Makes (over committed pages log) event.Force (reply.Refused why.DiskWrite) new → ⊥
  -- a force that forced nothing: a crash still leaves the first record alone, or at some moment left no record
  pub forced_nothing : (pages : MemPages) (log : MemLog) (new : OpenStore MemPages MemLog)
      → mem_log.may_leave new.log (spelled log_1)
      → Makes (over committed pages log) event.Force (reply.Forced 5) new → ⊥
  pub left_nothing_meanwhile : (pages : MemPages) (log : MemLog) (new : OpenStore MemPages MemLog)
      → mem_log.left_since new.log (mem_log.moment log) []
      → Makes (over committed pages log) event.Force (reply.Forced 5) new → ⊥
