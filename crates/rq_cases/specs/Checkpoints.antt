-- Stores behind a checkpoint, and in the midst of one: over the store that was just opened, with devices in memory.
use Rattle.std.specs.Prelude.{◌≡◌, ◌≢◌, true, false, List, [], ◌∷◌}
use Rattle.rq_model.specs.declared.record.Record.{Record}
use Rattle.rq_model.specs.declared.record.Record.TheVariants.{Base, Restart}
use Rattle.rq_model.specs.declared.refusal.Refusal.TheVariants.{DiskWrite}
use Rattle.rq_model.specs.History.{Entry}
use Rattle.rq_model.specs.History.Call.{Checkpoint}
use Rattle.rq_model.specs.History.Entry.{Checkpointed, Crash as Crash_entry, Refused}
use Rattle.rq_disk.specs.declared.mem_log.MemLog.{MemLog}
use Rattle.rq_disk.specs.declared.mem_pages.MemPages.{MemPages}
use Rattle.rq_page.specs.Sizes.{Sizes}
use Rattle.rq_store.specs.State.{State}
use Rattle.rq_sound.specs.Calls.{checkpointed, failed}
use Rattle.rq_engine.specs.Opened.{OpenStore}
use Rattle.rq_core.specs.Worked.{first_entries}
use Rattle.rq_cases.specs.Opened.{over}
use Rattle.rq_cases.specs.Run.{fresh, log_1}
use Rattle.rq_cases.specs.Store.{formatted_pages, sizes}
use Rattle.rq_cases.specs.Worlds.{Hold, Opens, Shuts}

-- its one record, and the Base that stands for it
abbrev pub based_log : List Record
based_log = Base 1 1 ∷ log_1

-- the store behind a checkpoint, if nothing is known of what stood before the Base
abbrev pub behind : State
behind = record (checkpointed fresh) { records = Base 1 1 ∷ Restart 0 ∷ [] }

abbrev pub was_checkpointed : List Entry
was_checkpointed = Checkpointed 2 ∷ first_entries 1

-- a device failed as its log was replaced
abbrev pub midway : MemPages → MemLog → OpenStore MemPages MemLog
midway pages log = record (over (failed fresh) pages log) { replacing = true }

pub record CheckpointsAreJudged : Type 0 where
  pub open_behind_one : (pages : MemPages) (log : MemLog) → Hold pages formatted_pages log based_log
      → Opens sizes was_checkpointed (over behind pages log)
  pub shut_behind_one : (pages : MemPages) (log : MemLog) → Hold pages formatted_pages log based_log
      → Shuts (Crash_entry 0 2 ∷ was_checkpointed) pages log
  -- where a device failed in one, the log may be as it was, or the Base alone
  pub midway_as_it_was : (pages : MemPages) (log : MemLog) → Hold pages formatted_pages log log_1
      → Opens sizes (Refused Checkpoint DiskWrite ∷ first_entries 1) (midway pages log)
  pub midway_as_it_was_to_be : (pages : MemPages) (log : MemLog) → Hold pages formatted_pages log based_log
      → Opens sizes (Refused Checkpoint DiskWrite ∷ first_entries 1) (midway pages log)
  -- such a store has stopped, and has no transaction open
  pub midway_and_running : (z : Sizes) (h : List Entry) (e : OpenStore MemPages MemLog) → e.replacing ≡ true
      → e.state.failed ≡ false → Opens z h e → ⊥
  pub midway_with_one_open : (z : Sizes) (h : List Entry) (e : OpenStore MemPages MemLog) → e.replacing ≡ true
      → e.state.rows ≢ [] → Opens z h e → ⊥
