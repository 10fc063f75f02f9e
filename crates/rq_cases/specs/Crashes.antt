-- Runs of calls of both devices, crashes that a course may meet, and pages and logs over their devices. They are over the
-- worked run, beside what isn't so.
use Rattle.std.specs.Prelude.{◌≢◌, ℕ, ◌<◌, List, ◌∷◌, length}
use Rattle.rq_model.specs.declared.record.Record.{Record}
use Rattle.rq_model.specs.Bases.{marked}
use Rattle.rq_model.specs.History.Call.{Begin, Checkpoint, Force}
use Rattle.rq_model.specs.Replay.Reply.{Gave_forced}
use Rattle.rq_model.specs.Incarnations.{Ties}
use Rattle.rq_model.specs.Ledger.{ledger}
use Rattle.rq_disk.specs.Device.{Images, Leaves}
use Rattle.rq_disk.specs.declared.mem_log.MemLog.{MemLog}
use Rattle.rq_disk.specs.declared.mem_pages.MemPages.{MemPages}
use Rattle.rq_log.specs.Spelled.{AreSpelled, spelled}
use Rattle.rq_engine.specs.Crash.{RunsThroughCuts}
use Rattle.rq_engine.specs.Devices.{Path}
use Rattle.rq_engine.specs.Opened.{OpenStore}
use Rattle.rq_core.specs.Devices.{mem_log, mem_pages}
use Rattle.rq_core.specs.Happenings.{Course, Happening}
use Rattle.rq_core.specs.Happenings.Answer.{Answered}
use Rattle.rq_core.specs.Happenings.Happening.{Asks, Crashes, Stops_in, Stops_restart}
use Rattle.rq_core.specs.Runs.{CanCrash}
use Rattle.rq_core.specs.Worked.{first_entries}
use Rattle.rq_cases.specs.Checkpoints.{based_log}
use Rattle.rq_cases.specs.Courses as courses
use Rattle.rq_cases.specs.Opened.{over}
use Rattle.rq_cases.specs.Run.{committed, forced, log_1, log_5, no_record}
use Rattle.rq_cases.specs.Store.{formatted_pages, sent_pages, sizes}
use Rattle.rq_cases.specs.Worlds.{Hold, course_to}

-- a run of calls of devices in memory, at each moment of which each pair that a crash may leave has this
abbrev pub Passes : (Images → List ℕ → Type 0) → MemPages → MemLog → MemPages → MemLog → Type 0
Passes Q pages log new now = Path mem_pages mem_log Q pages log new now

-- it leaves this log at no moment, or these pages
abbrev pub NeverLeaves : List ℕ → MemPages → MemLog → MemPages → MemLog → Type 0
NeverLeaves bytes = Passes (λ images left. left ≢ bytes)

abbrev pub NeverLeavesPages : Images → MemPages → MemLog → MemPages → MemLog → Type 0
NeverLeavesPages images = Passes (λ left bytes. left ≢ images)

abbrev pub Through : OpenStore MemPages MemLog → OpenStore MemPages MemLog → Type 0
Through old new = RunsThroughCuts mem_pages mem_log old new

pub record RunsAreJudged : Type 0 where
  -- before its first call, behind its last, or between
  pub left_at_its_start : (pages new : MemPages) (log now : MemLog) (bytes : List ℕ) → mem_log.may_leave log bytes
      → NeverLeaves bytes pages log new now → ⊥
  pub left_at_its_end : (pages new : MemPages) (log now : MemLog) (bytes : List ℕ) → mem_log.may_leave now bytes
      → NeverLeaves bytes pages log new now → ⊥
  pub left_between : (pages new : MemPages) (log now : MemLog) (bytes : List ℕ)
      → mem_log.left_since now (mem_log.moment log) bytes → NeverLeaves bytes pages log new now → ⊥
  pub pages_left_at_its_start : (pages new : MemPages) (log now : MemLog) (images : Images)
      → Leaves (mem_pages.may_be pages) images → NeverLeavesPages images pages log new now → ⊥
  pub pages_left_at_its_end : (pages new : MemPages) (log now : MemLog) (images : Images)
      → Leaves (mem_pages.may_be new) images → NeverLeavesPages images pages log new now → ⊥
  -- a call goes through cuts of the store's records alone
  pub page_ahead : (pages : MemPages) (log : MemLog) (new : OpenStore MemPages MemLog) → Hold pages sent_pages log log_1
      → Through (over committed pages log) new → ⊥
  pub forced_lost_between : (pages : MemPages) (log : MemLog) (new : OpenStore MemPages MemLog)
      → mem_log.left_since new.log (mem_log.moment log) (spelled log_1) → Through (over forced pages log) new → ⊥
  pub what_begins_no_record_at_its_end : (old new : OpenStore MemPages MemLog) → mem_log.may_leave new.log no_record
      → Through old new → ⊥

-- the power may fail so behind this course
abbrev pub MayFail : Course → Happening → MemPages → MemLog → Type 0
MayFail course x pages log = CanCrash sizes course x pages log

pub record CrashesAreJudged : Type 0 where
  -- the history tells what the log does
  pub ties : Ties (ledger (first_entries 9)) log_5
  pub ties_to_less : Ties (ledger (first_entries 9)) log_1 → ⊥
  pub once_forced : (pages : MemPages) (log : MemLog) → Hold pages formatted_pages log log_5
      → MayFail (course_to 9) Crashes pages log
  pub in_a_force : (pages : MemPages) (log : MemLog) → Hold pages formatted_pages log log_5
      → MayFail (course_to 9) (Stops_in Force) pages log
  -- a checkpoint may have left the Base
  pub in_a_checkpoint : (pages : MemPages) (log : MemLog) → Hold pages formatted_pages log based_log
      → MayFail (course_to 1) (Stops_in Checkpoint) pages log
  pub in_a_begin : (course : Course) (pages : MemPages) (log : MemLog) → MayFail course (Stops_in Begin) pages log → ⊥
  pub in_a_restart_of_an_open_store : (pages : MemPages) (log : MemLog)
      → MayFail courses.opened Stops_restart pages log → ⊥
  pub by_a_call : (course : Course) (pages : MemPages) (log : MemLog) → MayFail course (Asks Force) pages log → ⊥
  pub leaves_what_begins_no_record : (course : Course) (x : Happening) (pages : MemPages) (log : MemLog)
      → mem_log.may_leave log no_record → MayFail course x pages log → ⊥
  pub leaves_less_than_was_forced : (course : Course) (x : Happening) (pages : MemPages) (log : MemLog)
      (records : List Record) (n : ℕ) → AreSpelled records → length (marked records) < n
      → mem_log.may_leave log (spelled records)
      → MayFail ((Asks Force, Answered (Gave_forced n)) ∷ course) x pages log → ⊥
