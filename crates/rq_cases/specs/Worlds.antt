-- A store between two happenings, open, shut or fresh, and what a run of happenings says at its end. Both are over the worked
-- run, with devices in memory.
use Rattle.std.specs.Prelude.{◌≢◌, ℕ, ◌<◌, List, [], ◌∷◌, ◌++◌, length, take}
use Rattle.rq_model.specs.declared.record.Record.{Record}
use Rattle.rq_model.specs.declared.record.Record.TheVariants.{Commit}
use Rattle.rq_model.specs.Bases.{marked}
use Rattle.rq_model.specs.History.{Entry}
use Rattle.rq_model.specs.History.Call.{Begin, Force}
use Rattle.rq_model.specs.History.Entry.{Crash as Crash_entry}
use Rattle.rq_model.specs.Replay.Reply.{Gave_forced}
use Rattle.rq_disk.specs.Device.{Images}
use Rattle.rq_disk.specs.declared.mem_log.MemLog.{MemLog}
use Rattle.rq_disk.specs.declared.mem_pages.MemPages.{MemPages}
use Rattle.rq_record.specs.Spelling.{spelling}
use Rattle.rq_views.specs.WorkedItems.{t1}
use Rattle.rq_log.specs.Spelled.{AreSpelled, spelled}
use Rattle.rq_page.specs.Sizes.{Sizes}
use Rattle.rq_store.specs.Fitting.{image_in}
use Rattle.rq_store.specs.Steps.{page_op}
use Rattle.rq_engine.specs.Crash.{IsCut, LeavesCut}
use Rattle.rq_engine.specs.Opened.{OpenStore}
use Rattle.rq_core.specs.Devices.{mem_log, mem_pages}
use Rattle.rq_core.specs.Happenings.{Course, Happening, Tells}
use Rattle.rq_core.specs.Happenings.Answer.{Answered, Crashed, Nothing}
use Rattle.rq_core.specs.Happenings.Happening.{Asks, Crashes}
use Rattle.rq_core.specs.Headline.{LeftLast, sizes_at}
use Rattle.rq_core.specs.Runs.{IsFresh, IsHeadline}
use Rattle.rq_core.specs.Worked.{first_entries, happened, turned}
use Rattle.rq_core.specs.World.{IsOpen, IsShut}
use Rattle.rq_cases.specs.Opened.{AreNewPages, IsNewLog, over}
use Rattle.rq_cases.specs.Run.{log_1, log_5, no_record, committed, forced}
use Rattle.rq_cases.specs.Store.{fill_cell, formatted_pages, sent_pages, sizes}

-- the first happenings of the worked course: of seven the last is the commit, of nine the force
abbrev pub course_to : ℕ → Course
course_to n = turned (take n happened) []

-- then the power fails, and all five records are left
abbrev pub crashed_course : Course
crashed_course = (Crashes, Crashed 5) ∷ course_to 9

abbrev pub crashed : List Entry
crashed = Crash_entry 1 5 ∷ first_entries 9

abbrev pub Opens : Sizes → List Entry → OpenStore MemPages MemLog → Type 0
Opens z h e = IsOpen mem_pages mem_log z h e

abbrev pub Shuts : List Entry → MemPages → MemLog → Type 0
Shuts h pages log = IsShut mem_pages mem_log sizes h pages log

-- devices with these pages and these records, and no call since
abbrev pub Hold : MemPages → List (List ℕ) → MemLog → List Record → Type 0
Hold pages images log records = AreNewPages pages images × IsNewLog log records

pub record WorldsAreJudged : Type 0 where
  pub told : Tells (course_to 9) (first_entries 9)
  pub told_with_the_crash : Tells crashed_course crashed
  -- an open store stands where the history ends, and its pages fit what is forced
  pub open_at_its_end : (pages : MemPages) (log : MemLog) → Hold pages formatted_pages log log_1
      → Opens sizes (first_entries 7) (over committed pages log)
  pub open_once_forced : (pages : MemPages) (log : MemLog) → Hold pages formatted_pages log log_5
      → Opens sizes (first_entries 9) (over forced pages log)
  pub open_before_the_commit : (pages : MemPages) (log : MemLog)
      → Opens sizes (first_entries 6) (over committed pages log) → ⊥
  pub open_and_forced_too_early : (pages : MemPages) (log : MemLog)
      → Opens sizes (first_entries 7) (over forced pages log) → ⊥
  pub open_after_a_crash : (pages : MemPages) (log : MemLog) → Opens sizes crashed (over forced pages log) → ⊥
  pub open_of_another_size : (z : Sizes) (h : List Entry) (e : OpenStore MemPages MemLog) → e.state.sizes ≢ sizes_at z h
      → Opens z h e → ⊥
  pub open_with_a_page_ahead : (pages : MemPages) (log : MemLog) → AreNewPages pages sent_pages
      → Opens sizes (first_entries 7) (over committed pages log) → ⊥
  -- a store that is shut leaves what the history tells
  pub shut : (pages : MemPages) (log : MemLog) → Hold pages formatted_pages log log_5 → Shuts crashed pages log
  pub shut_while_open : (pages : MemPages) (log : MemLog) → Shuts (first_entries 9) pages log → ⊥
  pub shut_with_less : (pages : MemPages) (log : MemLog) → IsNewLog log log_1 → Shuts crashed pages log → ⊥
  -- a store that was formatted, and has no record
  pub fresh : (pages : MemPages) (log : MemLog) → Hold pages formatted_pages log [] → IsFresh sizes pages log
  pub fresh_with_a_record : (pages : MemPages) (log : MemLog) → IsNewLog log log_1 → IsFresh sizes pages log → ⊥

-- what a crash now leaves of an open store
pub record CutsAreJudged : Type 0 where
  pub leaves_cut : (pages : MemPages) (log : MemLog) → Hold pages formatted_pages log log_1
      → LeavesCut mem_pages mem_log (over committed pages log)
  pub cut : IsCut committed (image_in formatted_pages) (spelled log_1)
  pub nothing_lost : IsCut committed (image_in formatted_pages) (spelled log_5)
  pub forced_lost : (images : Images) → IsCut forced images (spelled log_1) → ⊥
  -- of the record behind, some bytes may be left, and of no other
  pub torn : IsCut committed (image_in formatted_pages) (spelled log_1 ++ take 7 (spelling (page_op t1 1 fill_cell)))
  pub torn_commit : (images : Images) → IsCut committed images (spelled log_1 ++ take 7 (spelling (Commit t1))) → ⊥
  pub begins_no_record : (images : Images) → IsCut committed images no_record → ⊥
  pub page_ahead : IsCut committed (image_in sent_pages) (spelled log_1) → ⊥

-- the headline of a course, at its end
pub record HeadlinesAreJudged : Type 0 where
  pub before_the_force : (pages : MemPages) (log : MemLog) → Hold pages formatted_pages log log_1
      → IsHeadline sizes (course_to 7) pages log
  pub after_the_crash : (pages : MemPages) (log : MemLog) → Hold pages formatted_pages log log_5
      → IsHeadline sizes crashed_course pages log
  pub tells_nothing : (pages : MemPages) (log : MemLog) → IsHeadline sizes ((Asks Begin, Nothing) ∷ []) pages log → ⊥
  pub loses_what_was_forced : (course : Course) (pages : MemPages) (log : MemLog) (records : List Record) (n : ℕ)
      → AreSpelled records → length (marked records) < n
      → mem_log.may_leave log (spelled records)
      → IsHeadline sizes ((Asks Force, Answered (Gave_forced n)) ∷ course) pages log → ⊥
  pub leaves_what_begins_no_record : (course : Course) (pages : MemPages) (log : MemLog) → mem_log.may_leave log no_record
      → IsHeadline sizes course pages log → ⊥
  -- after a crash so many records are left as it told
  pub left : (pages : MemPages) (log : MemLog) → Hold pages formatted_pages log log_5
      → LeftLast mem_pages mem_log sizes crashed crashed_course pages log
  pub leaves_another_count : (h : List Entry) (x : Happening) (course : Course) (pages : MemPages) (log : MemLog) (n : ℕ) → n ≢ 5
      → IsNewLog log log_5
      → LeftLast mem_pages mem_log sizes h ((x, Crashed n) ∷ course) pages log → ⊥
