-- What a restart has checked, what it leaves of a log, and why and where it was refused: over the worked run.
use Rattle.std.specs.Prelude.{◌≡◌, ◌≢◌, ℕ, ◌+◌, ◌-◌, ◌%◌, ◌^◌, ◌<◌, ◌≤◌, List, None, [], ◌∷◌, min, ◌++◌, length, take, false, true}
use Rattle.rq_model.specs.declared.record.Record.{Record}
use Rattle.rq_model.specs.declared.record.Record.TheVariants.{Commit, Restart}
use Rattle.rq_model.specs.declared.refusal.Refusal.{Refusal}
use Rattle.rq_model.specs.declared.refusal.Refusal.TheVariants as why
use Rattle.rq_model.specs.declared.refusal.Damage.{Damage}
use Rattle.rq_model.specs.History.Call.{Begin, Commit as Commit_call}
use Rattle.rq_disk.specs.Device.{Images}
use Rattle.rq_disk.specs.declared.device.LogDevice as log_device
use Rattle.rq_disk.specs.declared.device.PageDevice as page_device
use Rattle.rq_disk.specs.declared.mem_log.MemLog.{MemLog}
use Rattle.rq_disk.specs.declared.mem_pages.MemPages.{MemPages}
use Rattle.rq_record.specs.Spelling.{spelling}
use Rattle.rq_log.specs.Logged.{Logged}
use Rattle.rq_log.specs.Spelled.{spelled}
use Rattle.rq_views.specs.WorkedItems.{t1, t2}
use Rattle.rq_page.specs.Sizes.{page_count}
use Rattle.rq_page.specs.Pages.{lsn_of}
use Rattle.rq_pool.specs.Pooled.{image_at, is_changed}
use Rattle.rq_store.specs.Fitting.{image_in}
use Rattle.rq_store.specs.Steps.{page_op}
use Rattle.rq_engine.specs.Answers.{Refuses}
use Rattle.rq_engine.specs.Opened.{OpenStore}
use Rattle.rq_restart.specs.Leaving.{IsRepeatedTo}
use Rattle.rq_restart.specs.Refused.{BeginsNot, IsNotForced, LacksPage, MayBeShut}
use Rattle.rq_restart.specs.Opens.{KeepsStores, Opens, ReadWhereEnough}
use Rattle.rq_restart.specs.declared.restart.Report.{Report}
use Rattle.rq_restart.specs.Restarting.{BeginsAtMost, IsBegun, IsReady, IsRefusedFor, StopsOver, WasChecked}
use Rattle.rq_restart.specs.Underway.{IsLeftOrGoesOn, OfStores}
use Rattle.rq_restart.specs.Undoing.{IsToBeWritten}
use Rattle.rq_core.specs.Devices.{mem_log, mem_pages}
use Rattle.rq_core.specs.Runs.{IsRefused as StaysShut}
use Rattle.rq_cases.specs.Opened.{AreNewPages, IsNewLog}
use Rattle.rq_cases.specs.Reading.{no_cells}
use Rattle.rq_cases.specs.Restarting.{read_pages}
use Rattle.rq_cases.specs.Run.{forced, log_1, log_4, log_5}
use Rattle.rq_cases.specs.Store.{fill_cell, filled_pages, formatted_pages, freed_pages, sizes, taken_pages}
use Rattle.rq_cases.specs.Worlds.{Hold}

-- the log with the record that begins the next incarnation
abbrev pub log_next : List Record
log_next = Restart 2 ∷ log_5

-- both devices were read, and left so; this was checked of them
abbrev pub Checked : MemPages → MemLog → MemLog → Images → List Record → Type 0
Checked pages log new last records = WasChecked mem_pages mem_log pages log sizes last records pages new

pub record ChecksAreJudged : Type 0 where
  pub not_repeated : (pages : MemPages) (log new : MemLog) → IsNewLog log log_5 → AreNewPages pages formatted_pages
      → Checked pages log new read_pages log_next → ⊥
  pub no_record : (pages : MemPages) (log new : MemLog) (last : Images) → Checked pages log new last log_5 → ⊥
  pub another_incarnation : (pages : MemPages) (log new : MemLog) (last : Images)
      → Checked pages log new last (Restart 3 ∷ log_5) → ⊥
  pub one_open : (pages : MemPages) (log new : MemLog) (last : Images)
      → Checked pages log new last (Restart 2 ∷ log_4) → ⊥
  pub another_log : (pages : MemPages) (log new : MemLog) (last : Images) → IsNewLog log log_1
      → Checked pages log new last log_next → ⊥
  pub page_of_none : (pages : MemPages) (log new : MemLog) (last : Images) (records : List Record)
      → AreNewPages pages no_cells → Checked pages log new last records → ⊥
  pub no_room : (pages : MemPages) (log new : MemLog) (last : Images) (r : Record) (records : List Record)
      → 2 ^ 50 < length (r ∷ records) → Checked pages log new last (r ∷ records) → ⊥

-- a restart of these devices in so many frames was refused so, and left them so
abbrev pub IsRefused : MemPages → MemLog → ℕ → Refusal → MemPages → MemLog → Type 0
IsRefused pages log count r new_pages new_log = IsRefusedFor mem_pages mem_log pages log count r new_pages new_log

-- over the formatted pages it was refused for the log
abbrev pub Stops : Refusal → MemLog → MemLog → Type 0
Stops r old new = StopsOver mem_log sizes read_pages r old new

-- as many frames as there may be
abbrev pub most_frames : ℕ
most_frames = 67585

pub record RefusalsAreJudged : Type 0 where
  -- for its log
  pub unfinished : (pages new_pages : MemPages) (log new_log : MemLog) (count : ℕ)
      → IsRefused pages log count why.Unfinished new_pages new_log → ⊥
  pub otherwise : (pages new_pages : MemPages) (log new_log : MemLog) (count : ℕ)
      → IsRefused pages log count why.Full new_pages new_log → ⊥
  pub one_open : (old new : MemLog) → Stops why.Unfinished old new → ⊥
  -- for want of memory or for a device: one device failed once more, or none did
  pub memory_with_a_failure : (pages new_pages : MemPages) (log new_log : MemLog) (count : ℕ)
      → mem_log.faults new_log ≡ (mem_log.faults log + 1) % 2 ^ 64
      → IsRefused pages log count why.NoMemory new_pages new_log → ⊥
  pub write_without_failure : (pages new_pages : MemPages) (log new_log : MemLog) (count : ℕ)
      → mem_pages.faults new_pages ≡ mem_pages.faults pages → mem_log.faults new_log ≡ mem_log.faults log
      → IsRefused pages log count why.DiskWrite new_pages new_log → ⊥
  pub both_failed : (pages new_pages : MemPages) (log new_log : MemLog) (count : ℕ)
      → mem_pages.faults new_pages ≡ (mem_pages.faults pages + 1) % 2 ^ 64
      → mem_log.faults new_log ≡ (mem_log.faults log + 1) % 2 ^ 64
      → IsRefused pages log count why.DiskWrite new_pages new_log → ⊥
  -- behind records that were repeated, for want of a page in a frame. Or before them all, where what is read was not made durable.
  pub commit_lacks_a_page : (page : ℕ) → IsToBeWritten sizes (Commit t1) page → ⊥
  pub send_may_lack_its_page : IsToBeWritten sizes (page_op t1 1 fill_cell) 2
  pub page_lacks_for_memory : (front : List Record) (old new : MemLog)
      → LacksPage mem_log sizes front why.NoMemory old new → ⊥
  pub not_forced_behind_a_record : (r : Refusal) (old new : MemLog) → IsNotForced mem_log log_1 r old new → ⊥
  pub not_forced_without_failure : (r : Refusal) (old new : MemLog) → mem_log.faults new ≡ mem_log.faults old
      → IsNotForced mem_log [] r old new → ⊥
  -- why no incarnation was begun
  pub begins_not_of_five : BeginsNot why.LogFull 5 1 0 0 (Unit {0}) → ⊥
  pub may_not_be_shut : MayBeShut (Unit {0}) sizes log_4 why.Unfinished → ⊥
  pub damaged_though_left : (d : Damage) → MayBeShut (Unit {0}) sizes log_5 (why.Damaged d) → ⊥

-- restarts in frames enough, and in fewer
pub record FewFramesAreJudged : Type 0 where
  pub other_count : (pages : MemPages) (log : MemLog) (count : ℕ) (s : OpenStore MemPages MemLog) (report : Report)
      → length s.frames ≢ min (page_count s.state.sizes) (count + 1) → Opens mem_pages mem_log pages log count s report → ⊥
  -- whatever the pages are, a log of five records was empty at some moment, or is in the end
  pub log_emptied : (pages new_pages : MemPages) (log new_log : MemLog) → IsNewLog log log_5
      → mem_log.left_since new_log (mem_log.moment log) [] → KeepsStores mem_pages mem_log pages log new_pages new_log → ⊥
  pub log_left_empty : (pages new_pages : MemPages) (log new_log : MemLog) (count : ℕ) → IsNewLog log log_5
      → mem_log.seen new_log ≡ [] → IsRefused pages log count why.LogFull new_pages new_log → ⊥
  -- in frames enough pages were written, or the log was where no device failed in a write
  pub written_where_enough : (pages new_pages : MemPages) → AreNewPages pages formatted_pages
      → mem_pages.seen new_pages ≢ mem_pages.seen pages → ReadWhereEnough mem_pages pages new_pages 2 → ⊥
  pub opened_and_written : (pages : MemPages) (log : MemLog) (s : OpenStore MemPages MemLog) (report : Report)
      → s.state.sizes ≡ sizes → mem_pages.seen s.pages ≢ mem_pages.seen pages → Opens mem_pages mem_log pages log 2 s report → ⊥
  pub refused_and_written : (pages new_pages : MemPages) (log new_log : MemLog) (r : Refusal)
      → mem_pages.seen new_pages ≢ mem_pages.seen pages → IsRefused pages log most_frames r new_pages new_log → ⊥
  pub log_touched : (pages new_pages : MemPages) (log new_log : MemLog)
      → mem_log.seen new_log ≢ mem_log.seen log → IsRefused pages log most_frames why.LogFull new_pages new_log → ⊥
  -- a page counts as changed that is as it was read
  pub changed_for_nothing : (pages : MemPages) (log : MemLog) (count : ℕ) (s : OpenStore MemPages MemLog) (report : Report) (page : ℕ)
      → page < page_count s.state.sizes → is_changed s.changed page ≡ true
      → lsn_of (image_at s.state.images page) ≡ lsn_of (mem_pages.seen pages page)
      → Opens mem_pages mem_log pages log count s report → ⊥
  -- a crash leaves of the cell page what the send's first write makes of it; and of none what no record that was repeated does
  pub left_as_repeated : IsRepeatedTo sizes read_pages log_5 2 (image_in filled_pages 2)
  pub left_by_a_later_record : IsRepeatedTo sizes read_pages log_5 2 (image_in freed_pages 2) → ⊥
  pub left_without_a_header : (records : List Record) → IsRepeatedTo sizes read_pages records 2 [] → ⊥
  pub left_by_no_record : (pages : MemPages) (log : MemLog) (count : ℕ) (s : OpenStore MemPages MemLog) (report : Report)
      → AreNewPages pages formatted_pages → s.state.sizes ≡ sizes → length s.state.records ≤ 6
      → mem_pages.may_be s.pages 1 (image_in taken_pages 1) → Opens mem_pages mem_log pages log count s report → ⊥

module _ {P L : Type 0} (p : page_device.Ghosts P) (l : log_device.Ghosts L) where
  -- restarts whatever the devices are
  pub record OpeningsAreJudged : Type 0 where
    -- the LSN of a page is that of the Restart record, or beyond
    pub page_beyond_the_log : (pages : P) (log : L) (count : ℕ) (s : OpenStore P L) (report : Report) (page : ℕ) → 1 ≤ page
        → page < page_count s.state.sizes → length s.state.records - 1 < lsn_of (image_at s.state.images page)
        → Opens p l pages log count s report → ⊥
    -- a page of an honest device is older than it was read
    pub page_older_than_read : (pages : P) (log : L) (count : ℕ) (s : OpenStore P L) (report : Report) (page : ℕ) → p.honest s.pages
        → page < page_count s.state.sizes → lsn_of (image_at s.state.images page) < lsn_of (p.seen pages page)
        → Opens p l pages log count s report → ⊥

-- a log of these records, all of them forced, over a device
abbrev pub logged : List Record → MemLog → Logged MemLog
logged records d = record {
  records = records;
  forced = length records;
  pending = 0;
  reserved = 0;
  torn_at = None;
  failed = false;
  replacing = None;
  device = d;
  settled = d;
}

pub record BeginningsAreJudged : Type 0 where
  -- the record of the next incarnation is added, and forced
  pub begun_without_a_record : (d : MemLog) → IsBegun log_5 (logged log_5 d) → ⊥
  pub begun_the_same : (d : MemLog) → IsBegun log_5 (logged (Restart 1 ∷ log_5) d) → ⊥
  pub begun_and_not_forced : (d : MemLog) → IsBegun log_5 (record (logged log_next d) { forced = 5 }) → ⊥
  pub begun_and_failed : (d : MemLog) → IsBegun log_5 (record (logged log_next d) { failed = true }) → ⊥
  -- then an engine may be opened over it
  pub ready_for_none : (log : Logged MemLog) → IsReady mem_log 0 log → ⊥
  pub ready_and_failed : (i : ℕ) (log : Logged MemLog) → log.failed ≡ true → IsReady mem_log i log → ⊥
  pub ready_and_too_long : (i : ℕ) (log : Logged MemLog) → 2 ^ 50 < length log.records → IsReady mem_log i log → ⊥
  pub ready_behind_its_device : (d : MemLog) → IsNewLog d log_5 → IsReady mem_log 2 (logged log_next d) → ⊥
  pub ready_and_not_forced : (d : MemLog) → mem_log.may_leave d (spelled log_5)
      → IsReady mem_log 2 (logged log_next d) → ⊥
  -- at each moment a crash leaves the log as it was, or with that record
  pub record_lost : (old new : MemLog) → IsNewLog old log_5
      → mem_log.left_since new (mem_log.moment old) (spelled log_4)
      → BeginsAtMost mem_log sizes (image_in formatted_pages) old new → ⊥
  pub commit_added : (old new : MemLog) → IsNewLog old log_1
      → mem_log.left_since new (mem_log.moment old) (spelled (Commit t1 ∷ log_1))
      → BeginsAtMost mem_log sizes (image_in formatted_pages) old new → ⊥
  -- what is said of devices that hold a store is said of these
  pub of_stores : (pages : MemPages) (log new : MemLog) → Hold pages formatted_pages log log_5
      → OfStores mem_pages mem_log pages log pages new (λ z read. read ≡ log_5)
  pub of_other_stores : (pages : MemPages) (log new : MemLog) → Hold pages formatted_pages log log_5
      → OfStores mem_pages mem_log pages log pages new (λ z read. read ≡ log_4) → ⊥
  pub of_no_store : (pages : MemPages) (log new : MemLog) → Hold pages formatted_pages log log_5
      → OfStores mem_pages mem_log pages log pages new (λ z read. ⊥) → ⊥
  pub goes_on_with_a_commit : (log : MemLog) (images : Images) → IsNewLog log log_1
      → IsLeftOrGoesOn mem_log log sizes log_1 images (spelled (Commit t1 ∷ log_1)) → ⊥
  pub goes_on_with_a_torn_commit : (log : MemLog) (images : Images) → IsNewLog log log_1
      → IsLeftOrGoesOn mem_log log sizes log_1 images (spelled log_1 ++ take 7 (spelling (Commit t1))) → ⊥
  -- a store whose restart is refused stays as it was, for no damage
  pub shut_for_damage : (pages new_pages : MemPages) (log new_log : MemLog) (d : Damage)
      → Hold pages formatted_pages log log_5 → StaysShut pages log (why.Damaged d) new_pages new_log → ⊥
  pub shut_with_less : (pages new_pages : MemPages) (log new_log : MemLog) (r : Refusal)
      → Hold pages formatted_pages log log_5 → IsNewLog new_log log_1
      → StaysShut pages log r new_pages new_log → ⊥
  -- a call of a store may be refused so
  pub refuses_without_reason : Refuses forced Begin why.TooManyTransactions → ⊥
  pub refuses_without_cause : Refuses forced (Commit_call t2) why.DiskWrite → ⊥
