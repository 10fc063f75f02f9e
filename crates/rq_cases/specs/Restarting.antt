-- What a restart finds, makes and refuses, over the worked run.
use Rattle.std.specs.Prelude.{ℕ, List, [], ◌∷◌, length}
use Rattle.rq_disk.specs.Device.{Images}
use Rattle.rq_model.specs.declared.record.Record.{Record}
use Rattle.rq_model.specs.declared.refusal.Refusal.{Refusal}
use Rattle.rq_model.specs.declared.record.Record.TheVariants.{Commit, Restart}
use Rattle.rq_model.specs.declared.refusal.Damage.{Damage}
use Rattle.rq_model.specs.declared.refusal.Refusal.TheVariants as why
use Rattle.rq_disk.specs.declared.mem_log.MemLog.{MemLog}
use Rattle.rq_disk.specs.declared.mem_pages.MemPages.{MemPages}
use Rattle.rq_log.specs.Spelled.{spelled}
use Rattle.rq_views.specs.WorkedItems.{t1}
use Rattle.rq_store.specs.Fitting.{image_in}
use Rattle.rq_store.specs.Opening.{IsLeft}
use Rattle.rq_restart.specs.Restarting.{IsBegunOn, IsLeftOn, IsReadAs, Reports, Stops}
use Rattle.rq_restart.specs.RolledBack.{IsUnlinked}
use Rattle.rq_restart.specs.Refused.{WhyShut}
use Rattle.rq_restart.specs.Checked.{IsEnded, IsReadAndRedone}
use Rattle.rq_core.specs.Devices.{mem_log, mem_pages}
use Rattle.rq_cases.specs.Opened.{AreNewPages, IsNewLog}
use Rattle.rq_cases.specs.Run.{log_1, log_4, log_5}
use Rattle.rq_cases.specs.Store.{formatted_pages, sent_pages, sizes}

-- the pages as they were read, and once the log of the send is gone through
abbrev pub read_pages : Images
read_pages = image_in formatted_pages

-- a restart was refused for this over the log
abbrev pub Shuts : List Record → Refusal → Type 0
Shuts log r = WhyShut sizes log read_pages r

pub record RestartsAreJudged : Type 0 where
  pub reports_the_same_incarnation : (n undone gone : ℕ) → Reports sizes log_5 (Restart 2 ∷ log_5) 1 n undone gone
      → ⊥
  pub reports_no_record : (i undone gone : ℕ) → Reports sizes log_5 (Restart 2 ∷ log_5) i 5 undone gone → ⊥
  pub reports_one_lost : (i n undone : ℕ) → Reports sizes log_5 (Restart 2 ∷ log_5) i n undone 1 → ⊥
  pub one_lost : (records : List Record) → Reports sizes log_4 records 2 (length records) 0 1
  pub none_lost : (records : List Record) (i n undone : ℕ) → Reports sizes log_4 records i n undone 0 → ⊥
  -- what was read, and what was left
  pub read_as_less : (d new : MemLog) → IsNewLog d log_5 → IsReadAs mem_log d new log_4 → ⊥
  pub left_ahead : (d new : MemPages) → AreNewPages d sent_pages → IsLeftOn mem_pages sizes d new log_1 → ⊥
  -- every transaction in the log that did something has ended, whatever its operations
  pub transaction_open : IsEnded log_4 → ⊥
  -- the next incarnation is begun behind what was read, where they all have, and else once the others are undone
  pub begun_where_one_is_open : IsBegunOn sizes (image_in formatted_pages) (spelled log_4)
      (spelled (Restart 2 ∷ log_4)) → ⊥
  pub begun_by_a_commit : IsBegunOn sizes (image_in formatted_pages) (spelled log_1) (spelled (Commit t1 ∷ log_1)) → ⊥
  -- the log is gone through, and history repeated where a page is older
  pub not_repeated : IsReadAndRedone sizes log_5 read_pages read_pages → ⊥
  -- why it is refused
  pub unfinished : Shuts log_4 why.Unfinished → ⊥
  pub log_full_of_five : Shuts log_5 why.LogFull → ⊥
  pub disk_over_a_lone_commit : Shuts (Commit t1 ∷ []) why.DiskWrite → ⊥
  -- nor for chains, as they are whole once history is repeated; and where it is left so, for no damage at all
  pub chains_are_whole : (page : ℕ) → IsUnlinked sizes log_5 read_pages page → ⊥
  pub stops_unfinished : Stops (Unit {0}) sizes log_4 why.Unfinished 0 0 0 0 → ⊥
  pub stops_for_damage : (d : Damage) → Stops (IsLeft sizes (image_in formatted_pages) log_4) sizes log_4
      (why.Damaged d) 0 0 0 0 → ⊥
  pub stops_for_another : Stops (Unit {0}) sizes log_5 why.Full 0 0 0 0 → ⊥
