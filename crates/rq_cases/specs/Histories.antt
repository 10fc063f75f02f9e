-- What goes on with a history whose store is not open, or got tag pages.
use Rattle.std.specs.Prelude.{[], ◌∷◌, List, Some}
use Rattle.rq_model.specs.declared.record.Record.TheVariants.{Restart as Restart_record}
use Rattle.rq_model.specs.Bases.{based}
use Rattle.rq_model.specs.declared.refusal.Refusal.TheVariants.{DiskWrite}
use Rattle.rq_model.specs.History.{Entry}
use Rattle.rq_model.specs.History.Call.{Checkpoint, Migrate}
use Rattle.rq_model.specs.History.Entry.{Migrated, Refused}
use Rattle.rq_model.specs.Promises.{EndsBy, EndsInCrash, EndsInRestart, crash_to}
use Rattle.rq_model.specs.Worked.{first_log, opened}
use Rattle.rq_model.specs.WorkedMarks.{untagged}
use Rattle.rq_cases.specs.Store.{small}

-- a store that was opened once, and crashed
abbrev pub crashed : List Entry
crashed = crash_to first_log opened ∷ opened

-- or got tag pages
abbrev pub migrated : List Entry
migrated = Migrated 1 2 ∷ opened

-- or a device refused that, or a checkpoint
abbrev pub refused_tag_pages : List Entry
refused_tag_pages = Refused (Migrate 1) DiskWrite ∷ opened

abbrev pub refused_one_record : List Entry
refused_one_record = Refused Checkpoint DiskWrite ∷ opened

pub record HistoriesGoOn : Type 0 where
  -- a crash in a restart may leave its record
  pub with_the_record_of_a_restart : EndsInCrash small crashed (Restart_record 2 ∷ first_log)
  pub with_nothing : EndsInCrash small crashed [] → ⊥
  -- one behind a checkpoint that a device refused may leave one record for all
  pub with_one_record : EndsInCrash small refused_one_record (based 1 first_log)
  -- one behind a migration leaves its record and the tag pages; one inside it, or behind one that a device refused, may
  pub with_tag_pages : EndsBy (Some 1) untagged migrated (based 1 first_log)
  pub with_tag_pages_over_less : EndsBy (Some 1) untagged migrated first_log → ⊥
  pub with_tag_pages_inside : EndsBy (Some 1) untagged opened (based 1 first_log)
  pub with_tag_pages_refused : EndsBy (Some 1) untagged refused_tag_pages (based 1 first_log)
  -- a restart is of the next incarnation, and makes a record
  pub restarted : EndsInRestart small crashed (Restart_record 2 ∷ first_log)
  pub restarted_in_the_same : EndsInRestart small crashed (Restart_record 1 ∷ first_log) → ⊥
  pub restarted_without_a_record : EndsInRestart small crashed first_log → ⊥
