-- Worked histories with migrations: which are legal, what the store has then, and which are not legal.
use Rattle.std.specs.Prelude.{◌≡◌, ◌≢◌, ℕ, ◌+◌, ◌^◌, ◌<◌, ◌≤◌, List, [], ◌∷◌, false, None, Some}
use Rattle.rq_model.specs.declared.record.Record.{Record}
use Rattle.rq_model.specs.declared.refusal.Refusal.TheVariants.{BadTags, DiskWrite, Failed, LogFull, NotQuiet, UnknownClient}
use Rattle.rq_model.specs.History.{Entry}
use Rattle.rq_model.specs.History.Call.{Checkpoint, Migrate, Show, Start_mark}
use Rattle.rq_model.specs.History.Entry.{Begun, Crash, Grew, Migrated, Refused, Restarted, Started, Told_client}
use Rattle.rq_model.specs.History.Job.{Marking}
use Rattle.rq_model.specs.Ledger.{group_in, ledger}
use Rattle.rq_model.specs.Growth.{IsGrownBy, growth}
use Rattle.rq_model.specs.Legal.{IsLegal}
use Rattle.rq_model.specs.Tests.{size_at}
use Rattle.rq_model.specs.Worked.{committed_once, failed_force, hello, sent_once, small, txn}
use Rattle.rq_model.specs.WorkedMarks.{untagged}
use Rattle.rq_disk.specs.Device.{Images}
use Rattle.rq_disk.specs.declared.mem_log.MemLog.{MemLog}
use Rattle.rq_disk.specs.declared.mem_pages.MemPages.{MemPages}
use Rattle.rq_page.specs.Sizes.{page_count, with_tags}
use Rattle.rq_store.specs.Opening.{IsLeft}
use Rattle.rq_sound.specs.Calls.{failed}
use Rattle.rq_engine.specs.Migration.{KeepsBeyond}
use Rattle.rq_core.specs.Devices.{mem_pages}
use Rattle.rq_core.specs.Worked.{first_entries}
use Rattle.rq_cases.specs.Checkpoints.{based_log, behind, midway}
use Rattle.rq_cases.specs.Opened.{AreNewPages, IsWrittenSince, over}
use Rattle.rq_cases.specs.Store.{formatted_pages, grown_pages, sizes}
use Rattle.rq_cases.specs.Worlds.{Hold, Opens, Shuts}

-- one commit, and one tag page more
abbrev migrated : List Entry
migrated = Migrated 1 6 ∷ committed_once

-- a device refused it
abbrev refused : List Entry
refused = Refused (Migrate 1) DiskWrite ∷ committed_once

-- a store was opened over a log of the greatest length
abbrev filled : List Entry
filled = Restarted 1 (2 ^ 50) ∷ []

-- and the store is opened again
abbrev opened : List Entry
opened = Restarted 2 7 ∷ Grew 1 6 ∷ migrated

-- the store that was just opened gets a tag page
abbrev pub was_migrated : List Entry
was_migrated = Migrated 1 2 ∷ first_entries 1

pub record MigrationsAreJudged : Type 0 where
  pub answered : IsLegal untagged migrated
  pub refuses_all_then : IsLegal untagged (Refused Show Failed ∷ Refused (Migrate 1) Failed ∷ migrated)
  pub goes_on_then : IsLegal untagged (Begun (txn 1 2) ∷ migrated) → ⊥
  pub migrates_twice : IsLegal untagged (Migrated 1 7 ∷ migrated) → ⊥
  pub elsewhere : IsLegal untagged (Migrated 1 5 ∷ committed_once) → ⊥
  pub of_tagged : IsLegal small (Migrated 1 6 ∷ committed_once) → ⊥
  pub none : IsLegal untagged (Migrated 0 6 ∷ committed_once) → ⊥
  pub most : IsLegal untagged (Migrated 1024 6 ∷ committed_once)
  pub too_many : IsLegal untagged (Migrated 1025 6 ∷ committed_once) → ⊥
  pub of_open : IsLegal untagged (Migrated 1 5 ∷ sent_once) → ⊥
  pub refused_none : IsLegal untagged (Refused (Migrate 0) BadTags ∷ committed_once)
  pub refused_many : IsLegal untagged (Refused (Migrate 1025) BadTags ∷ committed_once)
  pub refused_tagged : IsLegal small (Refused (Migrate 1) BadTags ∷ committed_once)
  pub refused_for_nothing : IsLegal untagged (Refused (Migrate 1) BadTags ∷ committed_once) → ⊥
  pub not_quiet : IsLegal untagged (Refused (Migrate 1) NotQuiet ∷ sent_once)
  pub quiet : IsLegal untagged (Refused (Migrate 1) NotQuiet ∷ committed_once) → ⊥
  pub has_no_room : IsLegal untagged (Migrated 1 (2 ^ 50 + 1) ∷ filled) → ⊥
  pub full : IsLegal untagged (Refused (Migrate 1) LogFull ∷ filled)
  pub full_for_nothing : IsLegal untagged (Refused (Migrate 1) LogFull ∷ committed_once) → ⊥
  pub refused_then_for_a_device : IsLegal untagged (Refused (Migrate 1) DiskWrite ∷ migrated) → ⊥
  pub bad_before_quiet : IsLegal untagged (Refused (Migrate 0) NotQuiet ∷ sent_once) → ⊥
  -- what a crash leaves
  pub comes_through : IsLegal untagged opened
  pub loses_nothing : IsLegal untagged (Crash 1 5 ∷ migrated) → ⊥
  pub stopped_before : IsLegal untagged (Crash 1 5 ∷ refused)
  pub stopped_at_its_record : IsLegal untagged (Crash 1 6 ∷ refused)
  pub stopped_behind : IsLegal untagged (Grew 1 6 ∷ refused)
  pub stopped_without_its_record : IsLegal untagged (Grew 1 5 ∷ refused) → ⊥
  pub stopped_with_one_more : IsLegal untagged (Grew 1 7 ∷ refused) → ⊥
  pub cut_off_before : IsLegal untagged (Crash 0 4 ∷ refused)
  pub cut_off_behind : IsLegal untagged (Grew 1 4 ∷ refused) → ⊥
  pub inside : IsLegal untagged (Grew 1 6 ∷ committed_once)
  pub inside_without_its_record : IsLegal untagged (Grew 1 5 ∷ committed_once) → ⊥
  pub inside_with_one_more : IsLegal untagged (Grew 1 7 ∷ committed_once) → ⊥
  pub answered_of_less : IsLegal untagged (Grew 1 5 ∷ migrated) → ⊥
  pub answered_with_one_more : IsLegal untagged (Grew 1 7 ∷ migrated) → ⊥
  pub is_forgotten : IsLegal untagged (Crash 1 6 ∷ migrated) → ⊥
  pub other_pages : IsLegal untagged (Grew 2 6 ∷ migrated) → ⊥
  pub other_pages_than_refused : IsLegal untagged (Grew 2 6 ∷ refused) → ⊥
  pub grows_unasked : IsLegal untagged (Grew 1 6 ∷ failed_force) → ⊥
  pub grows_by_a_checkpoint : IsLegal untagged (Grew 1 6 ∷ Refused Checkpoint DiskWrite ∷ committed_once) → ⊥
  pub grows_full : IsLegal untagged (Grew 1 (2 ^ 50 + 1) ∷ filled) → ⊥
  pub grows_full_refused : IsLegal untagged (Grew 1 (2 ^ 50 + 1) ∷ Refused (Migrate 1) DiskWrite ∷ filled) → ⊥
  pub full_refused_at_its_record : IsLegal untagged (Crash 0 (2 ^ 50 + 1) ∷ Refused (Migrate 1) DiskWrite ∷ filled) → ⊥
  pub grows_none : IsLegal untagged (Grew 0 6 ∷ committed_once) → ⊥
  pub grows_too_many : IsLegal untagged (Grew 1025 6 ∷ committed_once) → ⊥
  pub grows_tagged : IsLegal small (Grew 1 6 ∷ committed_once) → ⊥
  pub grows_open : IsLegal untagged (Grew 1 5 ∷ sent_once) → ⊥
  pub grows_shut : IsLegal untagged (Grew 1 6 ∷ Crash 1 5 ∷ committed_once) → ⊥
  pub grows_twice : IsLegal untagged (Grew 1 8 ∷ opened) → ⊥
  -- it is a crash: the store is not open then, and another may come
  pub refuses_behind : IsLegal untagged (Refused Show Failed ∷ Grew 1 6 ∷ migrated)
  pub goes_on_behind : IsLegal untagged (Begun (txn 1 2) ∷ Grew 1 6 ∷ migrated) → ⊥
  pub crashes_behind : IsLegal untagged (Crash 1 6 ∷ Grew 1 6 ∷ migrated)
  pub content : group_in (ledger opened).committed 0
      ≡ record { sent = 1; last_tag = 7; received = 0; closed = false; rest = hello ∷ [] }
  pub size : size_at untagged opened ≡ small
  -- clients before and behind it
  pub unknown_before : IsLegal untagged (Refused (Start_mark (txn 1 2) 0 5) UnknownClient ∷ Begun (txn 1 2) ∷ committed_once)
  pub marks_before : IsLegal untagged (Started (txn 1 2) 1 (Marking 0 5) ∷ Begun (txn 1 2) ∷ committed_once) → ⊥
  pub marks_then : IsLegal untagged (Started (txn 2 1) 1 (Marking 14 5) ∷ Begun (txn 2 1) ∷ opened)
  pub unknown_then : IsLegal untagged (Refused (Start_mark (txn 2 1) 15 5) UnknownClient ∷ Begun (txn 2 1) ∷ opened)
  pub told_then : IsLegal untagged (Told_client 14 0 0 ∷ opened)
  pub refused_then : IsLegal untagged (Refused (Migrate 1) BadTags ∷ opened)
  -- what may be left of the tag pages
  pub must_grow : IsGrownBy (growth migrated) None → ⊥
  pub grows_as_asked : IsGrownBy (growth migrated) (Some 1)
  pub grows_otherwise : IsGrownBy (growth migrated) (Some 2) → ⊥
  pub may_stay : IsGrownBy (growth refused) None
  pub may_grow : IsGrownBy (growth refused) (Some 1)
  pub unasked : IsGrownBy (growth committed_once) (Some 1) → ⊥
  -- pages that are no store with tag pages: those of one without, and those of which one has no bytes
  pub untold : (n : ℕ) (log : List Record) (images : Images) → 1 ≤ n → n ≤ 1024 → IsLeft sizes images log
      → IsLeft (with_tags n sizes) images log → ⊥
  pub unwritten : (n p : ℕ) (log : List Record) (images : Images) → 1 ≤ p → p < page_count (with_tags n sizes) → images p ≡ []
      → IsLeft (with_tags n sizes) images log → ⊥
  -- Stores behind a migration, and in the midst of one: over the store that was just opened, with devices in memory.
  pub open_behind_one : (pages : MemPages) (log : MemLog) → Hold pages grown_pages log based_log
      → Opens sizes was_migrated (over (failed behind) pages log)
  pub open_without_tag_pages : (pages : MemPages) (log : MemLog) → Hold pages formatted_pages log based_log
      → Opens sizes was_migrated (over (failed behind) pages log) → ⊥
  pub shut_behind_one : (pages : MemPages) (log : MemLog) → Hold pages grown_pages log based_log
      → Shuts (Grew 1 2 ∷ was_migrated) pages log
  pub midway_grown : (pages : MemPages) (log : MemLog) → Hold pages grown_pages log based_log
      → Opens sizes (Refused (Migrate 1) DiskWrite ∷ first_entries 1) (midway pages log)
  -- a page is written behind the tag page, or in its place
  pub written_behind : (old new : MemPages) (image : List ℕ) → image ≢ [] → AreNewPages old grown_pages
      → IsWrittenSince old new 4 image → KeepsBeyond mem_pages 1 sizes old new → ⊥
  pub written_in_its_place : (old new : MemPages) (image : List ℕ) → AreNewPages old grown_pages
      → IsWrittenSince old new 3 image → KeepsBeyond mem_pages 1 sizes old new
