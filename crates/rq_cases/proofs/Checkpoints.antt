-- Stores behind a checkpoint, and in the midst of one.
use Rattle.std.proofs.Common.{rules, List, [], None, refl, sym, ap, ◌∙◌, inl, inr, arith}
use Rattle.rq_model.specs.declared.record.Record.{Record}
use Rattle.rq_model.specs.Bases.{standing}
use Rattle.rq_model.specs.History.Call.{Checkpoint}
use Rattle.rq_model.specs.Incarnations.{Ties}
use Rattle.rq_model.specs.Ledger.{group_in, ledger}
use Rattle.rq_model.specs.Legal.{IsLegal}
use Rattle.rq_model.specs.Promises.{CheckpointCrashGoesOn}
use Rattle.rq_model.proofs.Told.{content_is}
use Rattle.rq_disk.specs.declared.mem_log.MemLog.{MemLog}
use Rattle.rq_disk.specs.declared.mem_pages.MemPages.{MemPages}
use Rattle.rq_log.specs.Spelled.{AreSpelled}
use Rattle.rq_log.proofs.Kept.{fits_base}
use Rattle.rq_log.proofs.Runs.{ends_all, go_on_all}
use Rattle.rq_store.specs.Fitting.{AllFit, image_in}
use Rattle.rq_store.specs.Whole.{IsWhole}
use Rattle.rq_store.proofs.Based.{hold_base}
use Rattle.rq_store.proofs.Cutting.{fits_log, only_fit}
use Rattle.rq_sound.specs.Calls.{checkpointed, failed}
use Rattle.rq_sound.specs.Sound.{IsSound}
use Rattle.rq_sound.proofs.Checkpoints.{checkpoint_sound}
use Rattle.rq_engine.specs.Crash.{IsCut}
use Rattle.rq_engine.specs.Devices.{EachPair}
use Rattle.rq_engine.proofs.Crashing.{commits_of_cut}
use Rattle.rq_engine.proofs.Standing.{failed_steps}
use Rattle.rq_restart.specs.Underway.{IsStore}
use Rattle.rq_core.specs.Devices.{mem_log, mem_pages}
use Rattle.rq_core.specs.Happenings.{Tells}
use Rattle.rq_core.specs.Happenings.Happening.{Stops_in}
use Rattle.rq_core.specs.Worked.{first_entries}
use Rattle.rq_cases.specs.Checkpoints.{CheckpointsAreJudged, based_log}
use Rattle.rq_cases.specs.Crashes.{MayFail}
use Rattle.rq_cases.specs.Run.{fresh, log_1}
use Rattle.rq_cases.specs.Store.{formatted_pages, sizes, small}
use Rattle.rq_cases.specs.Worlds.{Hold, course_to}
use Rattle.rq_cases.proofs.Behind as behind
use Rattle.rq_cases.proofs.Bytes.{first_plain, first_spelled}
use Rattle.rq_cases.proofs.Held.{only_formatted, only_records, pages_fit}
use Rattle.rq_cases.proofs.Pages.{range}
use Rattle.rq_cases.proofs.Running.{fresh_sound}

-- devices that hold formatted pages and a log that these fit: it is left, whole
module _ (records : List Record) (told : AreSpelled records) (whole : IsWhole sizes records) (pages : MemPages) (log : MemLog) (h : Hold pages formatted_pages log records) (fit : AllFit (mem_pages.may_be pages) sizes records) where
  leaves : EachPair mem_pages mem_log pages log (IsStore sizes records)
  leaves images bytes a b = record {
    range = range;
    are_spelled = told;
    is = ends_all (standing records) bytes (only_records log records h.1 bytes b);
    left = record { whole = whole; fits = fits_log (mem_pages.may_be pages) sizes records images fit a; based = hold_base (mem_pages.may_be pages) sizes records images fit a };
  }

pub based_told : AreSpelled based_log
based_told = (fits_base 1 1 ((omega arith, omega arith, omega arith, omega arith)), tt)

module _ (pages : MemPages) (log : MemLog) (h : Hold pages formatted_pages log based_log) where
  based_fit : AllFit (mem_pages.may_be pages) sizes based_log
  based_fit = only_fit (image_in formatted_pages) (mem_pages.may_be pages) sizes based_log (only_formatted pages h.0) behind.fits behind.holds

  leaves_based : EachPair mem_pages mem_log pages log (IsStore sizes based_log)
  leaves_based = leaves based_log based_told behind.whole pages log h based_fit

  cut_based : EachPair mem_pages mem_log pages log (IsCut (checkpointed (failed fresh)))
  cut_based images bytes a b =
      let is = only_records log based_log h.1 bytes b in
      record {
        lost = 0;
        forced = omega arith;
        incarnation = omega arith;
        told = based_told;
        spells = ends_all (standing based_log) bytes is;
        begins = go_on_all (standing based_log) bytes is;
        store = (leaves_based images bytes a b).left;
        durable = omega arith;
        content = λ g. content_is g based_log behind.whole.rules ∙ ap (λ c. group_in c g) (sym (commits_of_cut 0 based_log));
      }

module _ (pages : MemPages) (log : MemLog) (h : Hold pages formatted_pages log log_1) where
  cut_first : EachPair mem_pages mem_log pages log (IsCut (failed fresh))
  cut_first images bytes a b =
      let is = only_records log log_1 h.1 bytes b in
      let store = leaves log_1 first_spelled fresh_sound.log pages log h (pages_fit pages h.0 log_1 (1, refl) first_plain) images bytes a b in
      record {
        lost = 0;
        forced = omega arith;
        incarnation = omega arith;
        told = first_spelled;
        spells = ends_all log_1 bytes is;
        begins = go_on_all log_1 bytes is;
        store = store.left;
        durable = omega arith;
        content = λ g. content_is g log_1 fresh_sound.log.rules ∙ ap (λ c. group_in c g) (sym (commits_of_cut 0 log_1));
      }

pub failed_sound : IsSound (failed fresh)
failed_sound = (failed_steps fresh fresh_sound refl Checkpoint).sound

pub checkpoints : CheckpointsAreJudged
checkpoints = record {
  open_behind_one = λ pages log h. record { sizes = refl; past = log_1; long = refl; ledger = refl; sound = checkpoint_sound fresh fresh_sound refl; devices = inl (record { untried = refl; stays = refl; fit = based_fit pages log h }) };
  shut_behind_one = λ pages log h. record {
    range = range;
    phase = refl;
    older = based_log;
    ties = record { committed = refl; records = refl; incarnation = omega arith };
    left = λ images bytes a b. (based_log, ([], refl, tt), leaves_based pages log h images bytes a b);
  };
  midway_as_it_was = λ pages log h. record { sizes = refl; past = []; long = refl; ledger = refl; sound = failed_sound; devices = inr (record { failed = refl; none_open = refl; leaves = λ images bytes a b. (None, tt, tt, inl (cut_first pages log h images bytes a b)) }) };
  midway_as_it_was_to_be = λ pages log h. record { sizes = refl; past = []; long = refl; ledger = refl; sound = failed_sound; devices = inr (record { failed = refl; none_open = refl; leaves = λ images bytes a b. (None, tt, tt, inr (record { none_open = refl; room = refl; cut_off = tt }, cut_based pages log h images bytes a b)) }) };
  midway_and_running = λ z h e half runs o. elim o.devices [
    | inl f ↦ (let e = sym half ∙ f.untried in cc e)
    | inr m ↦ (let e = sym runs ∙ m.failed in cc e)
  ];
  midway_with_one_open = λ z h e half some o. elim o.devices [
    | inl f ↦ (let e = sym half ∙ f.untried in cc e)
    | inr m ↦ some m.none_open
  ];
}

told_1 : Tells (course_to 1) (first_entries 1)
told_1 = (first_entries 0, refl, (refl, refl))

legal_1 : IsLegal small (first_entries 1)
legal_1 = search rules

ties_1 : Ties (ledger (first_entries 1)) log_1
ties_1 = record { committed = refl; records = refl; incarnation = omega arith }

-- the power may fail in one, and leave the Base
pub in_one : CheckpointCrashGoesOn small → (pages : MemPages) (log : MemLog) → Hold pages formatted_pages log based_log → MayFail (course_to 1) (Stops_in Checkpoint) pages log
in_one goes pages log h = record {
  history = first_entries 1;
  tells = told_1;
  legal = legal_1;
  range = range;
  may = (refl, refl);
  leaves = λ images bytes a b. record {
    tags = None;
    left = tt;
    now = based_log;
    store = leaves_based pages log h images bytes a b;
    ends = goes (first_entries 1) log_1 legal_1 tt ties_1 fresh_sound.log.rules (record { none_open = refl; room = refl; cut_off = refl });
  };
}
