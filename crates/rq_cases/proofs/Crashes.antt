-- Runs of calls of both devices, crashes that a course may meet, and pages and logs over their devices.
use Rattle.std.proofs.Common.{◌≡◌, ◌≢◌, ⊎_elim, ℕ, ◌≤◌, List, [], drop, refl, sym, ap, ◌∙◌, arith, None}
use Rattle.rq_model.specs.Incarnations.{Ties}
use Rattle.rq_model.specs.History.{Entry}
use Rattle.rq_model.specs.History.Call.{Force}
use Rattle.rq_model.specs.Ledger.{ledger}
use Rattle.rq_model.specs.Growth.{IsGrownBy, growth}
use Rattle.rq_model.specs.Promises.{CheckpointCrashGoesOn, CrashGoesOn}
use Rattle.rq_disk.specs.Device.{Images}
use Rattle.rq_disk.specs.Memory.{log_seen as log_device_seen}
use Rattle.rq_disk.specs.Shown.{log_of}
use Rattle.rq_disk.specs.declared.mem_log.MemLog.{MemLog}
use Rattle.rq_disk.specs.declared.mem_pages.MemPages.{MemPages}
use Rattle.rq_log.specs.Spelled.{spelled}
use Rattle.rq_store.specs.Fitting.{image_in}
use Rattle.rq_engine.specs.Crash.{IsCut}
use Rattle.rq_engine.specs.Devices.{EachPair, Path}
use Rattle.rq_engine.specs.Devices.Path.{Log, Pages, Start}
use Rattle.rq_core.specs.Devices.{mem_log, mem_pages}
use Rattle.rq_core.proofs.Devices.{log_now as log_since, page_now, path_end}
use Rattle.rq_core.specs.Happenings.{Happening, MayCrashIt, growth_in}
use Rattle.rq_core.specs.Happenings.Happening.{Crashes, Stops_in}
use Rattle.rq_core.specs.Worked.{first_entries}
use Rattle.rq_cases.specs.Crashes.{CrashesAreJudged, MayFail, RunsAreJudged}
use Rattle.rq_cases.specs.Run.{committed, forced, log_1, log_5, no_record}
use Rattle.rq_cases.specs.Store.{formatted_pages, sent_pages, small}
use Rattle.rq_cases.specs.Worlds.{Hold, course_to}
use Rattle.rq_cases.proofs.Bytes.{short_log}
use Rattle.rq_cases.proofs.Checkpoints.{in_one}
use Rattle.rq_cases.proofs.Held.{log_left, log_now}
use Rattle.rq_cases.proofs.Pages.{range}
use Rattle.rq_cases.proofs.Worlds.{cuts, forced_is_left, leaves_store, legal_crash, page_left, some_pages, told_9}
use Rattle.rq_cases.proofs.Restarting.{whole_5}

-- what a run goes through
module _ (Q : Images → List ℕ → Type 0) where
  starts_there : {pages new : MemPages} {log now : MemLog} → Path mem_pages mem_log Q pages log new now → EachPair mem_pages mem_log pages log Q
  starts_there (Start each) = each
  starts_there (Pages path leave) = starts_there path
  starts_there (Log path leave) = starts_there path

  ends_there : {pages new : MemPages} {log now : MemLog} → Path mem_pages mem_log Q pages log new now → EachPair mem_pages mem_log new now Q
  ends_there path = path_end mem_pages mem_log page_now log_since path

  -- at each moment the log that is left has it, with some images
  record Between (log now : MemLog) : Type 0 where
    pub later : mem_log.moment log ≤ mem_log.moment now
    pub each : (bytes : List ℕ) → mem_log.left_since now (mem_log.moment log) bytes → (images : Images) × Q images bytes

  goes_between : (pages new : MemPages) (log now : MemLog) → Path mem_pages mem_log Q pages log new now → Between log now
  goes_between pages new log now (Start each) = record {
    later = omega arith;
    each = λ bytes left. (mem_pages.seen pages, each (mem_pages.seen pages) bytes (some_pages pages) (log_now log bytes left));
  }
  goes_between pages new log now (Pages {mid = mid} path leave) = goes_between pages mid log now path
  goes_between pages new log now (Log {mid = mid} path leave) =
      let so_far = goes_between pages new log mid path in
      record {
        later = (let a = so_far.later in let b = leave.later in omega (arith, a, b));
        each = λ bytes left.
            ⊎_elim (λ was. so_far.each bytes was) (λ has. (mem_pages.seen new, has (mem_pages.seen new) (some_pages new)))
            (leave.before (mem_log.moment log) bytes so_far.later left);
      }

some_log : (d : MemLog) → mem_log.may_leave d (mem_log.seen d)
some_log d = log_device_seen (log_of d)

pub runs : RunsAreJudged
runs = record {
  left_at_its_start = λ pages new log now bytes may path.
      starts_there (λ images left. left ≢ bytes) path (mem_pages.seen pages) bytes (some_pages pages) may refl;
  left_at_its_end = λ pages new log now bytes may path.
      ends_there (λ images left. left ≢ bytes) path (mem_pages.seen new) bytes (some_pages new) may refl;
  left_between = λ pages new log now bytes left path.
      (let x = (goes_between (λ images left. left ≢ bytes) pages new log now path).each bytes left in x.1 refl);
  pages_left_at_its_start = λ pages new log now images may path.
      starts_there (λ left bytes. left ≢ images) path images (mem_log.seen log) may (some_log log) refl;
  pages_left_at_its_end = λ pages new log now images may path.
      ends_there (λ left bytes. left ≢ images) path images (mem_log.seen now) may (some_log now) refl;
  page_ahead = λ pages log new h path.
      cuts.page_ahead (starts_there (IsCut committed) path (image_in sent_pages) (spelled log_1) (page_left pages sent_pages h.0) (log_left log log_1 h.1));
  forced_lost_between = λ pages log new left path.
      (let x = (goes_between (IsCut forced) pages new.pages log new.log path).each (spelled log_1) left in
      cuts.forced_lost x.0 x.1);
  what_begins_no_record_at_its_end = λ old new may path.
      (let c = ends_there (IsCut old.state) path (mem_pages.seen new.pages) no_record (some_pages new.pages) may in
      short_log (drop c.lost old.state.records) c.told c.spells);
}

ties : Ties (ledger (first_entries 9)) log_5
ties = record { committed = refl; records = refl; incarnation = omega arith }

-- crashes
module _ (goes : CrashGoesOn small) (half : CheckpointCrashGoesOn small) where
  fails : (x : Happening) → MayCrashIt x (ledger (first_entries 9)).phase → IsGrownBy (growth_in x (growth (first_entries 9))) None → (pages : MemPages) (log : MemLog) → Hold pages formatted_pages log log_5 → MayFail (course_to 9) x pages log
  fails x may none pages log h = record {
    history = first_entries 9;
    tells = told_9;
    legal = legal_crash.1;
    range = range;
    may = may;
    leaves = λ images bytes a b. record {
      tags = None;
      left = none;
      now = log_5;
      store = leaves_store pages log h images bytes a b;
      ends = goes (first_entries 9) [] log_5 legal_crash.1 tt ties whole_5.rules (omega arith) (omega arith);
    };
  }

  pub crashes : CrashesAreJudged
  crashes = record {
    ties = ties;
    ties_to_less = λ t. (let e : 5 ≡ 1 = t.records in omega (arith, e));
    once_forced = fails Crashes tt tt;
    in_a_force = fails (Stops_in Force) (refl, refl) tt;
    in_a_checkpoint = in_one half;
    in_a_begin = λ course pages log k. (let e = k.may.1 in cc e);
    in_a_restart_of_an_open_store = λ pages log k.
        (let e = sym (ap (λ (h : List Entry). (ledger h).phase) k.tells.2.1) ∙ k.may in cc e);
    by_a_call = λ course pages log k. k.may;
    leaves_what_begins_no_record = λ course x pages log may k.
        (let y = k.leaves (mem_pages.seen pages) no_record (some_pages pages) may in short_log y.now y.store.are_spelled y.store.is);
    leaves_less_than_was_forced = λ course x pages log records n told few may k.
        forced_is_left course k.history pages log records n (growth_in x (growth k.history)) k.tells k.legal k.leaves told few may;
  }
