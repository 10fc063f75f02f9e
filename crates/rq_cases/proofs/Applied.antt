-- What one call makes of a whole open store.
use Rattle.std.proofs.Common.{◌≡◌, Bool, ℕ, zero, suc, ◌+◌, ◌<◌, ◌≤◌, List, [], Ok, length, take, drop, refl, sym, ap, ◌∙◌, arith, ⊎_elim}
use Rattle.std.proofs.lemmas.List.{length-drop}
use Rattle.rq_model.specs.Causes.{writes_out}
use Rattle.rq_model.specs.declared.record.Record.{Record}
use Rattle.rq_model.specs.declared.refusal.Refusal.TheVariants as why
use Rattle.rq_disk.specs.declared.mem_log.MemLog.{MemLog}
use Rattle.rq_disk.specs.declared.mem_pages.MemPages.{MemPages}
use Rattle.rq_log.specs.Spelled.{EndsWith, spelled}
use Rattle.rq_page.specs.Pages.{lsn_of}
use Rattle.rq_store.specs.State.{State}
use Rattle.rq_engine.specs.declared.event.Event.TheVariants as event
use Rattle.rq_engine.specs.declared.event.Reply.TheVariants as reply
use Rattle.rq_engine.specs.Applied.{RefusedBy}
use Rattle.rq_engine.specs.Opened.{pooled}
use Rattle.rq_engine.specs.Says.{call_of}
use Rattle.rq_engine.proofs.Crashing.{runs_through_cuts}
use Rattle.rq_pool.specs.Held.{IsFramed, page_at}
use Rattle.rq_pool.specs.declared.Written.TheVariants.{Done}
use Rattle.rq_pool.proofs.KeptUp.{kept_after, kept_then}
use Rattle.rq_core.specs.Devices.{mem_log, mem_pages}
use Rattle.rq_cases.specs.Applied.{CallsAreApplied, Makes, MeetsAll, in_two_frames, written_out}
use Rattle.rq_cases.specs.Opened.{AreNewPages, IsForcedSince, IsNewLog, over}
use Rattle.rq_cases.specs.Run.{log_1, log_5, committed, forced}
use Rattle.rq_cases.specs.Store.{formatted_pages, page_image, cells_1}
use Rattle.rq_cases.proofs.Bytes.{first_spelled, records_spelled, spells_one, the_log}
use Rattle.rq_cases.proofs.Held.{pages_now, pages_fit, leaves_beginning, runs_through, forced_reads, forced_only}
use Rattle.rq_cases.proofs.Images.{lsn_is}
use Rattle.rq_cases.proofs.Pages.{cells_1_long}
use Rattle.rq_cases.proofs.Bytes.{first_plain}
use Rattle.rq_cases.proofs.Bytes.{records_plain}
use Rattle.rq_cases.proofs.Bytes.{drop_spelled}
use Rattle.std.proofs.Common.{subst}
use Rattle.rq_model.proofs.Bases.{all_stand, plain_drop}
use Rattle.rq_log.specs.Spelled.{EndsWithAll}
use Rattle.rq_cases.proofs.Running as running

cell_page_lsn : lsn_of (page_image 2 2 2 cells_1) ≡ 2
cell_page_lsn = lsn_is 2 2 2 cells_1 cells_1_long (omega arith)

-- the log is forced
force_meets : (pages : MemPages) (old : MemLog) → AreNewPages pages formatted_pages → MeetsAll (over committed pages old)
force_meets pages old p = record { honest = (tt, tt); sound = running.commit_send.sound; fit = pages_fit pages p log_1 (1, refl) first_plain }

module _ (pages : MemPages) (old new : MemLog) (p : AreNewPages pages formatted_pages) (l : IsNewLog old log_1) (f : IsForcedSince old new (spelled (take 4 log_5))) where
  pub force_made : Makes (over committed pages old) event.Force (reply.Forced 5) (over forced pages new)
  force_made = record {
    steps = λ h earlier long k. running.force;
    cause = λ h earlier long k. tt;
    latched = λ earlier long k. tt;
    frames = tt;
    frame_count = refl;
    sizes = refl;
    unknown = refl;
    replacing = refl;
    checkpoint = tt;
    failed = (λ e. cc e, λ e. cc e);
    refused = tt;
    lists = (refl, refl);
    begun = tt;
    changes = refl;
    starts = λ true_pages. tt;
    writes = tt;
    pages = refl;
    log = record {
      handed = record { faults = f.failures; reads = λ h. forced_reads log_5 records_plain 1 4 records_spelled (omega arith) old new l f };
      durable = λ h. forced_only log_5 records_plain 1 4 records_spelled (omega arith) old new l f;
    };
    honest = λ h. h;
    any_moment = λ none h. runs_through log_5 records_plain 1 4 records_spelled (omega arith) old new l f;
    fit = λ h whole earlier long k fit. pages_fit pages p log_5 (5, refl) records_plain;
    crash = λ none h earlier long k fit.
        runs_through_cuts mem_pages mem_log pages_now (over committed pages old) (over forced pages new) k fit (records_spelled, λ some. some) event.Force
        (reply.Forced 5) tt tt refl (leaves_beginning old log_1 l log_5 records_plain 1 4 (omega arith) refl)
        (runs_through log_5 records_plain 1 4 records_spelled (omega arith) old new l f);
  }

-- a log of five records, of which a crash leaves one at least
nothing_left : (lost : ℕ) → lost + 1 ≤ 5 → EndsWithAll (drop lost log_5) [] → ⊥
nothing_left lost le e =
    let ends : EndsWith (drop lost log_5) [] = subst (λ (l : List Record). EndsWithAll l []) (sym (all_stand (drop lost log_5) (plain_drop lost log_5 records_plain))) e in
    let none : drop lost log_5 ≡ [] = sym (the_log [] tt (drop lost log_5) [] tt (drop_spelled lost) refl ends) in
    let n : length (drop lost log_5) ≡ 0 = ap (λ (l : List Record). length l) none in
    let m = length-drop lost log_5 in
    omega (arith, n, m, le)

-- the directory page stands in none of two frames
outside : (pages : MemPages) (log : MemLog) → IsFramed (in_two_frames pages log).frames 1 → ⊥
outside pages log f = by f.at f.within f.is where
  by : (at : ℕ) → at < 2 → page_at (in_two_frames pages log).frames at ≡ 1 → ⊥
  by zero lt is = omega (arith, is)
  by (suc zero) lt is = omega (arith, is)
  by (suc (suc n)) lt is = omega (arith, lt)

pub applied : CallsAreApplied
applied = record {
  before_the_force = force_meets;
  log_forced = λ pages old new p l f. force_made pages old new p l f;
  another_sizes = λ old new e r other a. other a.sizes;
  failed_while_it_runs = λ old new e runs a. (let f = sym runs ∙ a.failed.0 refl in cc f);
  answered_while_it_failed = λ old new fails a. (let f = a.failed.1 fails in cc f);
  refused_and_changed = λ old new e reads other a. other (subst (λ (b : Bool). RefusedBy b (writes_out (call_of e)) (call_of e) old why.NoMemory new) reads a.refused);
  refused_by_a_test_and_changed = λ old new t other a. other a.refused.1;
  evicted = λ pages new log t sub after. (
    kept_after mem_pages 5 (pooled (in_two_frames pages log)) (pooled (written_out pages new log)) 2 (Ok Done)
        (record { of_store = omega arith; changed = refl }, let e = cell_page_lsn in omega (arith, e)) after refl refl refl,
    after.2,
    λ all. absurd (outside pages log (all 1 (omega arith) (omega arith))),
  );
  evicted_for_nothing = λ old new t r all other a. other (a.pages.2 all).0;
  evicted_again = λ forced old mid new a b. kept_then mem_pages forced old mid new a b;
  evicted_and_failed = λ old new t runs a.
      (let f = sym runs ∙ ap (λ (s : State). s.failed) a.refused.1 in cc f);
  failure_passed_over = λ old new t sub other a. other a.pages.1;
  failure_made_up = λ old new t low same a. (let f = a.pages.1.1.once in omega (arith, low, same, f));
  change_forgotten = λ old new t r page marked gone low a. (let f = (a.pages.0.written page marked gone).lsn in omega (arith, low, f));
  page_marked = λ old new t r page clean marked a. (let f = sym clean ∙ (a.pages.0.changed page marked).was in cc f);
  clean_page_written = λ old new t r page c clean may not a.
      ⊎_elim not (λ f. (let e = sym clean ∙ f.changed in cc e)) (a.pages.0.crash page c may);
  evicted_ahead_of_its_log = λ old new t r page c low may not a.
      ⊎_elim not (λ f. (let e = f.lsn in omega (arith, e, low))) (a.pages.0.crash page c may);
  another_image = λ old new t r other a. other (a.pages.0.images tt);
  log_touched = λ old new t r other a. other a.log;
  written_ahead_of_its_log = λ pages log new a.
      (let f : lsn_of (page_image 2 2 2 cells_1) ≤ 1 = a.writes.1.1 in let e = cell_page_lsn in omega (arith, e, f));
  nothing_to_write = λ pages log new a. (let f = a.writes.1 in cc f);
  mark_kept = λ pages log new same a. (let f = sym same ∙ a.changes in cc f);
  another_page_written = λ pages log new other a. other (a.pages.0 1);
  failed_and_runs = λ old new runs a.
      (let f = sym runs ∙ ap (λ (s : State). s.failed) a.refused in cc f);
  failed_without_a_failure = λ pages log new low same a. (let f = a.log.1 in omega (arith, low, same, f));
  forced_nothing = λ pages log new may a.
      (let e : spelled log_1 ≡ spelled log_5 = a.log.durable tt (spelled log_1) may in
      let f : 1 ≡ 5 = ap (λ (l : List Record). length l) (spells_one log_1 first_plain log_5 first_spelled records_spelled e) in
      omega (arith, f));
  left_nothing_meanwhile = λ pages log new left a.
      (let b = (a.any_moment refl tt).each [] left in nothing_left b.0 b.1 b.2);
}
