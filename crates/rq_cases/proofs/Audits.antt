-- Audits that replay, engines that were sound when they were shared, and marks that were published.
use Rattle.std.proofs.Common.{◌≡◌, ◌≤◌, List, [], ◌∷◌, length, refl, ap, subst, arith}
use Rattle.rq_model.specs.declared.record.Record.{Record}
use Rattle.rq_model.specs.History.{Entry}
use Rattle.rq_model.specs.History.Call.{Begin}
use Rattle.rq_model.specs.History.Entry.{Begun, Started}
use Rattle.rq_model.specs.History.Job.{Taking}
use Rattle.rq_model.specs.Replay.Reply.{Gave_txn}
use Rattle.rq_model.specs.Ledger.{Ledger}
use Rattle.rq_model.specs.Legal.{Legal}
use Rattle.rq_disk.specs.declared.mem_log.MemLog.{MemLog}
use Rattle.rq_disk.specs.declared.mem_pages.MemPages.{MemPages}
use Rattle.rq_views.specs.WorkedItems.{t1, t2}
use Rattle.rq_store.specs.State.{ledger_of, size_of}
use Rattle.rq_engine.specs.Earlier.{IsSoundOver, on}
use Rattle.rq_engine.specs.Opened.{OpenStore}
use Rattle.rq_shared.specs.Entries.{Follows}
use Rattle.rq_core.specs.Devices.{mem_log, mem_pages}
use Rattle.rq_cases.specs.Audits.{AuditsAreJudged, LeadsNot, begun_behind, behind_a_base, beyond, took}
use Rattle.rq_cases.specs.Opened.{over}
use Rattle.rq_cases.specs.Run.{begun_again, forced, log_1, take_started}
use Rattle.rq_cases.specs.Store.{sizes}
use Rattle.rq_cases.proofs.Behind.{begin_behind, behind_sound}
use Rattle.rq_cases.proofs.Running as running

another : LeadsNot forced (record { pass = 1; call = Begin; gave = Gave_txn t1 } ∷ []) begun_again
another pages log f =
    let r = (f.replays (tt, tt) [] refl running.force.sound).1 in
    let legal : Legal (size_of sizes) (ledger_of forced) (Begun t1) =
    subst (λ (l : Ledger). Legal (size_of sizes) l (Begun t1)) r.2 (subst (λ (e : Entry). Legal (size_of sizes) r.0 e) r.3 r.4) in
    let e : 1 ≡ 2 = legal.2 in
    omega (arith, e)

not_behind : LeadsNot behind_a_base (record { pass = 1; call = Begin; gave = Gave_txn t1 } ∷ []) begun_behind
not_behind pages log f =
    let r = (f.replays (tt, tt) log_1 refl behind_sound).1 in
    let legal : Legal (size_of sizes) (ledger_of (on log_1 behind_a_base)) (Begun t1) =
    subst (λ (l : Ledger). Legal (size_of sizes) l (Begun t1)) r.2 (subst (λ (e : Entry). Legal (size_of sizes) r.0 e) r.3 r.4) in
    let e : 1 ≡ 2 = legal.1 in
    omega (arith, e)

-- the start of a receive of a transaction that is not open
pub left_out_of : (pages : MemPages) (log : MemLog) (engine : OpenStore MemPages MemLog) → Follows mem_pages mem_log (over forced pages log) (took ∷ []) engine → ⊥
left_out_of pages log engine f =
    let r = (f.replays (tt, tt) [] refl running.force.sound).1 in
    let legal : Legal (size_of sizes) (ledger_of forced) (Started t2 1 (Taking r.3.1)) =
    subst (λ (l : Ledger). Legal (size_of sizes) l (Started t2 1 (Taking r.3.1))) r.2
    (subst (λ (e : Entry). Legal (size_of sizes) r.0 e) r.3.2 r.4) in
    legal.1

-- of five records six are not forced
pub unsound : IsSoundOver beyond → ⊥
unsound k = (let f : 6 ≤ 5 = k.2.forced in omega (arith, f))

pub audits : AuditsAreJudged
audits = record {
  of_two_calls = λ pages log. record {
    sizes = refl;
    unknown = refl;
    replays = λ h e at k. (
      running.start_take.sound,
      (
        ledger_of begun_again,
        running.start_take.entry,
        (
          ledger_of forced,
          running.begin_again.entry,
          refl,
          running.begin_again.says,
          running.begin_again.legal,
          running.begin_again.after,
        ),
        running.start_take.says,
        running.start_take.legal,
        running.start_take.after,
      ),
    );
  };
  call_left_out = λ pages log. left_out_of pages log (over take_started pages log);
  all_left_out = λ pages log f.
      (let e : 2 ≡ 1 = ap (λ (l : Ledger). l.begins) (f.replays (tt, tt) [] refl running.force.sound).1 in omega (arith, e));
  another_number = another;
  another_call = λ pages log f. (f.replays (tt, tt) [] refl running.force.sound).1.3;
  adds_a_mark = λ pages log f. (let e : 6 ≡ 0 = ap (λ (l : List Record). length l) f.unknown in omega (arith, e));
  led_behind = λ pages log. record {
    sizes = refl;
    unknown = refl;
    replays = λ h e at k.
        let s = begin_behind e k in
        (s.sound, (ledger_of (on e behind_a_base), s.entry, refl, s.says, s.legal, s.after));
  };
  not_led_behind = not_behind;
  shared_sound = λ pages log premise honest. ([], refl, running.force.sound);
  shared_behind = λ pages log premise honest. (log_1, refl, behind_sound);
  shared_unsound = λ pages log w. unsound (w tt (tt, tt));
  shared_without_premise = λ pages log none honest. absurd none;
  began_sound = λ pages log premise honest. ([], refl, running.force.sound);
  began_unsound = λ pages log b. unsound (b tt (tt, tt));
  began_without_premise = λ pages log none honest. absurd none;
}
