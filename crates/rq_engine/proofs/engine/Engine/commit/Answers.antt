use Rattle.std.proofs.Common.{rules, ◌≡◌, ℕ, ◌-◌, sym, ap, ◌∙◌, subst, arith, length, false}
use Rattle.std.specs.List.{sum_by}
use Rattle.rq_groups.specs.Ends.{released}
use Rattle.rq_store.specs.Settled.{takes_one}
use Rattle.rq_store.specs.State.{State, ledger_of}
use Rattle.rq_engine.specs.Answers.{HasNothingUnderWay, RefusesOver}
use Rattle.rq_model.specs.Tests.{NoneHolds, ready_tests, log_full}
use Rattle.rq_engine.proofs.Calls.{commit_range, commit_kept, commit_done, countable_on}
use Rattle.rq_engine.proofs.Opened.{state_is}
use Rattle.rq_engine.proofs.Listing.{committed_lists, committed_from}
use Rattle.rq_engine.specs.Earlier.{on}
use Rattle.rq_engine.proofs.Earlier.{from_inside_on, full_on, long as records_long}
use Rattle.rq_engine.proofs.Refusals.{commit_memory, refuse_full}
use Rattle.rq_model.specs.History.Call.{Commit}
use Rattle.rq_model.specs.declared.refusal.Refusal.TheVariants as why
use Rattle.rq_engine.proofs.Frames.{fixed_without}
use Rattle.rq_engine.proofs.engine.Engine.commit.Goals as goal

pub append-lsn-requires-clause-record : goal.append-lsn-requires-clause-record
append-lsn-requires-clause-record g c = commit_range _ _ _ _ c.in_ok-check_open.field-0 c.args.txn c.self.invariant.kept (subst (λ (s : State). HasNothingUnderWay s c.args.txn c.in_ok-check_open.field-0) (sym (state_is c.self.view_is)) c.in_ok-check_open.ensures.ready)

pub invariant_of-self-2 : goal.invariant_of-self-2
invariant_of-self-2 g c =
    let ready = subst (λ (s : State). HasNothingUnderWay s c.args.txn c.in_ok-check_open.field-0) (sym (state_is c.self.view_is)) c.in_ok-check_open.ensures.ready in
    let full = ap (λ (s : State). log_full (ledger_of s) 1) (state_is c.self.view_is) ∙ sym c.if-is_log_full.ensures in
    let running = c.self.invariant.kept.fails (ap (λ (s : State). s.failed) (state_is c.self.view_is) ∙ c.in_ok-check_open.ensures.running) in
    let failed : c.self.inside.log.failed ≡ c.append-lsn.new.self.failed = running ∙ sym c.append-lsn.ensures.failed in
    let room : c.append-lsn.new.self.reserved ≡ c.self.inside.log.reserved = (let a = c.append-lsn.ensures.reserved in let b = c.spelled_len.ensures in let d = ap (λ l. l.reserved) c.in_ok-reserve.ensures.ok in omega (arith, a, b, d)) in
    record {
      kept = rw (c.end.ensures, c.add_sends.ensures, c.count_sends.ensures, c.senders.ensures.number, c.layout.ensures.sizes, c.finished-finished.ensures, c.append-lsn.ensures.records, c.append-lsn.ensures.forced, room, sym failed, c.in_ok-reserve.ensures.ok)
          (commit_kept _ _ _ _ c.in_ok-check_open.field-0 c.args.txn _ c.release.new.self _ c.self.invariant.kept ready full);
      durable = rw (c.append-lsn.ensures.settled, c.in_ok-reserve.ensures.ok) c.self.invariant.durable;
      cells = c.self.invariant.cells;
      frames_are = rw (c.end.ensures) (fixed_without c.self.inside.transactions c.args.txn c.in_ok-check_open.field-0 c.self.invariant.kept.distinct ready _ c.self.invariant.frames_are);
    }

pub returns-clause-answered : goal.returns-clause-answered
returns-clause-answered g c h earlier long =
    let ready = subst (λ (s : State). HasNothingUnderWay s c.args.txn c.in_ok-check_open.field-0) (sym (state_is c.self.view_is)) c.in_ok-check_open.ensures.ready in
    let full = ap (λ (s : State). log_full (ledger_of (on earlier s)) 1) (state_is c.self.view_is) ∙ full_on earlier c.args.self.now.state long 1 ∙ sym c.if-is_log_full.ensures in
    let running = ap (λ (s : State). s.failed) (state_is c.self.view_is) ∙ c.in_ok-check_open.ensures.running in
    let tested = subst (λ (s : State). NoneHolds (ready_tests (ledger_of s) c.args.txn false)) (sym (state_is c.self.view_is)) c.in_ok-check_open.ensures.passes in
    let freed : c.release.new.self ≡ record { sending = released c.args.txn c.self.inside.ends.sending; receiving = released c.args.txn c.self.inside.ends.receiving } = c.release.ensures in
    from_inside_on earlier (state_is c.self.view_is) long (λ as_many k. rw (c.new.ensures.txn, c.new.ensures.lsn, c.append-lsn.ensures.lsn, c.end.ensures, freed, c.add_sends.ensures, c.count_sends.ensures, c.senders.ensures.number, c.layout.ensures.sizes, c.finished-finished.ensures, c.append-lsn.ensures.records, c.append-lsn.ensures.forced, c.in_ok-reserve.ensures.ok) (commit_done _ c.in_ok-check_open.field-0 _ _ c.args.txn (countable_on earlier _ c.self.invariant.kept) running tested ready full (let n = records_long earlier c.self.inside.log.records as_many in omega (arith, n)) (c.saturating_sub-self-inside.ensures ∙ ap (λ (n : ℕ). c.self.inside.cells_in_use - n) (c.count_takes.ensures ∙ ap (sum_by takes_one) c.finished-finished.ensures)) k))

pub returns-then-is_log_full-clause-answered : goal.returns-then-is_log_full-clause-answered
returns-then-is_log_full-clause-answered g c h earlier long = refuse_full (on earlier c.args.self.now.state) c.args.txn c.in_ok-check_open.ensures.passes (full_on earlier c.args.self.now.state long _ ∙ sym c.if-is_log_full.ensures)

pub returns-clause-lists : goal.returns-clause-lists
returns-clause-lists g c =
    let ready = subst (λ (s : State). HasNothingUnderWay s c.args.txn c.in_ok-check_open.field-0) (sym (state_is c.self.view_is)) c.in_ok-check_open.ensures.ready in
    let freed : c.release.new.self ≡ record { sending = released c.args.txn c.self.inside.ends.sending; receiving = released c.args.txn c.self.inside.ends.receiving } = c.release.ensures in
    committed_from c.args.txn _ _ (state_is c.self.view_is)
    (rw (c.end.ensures, freed, c.add_sends.ensures, c.count_sends.ensures, c.senders.ensures.number, c.layout.ensures.sizes, c.finished-finished.ensures, c.append-lsn.ensures.records, c.append-lsn.ensures.forced, c.in_ok-reserve.ensures.ok)
    (committed_lists _ c.args.txn c.in_ok-check_open.field-0 _ _ c.new.ensures.txn (let a = c.new.ensures.lsn in let b = c.append-lsn.ensures.lsn in let d = ap length c.append-lsn.ensures.records in let e = ap (λ l. length l.records) c.in_ok-reserve.ensures.ok in omega (arith, a, b, d, e)) ready
    (c.saturating_sub-self-inside.ensures ∙ ap (λ (n : ℕ). c.self.inside.cells_in_use - n) (c.count_takes.ensures ∙ ap (sum_by takes_one) c.finished-finished.ensures))))

pub returns-in_err-reserve-clause-answered : goal.returns-in_err-reserve-clause-answered
returns-in_err-reserve-clause-answered g c =
    let s = c.args.self.now.state in
    let refuses : RefusesOver s (Commit c.args.txn) why.NoMemory = λ earlier long.
    commit_memory (on earlier s) c.args.txn c.in_ok-check_open.ensures.passes c.in_ok-check_open.ensures.running (full_on earlier s long 1 ∙ sym c.if-is_log_full.ensures) in
    search (rules, refuses)
