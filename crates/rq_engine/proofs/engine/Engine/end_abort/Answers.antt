use Rattle.std.proofs.Common.{rules, ◌≡◌, sym, ap, ◌∙◌, subst, arith, None}
use Rattle.rq_model.specs.Tests.{log_full}
use Rattle.rq_store.specs.State.{State, ledger_of}
use Rattle.rq_engine.specs.Aborts.{IsTurnedBack}
use Rattle.rq_engine.specs.Answers.{HasNothingUnderWay, RefusesOver}
use Rattle.rq_model.specs.History.Call.{End_abort}
use Rattle.rq_model.specs.declared.refusal.Refusal.TheVariants as why
use Rattle.rq_engine.proofs.AbortCalls.{aborted_done, aborted_kept, end_full, end_memory, turned_idle}
use Rattle.rq_engine.proofs.Calls.{commit_range}
use Rattle.rq_engine.proofs.Opened.{state_is}
use Rattle.rq_engine.specs.Earlier.{on}
use Rattle.rq_engine.proofs.Earlier.{from_inside_on, full_on}
use Rattle.rq_engine.proofs.Frames.{fixed_without}
use Rattle.rq_engine.proofs.engine.Engine.end_abort.Goals as goal

pub returns-then-is_log_full-clause-answered : goal.returns-then-is_log_full-clause-answered
returns-then-is_log_full-clause-answered g c h earlier long =
    let s = on earlier c.args.self.now.state in
    let back = c.in_ok-check_undone.ensures.ready in
    end_full s c.args.txn back.0 c.in_ok-check_undone.ensures.passes back.1 (full_on earlier c.args.self.now.state long _ ∙ sym c.if-is_log_full.ensures)

pub append-requires-clause-record : goal.append-requires-clause-record
append-requires-clause-record g c =
    let back = c.in_ok-check_undone.ensures.ready in
    let idle = subst (λ (s : State). HasNothingUnderWay s c.args.txn back.0) (sym (state_is c.self.view_is)) (turned_idle c.args.self.now.state c.args.txn back.0 None back.1) in
    commit_range _ _ _ _ back.0 c.args.txn c.self.invariant.kept idle

pub invariant_of-self-2 : goal.invariant_of-self-2
invariant_of-self-2 g c =
    let back = c.in_ok-check_undone.ensures.ready in
    let idle = subst (λ (s : State). HasNothingUnderWay s c.args.txn back.0) (sym (state_is c.self.view_is)) (turned_idle c.args.self.now.state c.args.txn back.0 None back.1) in
    let full = ap (λ (s : State). log_full (ledger_of s) 1) (state_is c.self.view_is) ∙ sym c.if-is_log_full.ensures in
    let running = c.self.invariant.kept.fails (ap (λ (s : State). s.failed) (state_is c.self.view_is) ∙ c.in_ok-check_undone.ensures.running) in
    let failed : c.self.inside.log.failed ≡ c.append.new.self.failed = running ∙ sym c.append.ensures.failed in
    let room : c.append.new.self.reserved ≡ c.self.inside.log.reserved = (let a = c.append.ensures.reserved in let b = c.spelled_len.ensures in let d = ap (λ l. l.reserved) c.in_ok-reserve.ensures.ok in omega (arith, a, b, d)) in
    record {
      kept = rw (c.end.ensures, c.append.ensures.records, c.append.ensures.forced, room, sym failed, c.in_ok-reserve.ensures.ok)
          (aborted_kept _ _ _ _ back.0 c.args.txn _ c.release.new.self c.self.invariant.kept idle full);
      durable = rw (c.append.ensures.settled, c.in_ok-reserve.ensures.ok) c.self.invariant.durable;
      cells = c.self.invariant.cells;
      frames_are = rw (c.end.ensures) (fixed_without c.self.inside.transactions c.args.txn back.0 c.self.invariant.kept.distinct idle _ c.self.invariant.frames_are);
    }

pub returns-clause-answered : goal.returns-clause-answered
returns-clause-answered g c h earlier long =
    let back = c.in_ok-check_undone.ensures.ready in
    let inside = subst (λ (s : State). IsTurnedBack s c.args.txn back.0 None) (sym (state_is c.self.view_is)) back.1 in
    let full = ap (λ (s : State). log_full (ledger_of (on earlier s)) 1) (state_is c.self.view_is) ∙ full_on earlier c.args.self.now.state long 1 ∙ sym c.if-is_log_full.ensures in
    let running = ap (λ (s : State). s.failed) (state_is c.self.view_is) ∙ c.in_ok-check_undone.ensures.running in
    from_inside_on earlier (state_is c.self.view_is) long (λ as_many k. rw (c.end.ensures, c.release.ensures, c.append.ensures.records, c.append.ensures.forced, c.in_ok-reserve.ensures.ok) (aborted_done _ c.args.txn back.0 running inside full k))

pub returns-in_err-reserve-clause-answered : goal.returns-in_err-reserve-clause-answered
returns-in_err-reserve-clause-answered g c =
    let s = c.args.self.now.state in
    let back = c.in_ok-check_undone.ensures.ready in
    let refuses : RefusesOver s (End_abort c.args.txn) why.NoMemory = λ earlier long.
    end_memory (on earlier s) c.args.txn back.0 c.in_ok-check_undone.ensures.passes back.1 c.in_ok-check_undone.ensures.running (full_on earlier s long 1 ∙ sym c.if-is_log_full.ensures) in
    search (rules, refuses)
