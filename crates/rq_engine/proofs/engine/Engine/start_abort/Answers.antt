use Rattle.std.proofs.Common.{false, sym, ap, ◌∙◌, subst}
use Rattle.rq_model.specs.Tests.{NoneHolds, ready_tests}
use Rattle.rq_store.specs.State.{State, ledger_of}
use Rattle.rq_engine.specs.Answers.{HasNothingUnderWay}
use Rattle.rq_engine.proofs.AbortCalls.{abort_done, abort_kept}
use Rattle.rq_engine.proofs.Opened.{state_is}
use Rattle.rq_engine.proofs.Earlier.{from_inside_on}
use Rattle.rq_engine.proofs.Frames.{fixed_aborting}
use Rattle.rq_engine.proofs.engine.Engine.start_abort.Goals as goal

pub invariant_of-self : goal.invariant_of-self
invariant_of-self g c =
    let ready = subst (λ (s : State). HasNothingUnderWay s c.args.txn c.in_ok-check_open.field-0) (sym (state_is c.self.view_is)) c.in_ok-check_open.ensures.ready in
    record { kept = rw (c.start_abort.ensures) (abort_kept _ _ _ _ c.in_ok-check_open.field-0 c.args.txn c.self.invariant.kept ready); durable = c.self.invariant.durable; cells = c.self.invariant.cells; frames_are = rw (c.start_abort.ensures) (fixed_aborting c.self.inside.transactions c.args.txn c.in_ok-check_open.field-0 c.self.invariant.kept.distinct ready _ c.self.invariant.frames_are) }

pub returns-clause-answered : goal.returns-clause-answered
returns-clause-answered g c h earlier long =
    let ready = subst (λ (s : State). HasNothingUnderWay s c.args.txn c.in_ok-check_open.field-0) (sym (state_is c.self.view_is)) c.in_ok-check_open.ensures.ready in
    let tested = subst (λ (s : State). NoneHolds (ready_tests (ledger_of s) c.args.txn false)) (sym (state_is c.self.view_is)) c.in_ok-check_open.ensures.passes in
    let running = ap (λ (s : State). s.failed) (state_is c.self.view_is) ∙ c.in_ok-check_open.ensures.running in
    from_inside_on earlier (state_is c.self.view_is) long (λ as_many k. rw (c.start_abort.ensures) (abort_done _ c.args.txn c.in_ok-check_open.field-0 running tested ready k))
