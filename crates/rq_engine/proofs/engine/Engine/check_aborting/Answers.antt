use Rattle.std.proofs.Common.{Option, refl, sym, ap, ◌∙◌, arith, subst}
use Rattle.rq_model.specs.declared.txn.Txn.{Txn}
use Rattle.rq_model.specs.Vocabulary.{In, last}
use Rattle.rq_txn.specs.declared.Finished.{Finished}
use Rattle.rq_store.specs.State.{State}
use Rattle.rq_store.proofs.RowLists.{found_in}
use Rattle.rq_txn.specs.Rows.{Row, finished_of, found_row, row_of}
use Rattle.rq_engine.proofs.Keeping.{kept_at}
use Rattle.rq_engine.specs.Invariant.{IsDoneConsistent, IsLogged, end_of}
use Rattle.rq_engine.proofs.AbortCalls.{last_kept, turned_back, back_unknown, not_aborting, back_unfinished, back_ready}
use Rattle.rq_engine.proofs.Refusals.{some_way, no_way}
use Rattle.rq_engine.proofs.Opened.{state_is}
use Rattle.rq_engine.proofs.engine.Engine.check_aborting.Goals as goal

pub returns-in_default-clause-refused : goal.returns-in_default-clause-refused
returns-in_default-clause-refused g c =
    back_unknown c.args.self.now.state c.args.txn c.in_ok-check_running.ensures.running (ap (λ (s : State). found_row c.args.txn s.rows) (sym (state_is c.self.view_is)) ∙ c.in_default.ensures.found)

pub returns-then-not-row-clause-refused : goal.returns-then-not-row-clause-refused
returns-then-not-row-clause-refused g c =
    not_aborting c.args.self.now.state c.args.txn _ c.in_ok-check_running.ensures.running (ap (λ (s : State). found_row c.args.txn s.rows) (sym (state_is c.self.view_is)) ∙ c.in-Some.ensures.found) c.if-not-row.true

pub returns-then-is_some-clause-refused : goal.returns-then-is_some-clause-refused
returns-then-is_some-clause-refused g c =
    back_unfinished c.args.self.now.state c.args.txn _ c.in_ok-check_running.ensures.running (ap (λ (s : State). found_row c.args.txn s.rows) (sym (state_is c.self.view_is)) ∙ c.in-Some.ensures.found) c.if-not-row.false (some_way _ (sym c.if-is_some.ensures))

pub overflow_add-result : goal.overflow_add-result
overflow_add-result g c =
    let h = kept_at _ _ _ _ c.args.txn _ c.self.invariant.kept c.in-Some.ensures.found in
    let n = h.number in
    let m = c.self.invariant.kept.count in
    omega (arith, n, m)

pub returns-clause-passes : goal.returns-clause-passes
returns-clause-passes g c =
    back_ready c.args.self.now.state c.args.txn _ c.in_ok-check_running.ensures.running (ap (λ (s : State). found_row c.args.txn s.rows) (sym (state_is c.self.view_is)) ∙ c.in-Some.ensures.found) c.if-not-row.false (no_way _ (sym c.if-is_some.ensures))

pub returns-clause-ready : goal.returns-clause-ready
returns-clause-ready g c =
    turned_back c.args.self.now.state c.args.txn _ _ (ap (λ (s : State). found_row c.args.txn s.rows) (sym (state_is c.self.view_is)) ∙ c.in-Some.ensures.found)
    (no_way _ (sym c.if-is_some.ensures), refl, c.if-not-row.false, sym (ap (λ (o : Option Row). last (finished_of o)) (ap (λ (s : State). found_row c.args.txn s.rows) (sym (state_is c.self.view_is)) ∙ c.in-Some.ensures.found)))

pub returns-clause-kept : goal.returns-clause-kept
returns-clause-kept g c =
    let row = kept_at _ _ _ _ c.args.txn _ c.self.invariant.kept c.in-Some.ensures.found in
    last_kept (λ f. IsDoneConsistent c.args.self.now.state.sizes f) c.in-Some.row.now.finished.items _ (sym (ap (λ (o : Option Row). last (finished_of o)) (ap (λ (s : State). found_row c.args.txn s.rows) (sym (state_is c.self.view_is)) ∙ c.in-Some.ensures.found))) (subst (λ (s : State). (f : Finished) → In f c.in-Some.row.now.finished.items → IsDoneConsistent s.sizes f) (state_is c.self.view_is) row.done)

pub returns-clause-ended : goal.returns-clause-ended
returns-clause-ended g c =
    let at = found_in c.args.txn c.self.inside.transactions (row_of c.in-Some.row.now) c.in-Some.ensures.found in
    last_kept (λ f. IsLogged c.args.self.now.state.records f.lsn (end_of c.args.txn f)) c.in-Some.row.now.finished.items _ (sym (ap (λ (o : Option Row). last (finished_of o)) (ap (λ (s : State). found_row c.args.txn s.rows) (sym (state_is c.self.view_is)) ∙ c.in-Some.ensures.found)))
    (subst (λ (s : State). (f : Finished) → In f c.in-Some.row.now.finished.items → IsLogged s.records f.lsn (end_of c.args.txn f)) (state_is c.self.view_is)
    (subst (λ (t : Txn). (f : Finished) → In f c.in-Some.row.now.finished.items → IsLogged c.self.inside.log.records f.lsn (end_of t f)) at.1 (λ f i. c.self.invariant.kept.ended (row_of c.in-Some.row.now) f at.0 i)))
