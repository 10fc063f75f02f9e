use Rattle.std.proofs.Common.{refl, sym, ap, ◌∙◌, arith}
use Rattle.rq_store.specs.State.{State}
use Rattle.rq_txn.specs.Rows.{found_row}
use Rattle.rq_engine.proofs.Keeping.{kept_at}
use Rattle.rq_engine.proofs.Refusals.{unknown, not_open, unfinished, ready, some_way, no_way}
use Rattle.rq_engine.proofs.Opened.{state_is}
use Rattle.rq_engine.proofs.engine.Engine.check_open.Goals as goal

pub returns-in_default-clause-refused : goal.returns-in_default-clause-refused
returns-in_default-clause-refused g c =
    unknown c.args.self.now.state c.args.txn c.in_ok-check_running.ensures.running (ap (λ (s : State). found_row c.args.txn s.rows) (sym (state_is c.self.view_is)) ∙ c.in_default.ensures.found)

pub returns-then-row-clause-refused : goal.returns-then-row-clause-refused
returns-then-row-clause-refused g c =
    not_open c.args.self.now.state c.args.txn _ c.in_ok-check_running.ensures.running (ap (λ (s : State). found_row c.args.txn s.rows) (sym (state_is c.self.view_is)) ∙ c.in-Some.ensures.found) c.if-row.true

pub returns-then-is_some-clause-refused : goal.returns-then-is_some-clause-refused
returns-then-is_some-clause-refused g c =
    unfinished c.args.self.now.state c.args.txn _ c.in_ok-check_running.ensures.running (ap (λ (s : State). found_row c.args.txn s.rows) (sym (state_is c.self.view_is)) ∙ c.in-Some.ensures.found) c.if-row.false (some_way _ (sym c.if-is_some.ensures))

pub overflow_add-result : goal.overflow_add-result
overflow_add-result g c =
    let h = kept_at _ _ _ _ c.args.txn _ c.self.invariant.kept c.in-Some.ensures.found in
    let n = h.number in
    let m = c.self.invariant.kept.count in
    omega (arith, n, m)

pub returns-clause-passes : goal.returns-clause-passes
returns-clause-passes g c =
    ready c.args.self.now.state c.args.txn _ c.in_ok-check_running.ensures.running (ap (λ (s : State). found_row c.args.txn s.rows) (sym (state_is c.self.view_is)) ∙ c.in-Some.ensures.found) c.if-row.false (no_way _ (sym c.if-is_some.ensures))

pub returns-clause-ready : goal.returns-clause-ready
returns-clause-ready g c =
    rw (ap (λ (s : State). found_row c.args.txn s.rows) (sym (state_is c.self.view_is)) ∙ c.in-Some.ensures.found) (no_way _ (sym c.if-is_some.ensures), refl)
