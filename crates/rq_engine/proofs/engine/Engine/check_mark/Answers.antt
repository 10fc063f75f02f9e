use Rattle.std.proofs.Common.{◌≡◌, ◌<◌, sym, ap, ◌∙◌, arith, true}
use Rattle.rq_model.specs.Vocabulary.{client_group}
use Rattle.rq_page.specs.Sizes.{client_count, sender_count}
use Rattle.rq_groups.specs.Ends.{is_free_for}
use Rattle.rq_store.specs.State.{State}
use Rattle.rq_engine.proofs.MarkCalls.{busy, log_is_full, passes, unknown}
use Rattle.rq_engine.proofs.Opened.{state_is}
use Rattle.rq_engine.proofs.Tested.{mark_busy, mark_log_full, mark_tested, mark_unknown}
use Rattle.rq_engine.specs.Earlier.{on}
use Rattle.rq_engine.proofs.Earlier.{full_on}
use Rattle.rq_engine.proofs.engine.Engine.check_mark.Goals as goal

pub returns-then-client-clients-clause-refused : goal.returns-then-client-clients-clause-refused
returns-then-client-clients-clause-refused g c tag h earlier long =
    let s = on earlier c.args.self.now.state in
    let n : c.clients.result ≡ client_count s.sizes = c.clients.ensures.number ∙ ap client_count (c.layout.ensures.sizes ∙ ap (λ (x : State). x.sizes) (state_is c.self.view_is)) in
    unknown s c.args.txn c.args.client tag h (let ge = c.if-client-clients.true in omega (arith, n, ge))

pub returns-then-not-may_mark-clause-refused : goal.returns-then-not-may_mark-clause-refused
returns-then-not-may_mark-clause-refused g c tag h earlier long =
    let s = on earlier c.args.self.now.state in
    let n : c.clients.result ≡ client_count s.sizes = c.clients.ensures.number ∙ ap client_count (c.layout.ensures.sizes ∙ ap (λ (x : State). x.sizes) (state_is c.self.view_is)) in
    let lt = c.if-client-clients.false in
    let below : c.args.client < client_count s.sizes = omega (arith, n, lt) in
    busy s c.args.txn c.args.client tag h below (ap (λ (x : State). is_free_for c.args.txn (client_group c.args.client) x.ends.sending) (sym (state_is c.self.view_is)) ∙ sym c.if-not-may_mark.ensures)

pub returns-then-is_log_full-clause-refused : goal.returns-then-is_log_full-clause-refused
returns-then-is_log_full-clause-refused g c tag h earlier long =
    let s = on earlier c.args.self.now.state in
    let n : c.clients.result ≡ client_count s.sizes = c.clients.ensures.number ∙ ap client_count (c.layout.ensures.sizes ∙ ap (λ (x : State). x.sizes) (state_is c.self.view_is)) in
    let lt = c.if-client-clients.false in
    let below : c.args.client < client_count s.sizes = omega (arith, n, lt) in
    let free : is_free_for c.args.txn (client_group c.args.client) s.ends.sending ≡ true = ap (λ (x : State). is_free_for c.args.txn (client_group c.args.client) x.ends.sending) (sym (state_is c.self.view_is)) ∙ sym c.if-not-may_mark.ensures in
    log_is_full s c.args.txn c.args.client tag h below free (full_on earlier c.args.self.now.state long _ ∙ sym c.if-is_log_full.ensures)

pub returns-clause-passes : goal.returns-clause-passes
returns-clause-passes g c earlier tag long k h =
    let s = on earlier c.args.self.now.state in
    let n : c.clients.result ≡ client_count s.sizes = c.clients.ensures.number ∙ ap client_count (c.layout.ensures.sizes ∙ ap (λ (x : State). x.sizes) (state_is c.self.view_is)) in
    let lt = c.if-client-clients.false in
    let below : c.args.client < client_count s.sizes = omega (arith, n, lt) in
    let free : is_free_for c.args.txn (client_group c.args.client) s.ends.sending ≡ true = ap (λ (x : State). is_free_for c.args.txn (client_group c.args.client) x.ends.sending) (sym (state_is c.self.view_is)) ∙ sym c.if-not-may_mark.ensures in
    passes s c.args.txn c.args.client tag h below free (full_on earlier c.args.self.now.state long _ ∙ sym c.if-is_log_full.ensures) k

pub returns-clause-client : goal.returns-clause-client
returns-clause-client g c tag =
    let s = c.args.self.now.state in
    let z : c.layout.result ≡ s.sizes = c.layout.ensures.sizes ∙ ap (λ (x : State). x.sizes) (state_is c.self.view_is) in
    let n : c.clients.result ≡ client_count s.sizes = c.clients.ensures.number ∙ ap client_count z in
    let lt = c.if-client-clients.false in
    let high = c.layout.ensures.pool.range.directory_high in
    let few : sender_count s.sizes ≡ sender_count c.self.inside.pages.sizes = ap sender_count (ap (λ (x : State). x.sizes) (sym (state_is c.self.view_is))) in
    (omega (arith, n, lt), omega (arith, few, high))

pub returns-clause-free : goal.returns-clause-free
returns-clause-free g c = ap (λ (x : State). is_free_for c.args.txn (client_group c.args.client) x.ends.sending) (sym (state_is c.self.view_is)) ∙ sym c.if-not-may_mark.ensures

pub returns-then-client-clients-clause-leaves : goal.returns-then-client-clients-clause-leaves
returns-then-client-clients-clause-leaves g c tag h =
    let n : c.clients.result ≡ client_count c.args.self.now.state.sizes = c.clients.ensures.number ∙ ap client_count (c.layout.ensures.sizes ∙ ap (λ (s : State). s.sizes) (state_is c.self.view_is)) in
    mark_unknown c.args.self.now c.args.txn h c.args.client tag (let ge = c.if-client-clients.true in omega (arith, n, ge))

pub returns-then-not-may_mark-clause-leaves : goal.returns-then-not-may_mark-clause-leaves
returns-then-not-may_mark-clause-leaves g c tag h =
    let n : c.clients.result ≡ client_count c.args.self.now.state.sizes = c.clients.ensures.number ∙ ap client_count (c.layout.ensures.sizes ∙ ap (λ (s : State). s.sizes) (state_is c.self.view_is)) in
    let lt = c.if-client-clients.false in
    let below : c.args.client < client_count c.args.self.now.state.sizes = omega (arith, n, lt) in
    mark_busy c.args.self.now c.args.txn h c.args.client tag below (ap (λ (s : State). is_free_for c.args.txn (client_group c.args.client) s.ends.sending) (sym (state_is c.self.view_is)) ∙ sym c.if-not-may_mark.ensures)

pub returns-then-is_log_full-clause-leaves : goal.returns-then-is_log_full-clause-leaves
returns-then-is_log_full-clause-leaves g c tag h =
    let n : c.clients.result ≡ client_count c.args.self.now.state.sizes = c.clients.ensures.number ∙ ap client_count (c.layout.ensures.sizes ∙ ap (λ (s : State). s.sizes) (state_is c.self.view_is)) in
    let lt = c.if-client-clients.false in
    let below : c.args.client < client_count c.args.self.now.state.sizes = omega (arith, n, lt) in
    mark_log_full c.args.self.now c.args.txn h c.args.client tag below (ap (λ (s : State). is_free_for c.args.txn (client_group c.args.client) s.ends.sending) (sym (state_is c.self.view_is)) ∙ sym c.if-not-may_mark.ensures) (sym c.if-is_log_full.ensures)

pub returns-clause-tested : goal.returns-clause-tested
returns-clause-tested g c tag h =
    let n : c.clients.result ≡ client_count c.args.self.now.state.sizes = c.clients.ensures.number ∙ ap client_count (c.layout.ensures.sizes ∙ ap (λ (s : State). s.sizes) (state_is c.self.view_is)) in
    let lt = c.if-client-clients.false in
    let below : c.args.client < client_count c.args.self.now.state.sizes = omega (arith, n, lt) in
    mark_tested c.args.self.now c.args.txn h c.args.client tag below (ap (λ (s : State). is_free_for c.args.txn (client_group c.args.client) s.ends.sending) (sym (state_is c.self.view_is)) ∙ sym c.if-not-may_mark.ensures) (sym c.if-is_log_full.ensures)
