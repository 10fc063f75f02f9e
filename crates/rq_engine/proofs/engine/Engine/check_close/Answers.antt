use Rattle.std.proofs.Common.{◌≡◌, ◌<◌, sym, ap, ◌∙◌, arith, true}
use Rattle.rq_page.specs.Sizes.{sender_count, directory_at}
use Rattle.rq_page.specs.Slots.Slot.{Sender}
use Rattle.rq_views.specs.Stored.{slots_in}
use Rattle.rq_groups.specs.Ends.{is_free_for}
use Rattle.rq_store.specs.State.{State}
use Rattle.rq_engine.proofs.CloseCalls.{busy, closed, is_open, log_is_full, passes, unknown}
use Rattle.rq_engine.proofs.Opened.{state_is}
use Rattle.rq_engine.proofs.Tested.{close_busy, close_closed, close_log_full, close_tested, close_unknown}
use Rattle.rq_engine.specs.Earlier.{on}
use Rattle.rq_engine.proofs.Earlier.{full_on}
use Rattle.rq_engine.proofs.engine.Engine.check_close.Goals as goal

pub returns-then-sender-senders-clause-refused : goal.returns-then-sender-senders-clause-refused
returns-then-sender-senders-clause-refused g c h earlier long =
    let s = on earlier c.args.self.now.state in
    let n : c.senders.result ≡ sender_count s.sizes = c.senders.ensures.number ∙ ap sender_count (c.layout.ensures.sizes ∙ ap (λ (x : State). x.sizes) (state_is c.self.view_is)) in
    unknown s c.args.txn c.args.sender h (let ge = c.if-sender-senders.true in omega (arith, n, ge))

pub returns-then-not-may_send-clause-refused : goal.returns-then-not-may_send-clause-refused
returns-then-not-may_send-clause-refused g c h earlier long =
    let s = on earlier c.args.self.now.state in
    let n : c.senders.result ≡ sender_count s.sizes = c.senders.ensures.number ∙ ap sender_count (c.layout.ensures.sizes ∙ ap (λ (x : State). x.sizes) (state_is c.self.view_is)) in
    let lt = c.if-sender-senders.false in
    let below : c.args.sender < sender_count s.sizes = omega (arith, n, lt) in
    busy s c.args.txn c.args.sender h below (ap (λ (x : State). is_free_for c.args.txn c.args.sender x.ends.sending) (sym (state_is c.self.view_is)) ∙ sym c.if-not-may_send.ensures)

pub returns-then-is_closed-clause-refused : goal.returns-then-is_closed-clause-refused
returns-then-is_closed-clause-refused g c h earlier long =
    let s = on earlier c.args.self.now.state in
    let n : c.senders.result ≡ sender_count s.sizes = c.senders.ensures.number ∙ ap sender_count (c.layout.ensures.sizes ∙ ap (λ (x : State). x.sizes) (state_is c.self.view_is)) in
    let lt = c.if-sender-senders.false in
    let below : c.args.sender < sender_count s.sizes = omega (arith, n, lt) in
    let free : is_free_for c.args.txn c.args.sender s.ends.sending ≡ true = ap (λ (x : State). is_free_for c.args.txn c.args.sender x.ends.sending) (sym (state_is c.self.view_is)) ∙ sym c.if-not-may_send.ensures in
    let at : slots_in s.sizes s.images (directory_at c.args.sender) ≡ Sender c.args.sender c.is_closed.ensures.directory = ap (λ (x : State). slots_in x.sizes x.images (directory_at c.args.sender)) (sym (state_is c.self.view_is)) ∙ c.is_closed.ensures.held in
    closed s c.args.txn c.args.sender h below free c.is_closed.ensures.directory at (sym c.is_closed.ensures.tells ∙ c.if-is_closed.true)

pub returns-then-is_log_full-clause-refused : goal.returns-then-is_log_full-clause-refused
returns-then-is_log_full-clause-refused g c h earlier long =
    let s = on earlier c.args.self.now.state in
    let n : c.senders.result ≡ sender_count s.sizes = c.senders.ensures.number ∙ ap sender_count (c.layout.ensures.sizes ∙ ap (λ (x : State). x.sizes) (state_is c.self.view_is)) in
    let lt = c.if-sender-senders.false in
    let below : c.args.sender < sender_count s.sizes = omega (arith, n, lt) in
    let free : is_free_for c.args.txn c.args.sender s.ends.sending ≡ true = ap (λ (x : State). is_free_for c.args.txn c.args.sender x.ends.sending) (sym (state_is c.self.view_is)) ∙ sym c.if-not-may_send.ensures in
    let at : slots_in s.sizes s.images (directory_at c.args.sender) ≡ Sender c.args.sender c.is_closed.ensures.directory = ap (λ (x : State). slots_in x.sizes x.images (directory_at c.args.sender)) (sym (state_is c.self.view_is)) ∙ c.is_closed.ensures.held in
    log_is_full s c.args.txn c.args.sender h below free c.is_closed.ensures.directory at (sym c.is_closed.ensures.tells ∙ c.if-is_closed.false) (full_on earlier c.args.self.now.state long _ ∙ sym c.if-is_log_full.ensures)

pub returns-clause-passes : goal.returns-clause-passes
returns-clause-passes g c earlier long k h =
    let s = on earlier c.args.self.now.state in
    let n : c.senders.result ≡ sender_count s.sizes = c.senders.ensures.number ∙ ap sender_count (c.layout.ensures.sizes ∙ ap (λ (x : State). x.sizes) (state_is c.self.view_is)) in
    let lt = c.if-sender-senders.false in
    let below : c.args.sender < sender_count s.sizes = omega (arith, n, lt) in
    let free : is_free_for c.args.txn c.args.sender s.ends.sending ≡ true = ap (λ (x : State). is_free_for c.args.txn c.args.sender x.ends.sending) (sym (state_is c.self.view_is)) ∙ sym c.if-not-may_send.ensures in
    let at : slots_in s.sizes s.images (directory_at c.args.sender) ≡ Sender c.args.sender c.is_closed.ensures.directory = ap (λ (x : State). slots_in x.sizes x.images (directory_at c.args.sender)) (sym (state_is c.self.view_is)) ∙ c.is_closed.ensures.held in
    passes s c.args.txn c.args.sender h below free c.is_closed.ensures.directory at (sym c.is_closed.ensures.tells ∙ c.if-is_closed.false) (full_on earlier c.args.self.now.state long _ ∙ sym c.if-is_log_full.ensures) k

pub returns-clause-unclosed : goal.returns-clause-unclosed
returns-clause-unclosed g c earlier long k h =
    let s = on earlier c.args.self.now.state in
    let n : c.senders.result ≡ sender_count s.sizes = c.senders.ensures.number ∙ ap sender_count (c.layout.ensures.sizes ∙ ap (λ (x : State). x.sizes) (state_is c.self.view_is)) in
    let lt = c.if-sender-senders.false in
    let below : c.args.sender < sender_count s.sizes = omega (arith, n, lt) in
    let free : is_free_for c.args.txn c.args.sender s.ends.sending ≡ true = ap (λ (x : State). is_free_for c.args.txn c.args.sender x.ends.sending) (sym (state_is c.self.view_is)) ∙ sym c.if-not-may_send.ensures in
    let at : slots_in s.sizes s.images (directory_at c.args.sender) ≡ Sender c.args.sender c.is_closed.ensures.directory = ap (λ (x : State). slots_in x.sizes x.images (directory_at c.args.sender)) (sym (state_is c.self.view_is)) ∙ c.is_closed.ensures.held in
    is_open s c.args.txn c.args.sender h below free c.is_closed.ensures.directory at (sym c.is_closed.ensures.tells ∙ c.if-is_closed.false) k

pub returns-then-sender-senders-clause-leaves : goal.returns-then-sender-senders-clause-leaves
returns-then-sender-senders-clause-leaves g c h =
    let n : c.senders.result ≡ sender_count c.args.self.now.state.sizes = c.senders.ensures.number ∙ ap sender_count (c.layout.ensures.sizes ∙ ap (λ (s : State). s.sizes) (state_is c.self.view_is)) in
    close_unknown c.args.self.now c.args.txn h c.args.sender (let ge = c.if-sender-senders.true in omega (arith, n, ge))

pub returns-then-not-may_send-clause-leaves : goal.returns-then-not-may_send-clause-leaves
returns-then-not-may_send-clause-leaves g c h =
    let n : c.senders.result ≡ sender_count c.args.self.now.state.sizes = c.senders.ensures.number ∙ ap sender_count (c.layout.ensures.sizes ∙ ap (λ (s : State). s.sizes) (state_is c.self.view_is)) in
    let lt = c.if-sender-senders.false in
    let below : c.args.sender < sender_count c.args.self.now.state.sizes = omega (arith, n, lt) in
    close_busy c.args.self.now c.args.txn h c.args.sender below (ap (λ (s : State). is_free_for c.args.txn c.args.sender s.ends.sending) (sym (state_is c.self.view_is)) ∙ sym c.if-not-may_send.ensures)

pub returns-then-is_closed-clause-leaves : goal.returns-then-is_closed-clause-leaves
returns-then-is_closed-clause-leaves g c h =
    let n : c.senders.result ≡ sender_count c.args.self.now.state.sizes = c.senders.ensures.number ∙ ap sender_count (c.layout.ensures.sizes ∙ ap (λ (s : State). s.sizes) (state_is c.self.view_is)) in
    let lt = c.if-sender-senders.false in
    let below : c.args.sender < sender_count c.args.self.now.state.sizes = omega (arith, n, lt) in
    let free : is_free_for c.args.txn c.args.sender c.args.self.now.state.ends.sending ≡ true = ap (λ (s : State). is_free_for c.args.txn c.args.sender s.ends.sending) (sym (state_is c.self.view_is)) ∙ sym c.if-not-may_send.ensures in
    let at : slots_in c.args.self.now.state.sizes c.args.self.now.state.images (directory_at c.args.sender) ≡ Sender c.args.sender c.is_closed.ensures.directory = ap (λ (s : State). slots_in s.sizes s.images (directory_at c.args.sender)) (sym (state_is c.self.view_is)) ∙ c.is_closed.ensures.held in
    close_closed c.args.self.now c.args.txn h c.args.sender below free (record { directory = c.is_closed.ensures.directory; held = at; tells = sym c.if-is_closed.true ∙ c.is_closed.ensures.tells })

pub returns-then-is_log_full-clause-leaves : goal.returns-then-is_log_full-clause-leaves
returns-then-is_log_full-clause-leaves g c h =
    let n : c.senders.result ≡ sender_count c.args.self.now.state.sizes = c.senders.ensures.number ∙ ap sender_count (c.layout.ensures.sizes ∙ ap (λ (s : State). s.sizes) (state_is c.self.view_is)) in
    let lt = c.if-sender-senders.false in
    let below : c.args.sender < sender_count c.args.self.now.state.sizes = omega (arith, n, lt) in
    let free : is_free_for c.args.txn c.args.sender c.args.self.now.state.ends.sending ≡ true = ap (λ (s : State). is_free_for c.args.txn c.args.sender s.ends.sending) (sym (state_is c.self.view_is)) ∙ sym c.if-not-may_send.ensures in
    let at : slots_in c.args.self.now.state.sizes c.args.self.now.state.images (directory_at c.args.sender) ≡ Sender c.args.sender c.is_closed.ensures.directory = ap (λ (s : State). slots_in s.sizes s.images (directory_at c.args.sender)) (sym (state_is c.self.view_is)) ∙ c.is_closed.ensures.held in
    close_log_full c.args.self.now c.args.txn h c.args.sender below free (record { directory = c.is_closed.ensures.directory; held = at; tells = sym c.if-is_closed.false ∙ c.is_closed.ensures.tells }) (sym c.if-is_log_full.ensures)

pub returns-clause-tested : goal.returns-clause-tested
returns-clause-tested g c h =
    let n : c.senders.result ≡ sender_count c.args.self.now.state.sizes = c.senders.ensures.number ∙ ap sender_count (c.layout.ensures.sizes ∙ ap (λ (s : State). s.sizes) (state_is c.self.view_is)) in
    let lt = c.if-sender-senders.false in
    let below : c.args.sender < sender_count c.args.self.now.state.sizes = omega (arith, n, lt) in
    let free : is_free_for c.args.txn c.args.sender c.args.self.now.state.ends.sending ≡ true = ap (λ (s : State). is_free_for c.args.txn c.args.sender s.ends.sending) (sym (state_is c.self.view_is)) ∙ sym c.if-not-may_send.ensures in
    let at : slots_in c.args.self.now.state.sizes c.args.self.now.state.images (directory_at c.args.sender) ≡ Sender c.args.sender c.is_closed.ensures.directory = ap (λ (s : State). slots_in s.sizes s.images (directory_at c.args.sender)) (sym (state_is c.self.view_is)) ∙ c.is_closed.ensures.held in
    close_tested c.args.self.now c.args.txn h c.args.sender below free (record { directory = c.is_closed.ensures.directory; held = at; tells = sym c.if-is_closed.false ∙ c.is_closed.ensures.tells }) (sym c.if-is_log_full.ensures)
