use Rattle.std.proofs.Common.{◌≡◌, ◌<◌, ◌≤◌, sym, ap, ◌∙◌, arith, length, true}
use Rattle.rq_page.specs.Sizes.{sender_count, cell_count, directory_at}
use Rattle.rq_page.specs.Slots.Slot.{Sender}
use Rattle.rq_views.specs.Stored.{slots_in}
use Rattle.rq_groups.specs.Ends.{is_free_for}
use Rattle.rq_store.specs.State.{State}
use Rattle.rq_engine.proofs.SendCalls.{busy, closed, full, log_is_full, passes}
use Rattle.rq_engine.proofs.Opened.{state_is}
use Rattle.rq_engine.proofs.Tested.{send_busy, send_closed, send_full, send_log_full, send_long, send_tested, send_unknown}
use Rattle.rq_engine.specs.Earlier.{on}
use Rattle.rq_engine.proofs.Earlier.{full_on}
use Rattle.rq_engine.proofs.engine.Engine.check_send.Goals as goal

pub returns-then-not-may_send-clause-refused : goal.returns-then-not-may_send-clause-refused
returns-then-not-may_send-clause-refused g c h earlier long =
    let n : c.senders.result ≡ sender_count c.args.self.now.state.sizes = c.senders.ensures.number ∙ ap sender_count (c.layout.ensures.sizes ∙ ap (λ (s : State). s.sizes) (state_is c.self.view_is)) in
    let lt = c.if-sender-senders.false in
    let below : c.args.sender < sender_count c.args.self.now.state.sizes = omega (arith, n, lt) in
    let short : length c.args.body.now ≤ 216 = (let t = c.if-body-gt-BODY_LIMIT.false in omega (arith, t)) in
    busy (on earlier c.args.self.now.state) c.args.txn c.args.sender c.args.tag c.args.body.now h below short (ap (λ (s : State). is_free_for c.args.txn c.args.sender s.ends.sending) (sym (state_is c.self.view_is)) ∙ sym c.if-not-may_send.ensures)

pub returns-then-is_closed-clause-refused : goal.returns-then-is_closed-clause-refused
returns-then-is_closed-clause-refused g c h earlier long =
    let n : c.senders.result ≡ sender_count c.args.self.now.state.sizes = c.senders.ensures.number ∙ ap sender_count (c.layout.ensures.sizes ∙ ap (λ (s : State). s.sizes) (state_is c.self.view_is)) in
    let lt = c.if-sender-senders.false in
    let below : c.args.sender < sender_count c.args.self.now.state.sizes = omega (arith, n, lt) in
    let short : length c.args.body.now ≤ 216 = (let t = c.if-body-gt-BODY_LIMIT.false in omega (arith, t)) in
    let free : is_free_for c.args.txn c.args.sender c.args.self.now.state.ends.sending ≡ true = ap (λ (s : State). is_free_for c.args.txn c.args.sender s.ends.sending) (sym (state_is c.self.view_is)) ∙ sym c.if-not-may_send.ensures in
    let at : slots_in c.args.self.now.state.sizes c.args.self.now.state.images (directory_at c.args.sender) ≡ Sender c.args.sender c.is_closed.ensures.directory = ap (λ (s : State). slots_in s.sizes s.images (directory_at c.args.sender)) (sym (state_is c.self.view_is)) ∙ c.is_closed.ensures.held in
    closed (on earlier c.args.self.now.state) c.args.txn c.args.sender c.args.tag c.args.body.now h below short free c.is_closed.ensures.directory at (sym c.is_closed.ensures.tells ∙ c.if-is_closed.true)

pub returns-then-self-from-clause-refused : goal.returns-then-self-from-clause-refused
returns-then-self-from-clause-refused g c h earlier long =
    let n : c.senders.result ≡ sender_count c.args.self.now.state.sizes = c.senders.ensures.number ∙ ap sender_count (c.layout.ensures.sizes ∙ ap (λ (s : State). s.sizes) (state_is c.self.view_is)) in
    let lt = c.if-sender-senders.false in
    let below : c.args.sender < sender_count c.args.self.now.state.sizes = omega (arith, n, lt) in
    let short : length c.args.body.now ≤ 216 = (let t = c.if-body-gt-BODY_LIMIT.false in omega (arith, t)) in
    let free : is_free_for c.args.txn c.args.sender c.args.self.now.state.ends.sending ≡ true = ap (λ (s : State). is_free_for c.args.txn c.args.sender s.ends.sending) (sym (state_is c.self.view_is)) ∙ sym c.if-not-may_send.ensures in
    let cells : c.cell_slots.result ≡ cell_count c.args.self.now.state.sizes = c.cell_slots.ensures.number ∙ ap cell_count (c.layout-2.ensures.sizes ∙ ap (λ (s : State). s.sizes) (state_is c.self.view_is)) in
    let used : c.self.inside.cells_in_use ≡ c.args.self.now.state.cells_in_use = ap (λ (s : State). s.cells_in_use) (state_is c.self.view_is) in
    let from : c.from.result ≡ c.cell_slots.result = c.from.ensures in
    let at : slots_in c.args.self.now.state.sizes c.args.self.now.state.images (directory_at c.args.sender) ≡ Sender c.args.sender c.is_closed.ensures.directory = ap (λ (s : State). slots_in s.sizes s.images (directory_at c.args.sender)) (sym (state_is c.self.view_is)) ∙ c.is_closed.ensures.held in
    full (on earlier c.args.self.now.state) c.args.txn c.args.sender c.args.tag c.args.body.now h below short free c.is_closed.ensures.directory at (sym c.is_closed.ensures.tells ∙ c.if-is_closed.false) (let t = c.if-self-from.true in omega (arith, t, cells, used, from))

pub returns-then-is_log_full-clause-refused : goal.returns-then-is_log_full-clause-refused
returns-then-is_log_full-clause-refused g c h earlier long =
    let n : c.senders.result ≡ sender_count c.args.self.now.state.sizes = c.senders.ensures.number ∙ ap sender_count (c.layout.ensures.sizes ∙ ap (λ (s : State). s.sizes) (state_is c.self.view_is)) in
    let lt = c.if-sender-senders.false in
    let below : c.args.sender < sender_count c.args.self.now.state.sizes = omega (arith, n, lt) in
    let short : length c.args.body.now ≤ 216 = (let t = c.if-body-gt-BODY_LIMIT.false in omega (arith, t)) in
    let free : is_free_for c.args.txn c.args.sender c.args.self.now.state.ends.sending ≡ true = ap (λ (s : State). is_free_for c.args.txn c.args.sender s.ends.sending) (sym (state_is c.self.view_is)) ∙ sym c.if-not-may_send.ensures in
    let cells : c.cell_slots.result ≡ cell_count c.args.self.now.state.sizes = c.cell_slots.ensures.number ∙ ap cell_count (c.layout-2.ensures.sizes ∙ ap (λ (s : State). s.sizes) (state_is c.self.view_is)) in
    let used : c.self.inside.cells_in_use ≡ c.args.self.now.state.cells_in_use = ap (λ (s : State). s.cells_in_use) (state_is c.self.view_is) in
    let from : c.from.result ≡ c.cell_slots.result = c.from.ensures in
    let at : slots_in c.args.self.now.state.sizes c.args.self.now.state.images (directory_at c.args.sender) ≡ Sender c.args.sender c.is_closed.ensures.directory = ap (λ (s : State). slots_in s.sizes s.images (directory_at c.args.sender)) (sym (state_is c.self.view_is)) ∙ c.is_closed.ensures.held in
    log_is_full (on earlier c.args.self.now.state) c.args.txn c.args.sender c.args.tag c.args.body.now h below short free c.is_closed.ensures.directory at (sym c.is_closed.ensures.tells ∙ c.if-is_closed.false) (let t = c.if-self-from.false in omega (arith, t, cells, used, from)) (full_on earlier c.args.self.now.state long _ ∙ sym c.if-is_log_full.ensures)

pub returns-clause-passes : goal.returns-clause-passes
returns-clause-passes g c earlier long k h =
    let n : c.senders.result ≡ sender_count c.args.self.now.state.sizes = c.senders.ensures.number ∙ ap sender_count (c.layout.ensures.sizes ∙ ap (λ (s : State). s.sizes) (state_is c.self.view_is)) in
    let lt = c.if-sender-senders.false in
    let below : c.args.sender < sender_count c.args.self.now.state.sizes = omega (arith, n, lt) in
    let short : length c.args.body.now ≤ 216 = (let t = c.if-body-gt-BODY_LIMIT.false in omega (arith, t)) in
    let free : is_free_for c.args.txn c.args.sender c.args.self.now.state.ends.sending ≡ true = ap (λ (s : State). is_free_for c.args.txn c.args.sender s.ends.sending) (sym (state_is c.self.view_is)) ∙ sym c.if-not-may_send.ensures in
    let cells : c.cell_slots.result ≡ cell_count c.args.self.now.state.sizes = c.cell_slots.ensures.number ∙ ap cell_count (c.layout-2.ensures.sizes ∙ ap (λ (s : State). s.sizes) (state_is c.self.view_is)) in
    let used : c.self.inside.cells_in_use ≡ c.args.self.now.state.cells_in_use = ap (λ (s : State). s.cells_in_use) (state_is c.self.view_is) in
    let from : c.from.result ≡ c.cell_slots.result = c.from.ensures in
    let at : slots_in c.args.self.now.state.sizes c.args.self.now.state.images (directory_at c.args.sender) ≡ Sender c.args.sender c.is_closed.ensures.directory = ap (λ (s : State). slots_in s.sizes s.images (directory_at c.args.sender)) (sym (state_is c.self.view_is)) ∙ c.is_closed.ensures.held in
    passes (on earlier c.args.self.now.state) c.args.txn c.args.sender c.args.tag c.args.body.now h below short free c.is_closed.ensures.directory at (sym c.is_closed.ensures.tells ∙ c.if-is_closed.false) (let t = c.if-self-from.false in omega (arith, t, cells, used, from)) (full_on earlier c.args.self.now.state long _ ∙ sym c.if-is_log_full.ensures) k

pub returns-then-sender-senders-clause-leaves : goal.returns-then-sender-senders-clause-leaves
returns-then-sender-senders-clause-leaves g c h =
    let n : c.senders.result ≡ sender_count c.args.self.now.state.sizes = c.senders.ensures.number ∙ ap sender_count (c.layout.ensures.sizes ∙ ap (λ (s : State). s.sizes) (state_is c.self.view_is)) in
    send_unknown c.args.self.now c.args.txn h c.args.sender c.args.tag c.args.body.now (let ge = c.if-sender-senders.true in omega (arith, n, ge))

pub returns-then-body-gt-BODY_LIMIT-clause-leaves : goal.returns-then-body-gt-BODY_LIMIT-clause-leaves
returns-then-body-gt-BODY_LIMIT-clause-leaves g c h =
    let n : c.senders.result ≡ sender_count c.args.self.now.state.sizes = c.senders.ensures.number ∙ ap sender_count (c.layout.ensures.sizes ∙ ap (λ (s : State). s.sizes) (state_is c.self.view_is)) in
    let lt = c.if-sender-senders.false in
    send_long c.args.self.now c.args.txn h c.args.sender c.args.tag c.args.body.now (omega (arith, n, lt)) (let t = c.if-body-gt-BODY_LIMIT.true in omega (arith, t))

pub returns-then-not-may_send-clause-leaves : goal.returns-then-not-may_send-clause-leaves
returns-then-not-may_send-clause-leaves g c h =
    let n : c.senders.result ≡ sender_count c.args.self.now.state.sizes = c.senders.ensures.number ∙ ap sender_count (c.layout.ensures.sizes ∙ ap (λ (s : State). s.sizes) (state_is c.self.view_is)) in
    let lt = c.if-sender-senders.false in
    let below : c.args.sender < sender_count c.args.self.now.state.sizes = omega (arith, n, lt) in
    let short : length c.args.body.now ≤ 216 = (let t = c.if-body-gt-BODY_LIMIT.false in omega (arith, t)) in
    send_busy c.args.self.now c.args.txn h c.args.sender c.args.tag c.args.body.now below short (ap (λ (s : State). is_free_for c.args.txn c.args.sender s.ends.sending) (sym (state_is c.self.view_is)) ∙ sym c.if-not-may_send.ensures)

pub returns-then-is_closed-clause-leaves : goal.returns-then-is_closed-clause-leaves
returns-then-is_closed-clause-leaves g c h =
    let n : c.senders.result ≡ sender_count c.args.self.now.state.sizes = c.senders.ensures.number ∙ ap sender_count (c.layout.ensures.sizes ∙ ap (λ (s : State). s.sizes) (state_is c.self.view_is)) in
    let lt = c.if-sender-senders.false in
    let below : c.args.sender < sender_count c.args.self.now.state.sizes = omega (arith, n, lt) in
    let short : length c.args.body.now ≤ 216 = (let t = c.if-body-gt-BODY_LIMIT.false in omega (arith, t)) in
    let free : is_free_for c.args.txn c.args.sender c.args.self.now.state.ends.sending ≡ true = ap (λ (s : State). is_free_for c.args.txn c.args.sender s.ends.sending) (sym (state_is c.self.view_is)) ∙ sym c.if-not-may_send.ensures in
    let at : slots_in c.args.self.now.state.sizes c.args.self.now.state.images (directory_at c.args.sender) ≡ Sender c.args.sender c.is_closed.ensures.directory = ap (λ (s : State). slots_in s.sizes s.images (directory_at c.args.sender)) (sym (state_is c.self.view_is)) ∙ c.is_closed.ensures.held in
    send_closed c.args.self.now c.args.txn h c.args.sender c.args.tag c.args.body.now below short free (record { directory = c.is_closed.ensures.directory; held = at; tells = sym c.if-is_closed.true ∙ c.is_closed.ensures.tells })

pub returns-then-self-from-clause-leaves : goal.returns-then-self-from-clause-leaves
returns-then-self-from-clause-leaves g c h =
    let n : c.senders.result ≡ sender_count c.args.self.now.state.sizes = c.senders.ensures.number ∙ ap sender_count (c.layout.ensures.sizes ∙ ap (λ (s : State). s.sizes) (state_is c.self.view_is)) in
    let lt = c.if-sender-senders.false in
    let below : c.args.sender < sender_count c.args.self.now.state.sizes = omega (arith, n, lt) in
    let short : length c.args.body.now ≤ 216 = (let t = c.if-body-gt-BODY_LIMIT.false in omega (arith, t)) in
    let free : is_free_for c.args.txn c.args.sender c.args.self.now.state.ends.sending ≡ true = ap (λ (s : State). is_free_for c.args.txn c.args.sender s.ends.sending) (sym (state_is c.self.view_is)) ∙ sym c.if-not-may_send.ensures in
    let at : slots_in c.args.self.now.state.sizes c.args.self.now.state.images (directory_at c.args.sender) ≡ Sender c.args.sender c.is_closed.ensures.directory = ap (λ (s : State). slots_in s.sizes s.images (directory_at c.args.sender)) (sym (state_is c.self.view_is)) ∙ c.is_closed.ensures.held in
    let cells : c.cell_slots.result ≡ cell_count c.args.self.now.state.sizes = c.cell_slots.ensures.number ∙ ap cell_count (c.layout-2.ensures.sizes ∙ ap (λ (s : State). s.sizes) (state_is c.self.view_is)) in
    let used : c.self.inside.cells_in_use ≡ c.args.self.now.state.cells_in_use = ap (λ (s : State). s.cells_in_use) (state_is c.self.view_is) in
    let from : c.from.result ≡ c.cell_slots.result = c.from.ensures in
    send_full c.args.self.now c.args.txn h c.args.sender c.args.tag c.args.body.now below short free (record { directory = c.is_closed.ensures.directory; held = at; tells = sym c.if-is_closed.false ∙ c.is_closed.ensures.tells }) (let t = c.if-self-from.true in omega (arith, t, cells, used, from))

pub returns-then-is_log_full-clause-leaves : goal.returns-then-is_log_full-clause-leaves
returns-then-is_log_full-clause-leaves g c h =
    let n : c.senders.result ≡ sender_count c.args.self.now.state.sizes = c.senders.ensures.number ∙ ap sender_count (c.layout.ensures.sizes ∙ ap (λ (s : State). s.sizes) (state_is c.self.view_is)) in
    let lt = c.if-sender-senders.false in
    let below : c.args.sender < sender_count c.args.self.now.state.sizes = omega (arith, n, lt) in
    let short : length c.args.body.now ≤ 216 = (let t = c.if-body-gt-BODY_LIMIT.false in omega (arith, t)) in
    let free : is_free_for c.args.txn c.args.sender c.args.self.now.state.ends.sending ≡ true = ap (λ (s : State). is_free_for c.args.txn c.args.sender s.ends.sending) (sym (state_is c.self.view_is)) ∙ sym c.if-not-may_send.ensures in
    let at : slots_in c.args.self.now.state.sizes c.args.self.now.state.images (directory_at c.args.sender) ≡ Sender c.args.sender c.is_closed.ensures.directory = ap (λ (s : State). slots_in s.sizes s.images (directory_at c.args.sender)) (sym (state_is c.self.view_is)) ∙ c.is_closed.ensures.held in
    let cells : c.cell_slots.result ≡ cell_count c.args.self.now.state.sizes = c.cell_slots.ensures.number ∙ ap cell_count (c.layout-2.ensures.sizes ∙ ap (λ (s : State). s.sizes) (state_is c.self.view_is)) in
    let used : c.self.inside.cells_in_use ≡ c.args.self.now.state.cells_in_use = ap (λ (s : State). s.cells_in_use) (state_is c.self.view_is) in
    let from : c.from.result ≡ c.cell_slots.result = c.from.ensures in
    send_log_full c.args.self.now c.args.txn h c.args.sender c.args.tag c.args.body.now below short free (record { directory = c.is_closed.ensures.directory; held = at; tells = sym c.if-is_closed.false ∙ c.is_closed.ensures.tells }) (let t = c.if-self-from.false in omega (arith, t, cells, used, from)) (sym c.if-is_log_full.ensures)

pub returns-clause-tested : goal.returns-clause-tested
returns-clause-tested g c h =
    let n : c.senders.result ≡ sender_count c.args.self.now.state.sizes = c.senders.ensures.number ∙ ap sender_count (c.layout.ensures.sizes ∙ ap (λ (s : State). s.sizes) (state_is c.self.view_is)) in
    let lt = c.if-sender-senders.false in
    let below : c.args.sender < sender_count c.args.self.now.state.sizes = omega (arith, n, lt) in
    let short : length c.args.body.now ≤ 216 = (let t = c.if-body-gt-BODY_LIMIT.false in omega (arith, t)) in
    let free : is_free_for c.args.txn c.args.sender c.args.self.now.state.ends.sending ≡ true = ap (λ (s : State). is_free_for c.args.txn c.args.sender s.ends.sending) (sym (state_is c.self.view_is)) ∙ sym c.if-not-may_send.ensures in
    let at : slots_in c.args.self.now.state.sizes c.args.self.now.state.images (directory_at c.args.sender) ≡ Sender c.args.sender c.is_closed.ensures.directory = ap (λ (s : State). slots_in s.sizes s.images (directory_at c.args.sender)) (sym (state_is c.self.view_is)) ∙ c.is_closed.ensures.held in
    let cells : c.cell_slots.result ≡ cell_count c.args.self.now.state.sizes = c.cell_slots.ensures.number ∙ ap cell_count (c.layout-2.ensures.sizes ∙ ap (λ (s : State). s.sizes) (state_is c.self.view_is)) in
    let used : c.self.inside.cells_in_use ≡ c.args.self.now.state.cells_in_use = ap (λ (s : State). s.cells_in_use) (state_is c.self.view_is) in
    let from : c.from.result ≡ c.cell_slots.result = c.from.ensures in
    send_tested c.args.self.now c.args.txn h c.args.sender c.args.tag c.args.body.now below short free (record { directory = c.is_closed.ensures.directory; held = at; tells = sym c.if-is_closed.false ∙ c.is_closed.ensures.tells }) (let t = c.if-self-from.false in omega (arith, t, cells, used, from)) (sym c.if-is_log_full.ensures)
