use Rattle.std.proofs.Common.{rules, ◌≡◌, ◌<◌, ◌≤◌, true, sym, ap, ◌∙◌, refl, arith, inr}
use Rattle.rq_model.specs.History.Call.{Start_receive_from}
use Rattle.rq_groups.specs.declared.End.TheVariants.{Receiving}
use Rattle.rq_level.specs.Ops.Doing.{Receive}
use Rattle.rq_planner.specs.Asked.Task.{Chain}
use Rattle.rq_page.specs.Sizes.{sender_count}
use Rattle.rq_groups.specs.Ends.{is_free_for}
use Rattle.rq_groups.specs.Waiting.{waits}
use Rattle.rq_store.specs.State.{State}
use Rattle.rq_sound.specs.Latching.{IsLatched}
use Rattle.rq_engine.specs.Earlier.{on}
use Rattle.rq_engine.specs.Sends.{take_latched}
use Rattle.rq_engine.proofs.Earlier.{full_on}
use Rattle.rq_engine.proofs.Latches.{from_latched, from_unlatched}
use Rattle.rq_engine.proofs.Leveled.{latched_for, refused_for, take_free, take_plan}
use Rattle.rq_engine.proofs.Opened.{state_is}
use Rattle.rq_engine.proofs.TakeCalls.{from_refused, log_is_full, none_from_done, one, passes_from, receiver_busy, take_done, take_memory, take_started}
use Rattle.rq_engine.proofs.KeptUp.{begun_by, start_left, tried_leaves}
use Rattle.rq_engine.proofs.Tested.{from_busy, from_log_full, from_tested, from_unknown, from_unready}
use Rattle.rq_engine.proofs.Wanting.{full_more, no_test_frames, take_writes}
use Rattle.rq_engine.proofs.engine.Engine.start_receive_from.Goals as goal

pub returns-then-not-may_receive-clause-answered : goal.returns-then-not-may_receive-clause-answered
returns-then-not-may_receive-clause-answered g c h earlier long =
    let n : c.senders.result ≡ sender_count c.args.self.now.state.sizes = c.senders.ensures.number ∙ ap sender_count (c.layout.ensures.sizes ∙ ap (λ (s : State). s.sizes) (state_is c.self.view_is)) in
    let lt = c.if-sender-senders.false in
    receiver_busy (on earlier c.args.self.now.state) c.args.txn c.in_ok-number.ensures.passes c.args.sender (omega (arith, n, lt))
    (ap (λ (s : State). is_free_for c.args.txn c.args.sender s.ends.receiving) (sym (state_is c.self.view_is)) ∙ sym c.if-not-may_receive.ensures)

pub returns-then-count-eq0-clause-answered : goal.returns-then-count-eq0-clause-answered
returns-then-count-eq0-clause-answered g c h earlier long =
    let n : c.senders.result ≡ sender_count c.args.self.now.state.sizes = c.senders.ensures.number ∙ ap sender_count (c.layout.ensures.sizes ∙ ap (λ (s : State). s.sizes) (state_is c.self.view_is)) in
    let lt = c.if-sender-senders.false in
    none_from_done (on earlier c.args.self.now.state) c.args.txn c.in_ok-number.ensures.passes c.args.sender (omega (arith, n, lt))
    (ap (λ (s : State). is_free_for c.args.txn c.args.sender s.ends.receiving) (sym (state_is c.self.view_is)) ∙ sym c.if-not-may_receive.ensures)
    (ap (λ (s : State). waits s.waiting c.args.sender) (sym (state_is c.self.view_is)) ∙ sym c.count.ensures ∙ c.if-count-eq0.true)

pub returns-then-count-eq0-clause-lists : goal.returns-then-count-eq0-clause-lists
returns-then-count-eq0-clause-lists g c honest =
    let n : c.senders.result ≡ sender_count c.args.self.now.state.sizes = c.senders.ensures.number ∙ ap sender_count (c.layout.ensures.sizes ∙ ap (λ (s : State). s.sizes) (state_is c.self.view_is)) in
    let lt = c.if-sender-senders.false in (
      (c.in_ok-number.number, c.in_ok-number.ensures.ready),
      omega (arith, n, lt),
      ap (λ (s : State). is_free_for c.args.txn c.args.sender s.ends.receiving) (sym (state_is c.self.view_is)) ∙ sym c.if-not-may_receive.ensures,
      ap (λ (s : State). waits s.waiting c.args.sender) (sym (state_is c.self.view_is)) ∙ sym c.count.ensures ∙ c.if-count-eq0.true,
      refl,
    )

pub returns-then-is_log_full-clause-answered : goal.returns-then-is_log_full-clause-answered
returns-then-is_log_full-clause-answered g c h earlier long =
    let s = on earlier c.args.self.now.state in
    let n : c.senders.result ≡ sender_count s.sizes = c.senders.ensures.number ∙ ap sender_count (c.layout.ensures.sizes ∙ ap (λ (x : State). x.sizes) (state_is c.self.view_is)) in
    let lt = c.if-sender-senders.false in
    let below : c.args.sender < sender_count s.sizes = omega (arith, n, lt) in
    let free : is_free_for c.args.txn c.args.sender s.ends.receiving ≡ true = ap (λ (x : State). is_free_for c.args.txn c.args.sender x.ends.receiving) (sym (state_is c.self.view_is)) ∙ sym c.if-not-may_receive.ensures in
    let count : waits s.waiting c.args.sender ≡ c.count.result = ap (λ (x : State). waits x.waiting c.args.sender) (sym (state_is c.self.view_is)) ∙ sym c.count.ensures in
    let some = c.if-count-eq0.false in
    let wait : 1 ≤ waits s.waiting c.args.sender = omega (arith, count, some) in
    log_is_full s c.args.txn c.in_ok-number.ensures.passes c.args.sender below free wait (full_on earlier c.args.self.now.state long _ ∙ sym c.if-is_log_full.ensures) (Start_receive_from c.args.txn c.args.sender) (inr refl)

pub start_take-requires-clause-may : goal.start_take-requires-clause-may
start_take-requires-clause-may g c = record { ready = c.in_ok-number.ensures.ready; log = sym c.if-is_log_full.ensures }

pub start_take-requires-clause-waits : goal.start_take-requires-clause-waits
start_take-requires-clause-waits g c =
    let s = c.args.self.now.state in
    let n : c.senders.result ≡ sender_count s.sizes = c.senders.ensures.number ∙ ap sender_count (c.layout.ensures.sizes ∙ ap (λ (x : State). x.sizes) (state_is c.self.view_is)) in
    let lt = c.if-sender-senders.false in
    let below : c.args.sender < sender_count s.sizes = omega (arith, n, lt) in
    let free : is_free_for c.args.txn c.args.sender s.ends.receiving ≡ true = ap (λ (x : State). is_free_for c.args.txn c.args.sender x.ends.receiving) (sym (state_is c.self.view_is)) ∙ sym c.if-not-may_receive.ensures in
    let count : waits s.waiting c.args.sender ≡ c.count.result = ap (λ (x : State). waits x.waiting c.args.sender) (sym (state_is c.self.view_is)) ∙ sym c.count.ensures in
    let some = c.if-count-eq0.false in
    let wait : 1 ≤ waits s.waiting c.args.sender = omega (arith, count, some) in
    (below, free, wait)

pub returns-in-Ok-clause-answered : goal.returns-in-Ok-clause-answered
returns-in-Ok-clause-answered g c h earlier long =
    let s = c.args.self.now.state in
    let n : c.senders.result ≡ sender_count s.sizes = c.senders.ensures.number ∙ ap sender_count (c.layout.ensures.sizes ∙ ap (λ (x : State). x.sizes) (state_is c.self.view_is)) in
    let lt = c.if-sender-senders.false in
    let below : c.args.sender < sender_count s.sizes = omega (arith, n, lt) in
    let free : is_free_for c.args.txn c.args.sender s.ends.receiving ≡ true = ap (λ (x : State). is_free_for c.args.txn c.args.sender x.ends.receiving) (sym (state_is c.self.view_is)) ∙ sym c.if-not-may_receive.ensures in
    let count : waits s.waiting c.args.sender ≡ c.count.result = ap (λ (x : State). waits x.waiting c.args.sender) (sym (state_is c.self.view_is)) ∙ sym c.count.ensures in
    let some = c.if-count-eq0.false in
    let wait : 1 ≤ waits s.waiting c.args.sender = omega (arith, count, some) in
    let b = (c.in-Ok.ensures.started h.0).begun in
    take_done (on earlier s) c.args.txn c.in_ok-number.ensures.passes c.args.sender below free wait (full_on earlier s long 4 ∙ sym c.if-is_log_full.ensures)
    _ c.in_ok-number.number b.plan c.in_ok-number.ensures.ready b.planned.free (take_plan s c.args.sender c.in_ok-number.number b.plan below b.planned) (ap (on earlier) b.state) (Start_receive_from c.args.txn c.args.sender) (inr refl)

pub returns-in-Ok-clause-sizes : goal.returns-in-Ok-clause-sizes
returns-in-Ok-clause-sizes g c = c.in-Ok.ensures.tried.devices.0.sizes

pub returns-in-Ok-clause-lists : goal.returns-in-Ok-clause-lists
returns-in-Ok-clause-lists g c honest =
    let s = c.args.self.now.state in
    let n : c.senders.result ≡ sender_count s.sizes = c.senders.ensures.number ∙ ap sender_count (c.layout.ensures.sizes ∙ ap (λ (x : State). x.sizes) (state_is c.self.view_is)) in
    let lt = c.if-sender-senders.false in
    let below : c.args.sender < sender_count s.sizes = omega (arith, n, lt) in
    let free : is_free_for c.args.txn c.args.sender s.ends.receiving ≡ true = ap (λ (x : State). is_free_for c.args.txn c.args.sender x.ends.receiving) (sym (state_is c.self.view_is)) ∙ sym c.if-not-may_receive.ensures in
    let count : waits s.waiting c.args.sender ≡ c.count.result = ap (λ (x : State). waits x.waiting c.args.sender) (sym (state_is c.self.view_is)) ∙ sym c.count.ensures in
    let some = c.if-count-eq0.false in
    let wait : 1 ≤ waits s.waiting c.args.sender = omega (arith, count, some) in
    take_started s c.args.txn c.in_ok-number.number c.args.sender _ c.in_ok-number.ensures.ready (below, free, wait) (c.in-Ok.ensures.started honest).begun

pub returns-in-Ok-clause-latched : goal.returns-in-Ok-clause-latched
returns-in-Ok-clause-latched g c honest earlier long k =
    let s = on earlier c.args.self.now.state in
    from_unlatched s k c.args.txn c.args.sender (take_free s c.args.sender (c.in-Ok.ensures.started honest).free)

pub returns-in-Err-clause-answered : goal.returns-in-Err-clause-answered
returns-in-Err-clause-answered g c h earlier long k =
    let s = c.args.self.now.state in
    let n : c.senders.result ≡ sender_count s.sizes = c.senders.ensures.number ∙ ap sender_count (c.layout.ensures.sizes ∙ ap (λ (x : State). x.sizes) (state_is c.self.view_is)) in
    let lt = c.if-sender-senders.false in
    let below : c.args.sender < sender_count s.sizes = omega (arith, n, lt) in
    let free : is_free_for c.args.txn c.args.sender s.ends.receiving ≡ true = ap (λ (x : State). is_free_for c.args.txn c.args.sender x.ends.receiving) (sym (state_is c.self.view_is)) ∙ sym c.if-not-may_receive.ensures in
    let count : waits s.waiting c.args.sender ≡ c.count.result = ap (λ (x : State). waits x.waiting c.args.sender) (sym (state_is c.self.view_is)) ∙ sym c.count.ensures in
    let some = c.if-count-eq0.false in
    let wait : 1 ≤ waits s.waiting c.args.sender = omega (arith, count, some) in
    let p = c.in-Err.ensures.started h.0 in
    let room = full_on earlier s long 4 ∙ sym c.if-is_log_full.ensures in
    refused_for (on earlier s) _ (Start_receive_from c.args.txn c.args.sender) (take_latched s c.args.sender ≡ true) refl c.in_ok-number.ensures.running (one (on earlier s) c.args.txn c.in_ok-number.ensures.passes c.args.sender below free wait) (passes_from (on earlier s) c.args.txn c.in_ok-number.ensures.passes c.args.sender below free wait room) c.in-Err.refusal p.causes (p.sound earlier long k wait)
    (ap (on earlier) (start_left g.P.PageDevice c.args.self.now _ c.in-Err.refusal c.in-Err.ensures.tried.devices c.in-Err.ensures.tried.left h.0))
    (take_memory (on earlier s) c.args.txn c.in_ok-number.ensures.passes c.args.sender below free wait room (Start_receive_from c.args.txn c.args.sender) (inr refl))
    (from_refused (on earlier s) c.args.txn c.in_ok-number.ensures.passes c.args.sender below free wait room) k

pub returns-in-Err-clause-latched : goal.returns-in-Err-clause-latched
returns-in-Err-clause-latched g c honest earlier long k =
    let s = c.args.self.now.state in
    let p = c.in-Err.ensures.started honest in
    latched_for (take_latched s c.args.sender ≡ true) (IsLatched (on earlier s) (Start_receive_from c.args.txn c.args.sender)) c.in-Err.refusal p.causes (from_latched (on earlier s) k c.args.txn c.args.sender)

pub returns-in-Ok-clause-begun : goal.returns-in-Ok-clause-begun
returns-in-Ok-clause-begun g c =
    let s = c.args.self.now.state in
    let n : c.senders.result ≡ sender_count s.sizes = c.senders.ensures.number ∙ ap sender_count (c.layout.ensures.sizes ∙ ap (λ (x : State). x.sizes) (state_is c.self.view_is)) in
    let lt = c.if-sender-senders.false in
    let below : c.args.sender < sender_count s.sizes = omega (arith, n, lt) in
    let free : is_free_for c.args.txn c.args.sender s.ends.receiving ≡ true = ap (λ (x : State). is_free_for c.args.txn c.args.sender x.ends.receiving) (sym (state_is c.self.view_is)) ∙ sym c.if-not-may_receive.ensures in
    let count : waits s.waiting c.args.sender ≡ c.count.result = ap (λ (x : State). waits x.waiting c.args.sender) (sym (state_is c.self.view_is)) ∙ sym c.count.ensures in
    let some = c.if-count-eq0.false in
    let wait : 1 ≤ waits s.waiting c.args.sender = omega (arith, count, some) in
    let b = c.in-Ok.ensures.tried.begun in
    (refl, from_tested c.args.self.now c.args.txn c.in_ok-number.ensures.passes c.args.sender below free (sym c.if-is_log_full.ensures), (below, free, wait), begun_by s c.args.txn c.in_ok-number.number (Receiving c.args.sender) s.cells_in_use (Chain (Receive c.args.sender)) b.plan _ c.in_ok-number.ensures.ready b.asked b.state)

pub returns-then-count-eq0-clause-none : goal.returns-then-count-eq0-clause-none
returns-then-count-eq0-clause-none g c =
    let n : c.senders.result ≡ sender_count c.args.self.now.state.sizes = c.senders.ensures.number ∙ ap sender_count (c.layout.ensures.sizes ∙ ap (λ (s : State). s.sizes) (state_is c.self.view_is)) in
    let lt = c.if-sender-senders.false in (
      refl,
      (
        (c.in_ok-number.number, c.in_ok-number.ensures.ready),
        omega (arith, n, lt),
        ap (λ (s : State). is_free_for c.args.txn c.args.sender s.ends.receiving) (sym (state_is c.self.view_is)) ∙ sym c.if-not-may_receive.ensures,
        ap (λ (s : State). waits s.waiting c.args.sender) (sym (state_is c.self.view_is)) ∙ sym c.count.ensures ∙ c.if-count-eq0.true,
        refl,
      ),
    )

pub returns-in-Ok-clause-devices : goal.returns-in-Ok-clause-devices
returns-in-Ok-clause-devices g c = c.in-Ok.ensures.tried.devices

pub returns-in-Err-clause-refused : goal.returns-in-Err-clause-refused
returns-in-Err-clause-refused g c =
    let n : c.senders.result ≡ sender_count c.args.self.now.state.sizes = c.senders.ensures.number ∙ ap sender_count (c.layout.ensures.sizes ∙ ap (λ (s : State). s.sizes) (state_is c.self.view_is)) in
    let lt = c.if-sender-senders.false in
    let below : c.args.sender < sender_count c.args.self.now.state.sizes = omega (arith, n, lt) in
    let free : is_free_for c.args.txn c.args.sender c.args.self.now.state.ends.receiving ≡ true = ap (λ (s : State). is_free_for c.args.txn c.args.sender s.ends.receiving) (sym (state_is c.self.view_is)) ∙ sym c.if-not-may_receive.ensures in
    tried_leaves g.P.PageDevice c.args.self.now c.start_take.new.self (Start_receive_from c.args.txn c.args.sender) refl (from_tested c.args.self.now c.args.txn c.in_ok-number.ensures.passes c.args.sender below free (sym c.if-is_log_full.ensures)) c.in-Err.refusal c.in-Err.ensures.tried.causes c.in-Err.ensures.tried.left

pub returns-in-Ok-clause-faults : goal.returns-in-Ok-clause-faults
returns-in-Ok-clause-faults g c = c.in-Ok.ensures.tried.counts

pub returns-in-Err-clause-faults : goal.returns-in-Err-clause-faults
returns-in-Err-clause-faults g c = c.in-Err.ensures.tried.counts

pub returns-in-Err-clause-sizes : goal.returns-in-Err-clause-sizes
returns-in-Err-clause-sizes g c = c.in-Err.ensures.tried.devices.0.sizes

pub returns-in-Err-clause-devices : goal.returns-in-Err-clause-devices
returns-in-Err-clause-devices g c = c.in-Err.ensures.tried.devices

pub returns-in_err-number-clause-refused : goal.returns-in_err-number-clause-refused
returns-in_err-number-clause-refused g c =
    let left = from_unready c.args.self.now c.args.txn _ c.in_err-number.ensures.refused c.args.sender in
    search (rules, left)

pub returns-then-sender-senders-clause-refused : goal.returns-then-sender-senders-clause-refused
returns-then-sender-senders-clause-refused g c =
    let n : c.senders.result ≡ sender_count c.args.self.now.state.sizes = c.senders.ensures.number ∙ ap sender_count (c.layout.ensures.sizes ∙ ap (λ (s : State). s.sizes) (state_is c.self.view_is)) in
    from_unknown c.args.self.now c.args.txn c.in_ok-number.ensures.passes c.args.sender (let ge = c.if-sender-senders.true in omega (arith, n, ge))

pub returns-then-not-may_receive-clause-refused : goal.returns-then-not-may_receive-clause-refused
returns-then-not-may_receive-clause-refused g c =
    let n : c.senders.result ≡ sender_count c.args.self.now.state.sizes = c.senders.ensures.number ∙ ap sender_count (c.layout.ensures.sizes ∙ ap (λ (s : State). s.sizes) (state_is c.self.view_is)) in
    let lt = c.if-sender-senders.false in
    let below : c.args.sender < sender_count c.args.self.now.state.sizes = omega (arith, n, lt) in
    from_busy c.args.self.now c.args.txn c.in_ok-number.ensures.passes c.args.sender below (ap (λ (s : State). is_free_for c.args.txn c.args.sender s.ends.receiving) (sym (state_is c.self.view_is)) ∙ sym c.if-not-may_receive.ensures)

pub returns-then-is_log_full-clause-refused : goal.returns-then-is_log_full-clause-refused
returns-then-is_log_full-clause-refused g c =
    let n : c.senders.result ≡ sender_count c.args.self.now.state.sizes = c.senders.ensures.number ∙ ap sender_count (c.layout.ensures.sizes ∙ ap (λ (s : State). s.sizes) (state_is c.self.view_is)) in
    let lt = c.if-sender-senders.false in
    let below : c.args.sender < sender_count c.args.self.now.state.sizes = omega (arith, n, lt) in
    let free : is_free_for c.args.txn c.args.sender c.args.self.now.state.ends.receiving ≡ true = ap (λ (s : State). is_free_for c.args.txn c.args.sender s.ends.receiving) (sym (state_is c.self.view_is)) ∙ sym c.if-not-may_receive.ensures in
    from_log_full c.args.self.now c.args.txn c.in_ok-number.ensures.passes c.args.sender below free (sym c.if-is_log_full.ensures)

pub returns-in-Ok-clause-frames : goal.returns-in-Ok-clause-frames
returns-in-Ok-clause-frames g c = c.in-Ok.ensures.frames

pub returns-in-Err-clause-frames : goal.returns-in-Err-clause-frames
returns-in-Err-clause-frames g c =
    let s = c.args.self.now.state in
    let n : c.senders.result ≡ sender_count s.sizes = c.senders.ensures.number ∙ ap sender_count (c.layout.ensures.sizes ∙ ap (λ (x : State). x.sizes) (state_is c.self.view_is)) in
    let lt = c.if-sender-senders.false in
    let below : c.args.sender < sender_count s.sizes = omega (arith, n, lt) in
    full_more c.args.self.now _ _ (λ ws a honest. take_writes s ws c.args.sender c.in_ok-number.number below (a honest)) c.in-Err.refusal c.in-Err.ensures.frames

pub returns-in_err-number-clause-frames : goal.returns-in_err-number-clause-frames
returns-in_err-number-clause-frames g c =
    let none = (λ (A B : Type 0). no_test_frames A B _ c.in_err-number.ensures.refused.plain) in
    search (rules, none)
