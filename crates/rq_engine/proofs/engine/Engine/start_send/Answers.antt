use Rattle.std.proofs.Common.{rules, ◌≡◌, arith, ◌+◌, ap, ◌∙◌, refl, sym, subst}
use Rattle.rq_model.specs.History.Call.{Start_send}
use Rattle.rq_model.specs.Vocabulary.{message_of}
use Rattle.rq_groups.specs.declared.End.TheVariants.{Sending}
use Rattle.rq_level.specs.Ops.{Job}
use Rattle.rq_level.specs.Ops.Doing.{Send}
use Rattle.rq_planner.specs.Asked.Task.{Chain}
use Rattle.rq_store.specs.State.{State}
use Rattle.rq_sound.specs.Latching.{IsLatched}
use Rattle.rq_planner.proofs.Asking.{chained}
use Rattle.rq_engine.specs.Earlier.{on}
use Rattle.rq_engine.specs.Plans.{HasStarted, under_plan}
use Rattle.rq_engine.specs.Sends.{SendIsLatched, TakesLowest}
use Rattle.rq_engine.proofs.Earlier.{long_on}
use Rattle.rq_engine.proofs.Latches.{send_latched, send_unlatched}
use Rattle.rq_engine.proofs.Leveled.{latched_for, refused_for, send_plan}
use Rattle.rq_engine.proofs.Opened.{state_is}
use Rattle.rq_engine.proofs.Refusals.{no_memory, not_full}
use Rattle.rq_engine.proofs.SendCalls.{going_started, send_done, send_refused}
use Rattle.rq_engine.specs.KeptUp.{KeepsDevices, with_images_of}
use Rattle.rq_engine.specs.Opened.{OpenStore}
use Rattle.rq_engine.proofs.KeptUp.{begun_by, start_left, tried_leaves}
use Rattle.rq_engine.proofs.Tested.{send_unready}
use Rattle.rq_engine.proofs.Wanting.{full_more, no_test_frames, send_writes}
use Rattle.rq_engine.specs.Fixing.{HadFrames}
use Rattle.rq_engine.proofs.engine.Engine.start_send.Goals as goal

pub start_planned-requires-clause-forward : goal.start_planned-requires-clause-forward
start_planned-requires-clause-forward g c = ap (λ (j : Job). j.undo) c.send-op.ensures.op

pub start_planned-requires-clause-may : goal.start_planned-requires-clause-may
start_planned-requires-clause-may g c = record {
  task = Chain (Send c.args.sender c.args.tag c.args.body.now);
  is = (chained c.send-op.result.level c.send-op.result.bytes _ c.send-op.ensures.told);
  may = record { ready = c.in_ok-number.ensures.ready; free = c.in_ok-check_send.ensures.free; log = c.in_ok-check_send.ensures.log; inside = c.in_ok-check_send.ensures.sender };
}

pub returns-in-Ok-clause-answered : goal.returns-in-Ok-clause-answered
returns-in-Ok-clause-answered g c h earlier long =
    let truly = subst g.P.PageDevice.honest (ap (λ (o : OpenStore _ _). o.pages) c.self.view_is) h.0 in
    let s = c.args.self.now.state in
    let b : HasStarted s c.args.txn c.in_ok-number.number (Sending c.args.sender) (Chain (Send c.args.sender c.args.tag c.args.body.now)) c.start_planned.new.self.state = (c.in-Ok.ensures.started truly (Chain (Send c.args.sender c.args.tag c.args.body.now)) (chained c.send-op.result.level c.send-op.result.bytes _ c.send-op.ensures.told)).begun in
    send_done (on earlier s) _ c.args.txn c.in_ok-number.number c.args.sender c.args.tag c.args.body.now b.plan
    c.in_ok-number.ensures.ready c.in_ok-number.ensures.passes b.planned.free (send_plan s c.args.sender c.in_ok-number.number b.plan c.in_ok-check_send.ensures.sender c.args.tag c.args.body.now b.planned) c.in_ok-check_send.ensures.free c.in_ok-check_send.ensures.room
    (λ k. c.in_ok-check_send.ensures.passes earlier long k c.in_ok-number.ensures.passes)
    (ap (on earlier) (ap (λ (x : State). record x { cells_in_use = x.cells_in_use + 1 }) (state_is c.self.view_is ∙ b.state)))

pub returns-in-Ok-clause-sizes : goal.returns-in-Ok-clause-sizes
returns-in-Ok-clause-sizes g c = ap (λ (x : State). x.sizes) (state_is c.self.view_is) ∙ (c.in-Ok.ensures.tried (Chain (Send c.args.sender c.args.tag c.args.body.now)) (chained c.send-op.result.level c.send-op.result.bytes _ c.send-op.ensures.told)).devices.0.sizes

pub returns-in-Ok-clause-latched : goal.returns-in-Ok-clause-latched
returns-in-Ok-clause-latched g c honest earlier long k =
    let truly = subst g.P.PageDevice.honest (ap (λ (o : OpenStore _ _). o.pages) c.self.view_is) honest in
    send_unlatched (on earlier c.args.self.now.state) k c.args.txn c.args.sender c.args.tag c.args.body.now (c.in-Ok.ensures.started truly (Chain (Send c.args.sender c.args.tag c.args.body.now)) (chained c.send-op.result.level c.send-op.result.bytes _ c.send-op.ensures.told)).free

pub returns-in-Ok-clause-lowest : goal.returns-in-Ok-clause-lowest
returns-in-Ok-clause-lowest g c honest =
    let truly = subst g.P.PageDevice.honest (ap (λ (o : OpenStore _ _). o.pages) c.self.view_is) honest in
    let s = c.args.self.now.state in
    let b : HasStarted s c.args.txn c.in_ok-number.number (Sending c.args.sender) (Chain (Send c.args.sender c.args.tag c.args.body.now)) c.start_planned.new.self.state = (c.in-Ok.ensures.started truly (Chain (Send c.args.sender c.args.tag c.args.body.now)) (chained c.send-op.result.level c.send-op.result.bytes _ c.send-op.ensures.told)).begun in
    going_started s _ c.args.txn c.in_ok-number.number b.plan (λ r u. TakesLowest s u.writes) c.in_ok-number.ensures.ready (ap (λ (x : State). x.rows) (state_is c.self.view_is ∙ b.state)) (λ r. b.planned.lowest)

pub returns-in-Ok-clause-lists : goal.returns-in-Ok-clause-lists
returns-in-Ok-clause-lists g c honest =
    let truly = subst g.P.PageDevice.honest (ap (λ (o : OpenStore _ _). o.pages) c.self.view_is) honest in
    let s = c.args.self.now.state in
    let b : HasStarted s c.args.txn c.in_ok-number.number (Sending c.args.sender) (Chain (Send c.args.sender c.args.tag c.args.body.now)) c.start_planned.new.self.state = (c.in-Ok.ensures.started truly (Chain (Send c.args.sender c.args.tag c.args.body.now)) (chained c.send-op.result.level c.send-op.result.bytes _ c.send-op.ensures.told)).begun in (
      refl,
      record {
        under = under_plan c.in_ok-number.number b.plan;
        number = refl;
        ready = c.in_ok-number.ensures.ready;
        plan = send_plan s c.args.sender c.in_ok-number.number b.plan c.in_ok-check_send.ensures.sender c.args.tag c.args.body.now b.planned;
        lists = ap (λ (x : State). record x { cells_in_use = x.cells_in_use + 1 }) (state_is c.self.view_is ∙ b.state);
      },
    )

pub returns-in-Err-clause-answered : goal.returns-in-Err-clause-answered
returns-in-Err-clause-answered g c h earlier long k =
    let old = c.args.self.now.state in
    let s = on earlier old in
    let few = not_full old 4 c.in_ok-check_send.ensures.log in
    let n = long_on earlier old long in
    let p = c.in-Err.ensures.started h.0 (Chain (Send c.args.sender c.args.tag c.args.body.now)) (chained c.send-op.result.level c.send-op.result.bytes _ c.send-op.ensures.told) in
    let t = c.in-Err.ensures.tried (Chain (Send c.args.sender c.args.tag c.args.body.now)) (chained c.send-op.result.level c.send-op.result.bytes _ c.send-op.ensures.told) in
    refused_for s _ (Start_send c.args.txn (message_of c.args.sender c.args.tag c.args.body.now)) (SendIsLatched s c.args.sender) refl c.in_ok-number.ensures.running (λ k. refl) (λ k. c.in_ok-check_send.ensures.passes earlier long k c.in_ok-number.ensures.passes) c.in-Err.refusal p.causes (p.sound earlier long k (c.in_ok-check_send.ensures.room, omega (arith, few, n)))
    (ap (on earlier) (start_left g.P.PageDevice c.args.self.now _ c.in-Err.refusal t.devices t.left h.0))
    (no_memory s _ c.in_ok-number.ensures.running (λ k. c.in_ok-check_send.ensures.passes earlier long k c.in_ok-number.ensures.passes) (λ k. refl)) (send_refused s c.args.txn c.args.sender c.args.tag c.args.body.now (λ k. c.in_ok-check_send.ensures.passes earlier long k c.in_ok-number.ensures.passes) c.in_ok-check_send.ensures.room) k

pub returns-in-Err-clause-latched : goal.returns-in-Err-clause-latched
returns-in-Err-clause-latched g c honest earlier long k =
    let s = on earlier c.args.self.now.state in
    let p = c.in-Err.ensures.started honest (Chain (Send c.args.sender c.args.tag c.args.body.now)) (chained c.send-op.result.level c.send-op.result.bytes _ c.send-op.ensures.told) in
    latched_for (SendIsLatched s c.args.sender) (IsLatched s (Start_send c.args.txn (message_of c.args.sender c.args.tag c.args.body.now))) c.in-Err.refusal p.causes (send_latched s k c.args.txn c.args.sender c.args.tag c.args.body.now)

pub overflow_add-self : goal.overflow_add-self
overflow_add-self g c =
    let p = c.in-Ok.ensures.tried (Chain (Send c.args.sender c.args.tag c.args.body.now)) (chained c.send-op.result.level c.send-op.result.bytes _ c.send-op.ensures.told) in
    let same : c.self.inside.cells_in_use ≡ c.args.self.now.state.cells_in_use = ap (λ (x : State). x.cells_in_use) (state_is c.self.view_is) ∙ ap (λ (x : State). x.cells_in_use) p.begun.state in
    let small = c.in_ok-check_send.ensures.small in
    omega (arith, same, small)

pub returns-in-Ok-clause-begun : goal.returns-in-Ok-clause-begun
returns-in-Ok-clause-begun g c =
    let s = c.args.self.now.state in
    let p = c.in-Ok.ensures.tried (Chain (Send c.args.sender c.args.tag c.args.body.now)) (chained c.send-op.result.level c.send-op.result.bytes _ c.send-op.ensures.told) in (
      refl,
      c.in_ok-check_send.ensures.tested c.in_ok-number.ensures.passes,
      begun_by s c.args.txn c.in_ok-number.number (Sending c.args.sender) (s.cells_in_use + 1) (Chain (Send c.args.sender c.args.tag c.args.body.now)) p.begun.plan _ c.in_ok-number.ensures.ready p.begun.asked
          (ap (λ (x : State). record x { cells_in_use = x.cells_in_use + 1 }) (ap (with_images_of s) (state_is c.self.view_is) ∙ p.begun.state)),
    )

pub returns-in-Ok-clause-devices : goal.returns-in-Ok-clause-devices
returns-in-Ok-clause-devices g c =
    let p = c.in-Ok.ensures.tried (Chain (Send c.args.sender c.args.tag c.args.body.now)) (chained c.send-op.result.level c.send-op.result.bytes _ c.send-op.ensures.told) in
    subst (λ (o : OpenStore _ _). KeepsDevices g.P.PageDevice c.args.self.now o) (sym c.self.view_is) p.devices

pub returns-in-Err-clause-refused : goal.returns-in-Err-clause-refused
returns-in-Err-clause-refused g c =
    let p = c.in-Err.ensures.tried (Chain (Send c.args.sender c.args.tag c.args.body.now)) (chained c.send-op.result.level c.send-op.result.bytes _ c.send-op.ensures.told) in
    tried_leaves g.P.PageDevice c.args.self.now c.start_planned.new.self (Start_send c.args.txn (message_of c.args.sender c.args.tag c.args.body.now)) refl (c.in_ok-check_send.ensures.tested c.in_ok-number.ensures.passes) c.in-Err.refusal p.causes p.left

pub returns-in-Ok-clause-faults : goal.returns-in-Ok-clause-faults
returns-in-Ok-clause-faults g c = ap (λ (o : OpenStore _ _). g.P.PageDevice.faults o.pages) c.self.view_is ∙ (c.in-Ok.ensures.tried (Chain (Send c.args.sender c.args.tag c.args.body.now)) (chained c.send-op.result.level c.send-op.result.bytes _ c.send-op.ensures.told)).counts

pub returns-in-Err-clause-faults : goal.returns-in-Err-clause-faults
returns-in-Err-clause-faults g c = (c.in-Err.ensures.tried (Chain (Send c.args.sender c.args.tag c.args.body.now)) (chained c.send-op.result.level c.send-op.result.bytes _ c.send-op.ensures.told)).counts

pub returns-in-Err-clause-sizes : goal.returns-in-Err-clause-sizes
returns-in-Err-clause-sizes g c = (c.in-Err.ensures.tried (Chain (Send c.args.sender c.args.tag c.args.body.now)) (chained c.send-op.result.level c.send-op.result.bytes _ c.send-op.ensures.told)).devices.0.sizes

pub returns-in-Err-clause-devices : goal.returns-in-Err-clause-devices
returns-in-Err-clause-devices g c = (c.in-Err.ensures.tried (Chain (Send c.args.sender c.args.tag c.args.body.now)) (chained c.send-op.result.level c.send-op.result.bytes _ c.send-op.ensures.told)).devices

pub returns-in_err-number-clause-refused : goal.returns-in_err-number-clause-refused
returns-in_err-number-clause-refused g c =
    let left = send_unready c.args.self.now c.args.txn _ c.in_err-number.ensures.refused c.args.sender c.args.tag c.args.body.now in
    search (rules, left)

pub returns-in_err-check_send-clause-refused : goal.returns-in_err-check_send-clause-refused
returns-in_err-check_send-clause-refused g c =
    let left = c.in_err-check_send.ensures.leaves c.in_ok-number.ensures.passes in
    search (rules, left)

pub returns-in-Ok-clause-frames : goal.returns-in-Ok-clause-frames
returns-in-Ok-clause-frames g c =
    subst (λ (s : State). HadFrames c.args.self.now (record { txn = c.args.txn; number = c.in_ok-number.number }) s) (sym (state_is c.self.view_is)) (c.in-Ok.ensures.frames (Chain (Send c.args.sender c.args.tag c.args.body.now)) (chained c.send-op.result.level c.send-op.result.bytes _ c.send-op.ensures.told))

pub returns-in-Err-clause-full : goal.returns-in-Err-clause-full
returns-in-Err-clause-full g c =
    full_more c.args.self.now _ _ (λ ws a honest. send_writes c.args.self.now.state ws c.args.sender c.in_ok-number.number c.args.tag c.args.body.now c.in_ok-check_send.ensures.sender (a honest)) c.in-Err.refusal (c.in-Err.ensures.frames (Chain (Send c.args.sender c.args.tag c.args.body.now)) (chained c.send-op.result.level c.send-op.result.bytes _ c.send-op.ensures.told))

pub returns-in_err-number-clause-full : goal.returns-in_err-number-clause-full
returns-in_err-number-clause-full g c =
    let none = (λ (A B : Type 0). no_test_frames A B _ c.in_err-number.ensures.refused.plain) in
    search (rules, none)

pub returns-in_err-check_send-clause-full : goal.returns-in_err-check_send-clause-full
returns-in_err-check_send-clause-full g c =
    let none = (λ (A B : Type 0). no_test_frames A B _ c.in_err-check_send.ensures.tests) in
    search (rules, none)
