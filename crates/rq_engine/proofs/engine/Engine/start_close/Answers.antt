use Rattle.std.proofs.Common.{rules, refl, ap}
use Rattle.rq_model.specs.History.Call.{Start_close}
use Rattle.rq_groups.specs.declared.End.TheVariants.{Sending}
use Rattle.rq_level.specs.Ops.{Job}
use Rattle.rq_level.specs.Ops.Doing.{Close}
use Rattle.rq_planner.specs.Answered.{IsHeldUp}
use Rattle.rq_planner.specs.Asked.Asked.{Do}
use Rattle.rq_planner.specs.Asked.Task.{Chain}
use Rattle.rq_planner.proofs.Asking.{chained}
use Rattle.rq_engine.specs.Earlier.{on}
use Rattle.rq_engine.specs.Plans.{HasStarted, known_part, under_plan}
use Rattle.rq_engine.proofs.CloseCalls.{close_done, refused}
use Rattle.rq_engine.proofs.Latches.{close_refused, close_unlatched}
use Rattle.rq_engine.proofs.Leveled.{close_held, close_plan, latched_more, refused_for}
use Rattle.rq_engine.proofs.Refusals.{no_memory}
use Rattle.rq_engine.proofs.KeptUp.{begun_by, start_left, tried_leaves}
use Rattle.rq_engine.proofs.Tested.{close_unready}
use Rattle.rq_engine.proofs.Wanting.{close_writes, full_more, no_test_frames}
use Rattle.rq_engine.proofs.engine.Engine.start_close.Goals as goal

pub start_planned-requires-clause-forward : goal.start_planned-requires-clause-forward
start_planned-requires-clause-forward g c = ap (λ (j : Job). j.undo) c.close-op.ensures.op

pub start_planned-requires-clause-may : goal.start_planned-requires-clause-may
start_planned-requires-clause-may g c = record {
  task = Chain (Close c.args.sender);
  is = chained c.close-op.result.level c.close-op.result.bytes _ c.close-op.ensures.told;
  may = record { ready = c.in_ok-number.ensures.ready; free = c.in_ok-check_close.ensures.free; log = c.in_ok-check_close.ensures.log; inside = c.in_ok-check_close.ensures.sender };
}

pub returns-in-Ok-clause-answered : goal.returns-in-Ok-clause-answered
returns-in-Ok-clause-answered g c h earlier long =
    let s = c.args.self.now.state in
    let b : HasStarted s c.args.txn c.in_ok-number.number (Sending c.args.sender) (Chain (Close c.args.sender)) c.start_planned.new.self.state = (c.in-Ok.ensures.started h.0 (Chain (Close c.args.sender)) (chained c.close-op.result.level c.close-op.result.bytes _ c.close-op.ensures.told)).begun in
    close_done (on earlier s) c.args.txn c.args.sender c.in_ok-number.ensures.passes _ c.in_ok-number.number b.plan
    c.in_ok-number.ensures.ready b.planned.free (close_plan s c.args.sender c.in_ok-number.number b.plan c.in_ok-check_close.ensures.sender b.planned) (λ k. c.in_ok-check_close.ensures.passes earlier long k c.in_ok-number.ensures.passes)
    (ap (on earlier) b.state)

pub returns-in-Ok-clause-sizes : goal.returns-in-Ok-clause-sizes
returns-in-Ok-clause-sizes g c = (c.in-Ok.ensures.tried (Chain (Close c.args.sender)) (chained c.close-op.result.level c.close-op.result.bytes _ c.close-op.ensures.told)).devices.0.sizes

pub returns-in-Ok-clause-latched : goal.returns-in-Ok-clause-latched
returns-in-Ok-clause-latched g c earlier long k =
    close_unlatched (on earlier c.args.self.now.state) k c.args.txn c.args.sender (c.in-Ok.ensures.latched (Chain (Close c.args.sender)) (chained c.close-op.result.level c.close-op.result.bytes _ c.close-op.ensures.told))

pub returns-in-Ok-clause-lists : goal.returns-in-Ok-clause-lists
returns-in-Ok-clause-lists g c honest =
    let s = c.args.self.now.state in
    let b : HasStarted s c.args.txn c.in_ok-number.number (Sending c.args.sender) (Chain (Close c.args.sender)) c.start_planned.new.self.state = (c.in-Ok.ensures.started honest (Chain (Close c.args.sender)) (chained c.close-op.result.level c.close-op.result.bytes _ c.close-op.ensures.told)).begun in (
      refl,
      record {
        under = under_plan c.in_ok-number.number b.plan;
        number = refl;
        ready = c.in_ok-number.ensures.ready;
        plan = close_plan s c.args.sender c.in_ok-number.number b.plan c.in_ok-check_close.ensures.sender b.planned;
        lists = b.state;
      },
    )

pub returns-in-Err-clause-answered : goal.returns-in-Err-clause-answered
returns-in-Err-clause-answered g c h earlier long k =
    let s = on earlier c.args.self.now.state in
    let p = c.in-Err.ensures.started h.0 (Chain (Close c.args.sender)) (chained c.close-op.result.level c.close-op.result.bytes _ c.close-op.ensures.told) in
    let t = c.in-Err.ensures.tried (Chain (Close c.args.sender)) (chained c.close-op.result.level c.close-op.result.bytes _ c.close-op.ensures.told) in
    refused_for s _ (Start_close c.args.txn c.args.sender) (IsHeldUp (known_part s) (Do (Chain (Close c.args.sender)))) refl c.in_ok-number.ensures.running (λ k. refl) (λ k. c.in_ok-check_close.ensures.passes earlier long k c.in_ok-number.ensures.passes) c.in-Err.refusal p.causes (p.sound earlier long k (c.in_ok-check_close.ensures.unclosed earlier long k c.in_ok-number.ensures.passes))
    (ap (on earlier) (start_left g.P.PageDevice c.args.self.now _ c.in-Err.refusal t.devices t.left h.0))
    (no_memory s _ c.in_ok-number.ensures.running (λ k. c.in_ok-check_close.ensures.passes earlier long k c.in_ok-number.ensures.passes) (λ k. refl)) (λ held. refused s c.args.txn c.args.sender c.in_ok-number.ensures.passes (λ k. c.in_ok-check_close.ensures.passes earlier long k c.in_ok-number.ensures.passes) (close_held s c.args.sender held)) k

pub returns-in-Err-clause-latched : goal.returns-in-Err-clause-latched
returns-in-Err-clause-latched g c earlier long k = latched_more _ _ (close_refused (on earlier c.args.self.now.state) k c.args.txn c.args.sender) c.in-Err.refusal (c.in-Err.ensures.latched (Chain (Close c.args.sender)) (chained c.close-op.result.level c.close-op.result.bytes _ c.close-op.ensures.told))

pub returns-in-Ok-clause-begun : goal.returns-in-Ok-clause-begun
returns-in-Ok-clause-begun g c =
    let s = c.args.self.now.state in
    let p = c.in-Ok.ensures.tried (Chain (Close c.args.sender)) (chained c.close-op.result.level c.close-op.result.bytes _ c.close-op.ensures.told) in
    (refl, c.in_ok-check_close.ensures.tested c.in_ok-number.ensures.passes, begun_by s c.args.txn c.in_ok-number.number (Sending c.args.sender) s.cells_in_use (Chain (Close c.args.sender)) p.begun.plan _ c.in_ok-number.ensures.ready p.begun.asked p.begun.state)

pub returns-in-Ok-clause-devices : goal.returns-in-Ok-clause-devices
returns-in-Ok-clause-devices g c = (c.in-Ok.ensures.tried (Chain (Close c.args.sender)) (chained c.close-op.result.level c.close-op.result.bytes _ c.close-op.ensures.told)).devices

pub returns-in-Err-clause-refused : goal.returns-in-Err-clause-refused
returns-in-Err-clause-refused g c =
    let p = c.in-Err.ensures.tried (Chain (Close c.args.sender)) (chained c.close-op.result.level c.close-op.result.bytes _ c.close-op.ensures.told) in
    tried_leaves g.P.PageDevice c.args.self.now c.start_planned.new.self (Start_close c.args.txn c.args.sender) refl (c.in_ok-check_close.ensures.tested c.in_ok-number.ensures.passes) c.in-Err.refusal p.causes p.left

pub returns-in-Ok-clause-faults : goal.returns-in-Ok-clause-faults
returns-in-Ok-clause-faults g c = (c.in-Ok.ensures.tried (Chain (Close c.args.sender)) (chained c.close-op.result.level c.close-op.result.bytes _ c.close-op.ensures.told)).counts

pub returns-in-Err-clause-faults : goal.returns-in-Err-clause-faults
returns-in-Err-clause-faults g c = (c.in-Err.ensures.tried (Chain (Close c.args.sender)) (chained c.close-op.result.level c.close-op.result.bytes _ c.close-op.ensures.told)).counts

pub returns-in-Err-clause-sizes : goal.returns-in-Err-clause-sizes
returns-in-Err-clause-sizes g c = (c.in-Err.ensures.tried (Chain (Close c.args.sender)) (chained c.close-op.result.level c.close-op.result.bytes _ c.close-op.ensures.told)).devices.0.sizes

pub returns-in-Err-clause-devices : goal.returns-in-Err-clause-devices
returns-in-Err-clause-devices g c = (c.in-Err.ensures.tried (Chain (Close c.args.sender)) (chained c.close-op.result.level c.close-op.result.bytes _ c.close-op.ensures.told)).devices

pub returns-in_err-number-clause-refused : goal.returns-in_err-number-clause-refused
returns-in_err-number-clause-refused g c =
    let left = close_unready c.args.self.now c.args.txn _ c.in_err-number.ensures.refused c.args.sender in
    search (rules, left)

pub returns-in_err-check_close-clause-refused : goal.returns-in_err-check_close-clause-refused
returns-in_err-check_close-clause-refused g c =
    let left = c.in_err-check_close.ensures.leaves c.in_ok-number.ensures.passes in
    search (rules, left)

pub returns-in-Ok-clause-frames : goal.returns-in-Ok-clause-frames
returns-in-Ok-clause-frames g c = c.in-Ok.ensures.frames (Chain (Close c.args.sender)) (chained c.close-op.result.level c.close-op.result.bytes _ c.close-op.ensures.told)

pub returns-in-Err-clause-full : goal.returns-in-Err-clause-full
returns-in-Err-clause-full g c =
    full_more c.args.self.now _ _ (λ ws a honest. close_writes c.args.self.now.state ws c.args.sender c.in_ok-number.number c.in_ok-check_close.ensures.sender (a honest)) c.in-Err.refusal (c.in-Err.ensures.frames (Chain (Close c.args.sender)) (chained c.close-op.result.level c.close-op.result.bytes _ c.close-op.ensures.told))

pub returns-in_err-number-clause-full : goal.returns-in_err-number-clause-full
returns-in_err-number-clause-full g c =
    let none = (λ (A B : Type 0). no_test_frames A B _ c.in_err-number.ensures.refused.plain) in
    search (rules, none)

pub returns-in_err-check_close-clause-full : goal.returns-in_err-check_close-clause-full
returns-in_err-check_close-clause-full g c =
    let none = (λ (A B : Type 0). no_test_frames A B _ c.in_err-check_close.ensures.tests) in
    search (rules, none)
