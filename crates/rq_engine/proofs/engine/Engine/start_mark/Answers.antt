use Rattle.std.proofs.Common.{rules, refl, ap, arith}
use Rattle.rq_model.specs.History.Call.{Start_mark}
use Rattle.rq_groups.specs.declared.End.TheVariants.{Marking}
use Rattle.rq_level.specs.Ops.{Job, Tagging}
use Rattle.rq_planner.specs.Answered.{IsHeldUp}
use Rattle.rq_planner.specs.Asked.Asked.{Do}
use Rattle.rq_planner.specs.Asked.Task.{Tag}
use Rattle.rq_planner.proofs.Asking.{tagged}
use Rattle.rq_engine.specs.Earlier.{on}
use Rattle.rq_engine.specs.Plans.{HasStarted, known_part, under_plan}
use Rattle.rq_engine.proofs.Earlier.{long_on}
use Rattle.rq_engine.proofs.MarkCalls.{mark_done, refused}
use Rattle.rq_engine.proofs.Latches.{mark_refused, mark_unlatched}
use Rattle.rq_engine.proofs.Leveled.{latched_more, mark_held, mark_plan, refused_for}
use Rattle.rq_engine.proofs.Refusals.{no_memory, not_full}
use Rattle.rq_engine.proofs.KeptUp.{begun_by, start_left, tried_leaves}
use Rattle.rq_engine.proofs.Tested.{mark_unready}
use Rattle.rq_engine.proofs.Wanting.{full_more, mark_writes, no_test_frames}
use Rattle.rq_engine.proofs.engine.Engine.start_mark.Goals as goal

pub start_planned-requires-clause-forward : goal.start_planned-requires-clause-forward
start_planned-requires-clause-forward g c = ap (λ (j : Job). j.undo) c.mark-op.ensures.op

pub start_planned-requires-clause-may : goal.start_planned-requires-clause-may
start_planned-requires-clause-may g c = record {
  task = Tag (record { client = c.args.client; tag = c.args.tag });
  is = tagged c.mark-op.result.level c.mark-op.result.bytes _ (ap (λ (j : Job). j.level) c.mark-op.ensures.op) c.mark-op.ensures.told;
  may = record { ready = c.in_ok-number.ensures.ready; free = c.in_ok-check_mark.ensures.free; log = c.in_ok-check_mark.ensures.log; inside = c.in_ok-check_mark.ensures.client c.args.tag };
}

pub returns-in-Ok-clause-answered : goal.returns-in-Ok-clause-answered
returns-in-Ok-clause-answered g c h earlier long =
    let s = c.args.self.now.state in
    let mark : Tagging = record { client = c.args.client; tag = c.args.tag } in
    let told = tagged c.mark-op.result.level c.mark-op.result.bytes _ (ap (λ (j : Job). j.level) c.mark-op.ensures.op) c.mark-op.ensures.told in
    let b : HasStarted s c.args.txn c.in_ok-number.number (Marking c.args.client) (Tag mark) c.start_planned.new.self.state = (c.in-Ok.ensures.started h.0 (Tag mark) told).begun in
    mark_done (on earlier s) c.args.txn c.args.client c.args.tag c.in_ok-number.ensures.passes _ c.in_ok-number.number b.plan
    c.in_ok-number.ensures.ready b.planned.free (mark_plan s mark c.in_ok-number.number b.plan (c.in_ok-check_mark.ensures.client c.args.tag).0 b.planned) (λ k. c.in_ok-check_mark.ensures.passes earlier c.args.tag long k c.in_ok-number.ensures.passes)
    (ap (on earlier) b.state)

pub returns-in-Ok-clause-sizes : goal.returns-in-Ok-clause-sizes
returns-in-Ok-clause-sizes g c =
    let mark : Tagging = record { client = c.args.client; tag = c.args.tag } in
    let told = tagged c.mark-op.result.level c.mark-op.result.bytes _ (ap (λ (j : Job). j.level) c.mark-op.ensures.op) c.mark-op.ensures.told in
    (c.in-Ok.ensures.tried (Tag mark) told).devices.0.sizes

pub returns-in-Ok-clause-latched : goal.returns-in-Ok-clause-latched
returns-in-Ok-clause-latched g c earlier long k =
    let mark : Tagging = record { client = c.args.client; tag = c.args.tag } in
    let told = tagged c.mark-op.result.level c.mark-op.result.bytes _ (ap (λ (j : Job). j.level) c.mark-op.ensures.op) c.mark-op.ensures.told in
    mark_unlatched (on earlier c.args.self.now.state) k c.args.txn c.args.client c.args.tag (c.in-Ok.ensures.latched (Tag mark) told)

pub returns-in-Ok-clause-lists : goal.returns-in-Ok-clause-lists
returns-in-Ok-clause-lists g c honest =
    let s = c.args.self.now.state in
    let mark : Tagging = record { client = c.args.client; tag = c.args.tag } in
    let told = tagged c.mark-op.result.level c.mark-op.result.bytes _ (ap (λ (j : Job). j.level) c.mark-op.ensures.op) c.mark-op.ensures.told in
    let b : HasStarted s c.args.txn c.in_ok-number.number (Marking c.args.client) (Tag mark) c.start_planned.new.self.state = (c.in-Ok.ensures.started honest (Tag mark) told).begun in (
      refl,
      record {
        under = under_plan c.in_ok-number.number b.plan;
        number = refl;
        ready = c.in_ok-number.ensures.ready;
        plan = mark_plan s mark c.in_ok-number.number b.plan (c.in_ok-check_mark.ensures.client c.args.tag).0 b.planned;
        lists = b.state;
      },
    )

pub returns-in-Err-clause-answered : goal.returns-in-Err-clause-answered
returns-in-Err-clause-answered g c h earlier long k =
    let old = c.args.self.now.state in
    let s = on earlier old in
    let mark : Tagging = record { client = c.args.client; tag = c.args.tag } in
    let told = tagged c.mark-op.result.level c.mark-op.result.bytes _ (ap (λ (j : Job). j.level) c.mark-op.ensures.op) c.mark-op.ensures.told in
    let p = c.in-Err.ensures.started h.0 (Tag mark) told in
    let few = not_full old 2 c.in_ok-check_mark.ensures.log in
    let n = long_on earlier old long in
    let t = c.in-Err.ensures.tried (Tag mark) told in
    refused_for s _ (Start_mark c.args.txn c.args.client c.args.tag) (IsHeldUp (known_part s) (Do (Tag mark))) refl c.in_ok-number.ensures.running (λ k. refl) (λ k. c.in_ok-check_mark.ensures.passes earlier c.args.tag long k c.in_ok-number.ensures.passes) c.in-Err.refusal p.causes (p.sound earlier long k (omega (arith, few, n)))
    (ap (on earlier) (start_left g.P.PageDevice c.args.self.now _ c.in-Err.refusal t.devices t.left h.0))
    (no_memory s _ c.in_ok-number.ensures.running (λ k. c.in_ok-check_mark.ensures.passes earlier c.args.tag long k c.in_ok-number.ensures.passes) (λ k. refl)) (λ held. refused s c.args.txn c.args.client c.args.tag c.in_ok-number.ensures.passes (λ k. c.in_ok-check_mark.ensures.passes earlier c.args.tag long k c.in_ok-number.ensures.passes) (mark_held s mark held)) k

pub returns-in-Err-clause-latched : goal.returns-in-Err-clause-latched
returns-in-Err-clause-latched g c earlier long k =
    let mark : Tagging = record { client = c.args.client; tag = c.args.tag } in
    let told = tagged c.mark-op.result.level c.mark-op.result.bytes _ (ap (λ (j : Job). j.level) c.mark-op.ensures.op) c.mark-op.ensures.told in
    latched_more _ _ (mark_refused (on earlier c.args.self.now.state) k c.args.txn c.args.client c.args.tag) c.in-Err.refusal (c.in-Err.ensures.latched (Tag mark) told)

pub returns-in_err-check_mark-clause-answered : goal.returns-in_err-check_mark-clause-answered
returns-in_err-check_mark-clause-answered g c =
    let refuses = c.in_err-check_mark.ensures.refused c.args.tag c.in_ok-number.ensures.passes in
    search (rules, refuses)

pub returns-in-Ok-clause-begun : goal.returns-in-Ok-clause-begun
returns-in-Ok-clause-begun g c =
    let mark : Tagging = record { client = c.args.client; tag = c.args.tag } in
    let told = tagged c.mark-op.result.level c.mark-op.result.bytes _ (ap (λ (j : Job). j.level) c.mark-op.ensures.op) c.mark-op.ensures.told in
    let s = c.args.self.now.state in
    let p = (c.in-Ok.ensures.tried (Tag mark) told) in
    (refl, c.in_ok-check_mark.ensures.tested c.args.tag c.in_ok-number.ensures.passes, begun_by s c.args.txn c.in_ok-number.number (Marking c.args.client) s.cells_in_use (Tag mark) p.begun.plan _ c.in_ok-number.ensures.ready p.begun.asked p.begun.state)

pub returns-in-Ok-clause-devices : goal.returns-in-Ok-clause-devices
returns-in-Ok-clause-devices g c =
    let mark : Tagging = record { client = c.args.client; tag = c.args.tag } in
    let told = tagged c.mark-op.result.level c.mark-op.result.bytes _ (ap (λ (j : Job). j.level) c.mark-op.ensures.op) c.mark-op.ensures.told in
    (c.in-Ok.ensures.tried (Tag mark) told).devices

pub returns-in-Err-clause-refused : goal.returns-in-Err-clause-refused
returns-in-Err-clause-refused g c =
    let mark : Tagging = record { client = c.args.client; tag = c.args.tag } in
    let told = tagged c.mark-op.result.level c.mark-op.result.bytes _ (ap (λ (j : Job). j.level) c.mark-op.ensures.op) c.mark-op.ensures.told in
    let p = (c.in-Err.ensures.tried (Tag mark) told) in
    tried_leaves g.P.PageDevice c.args.self.now c.start_planned.new.self (Start_mark c.args.txn c.args.client c.args.tag) refl (c.in_ok-check_mark.ensures.tested c.args.tag c.in_ok-number.ensures.passes) c.in-Err.refusal p.causes p.left

pub returns-in-Ok-clause-faults : goal.returns-in-Ok-clause-faults
returns-in-Ok-clause-faults g c =
    let mark : Tagging = record { client = c.args.client; tag = c.args.tag } in
    let told = tagged c.mark-op.result.level c.mark-op.result.bytes _ (ap (λ (j : Job). j.level) c.mark-op.ensures.op) c.mark-op.ensures.told in
    (c.in-Ok.ensures.tried (Tag mark) told).counts

pub returns-in-Err-clause-faults : goal.returns-in-Err-clause-faults
returns-in-Err-clause-faults g c =
    let mark : Tagging = record { client = c.args.client; tag = c.args.tag } in
    let told = tagged c.mark-op.result.level c.mark-op.result.bytes _ (ap (λ (j : Job). j.level) c.mark-op.ensures.op) c.mark-op.ensures.told in
    (c.in-Err.ensures.tried (Tag mark) told).counts

pub returns-in-Err-clause-sizes : goal.returns-in-Err-clause-sizes
returns-in-Err-clause-sizes g c =
    let mark : Tagging = record { client = c.args.client; tag = c.args.tag } in
    let told = tagged c.mark-op.result.level c.mark-op.result.bytes _ (ap (λ (j : Job). j.level) c.mark-op.ensures.op) c.mark-op.ensures.told in
    (c.in-Err.ensures.tried (Tag mark) told).devices.0.sizes

pub returns-in-Err-clause-devices : goal.returns-in-Err-clause-devices
returns-in-Err-clause-devices g c =
    let mark : Tagging = record { client = c.args.client; tag = c.args.tag } in
    let told = tagged c.mark-op.result.level c.mark-op.result.bytes _ (ap (λ (j : Job). j.level) c.mark-op.ensures.op) c.mark-op.ensures.told in
    (c.in-Err.ensures.tried (Tag mark) told).devices

pub returns-in_err-number-clause-refused : goal.returns-in_err-number-clause-refused
returns-in_err-number-clause-refused g c =
    let left = mark_unready c.args.self.now c.args.txn _ c.in_err-number.ensures.refused c.args.client c.args.tag in
    search (rules, left)

pub returns-in_err-check_mark-clause-refused : goal.returns-in_err-check_mark-clause-refused
returns-in_err-check_mark-clause-refused g c =
    let left = c.in_err-check_mark.ensures.leaves c.args.tag c.in_ok-number.ensures.passes in
    search (rules, left)

pub returns-in-Ok-clause-frames : goal.returns-in-Ok-clause-frames
returns-in-Ok-clause-frames g c = c.in-Ok.ensures.frames (Tag (record { client = c.args.client; tag = c.args.tag })) (tagged c.mark-op.result.level c.mark-op.result.bytes _ (ap (λ (j : Job). j.level) c.mark-op.ensures.op) c.mark-op.ensures.told)

pub returns-in-Err-clause-full : goal.returns-in-Err-clause-full
returns-in-Err-clause-full g c =
    full_more c.args.self.now _ _ (λ ws a honest. mark_writes c.args.self.now.state ws (record { client = c.args.client; tag = c.args.tag }) c.in_ok-number.number (c.in_ok-check_mark.ensures.client c.args.tag).0 (a honest)) c.in-Err.refusal (c.in-Err.ensures.frames (Tag (record { client = c.args.client; tag = c.args.tag })) (tagged c.mark-op.result.level c.mark-op.result.bytes _ (ap (λ (j : Job). j.level) c.mark-op.ensures.op) c.mark-op.ensures.told))

pub returns-in_err-number-clause-full : goal.returns-in_err-number-clause-full
returns-in_err-number-clause-full g c =
    let none = (λ (A B : Type 0). no_test_frames A B _ c.in_err-number.ensures.refused.plain) in
    search (rules, none)

pub returns-in_err-check_mark-clause-full : goal.returns-in_err-check_mark-clause-full
returns-in_err-check_mark-clause-full g c =
    let none = (λ (A B : Type 0). no_test_frames A B _ c.in_err-check_mark.ensures.tests) in
    search (rules, none)
