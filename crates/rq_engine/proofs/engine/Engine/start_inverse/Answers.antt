use Rattle.std.proofs.Common.{◌≡◌, Some, Ok, Err, refl, sym, ◌∙◌, ap, subst}
use Rattle.rq_model.specs.declared.record.Record.{Record}
use Rattle.rq_model.specs.Tests.{undo_cost}
use Rattle.rq_model.specs.Vocabulary.{is_some}
use Rattle.rq_level.specs.Asked.{deed_back}
use Rattle.rq_level.specs.Writes.{AreSlotWrites}
use Rattle.rq_txn.specs.declared.Aim.TheVariants.{Undoing}
use Rattle.rq_txn.specs.Rows.{change_row, row_started}
use Rattle.rq_store.specs.State.{State, op_done}
use Rattle.rq_planner.specs.Answered.{IsPlanBack}
use Rattle.rq_planner.specs.Asked.Asked.{Undo}
use Rattle.rq_engine.specs.Answers.{HasNothingUnderWay}
use Rattle.rq_engine.specs.Invariant.{IsDoneConsistent, IsLogged}
use Rattle.rq_level.specs.declared.writes.Plan.{Plan}
use Rattle.rq_engine.specs.Plans.{HasBegunBack, HasTurnedBack, IsInversePlan, LevelsAnswer, known_part, to_undo, turned_back}
use Rattle.rq_engine.specs.Sends.{HasRoom}
use Rattle.rq_engine.proofs.AbortCalls.{turned_idle}
use Rattle.rq_sound.specs.Plans.{AreUnlatched}
use Rattle.rq_engine.proofs.KeptUp.{but_same, may_start, read_state, tried_planned, tried_refused}
use Rattle.rq_engine.proofs.Leveled.{begins_planned, never_failed, no_read, no_read_as, plain_begun, plan_refused, read_on, start_answered}
use Rattle.rq_engine.proofs.SendCalls.{has_room}
use Rattle.rq_engine.proofs.Wanting.{no_plan_frames, planned_frames}
use Rattle.rq_engine.proofs.engine.Engine.start_inverse.Goals as goal

pub plan_inverse-requires-clause-logged : goal.plan_inverse-requires-clause-logged
plan_inverse-requires-clause-logged g c = (c.args.done.lsn, subst (λ (r : Record). IsLogged c.args.self.now.state.records c.args.done.lsn r) (sym c.op_end_of.ensures) c.requires.ended)

pub plan_inverse-requires-clause-reads : goal.plan_inverse-requires-clause-reads
plan_inverse-requires-clause-reads g c = ap is_some (ap deed_back c.op_end_of.ensures ∙ c.requires.kept.reads)

pub launch-requires-clause-ready : goal.launch-requires-clause-ready
launch-requires-clause-ready g c = subst (λ (x : State). HasNothingUnderWay x c.args.txn c.args.number) (sym c.in-Ok.ensures.read.lists) (turned_idle c.args.self.now.state c.args.txn c.args.number (Some c.args.done) c.requires.ready)

pub launch-requires-clause-fits : goal.launch-requires-clause-fits
launch-requires-clause-fits g c =
    let kept = subst (λ (x : State). IsDoneConsistent x.sizes c.args.done) (sym c.in-Ok.ensures.read.lists) c.requires.kept in
    record {
      made = refl;
      few = c.in-Ok.ensures.lawful.count;
      slots = subst (λ (x : State). AreSlotWrites x.sizes c.plan_inverse.new.plan.writes.items) (sym c.in-Ok.ensures.read.lists) c.in-Ok.ensures.lawful.slots;
      sender = kept.sender;
      fits = kept.lsn;
    }

pub launch-requires-clause-log : goal.launch-requires-clause-log
launch-requires-clause-log g c =
    let s = c.args.self.now.state in
    let few = c.in-Ok.ensures.few c.args.done.deed (ap deed_back c.op_end_of.ensures ∙ c.requires.kept.reads) in
    subst (λ (x : State). HasRoom x c.plan_inverse.new.plan.writes.items) (sym c.in-Ok.ensures.read.lists) (has_room s c.plan_inverse.new.plan.writes.items (undo_cost (Some (op_done c.args.done))) c.requires.log few)

pub launch-requires-clause-unlatched : goal.launch-requires-clause-unlatched
launch-requires-clause-unlatched g c = subst (λ (x : State). AreUnlatched x c.plan_inverse.new.plan.writes.items) (sym c.in-Ok.ensures.read.lists) c.in-Ok.ensures.free

pub returns-in-Ok-clause-tried : goal.returns-in-Ok-clause-tried
returns-in-Ok-clause-tried g c =
    let f = c.args.done in
    let ws = c.plan_inverse.new.plan.writes.items in
    tried_planned g.P.PageDevice (g.P.PageDevice.honest c.launch.new.self.pages) c.args.self.now c.plan_inverse.new.self c.launch.new.self (HasBegunBack c.args.self.now.state c.args.txn c.args.number f)
    (change_row c.args.txn (row_started (record { number = c.args.number; writes = ws; made = 0; aim = Undoing f.lsn f.deed }))) (λ ends. ends) (c.in-Ok.ensures.read, c.in-Ok.ensures.counts) (record { writes = ws; state = refl })
    c.launch.result c.launch.ensures.launched c.launch.ensures.devices c.launch.ensures.counts c.launch.ensures.left c.launch.ensures.causes

pub returns-in-Err-clause-tried : goal.returns-in-Err-clause-tried
returns-in-Err-clause-tried g c = tried_refused g.P.PageDevice c.args.self.now c.plan_inverse.new.self (HasBegunBack c.args.self.now.state c.args.txn c.args.number c.args.done) c.in-Err.why c.in-Err.ensures.read c.in-Err.ensures.counts c.in-Err.ensures.causes

pub returns-in-Ok-clause-started : goal.returns-in-Ok-clause-started
returns-in-Ok-clause-started g c honest =
    let s = c.args.self.now.state in
    let f = c.args.done in
    let truly = c.launch.ensures.devices.0.honest honest in
    let is = c.in-Ok.ensures.planned (truly, read_on _) f.deed (ap deed_back c.op_end_of.ensures ∙ c.requires.kept.reads) c.requires.kept.sender in
    let p : IsPlanBack (known_part s) f.deed c.plan_inverse.new.plan = is.plan in
    start_answered s (Undo f.deed) (HasTurnedBack s c.args.txn c.args.number f c.launch.new.self.state) (g.P.PageDevice.honest c.launch.new.self.pages) honest c.launch.result is.free
    (λ begun. record {
      writes = c.plan_inverse.new.plan.writes.items;
      planned = record { can = c.in-Ok.ensures.can (truly, read_on _) f.deed (ap deed_back c.op_end_of.ensures ∙ c.requires.kept.reads); planned = p.follows.0; slots = c.in-Ok.ensures.lawful.slots; free = p.follows.1; lowest = p.lowest };
      state = but_same _ _ begun (c.launch.ensures.devices.0.images honest) ∙ ap (λ (x : State). turned_back x c.args.txn c.args.number f c.plan_inverse.new.plan.writes.items) (read_state g.P.PageDevice _ _ c.in-Ok.ensures.read truly);
    })
    c.launch.ensures.launched c.launch.ensures.causes

pub returns-in-Err-clause-started : goal.returns-in-Err-clause-started
returns-in-Err-clause-started g c honest =
    let s = c.args.self.now.state in
    plan_refused s (Undo c.args.done.deed) _ c.in-Err.why (λ none. c.in-Err.ensures.planned (honest, no_read c.in-Err.why none) c.args.done.deed (ap deed_back c.op_end_of.ensures ∙ c.requires.kept.reads) c.requires.kept.sender)

pub returns-in-Ok-clause-answered : goal.returns-in-Ok-clause-answered
returns-in-Ok-clause-answered g c given =
    let s = c.args.self.now.state in
    let f = c.args.done in
    let truly = c.launch.ensures.devices.0.honest given.0 in
    record {
      plan = Ok c.plan_inverse.new.plan;
      asked = subst (λ (r : Record). LevelsAnswer s (to_undo r) (Ok c.plan_inverse.new.plan)) c.op_end_of.ensures (c.in-Ok.ensures.answered (truly, read_on _));
      begun = begins_planned (g.P.PageDevice.honest c.launch.new.self.pages) given.0 c.plan_inverse.new.plan (λ (p : Plan). c.launch.new.self.state ≡ turned_back s c.args.txn c.args.number f p.writes.items) c.launch.result
          (λ begun. but_same _ _ begun (c.launch.ensures.devices.0.images given.0) ∙ ap (λ (x : State). turned_back x c.args.txn c.args.number f c.plan_inverse.new.plan.writes.items) (read_state g.P.PageDevice _ _ c.in-Ok.ensures.read truly))
          c.launch.ensures.launched c.launch.ensures.causes;
    }

pub returns-in-Err-clause-answered : goal.returns-in-Err-clause-answered
returns-in-Err-clause-answered g c given =
    record {
      plan = Err c.in-Err.why;
      asked = subst (λ (r : Record). LevelsAnswer c.args.self.now.state (to_undo r) (Err c.in-Err.why)) c.op_end_of.ensures (c.in-Err.ensures.answered (given.0, no_read_as c.in-Err.why given.1));
      begun = refl;
    }

pub returns-in-Ok-clause-plain : goal.returns-in-Ok-clause-plain
returns-in-Ok-clause-plain g c = plain_begun (g.P.PageDevice.honest c.launch.new.self.pages) c.launch.result c.launch.ensures.causes

pub returns-in-Err-clause-plain : goal.returns-in-Err-clause-plain
returns-in-Err-clause-plain g c = never_failed c.in-Err.why (may_start c.in-Err.why c.in-Err.ensures.causes)

pub returns-in-Ok-clause-frames : goal.returns-in-Ok-clause-frames
returns-in-Ok-clause-frames g c =
    let s = c.args.self.now.state in
    let f = c.args.done in
    let ws = c.plan_inverse.new.plan.writes.items in
    planned_frames g.P.PageDevice c.args.self.now c.plan_inverse.new.self c.in-Ok.ensures.read c.args.txn (record { number = c.args.number; writes = ws; made = 0; aim = Undoing f.lsn f.deed }) (λ l. g.P.PageDevice.honest c.launch.new.self.pages → IsInversePlan s f.deed l) c.launch.new.self.state (turned_back c.plan_inverse.new.self.state c.args.txn c.args.number f ws)
    (turned_idle s c.args.txn c.args.number (Some f) c.requires.ready)
    (λ honest.
    let is = c.in-Ok.ensures.planned (c.launch.ensures.devices.0.honest honest, read_on _) f.deed (ap deed_back c.op_end_of.ensures ∙ c.requires.kept.reads) c.requires.kept.sender in
    let p : IsPlanBack (known_part s) f.deed c.plan_inverse.new.plan = is.plan in
    record { can = c.in-Ok.ensures.can (c.launch.ensures.devices.0.honest honest, read_on _) f.deed (ap deed_back c.op_end_of.ensures ∙ c.requires.kept.reads); planned = p.follows.0; slots = c.in-Ok.ensures.lawful.slots; free = p.follows.1; lowest = p.lowest })
    refl c.launch.result c.launch.ensures.launched c.launch.ensures.frames

pub returns-in-Err-clause-frames : goal.returns-in-Err-clause-frames
returns-in-Err-clause-frames g c = no_plan_frames _ _ c.in-Err.why c.in-Err.ensures.causes
