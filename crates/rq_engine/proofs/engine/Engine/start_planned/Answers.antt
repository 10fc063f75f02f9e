use Rattle.std.proofs.Common.{◌≡◌, ℕ, Ok, Err, refl, sym, ◌∙◌, ap, subst, true}
use Rattle.rq_model.specs.Vocabulary.{is_some}
use Rattle.rq_views.specs.InStore.{IsDeedOf}
use Rattle.rq_groups.specs.Sides.{is_free_end, with_end}
use Rattle.rq_txn.specs.Rows.{change_row, row_started}
use Rattle.rq_store.specs.State.{State}
use Rattle.rq_level.specs.declared.writes.Plan.{Plan}
use Rattle.rq_planner.specs.Asked.{Task}
use Rattle.rq_planner.specs.Asked.Asked.{Do}
use Rattle.rq_planner.specs.Lawful.{IsLawfulPlan}
use Rattle.rq_planner.proofs.Asking.{asked_of}
use Rattle.rq_engine.specs.Answers.{HasNothingUnderWay}
use Rattle.rq_engine.specs.Plans.{AreWritesFor, HasBegun, HasStarted, IsWithin, planned_of, records_of, started_with, under_plan}
use Rattle.rq_engine.specs.Sends.{HasRoom}
use Rattle.rq_sound.specs.Plans.{AreUnlatched}
use Rattle.rq_engine.proofs.KeptUp.{but_same, may_start, read_state, tried_planned, tried_refused}
use Rattle.rq_engine.proofs.Leveled.{asked_for, asked_stored, begins_planned, deed_plan, latched_refused, latched_then, never_failed, no_read, no_read_as, plain_begun, plan_refused, read_on, some_task, start_answered, within}
use Rattle.rq_engine.proofs.SendCalls.{has_room}
use Rattle.rq_engine.proofs.Wanting.{no_plan_frames, planned_frames}
use Rattle.rq_engine.proofs.engine.Engine.start_planned.Goals as goal

pub plan-requires-clause-asked : goal.plan-requires-clause-asked
plan-requires-clause-asked g c = ap is_some c.requires.may.is

pub start-requires-clause-ready : goal.start-requires-clause-ready
start-requires-clause-ready g c = subst (λ (x : State). HasNothingUnderWay x c.args.txn c.args.number) (sym c.in-Ok.ensures.read.lists) c.requires.may.may.ready

pub start-requires-clause-free : goal.start-requires-clause-free
start-requires-clause-free g c = subst (λ (x : State). is_free_end c.args.txn c.args.end x.ends ≡ true) (sym c.in-Ok.ensures.read.lists) c.requires.may.may.free

pub start-requires-clause-lawful : goal.start-requires-clause-lawful
start-requires-clause-lawful g c =
    subst (λ (x : State). IsLawfulPlan x.sizes c.level.result c.plan.new.plan) (sym c.in-Ok.ensures.read.lists)
    (subst (λ (n : ℕ). IsLawfulPlan c.args.self.now.state.sizes n c.plan.new.plan) (sym c.level.ensures) c.in-Ok.ensures.lawful)

pub start-requires-clause-inside : goal.start-requires-clause-inside
start-requires-clause-inside g c =
    let s = c.args.self.now.state in
    let d = c.requires.may.task in
    let own = c.in-Ok.ensures.own d c.requires.may.is in
    subst (λ (x : State). IsDeedOf x.sizes (planned_of c.level.result c.plan.new.plan).deed) (sym c.in-Ok.ensures.read.lists)
    (asked_stored s.sizes d _ (asked_for d c.plan.new.plan c.level.result (c.level.ensures ∙ asked_of c.args.op.now.level c.args.op.now.bytes d c.requires.may.is) own.asked) c.requires.may.may.inside)

pub start-requires-clause-log : goal.start-requires-clause-log
start-requires-clause-log g c =
    let s = c.args.self.now.state in
    let d = c.requires.may.task in
    let own = c.in-Ok.ensures.own d c.requires.may.is in
    subst (λ (x : State). HasRoom x c.plan.new.plan.writes.items) (sym c.in-Ok.ensures.read.lists) (has_room s c.plan.new.plan.writes.items (records_of d) c.requires.may.may.log own.few)

pub start-requires-clause-unlatched : goal.start-requires-clause-unlatched
start-requires-clause-unlatched g c = subst (λ (x : State). AreUnlatched x c.plan.new.plan.writes.items) (sym c.in-Ok.ensures.read.lists) c.in-Ok.ensures.free

pub returns-in-Ok-clause-tried : goal.returns-in-Ok-clause-tried
returns-in-Ok-clause-tried g c d e =
    let s = c.args.self.now.state in
    let plan = planned_of c.level.result c.plan.new.plan in
    let own = c.in-Ok.ensures.own d e in
    tried_planned g.P.PageDevice (g.P.PageDevice.honest c.start.new.self.pages) c.args.self.now c.plan.new.self c.start.new.self (HasBegun s c.args.txn c.args.number c.args.end d) (change_row c.args.txn (row_started (under_plan c.args.number plan))) (with_end c.args.txn c.args.end) (c.in-Ok.ensures.read, c.in-Ok.ensures.counts)
    (record { plan = plan; asked = asked_for d c.plan.new.plan c.level.result (c.level.ensures ∙ asked_of c.args.op.now.level c.args.op.now.bytes d e) own.asked; state = refl })
    c.start.result c.start.ensures.started c.start.ensures.devices c.start.ensures.counts c.start.ensures.left c.start.ensures.causes

pub returns-clause-tried : goal.returns-clause-tried
returns-clause-tried g c d e = tried_refused g.P.PageDevice c.args.self.now c.plan.new.self (HasBegun c.args.self.now.state c.args.txn c.args.number c.args.end d) c.in-Err.refusal c.in-Err.ensures.read c.in-Err.ensures.counts c.in-Err.ensures.causes

pub returns-in-Ok-clause-latched : goal.returns-in-Ok-clause-latched
returns-in-Ok-clause-latched g c d e =
    latched_then c.args.self.now.state (g.P.PageDevice.honest c.start.new.self.pages) d c.plan.new.plan c.start.result c.start.ensures.causes (c.in-Ok.ensures.own d e).latched

pub returns-clause-latched : goal.returns-clause-latched
returns-clause-latched g c d e =
    latched_refused c.args.self.now.state _ d c.in-Err.refusal (c.in-Err.ensures.own d e).latched

pub returns-in-Ok-clause-started : goal.returns-in-Ok-clause-started
returns-in-Ok-clause-started g c honest d e =
    let s = c.args.self.now.state in
    let plan = c.plan.new.plan in
    let inside : IsWithin s.sizes d = subst (λ (x : Task). IsWithin s.sizes x) (some_task c.requires.may.task d (sym c.requires.may.is ∙ e)) c.requires.may.may.inside in
    let truly = c.start.ensures.devices.0.honest honest in
    let is = c.in-Ok.ensures.planned (truly, read_on _) d e (within s.sizes d inside) in
    let lawful : IsLawfulPlan s.sizes c.level.result plan = subst (λ (n : ℕ). IsLawfulPlan s.sizes n plan) (sym c.level.ensures) c.in-Ok.ensures.lawful in
    start_answered s (Do d) (HasStarted s c.args.txn c.args.number c.args.end d c.start.new.self.state) (g.P.PageDevice.honest c.start.new.self.pages) honest c.start.result is.free
    (λ begun. record {
      plan = planned_of c.level.result plan;
      planned = deed_plan d plan c.level.result (c.level.ensures ∙ asked_of c.args.op.now.level c.args.op.now.bytes d e) s is.plan lawful;
      state = but_same _ _ begun (c.start.ensures.devices.0.images honest) ∙ ap (λ (x : State). started_with x c.args.txn c.args.number c.args.end (planned_of c.level.result plan)) (read_state g.P.PageDevice _ _ c.in-Ok.ensures.read truly);
    })
    c.start.ensures.started c.start.ensures.causes

pub returns-clause-started : goal.returns-clause-started
returns-clause-started g c honest d e =
    let s = c.args.self.now.state in
    let inside : IsWithin s.sizes d = subst (λ (x : Task). IsWithin s.sizes x) (some_task c.requires.may.task d (sym c.requires.may.is ∙ e)) c.requires.may.may.inside in
    plan_refused s (Do d) _ c.in-Err.refusal (λ none. c.in-Err.ensures.planned (honest, no_read c.in-Err.refusal none) d e (within s.sizes d inside))

pub returns-in-Ok-clause-plain : goal.returns-in-Ok-clause-plain
returns-in-Ok-clause-plain g c = plain_begun (g.P.PageDevice.honest c.start.new.self.pages) c.start.result c.start.ensures.causes

pub returns-clause-plain : goal.returns-clause-plain
returns-clause-plain g c = never_failed c.in-Err.refusal (may_start c.in-Err.refusal c.in-Err.ensures.causes)

pub returns-in-Ok-clause-answered : goal.returns-in-Ok-clause-answered
returns-in-Ok-clause-answered g c given =
    let s = c.args.self.now.state in
    let plan = c.plan.new.plan in
    let truly = c.start.ensures.devices.0.honest given.0 in
    record {
      plan = Ok plan;
      asked = c.in-Ok.ensures.answered (truly, read_on _);
      begun = begins_planned (g.P.PageDevice.honest c.start.new.self.pages) given.0 plan (λ (p : Plan). c.start.new.self.state ≡ started_with s c.args.txn c.args.number c.args.end (planned_of c.args.op.now.level p)) c.start.result
          (λ begun. but_same _ _ begun (c.start.ensures.devices.0.images given.0) ∙ ap (λ (x : State). started_with x c.args.txn c.args.number c.args.end (planned_of c.level.result plan)) (read_state g.P.PageDevice _ _ c.in-Ok.ensures.read truly)
          ∙ ap (λ (n : ℕ). started_with s c.args.txn c.args.number c.args.end (planned_of n plan)) c.level.ensures)
          c.start.ensures.started c.start.ensures.causes;
    }

pub returns-clause-answered : goal.returns-clause-answered
returns-clause-answered g c given = record { plan = Err c.in-Err.refusal; asked = c.in-Err.ensures.answered (given.0, no_read_as c.in-Err.refusal given.1); begun = refl }

pub returns-in-Ok-clause-frames : goal.returns-in-Ok-clause-frames
returns-in-Ok-clause-frames g c d e =
    let s = c.args.self.now.state in
    let plan = c.plan.new.plan in
    let planned = planned_of c.level.result plan in
    let inside : IsWithin s.sizes d = subst (λ (x : Task). IsWithin s.sizes x) (some_task c.requires.may.task d (sym c.requires.may.is ∙ e)) c.requires.may.may.inside in
    let lawful : IsLawfulPlan s.sizes c.level.result plan = subst (λ (n : ℕ). IsLawfulPlan s.sizes n plan) (sym c.level.ensures) c.in-Ok.ensures.lawful in
    planned_frames g.P.PageDevice c.args.self.now c.plan.new.self c.in-Ok.ensures.read c.args.txn (under_plan c.args.number planned) (λ ws. g.P.PageDevice.honest c.start.new.self.pages → AreWritesFor s d ws) c.start.new.self.state (started_with c.plan.new.self.state c.args.txn c.args.number c.args.end planned) c.requires.may.may.ready
    (λ honest.
    let is = c.in-Ok.ensures.planned (c.start.ensures.devices.0.honest honest, read_on _) d e (within s.sizes d inside) in
    (planned, deed_plan d plan c.level.result (c.level.ensures ∙ asked_of c.args.op.now.level c.args.op.now.bytes d e) s is.plan lawful, refl))
    refl c.start.result c.start.ensures.started c.start.ensures.frames

pub returns-clause-frames : goal.returns-clause-frames
returns-clause-frames g c d e = no_plan_frames _ _ c.in-Err.refusal c.in-Err.ensures.causes
