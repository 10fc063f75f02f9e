use Rattle.std.proofs.Common.{Err, sym, subst}
use Rattle.rq_model.specs.declared.record.Record.{Record}
use Rattle.rq_views.specs.Stored.{slots_in}
use Rattle.rq_level.specs.Asked.{deed_back}
use Rattle.rq_pool.specs.Fetching.{HasReadFor}
use Rattle.rq_planner.specs.Answered.{IsPlannedAlone}
use Rattle.rq_planner.specs.Backs.{IsTakingBack}
use Rattle.rq_planner.proofs.Readings.{reads_passed, truly_done}
use Rattle.rq_restart.specs.Aborting.{PlanStops}
use Rattle.rq_restart.specs.Undoing.{IsOfReads}
use Rattle.rq_restart.proofs.Planning.{blamed_fails, blamed_reads, why_not_planned}
use Rattle.rq_restart.proofs.aborting.plan.Goals as goal

pub returns-in-Ok-clause-answered : goal.returns-in-Ok-clause-answered
returns-in-Ok-clause-answered g c = λ stored.
    let old = c.args.pages.now in
    let truly = truly_done g.P.PageDevice c.in-Ok.writes old c.plan_inverse_alone.new.pages stored in
    subst (λ (r : Record). IsPlannedAlone old.sizes old.images c.args.planner.now r c.in-Ok.writes.items) c.op_end.ensures (c.in-Ok.ensures.answered truly)

pub returns-in-Ok-clause-back : goal.returns-in-Ok-clause-back
returns-in-Ok-clause-back g c = λ stored.
    let old = c.args.pages.now in
    let z = old.sizes in
    let truly = truly_done g.P.PageDevice c.in-Ok.writes old c.plan_inverse_alone.new.pages stored in
    subst (λ (r : Record). IsTakingBack z (slots_in z old.images) (deed_back r) c.in-Ok.writes.items) c.op_end.ensures (c.in-Ok.ensures.plan truly)

pub returns-in-Err-clause-read : goal.returns-in-Err-clause-read
returns-in-Err-clause-read g c =
    let p = g.P.PageDevice in
    let old = c.args.pages.now in
    let new = c.plan_inverse_alone.new.pages in
    subst (λ e. HasReadFor p old (Err e) new) (sym c.blamed.ensures) (reads_passed p c.in-Err.refusal _ old new (blamed_fails p c.args.due.now.lsn c.in-Err.refusal old new) c.in-Err.ensures.read)

pub returns-in-Err-clause-stops : goal.returns-in-Err-clause-stops
returns-in-Err-clause-stops g c = λ stored.
    let old = c.args.pages.now in
    let e = c.in-Err.refusal in
    subst (PlanStops old.sizes old.images c.args.due.now) (sym c.blamed.ensures)
    (why_not_planned old.sizes old.images c.args.due.now c.op_end.result c.op_end.ensures e (λ not. c.in-Err.ensures.refused (stored, not)))

pub returns-in-Err-clause-names : goal.returns-in-Err-clause-names
returns-in-Err-clause-names g c = subst IsOfReads (sym c.blamed.ensures) (blamed_reads c.args.due.now.lsn c.in-Err.refusal)
