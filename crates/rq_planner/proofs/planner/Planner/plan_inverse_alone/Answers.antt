use Rattle.std.proofs.Common.{List, refl, Err, Ok, ◌∙◌, ap, subst, sym}
use Rattle.rq_model.specs.declared.refusal.Refusal.{Refusal}
use Rattle.rq_model.proofs.Each.{some_is}
use Rattle.rq_views.specs.Stored.{slots_in}
use Rattle.rq_level.specs.Asked.{deed_back}
use Rattle.rq_pool.specs.Fetching.{HasReadFor}
use Rattle.rq_pool.proofs.Fetched.{still_read}
use Rattle.rq_txn.specs.Rows.{Row}
use Rattle.rq_planner.specs.Answered.{IsAnsweredBack, IsHeldUp, RefusesPlan}
use Rattle.rq_planner.specs.Asked.{known, known_from}
use Rattle.rq_planner.specs.Asked.Asked.{Undo}
use Rattle.rq_planner.specs.Backs.{IsRefusedBack, MayRefuseBack}
use Rattle.rq_planner.specs.Lawful.{unlatched_refusal}
use Rattle.rq_planner.proofs.Asking.{asks_back}
use Rattle.rq_planner.proofs.Backs.{can_below, may_refuse_back, not_held_up, refused_back, taken_back}
use Rattle.rq_planner.proofs.Readings.{fails_alone, reads_nothing, reads_passed, truly_done, truly_passed}
use Rattle.rq_planner.proofs.planner.Planner.plan_inverse_alone.Goals as goal

pub returns-then-not-reads_back-clause-read : goal.returns-then-not-reads_back-clause-read
returns-then-not-reads_back-clause-read g c = reads_nothing g.P.PageDevice _ c.args.pages.now tt

pub returns-in-Ok-clause-lawful : goal.returns-in-Ok-clause-lawful
returns-in-Ok-clause-lawful g c = (c.in-Ok.ensures.lawful (sym c.reads_back.ensures.reads ∙ c.if-not-reads_back.false)).slots

pub returns-in-Ok-clause-plan : goal.returns-in-Ok-clause-plan
returns-in-Ok-clause-plan g c truly =
    let z = c.args.pages.now.sizes in
    let q = slots_in z c.args.pages.now.images in
    let told = c.args.told.now in
    let d = some_is (deed_back told) (sym c.reads_back.ensures.reads ∙ c.if-not-reads_back.false) in
    let done = truly_done g.P.PageDevice _ c.args.pages.now c.plan_inverse.new.pages truly.0 in
    let can = (c.in-Ok.ensures.judged done d.0 d.1).can in
    taken_back z c.args.pages.now.images c.new-nobody.result c.new-nobody.ensures (deed_back told) d.0 c.plan_inverse.new.plan d.1
    (c.in-Ok.ensures.planned done (Undo d.0) (asks_back told d.0 d.1) (can_below z q d.0 can)).plan
    (c.in-Ok.ensures.lawful (sym c.reads_back.ensures.reads ∙ c.if-not-reads_back.false)).slots can

pub returns-in-Ok-clause-answered : goal.returns-in-Ok-clause-answered
returns-in-Ok-clause-answered g c truly = record {
  plan = c.plan_inverse.new.plan;
  are = refl;
  answered = subst (λ (rows : List Row). IsAnsweredBack (known c.args.pages.now.sizes c.args.pages.now.images rows) c.args.self.now c.args.told.now (Ok c.plan_inverse.new.plan)) c.new-nobody.ensures
      (c.in-Ok.ensures.answered (truly_done g.P.PageDevice _ c.args.pages.now c.plan_inverse.new.pages truly.0));
}

pub returns-clause-read : goal.returns-clause-read
returns-clause-read g c =
    subst (λ (e : Refusal). HasReadFor g.P.PageDevice c.args.pages.now (Err e) c.plan_inverse.new.pages) (sym c.refused_alone.ensures) (reads_passed g.P.PageDevice c.in-Err.refusal _ c.args.pages.now c.plan_inverse.new.pages (fails_alone g.P.PageDevice c.in-Err.refusal c.args.pages.now c.plan_inverse.new.pages) c.in-Err.ensures.read)

pub returns-clause-causes : goal.returns-clause-causes
returns-clause-causes g c =
    subst (MayRefuseBack (deed_back c.args.told.now)) (sym c.refused_alone.ensures)
    (may_refuse_back (deed_back c.args.told.now) c.in-Err.refusal (sym c.reads_back.ensures.reads ∙ c.if-not-reads_back.false) c.in-Err.ensures.causes)

pub returns-clause-refused : goal.returns-clause-refused
returns-clause-refused g c truly =
    let z = c.args.pages.now.sizes in
    let images = c.args.pages.now.images in
    let q = slots_in z images in
    let told = c.args.told.now in
    let s = known_from c.args.pages.now c.new-nobody.result in
    let passed = truly_passed g.P.PageDevice unlatched_refusal c.in-Err.refusal c.refused_alone.result c.args.pages.now c.args.pages.now c.plan_inverse.new.pages refl c.refused_alone.ensures (still_read g.P.PageDevice c.args.pages.now) truly in
    subst (IsRefusedBack z q (deed_back told)) (sym c.refused_alone.ensures)
    (refused_back z q (deed_back told) c.in-Err.refusal (sym c.reads_back.ensures.reads ∙ c.if-not-reads_back.false) c.in-Err.ensures.causes (λ is. passed.1 (ap Err is))
    (λ d is. (c.in-Err.ensures.judged passed d is).damaged)
    (λ d is latched can. not_held_up z images c.new-nobody.result c.new-nobody.ensures d
    (subst (RefusesPlan (IsHeldUp s (Undo d))) latched (c.in-Err.ensures.planned passed (Undo d) (asks_back told d is) (can_below z q d can)).causes) can))
