use Rattle.std.proofs.Common.{List, subst}
use Rattle.rq_level.specs.LevelState.{LevelState}
use Rattle.rq_level.specs.Meaning.{kept_at, meaning_of}
use Rattle.rq_level.specs.Writes.{with_plan}
use Rattle.rq_planner.specs.Answered.{IsAnswered, MayPlan, wants_of}
use Rattle.rq_planner.specs.Asked.{known_from}
use Rattle.rq_planner.proofs.Asking.{plan_says}
use Rattle.rq_planner.proofs.planner.Planner.plan.Goals as goal

pub returns-clause-answered : goal.returns-clause-answered
returns-clause-answered g c truly =
    let s = known_from c.args.pages.now c.args.transactions.now in
    let op = c.args.op.now in
    subst (λ (ks : List LevelState). IsAnswered s (wants_of ks op.level) op (MayPlan s (meaning_of op.level) (kept_at ks op.level) op) (with_plan c.plan.new.plan c.plan.result)) c.self.view_is (c.plan.ensures.answered truly)

pub returns-clause-planned : goal.returns-clause-planned
returns-clause-planned g c truly =
    plan_says c.args.pages.now.sizes c.args.pages.now.images c.args.transactions.now c.args.self.now c.requires.known (with_plan c.plan.new.plan c.plan.result) c.args.op.now c.requires.forward (returns-clause-answered g c truly)

pub returns-clause-latched : goal.returns-clause-latched
returns-clause-latched g c = c.plan.ensures.latched c.requires.forward
