use Rattle.std.proofs.Common.{List, subst}
use Rattle.rq_level.specs.LevelState.{LevelState}
use Rattle.rq_level.specs.Writes.{with_plan}
use Rattle.rq_planner.specs.Answered.{IsAnsweredBack}
use Rattle.rq_planner.specs.Asked.{known_from}
use Rattle.rq_planner.proofs.Backs.{back_judged}
use Rattle.rq_planner.proofs.Asking.{back_says}
use Rattle.rq_planner.proofs.planner.Planner.plan_inverse.Goals as goal

pub returns-clause-planned : goal.returns-clause-planned
returns-clause-planned g c truly =
    let s = known_from c.args.pages.now c.args.transactions.now in
    back_says c.args.pages.now.sizes c.args.pages.now.images c.args.transactions.now c.args.self.now c.requires.known (with_plan c.plan_inverse.new.plan c.plan_inverse.result) c.args.told.now
    (subst (λ (ks : List LevelState). IsAnsweredBack s ks c.args.told.now (with_plan c.plan_inverse.new.plan c.plan_inverse.result)) c.self.view_is (c.plan_inverse.ensures.answered truly))

pub returns-clause-judged : goal.returns-clause-judged
returns-clause-judged g c truly d told =
    let s = known_from c.args.pages.now c.args.transactions.now in
    back_judged c.args.pages.now.sizes c.args.pages.now.images c.args.transactions.now c.args.self.now c.requires.known (with_plan c.plan_inverse.new.plan c.plan_inverse.result) c.args.told.now d told
    (subst (λ (ks : List LevelState). IsAnsweredBack s ks c.args.told.now (with_plan c.plan_inverse.new.plan c.plan_inverse.result)) c.self.view_is (c.plan_inverse.ensures.answered truly))
