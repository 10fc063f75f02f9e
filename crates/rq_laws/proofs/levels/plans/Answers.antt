use Rattle.rq_laws.proofs.Planning.{level_plans}
use Rattle.rq_laws.proofs.levels.plans.Goals as goal

pub returns : goal.returns
returns g c =
    let both = level_plans _ _ _ _ _ _ _ _ _ _ _ c.requires.level c.requires.kept c.requires.given c.plan.ensures.answer c.plan-2.ensures.answer in
    record { planned = both.0; kept = both.1 }
