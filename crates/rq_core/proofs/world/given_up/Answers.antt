use Rattle.std.proofs.Common.{refl, subst, sym}
use Rattle.rq_core.specs.Runs.{GivesUp}
use Rattle.rq_core.specs.Views.{world_of}
use Rattle.rq_core.proofs.world.given_up.Goals as goal

pub returns-in-Shut : goal.returns-in-Shut
returns-in-Shut g c = subst (λ s. GivesUp (world_of s) c.in-Shut.pages c.in-Shut.log) (sym c.in-Shut.is) (refl, refl)

pub returns-in-Open : goal.returns-in-Open
returns-in-Open g c =
    subst (λ s. GivesUp (world_of s) c.give_back.result.0 c.give_back.result.1) (sym c.in-Open.is) (c.give_back.ensures.pages, c.give_back.ensures.log, c.shows_kept.ensures.cut)
