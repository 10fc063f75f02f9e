use Rattle.std.proofs.Common.{refl, sym, ◌∙◌}
use Rattle.rq_serving.proofs.Holding.{same_empty, where_none}
use Rattle.rq_serving.proofs.serving.ServedSession.go_on.Goals as goal

pub returns-in-None-clause-none : goal.returns-in-None-clause-none
returns-in-None-clause-none g c =
    let none = sym c.take.ensures.value ∙ c.in-None.is in
    where_none _ _ none (refl, same_empty _ _ _ _ _ _ c.take.ensures.after none, refl)
