use Rattle.std.proofs.Common.{◌∙◌, inl, refl, sym}
use Rattle.rq_pool.proofs.Ties.{framed_there}
use Rattle.rq_pool.proofs.Pages.bring.Goals as goal

pub returns-in-Some-clause-had : goal.returns-in-Some-clause-had
returns-in-Some-clause-had g c =
    let placed = sym (rw c.deref.ensures.value at c.place_of.ensures) ∙ c.in-Some.is in
    rw (← c.self.view_is) (inl (framed_there _ _ _ _ _ c.self.invariant.4 c.args.number c.in-Some._place placed, refl))
