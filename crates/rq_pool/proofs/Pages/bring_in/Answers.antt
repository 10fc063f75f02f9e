use Rattle.std.proofs.Common.{◌∙◌, sym}
use Rattle.rq_pool.proofs.Ties.{framed_there}
use Rattle.rq_pool.proofs.Pages.bring_in.Goals as goal

pub returns-in-Some-clause-framed : goal.returns-in-Some-clause-framed
returns-in-Some-clause-framed g c =
    let placed = sym (rw c.deref.ensures.value at c.place_of.ensures) ∙ c.in-Some.is in
    rw (← c.self.view_is) (framed_there _ _ _ _ _ c.self.invariant.4 c.args.number c.in-Some._place placed)
