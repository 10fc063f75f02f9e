use Rattle.std.proofs.Common.{◌∙◌, refl, sym}
use Rattle.rq_pool.proofs.Fetched.{fetched_still}
use Rattle.rq_pool.proofs.Ties.{framed_there}
use Rattle.rq_pool.proofs.Pages.look.Goals as goal

pub returns-in-Some : goal.returns-in-Some
returns-in-Some g c =
    let placed = sym (rw c.deref.ensures.value at c.place_of.ensures) ∙ c.in-Some.is in
    fetched_still g.P.PageDevice c.args.number _ c.args.self.now _ refl (rw (← c.self.view_is) (framed_there _ _ _ _ _ c.self.invariant.4 c.args.number c.in-Some._place placed))
