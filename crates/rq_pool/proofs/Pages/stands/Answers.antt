use Rattle.std.proofs.Common.{◌≡◌, ◌∙◌, Bool, ap, subst, sym}
use Rattle.std.specs.Option.{is_some}
use Rattle.std.specs.Prelude.{◌↔◌, IsTrue}
use Rattle.rq_pool.specs.Frames.{frames_of, place_at, places_of}
use Rattle.rq_pool.specs.Held.{IsFramed}
use Rattle.rq_pool.proofs.Ties.{stands_in_one}
use Rattle.rq_pool.proofs.Pages.stands.Goals as goal

pub returns : goal.returns
returns g c =
    let place = rw c.deref.ensures.value at c.place_of.ensures in
    let is : c.is_some.result ≡ is_some (place_at (places_of c.self.inside.entries.items) c.args.number) = c.is_some.ensures ∙ ap is_some place in
    rw (← c.self.view_is) (subst (λ (b : Bool). IsTrue b ↔ IsFramed (frames_of c.self.inside.frames.items) c.args.number) (sym is) (stands_in_one _ _ _ _ _ c.self.invariant.4 c.args.number))
