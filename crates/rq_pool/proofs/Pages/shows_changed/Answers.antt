use Rattle.std.proofs.Common.{◌≡◌, ℕ, true, subst}
use Rattle.rq_pool.specs.Held.{IsFramed}
use Rattle.rq_pool.specs.Pooled.{Pooled, is_changed}
use Rattle.rq_pool.proofs.Ties.{changed_framed}
use Rattle.rq_pool.proofs.Pages.shows_changed.Goals as goal

pub returns : goal.returns
returns g c = subst (λ (v : Pooled _). (p : ℕ) → is_changed v.changed p ≡ true → IsFramed v.frames p) c.self.view_is (changed_framed _ _ _ _ _ c.self.invariant.4)
