use Rattle.std.proofs.Common.{ap, refl}
use Rattle.rq_engine.specs.Opened.{OpenStore}
use Rattle.rq_laws.proofs.Starts.{close_alike}
use Rattle.rq_laws.proofs.Refusing.{starts_apart, refuse_alike, close_passed}
use Rattle.rq_laws.proofs.operations.start_close.Goals as goal

pub returns : goal.returns
returns g c = record {
  same = λ x y. close_alike _ _ _ _ _ _ _ _ (ap (λ (s : OpenStore _ _). s.state) c.requires.same) (c.start_close.ensures.lists x) (c.start_close-2.ensures.lists y);
  latched = starts_apart _ _ _ _ _ c.requires.same c.start_close.ensures.latched c.start_close-2.ensures.latched;
  decided = λ x y. refuse_alike g.P.PageDevice g.L.LogDevice _ _ _ _ _ _ _ _ (close_passed _ _) refl c.requires.same (starts_apart _ _ _ _ _ c.requires.same c.start_close.ensures.latched c.start_close-2.ensures.latched) c.start_close.ensures.answered c.start_close-2.ensures.answered x y;
}
