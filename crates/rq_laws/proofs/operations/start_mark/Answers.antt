use Rattle.std.proofs.Common.{ap, refl}
use Rattle.rq_engine.specs.Opened.{OpenStore}
use Rattle.rq_laws.proofs.Starts.{mark_alike}
use Rattle.rq_laws.proofs.Refusing.{starts_apart, refuse_alike, mark_passed}
use Rattle.rq_laws.proofs.operations.start_mark.Goals as goal

pub returns : goal.returns
returns g c = record {
  same = λ x y. mark_alike _ _ _ _ _ _ _ _ _ (ap (λ (s : OpenStore _ _). s.state) c.requires.same) (c.start_mark.ensures.lists x) (c.start_mark-2.ensures.lists y);
  latched = starts_apart _ _ _ _ _ c.requires.same c.start_mark.ensures.latched c.start_mark-2.ensures.latched;
  decided = λ x y. refuse_alike g.P.PageDevice g.L.LogDevice _ _ _ _ _ _ _ _ (mark_passed _ _ _) refl c.requires.same (starts_apart _ _ _ _ _ c.requires.same c.start_mark.ensures.latched c.start_mark-2.ensures.latched) c.start_mark.ensures.answered c.start_mark-2.ensures.answered x y;
}
