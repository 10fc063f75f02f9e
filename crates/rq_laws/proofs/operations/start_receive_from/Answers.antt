use Rattle.std.proofs.Common.{ap, refl}
use Rattle.rq_engine.specs.Opened.{OpenStore}
use Rattle.rq_laws.proofs.Starts.{from_alike}
use Rattle.rq_laws.proofs.Refusing.{takes_apart, refuse_taken, from_passed, from_nothing}
use Rattle.rq_laws.proofs.operations.start_receive_from.Goals as goal

pub returns : goal.returns
returns g c = record {
  same = λ x y. from_alike _ _ _ _ _ _ _ _ (ap (λ (s : OpenStore _ _). s.state) c.requires.same) (c.start_receive_from.ensures.lists x) (c.start_receive_from-2.ensures.lists y);
  latched = λ x y. takes_apart _ _ _ _ _ c.requires.same (c.start_receive_from.ensures.latched x) (c.start_receive_from-2.ensures.latched y);
  decided = λ x y. refuse_taken g.P.PageDevice g.L.LogDevice _ _ _ _ _ _ _ _ (from_passed _ _) (from_nothing _ _) refl c.requires.same (takes_apart _ _ _ _ _ c.requires.same (c.start_receive_from.ensures.latched x.0) (c.start_receive_from-2.ensures.latched y.0)) c.start_receive_from.ensures.answered c.start_receive_from-2.ensures.answered x y;
}
