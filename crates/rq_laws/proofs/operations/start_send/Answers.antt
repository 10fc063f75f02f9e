use Rattle.std.proofs.Common.{ap, refl}
use Rattle.rq_engine.specs.Opened.{OpenStore}
use Rattle.rq_laws.proofs.Starts.{send_alike}
use Rattle.rq_laws.proofs.Refusing.{starts_apart, refuse_alike, send_passed}
use Rattle.rq_laws.proofs.operations.start_send.Goals as goal

pub returns : goal.returns
returns g c = record {
  same = λ x y. send_alike _ _ _ _ _ _ _ _ _ _ (ap (λ (s : OpenStore _ _). s.state) c.requires.same) (c.start_send.ensures.lists x) (c.start_send-2.ensures.lists y) (c.start_send.ensures.lowest x) (c.start_send-2.ensures.lowest y);
  latched = λ x y. starts_apart _ _ _ _ _ c.requires.same (c.start_send.ensures.latched x) (c.start_send-2.ensures.latched y);
  decided = λ x y. refuse_alike g.P.PageDevice g.L.LogDevice _ _ _ _ _ _ _ _ (send_passed _ _) refl c.requires.same (starts_apart _ _ _ _ _ c.requires.same (c.start_send.ensures.latched x.0) (c.start_send-2.ensures.latched y.0)) c.start_send.ensures.answered c.start_send-2.ensures.answered x y;
}
