use Rattle.std.proofs.Common.{ap, refl}
use Rattle.rq_engine.specs.Opened.{OpenStore}
use Rattle.rq_laws.proofs.Undoing.{undo_alike}
use Rattle.rq_laws.proofs.Refusing.{takes_apart, refuse_taken, undo_passed, undo_nothing}
use Rattle.rq_laws.proofs.operations.undo_next.Goals as goal

pub returns : goal.returns
returns g c = record {
  same = λ x y. undo_alike _ _ _ _ _ _ _ (ap (λ (s : OpenStore _ _). s.state) c.requires.same) (c.undo_next.ensures.lists x) (c.undo_next-2.ensures.lists y);
  latched = λ x y. takes_apart _ _ _ _ _ c.requires.same (c.undo_next.ensures.latched x) (c.undo_next-2.ensures.latched y);
  decided = λ x y. refuse_taken g.P.PageDevice g.L.LogDevice _ _ _ _ _ _ _ _ (undo_passed _) (undo_nothing _) refl c.requires.same (takes_apart _ _ _ _ _ c.requires.same (c.undo_next.ensures.latched x.0) (c.undo_next-2.ensures.latched y.0)) c.undo_next.ensures.answered c.undo_next-2.ensures.answered x y;
}
