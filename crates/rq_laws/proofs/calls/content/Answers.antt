use Rattle.std.proofs.Common.{refl}
use Rattle.rq_laws.proofs.Refusing.{refuse_plain}
use Rattle.rq_laws.proofs.Writing.{both_show, left_state, left_unchanged, show_passed, shown_alike}
use Rattle.rq_laws.proofs.calls.content.Goals as goal

pub returns : goal.returns
returns g c = record {
  same = shown_alike g.P.PageDevice g.L.LogDevice _ _ _ _ _ _ c.requires.same c.content.ensures.answered c.content-2.ensures.answered;
  left = both_show _ _ _ _ _ c.content.ensures.shown c.content-2.ensures.shown (λ a b.
      left_unchanged _ _ _ _ c.requires.same a c.content.ensures.log c.content.ensures.replacing c.content.ensures.changed b c.content-2.ensures.log c.content-2.ensures.replacing c.content-2.ensures.changed);
  lists = λ x y. both_show _ _ _ _ _ (c.content.ensures.lists x) (c.content-2.ensures.lists y) (left_state _ _ _ _ c.requires.same);
  decided = refuse_plain g.P.PageDevice g.L.LogDevice _ _ _ _ _ _ _ _ (show_passed) refl (λ z l. refl) c.requires.same c.content.ensures.answered c.content-2.ensures.answered;
}
