use Rattle.std.proofs.Common.{refl, rules}
use Rattle.rq_model.specs.declared.refusal.Refusal.TheVariants.{UnknownSender}
use Rattle.rq_laws.proofs.Refusing.{refuse_plain}
use Rattle.rq_laws.proofs.Writing.{tag_passed, the_same}
use Rattle.rq_laws.proofs.calls.last_tag.Goals as goal

pub returns : goal.returns
returns g c = record {
  same = search rules;
  decided = λ x y k. the_same UnknownSender _ _ (λ w. w) c.last_tag.ensures.refusal c.last_tag-2.ensures.refusal
      (refuse_plain g.P.PageDevice g.L.LogDevice _ _ _ _ _ _ _ _ (tag_passed _) refl (λ z l. refl) c.requires.same c.last_tag.ensures.answered c.last_tag-2.ensures.answered x y k);
}
