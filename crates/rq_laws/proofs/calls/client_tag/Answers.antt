use Rattle.std.proofs.Common.{refl, rules}
use Rattle.rq_model.specs.declared.refusal.Refusal.TheVariants.{UnknownClient}
use Rattle.rq_laws.proofs.Refusing.{refuse_plain}
use Rattle.rq_laws.proofs.Writing.{client_passed, the_same}
use Rattle.rq_laws.proofs.calls.client_tag.Goals as goal

pub returns : goal.returns
returns g c = record {
  same = search rules;
  decided = λ x y k. the_same UnknownClient _ _ (λ w. w) c.client_tag.ensures.refusal c.client_tag-2.ensures.refusal
      (refuse_plain g.P.PageDevice g.L.LogDevice _ _ _ _ _ _ _ _ (client_passed _) refl (λ z l. refl) c.requires.same c.client_tag.ensures.answered c.client_tag-2.ensures.answered x y k);
}
