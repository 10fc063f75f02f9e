use Rattle.std.proofs.Common.{refl, rules}
use Rattle.rq_laws.proofs.Refusing.{refuse_plain, end_passed}
use Rattle.rq_laws.proofs.calls.end_abort.Goals as goal

pub returns : goal.returns
returns g c = record {
  same = search rules;
  decided = refuse_plain g.P.PageDevice g.L.LogDevice _ _ _ _ _ _ _ _ (end_passed _) refl (λ z l. refl) c.requires.same c.end_abort.ensures.answered c.end_abort-2.ensures.answered;
}
