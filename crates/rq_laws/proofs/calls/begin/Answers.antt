use Rattle.std.proofs.Common.{refl, rules}
use Rattle.rq_laws.proofs.Refusing.{refuse_plain, begin_passed}
use Rattle.rq_laws.proofs.calls.begin.Goals as goal

pub returns : goal.returns
returns g c = record {
  same = search rules;
  decided = refuse_plain g.P.PageDevice g.L.LogDevice _ _ _ _ _ _ _ _ (begin_passed) refl (λ z l. refl) c.requires.same c.begin.ensures.answered c.begin-2.ensures.answered;
}
