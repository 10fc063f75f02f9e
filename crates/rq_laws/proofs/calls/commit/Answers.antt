use Rattle.std.proofs.Common.{ap, refl, rules}
use Rattle.rq_engine.specs.Opened.{OpenStore}
use Rattle.rq_laws.proofs.Refusing.{refuse_plain, commit_passed}
use Rattle.rq_laws.proofs.Writing.{number_alike}
use Rattle.rq_laws.proofs.calls.commit.Goals as goal

pub returns : goal.returns
returns g c = record {
  number = number_alike _ _ _ _ _ _ _ (ap (λ (o : OpenStore _ _). o.state) c.requires.same) c.commit.ensures.lists c.commit-2.ensures.lists;
  state = search rules;
  devices = search rules;
  decided = refuse_plain g.P.PageDevice g.L.LogDevice _ _ _ _ _ _ _ _ (commit_passed _) refl (λ z l. refl) c.requires.same c.commit.ensures.answered c.commit-2.ensures.answered;
}
