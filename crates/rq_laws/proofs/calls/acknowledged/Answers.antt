use Rattle.std.proofs.Common.{rules}
use Rattle.rq_laws.proofs.Writing.{failed_alike}
use Rattle.rq_laws.proofs.calls.acknowledged.Goals as goal

pub returns : goal.returns
returns g c = record {
  same = search rules;
  decided = failed_alike _ _ _ _ c.requires.same c.acknowledged.ensures.failed c.acknowledged.ensures.refusal c.acknowledged-2.ensures.failed c.acknowledged-2.ensures.refusal;
}
