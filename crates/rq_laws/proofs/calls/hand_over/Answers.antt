use Rattle.std.proofs.Common.{rules}
use Rattle.rq_laws.proofs.Writing.{handed_alike}
use Rattle.rq_laws.proofs.calls.hand_over.Goals as goal

pub returns : goal.returns
returns g c = record {
  same = search rules;
  reads = search rules;
  decided = handed_alike g.L.LogDevice _ _ _ _ _ _ c.requires.same c.hand_over.ensures.failed c.hand_over.ensures.refusal c.hand_over-2.ensures.failed c.hand_over-2.ensures.refusal;
}
