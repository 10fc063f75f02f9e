use Rattle.std.proofs.Common.{ap, rules}
use Rattle.rq_log.specs.Spelled.{spelled}
use Rattle.rq_engine.specs.Opened.{OpenStore}
use Rattle.rq_laws.proofs.Writing.{handed_alike, left_one}
use Rattle.rq_laws.proofs.calls.force.Goals as goal

pub returns : goal.returns
returns g c = record {
  same = search rules;
  state = search rules;
  reads = search rules;
  durable = left_one g.L.LogDevice _ _ _ _ _ _ (ap (λ (o : OpenStore _ _). spelled o.state.records) c.requires.same) c.force.ensures.durable c.force-2.ensures.durable;
  decided = handed_alike g.L.LogDevice _ _ _ _ _ _ c.requires.same c.force.ensures.failed c.force.ensures.refusal c.force-2.ensures.failed c.force-2.ensures.refusal;
}
