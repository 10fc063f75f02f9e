use Rattle.rq_reference.specs.Plain.{op_of}
use Rattle.rq_reference.proofs.Receives.{front_of}
use Rattle.rq_reference.proofs.scans.without_last.Goals as goal

pub returns : goal.returns
returns c = front_of op_of c.args.acts.now c.in_ok-all.all.items c.saturating_sub-kept.result c.in_ok-all.ensures.items c.saturating_sub-kept.ensures
