use Rattle.rq_model.proofs.JudgedRefusals.{worked_refusals}
use Rattle.rq_model.proofs.laws.refusals_are_judged.Goals as goal

pub returns : goal.returns
returns c = worked_refusals
