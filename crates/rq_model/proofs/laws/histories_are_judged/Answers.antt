use Rattle.rq_model.proofs.Histories.{worked}
use Rattle.rq_model.proofs.laws.histories_are_judged.Goals as goal

pub returns : goal.returns
returns c = worked
