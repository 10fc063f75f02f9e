use Rattle.rq_model.proofs.Shown.{survives}
use Rattle.rq_model.proofs.laws.forced_stay.Goals as goal

pub returns : goal.returns
returns c = survives
