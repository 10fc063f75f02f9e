use Rattle.rq_model.proofs.Placed.{acknowledged_stay}
use Rattle.rq_model.proofs.laws.acknowledged_stay.Goals as goal

pub returns : goal.returns
returns c = acknowledged_stay
