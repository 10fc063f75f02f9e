use Rattle.rq_model.proofs.Bridges.{growth_goes_on}
use Rattle.rq_model.proofs.laws.growth_goes_on.Goals as goal

pub returns : goal.returns
returns c = growth_goes_on
