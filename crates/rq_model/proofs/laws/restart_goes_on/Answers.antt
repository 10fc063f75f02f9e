use Rattle.rq_model.proofs.Bridges.{restart_goes_on}
use Rattle.rq_model.proofs.laws.restart_goes_on.Goals as goal

pub returns : goal.returns
returns c = restart_goes_on
