use Rattle.rq_model.proofs.Bridges.{crash_goes_on}
use Rattle.rq_model.proofs.laws.crash_goes_on.Goals as goal

pub returns : goal.returns
returns c = crash_goes_on
