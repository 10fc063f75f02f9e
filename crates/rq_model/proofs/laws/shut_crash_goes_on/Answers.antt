use Rattle.rq_model.proofs.Bridges.{shut_crash_goes_on}
use Rattle.rq_model.proofs.laws.shut_crash_goes_on.Goals as goal

pub returns : goal.returns
returns c = shut_crash_goes_on
