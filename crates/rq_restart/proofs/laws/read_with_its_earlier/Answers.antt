use Rattle.rq_restart.proofs.Pasts.{earlier_back}
use Rattle.rq_restart.proofs.laws.read_with_its_earlier.Goals as goal

pub returns : goal.returns
returns c = earlier_back
