use Rattle.rq_model.proofs.Bridges.{checkpoint_crash_goes_on}
use Rattle.rq_model.proofs.laws.checkpoint_crash_goes_on.Goals as goal

pub returns : goal.returns
returns c = checkpoint_crash_goes_on
