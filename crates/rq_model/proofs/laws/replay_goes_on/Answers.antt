use Rattle.rq_model.proofs.Replayed.{replays_on}
use Rattle.rq_model.proofs.laws.replay_goes_on.Goals as goal

pub returns : goal.returns
returns c = replays_on
