use Rattle.rq_model.proofs.Replayed.{shut_refuses}
use Rattle.rq_model.proofs.laws.still_store_refuses.Goals as goal

pub returns : goal.returns
returns c = shut_refuses
