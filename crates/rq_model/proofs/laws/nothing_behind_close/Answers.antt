use Rattle.rq_model.proofs.Sent.{nothing_behind_close}
use Rattle.rq_model.proofs.laws.nothing_behind_close.Goals as goal

pub returns : goal.returns
returns c = nothing_behind_close
