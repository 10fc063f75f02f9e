use Rattle.rq_restart.proofs.Loading.{one_size}
use Rattle.rq_restart.proofs.laws.one_size.Goals as goal

pub returns : goal.returns
returns c = one_size
