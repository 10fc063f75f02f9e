use Rattle.rq_restart.proofs.Placing.{undos_have_places}
use Rattle.rq_restart.proofs.laws.undos_have_places.Goals as goal

pub returns : goal.returns
returns c = undos_have_places
