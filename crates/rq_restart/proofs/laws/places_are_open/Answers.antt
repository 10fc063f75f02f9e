use Rattle.rq_restart.proofs.Placing.{places_are_open}
use Rattle.rq_restart.proofs.laws.places_are_open.Goals as goal

pub returns : goal.returns
returns c = places_are_open
