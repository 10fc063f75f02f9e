use Rattle.rq_model.proofs.Growths.{migrations_stay}
use Rattle.rq_model.proofs.laws.migrations_stay.Goals as goal

pub returns : goal.returns
returns c = migrations_stay
