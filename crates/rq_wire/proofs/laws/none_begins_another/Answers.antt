use Rattle.rq_wire.proofs.Spells.{apart}
use Rattle.rq_wire.proofs.laws.none_begins_another.Goals as goal

pub returns : goal.returns
returns c = apart
