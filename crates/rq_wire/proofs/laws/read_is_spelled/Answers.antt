use Rattle.rq_wire.proofs.Spells as spells
use Rattle.rq_wire.proofs.laws.read_is_spelled.Goals as goal

pub returns : goal.returns
returns c = spells.read_is_spelled
