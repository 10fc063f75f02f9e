use Rattle.rq_wire.proofs.Spells as spells
use Rattle.rq_wire.proofs.laws.spelled_is_read.Goals as goal

pub returns : goal.returns
returns c = spells.spelled_is_read
