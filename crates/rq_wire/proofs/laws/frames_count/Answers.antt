use Rattle.rq_wire.proofs.Spells as spells
use Rattle.rq_wire.proofs.laws.frames_count.Goals as goal

pub returns : goal.returns
returns c = spells.frames_count
