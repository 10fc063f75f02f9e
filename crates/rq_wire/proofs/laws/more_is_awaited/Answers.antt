use Rattle.rq_wire.proofs.Faults as faults
use Rattle.rq_wire.proofs.laws.more_is_awaited.Goals as goal

pub returns : goal.returns
returns c = faults.more_is_awaited
