use Rattle.rq_wire.proofs.Faults as faults
use Rattle.rq_wire.proofs.laws.faults_are_told.Goals as goal

pub returns : goal.returns
returns c = faults.faults_are_told
