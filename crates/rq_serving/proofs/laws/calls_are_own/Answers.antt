use Rattle.rq_serving.proofs.Carrying as carrying
use Rattle.rq_serving.proofs.laws.calls_are_own.Goals as goal

pub returns : goal.returns
returns c = carrying.calls_are_own
