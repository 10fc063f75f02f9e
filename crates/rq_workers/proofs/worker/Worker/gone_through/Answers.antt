use Rattle.std.proofs.Common.{ap}
use Rattle.rq_workers.specs.Operations.{stepped_stage}
use Rattle.rq_workers.proofs.Leading.{arrives, carries_on}
use Rattle.rq_workers.proofs.worker.Worker.gone_through.Goals as goal

pub returns-in-None : goal.returns-in-None
returns-in-None g c = λ k.
    carries_on k _ _ _ _ _ _ (arrives k _ _ _ _ _ (c.stepped.ensures k) (ap (stepped_stage c.args.sub) c.in-None.is)) (c.answered.ensures k)
