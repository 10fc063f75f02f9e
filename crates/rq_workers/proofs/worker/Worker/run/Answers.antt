use Rattle.std.proofs.Common.{ap}
use Rattle.rq_engine.specs.Says.{call_of}
use Rattle.rq_workers.specs.Operations.{started_stage}
use Rattle.rq_workers.proofs.Leading.{arrives, carries_on}
use Rattle.rq_workers.proofs.worker.Worker.run.Goals as goal

pub returns-in-Ok-clause-starts : goal.returns-in-Ok-clause-starts
returns-in-Ok-clause-starts g c = λ starts.
    let k = call_of c.args.start.now in (
      c.gone_through.result,
      c.end_by.ensures,
      carries_on k _ _ _ _ _ _ (arrives k _ _ _ _ _ c.started.ensures (ap started_stage c.in-Ok.is)) (c.gone_through.ensures k),
    )
