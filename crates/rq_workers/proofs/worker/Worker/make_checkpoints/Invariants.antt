use Rattle.rq_workers.specs.Acts.{Did}
use Rattle.rq_workers.specs.Loops.{AreCheckpoints}
use Rattle.rq_workers.proofs.worker.Worker.make_checkpoints.Given as goal

-- so far there were rounds alone
abbrev pub invariant-loop : goal.invariant-loop
invariant-loop g l = Did AreCheckpoints l.fn.self l.self
