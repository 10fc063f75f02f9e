use Rattle.rq_workers.specs.Acts.{Did}
use Rattle.rq_workers.specs.Loops.{AreForces}
use Rattle.rq_workers.proofs.worker.Worker.write_log.Given as goal

-- so far there were rounds alone
abbrev pub invariant-loop : goal.invariant-loop
invariant-loop g l = Did AreForces l.fn.self l.self
