use Rattle.rq_engine.specs.Says.{call_of}
use Rattle.rq_workers.specs.Operations.{Carries}
use Rattle.rq_workers.specs.Operations.Stage.{Starting}
use Rattle.rq_workers.proofs.worker.Worker.started.Given as goal

-- its start is still to be called
abbrev pub invariant-loop : goal.invariant-loop
invariant-loop g l = Carries (call_of l.start) Starting l.fn.self Starting l.self
