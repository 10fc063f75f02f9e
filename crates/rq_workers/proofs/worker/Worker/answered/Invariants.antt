use Rattle.rq_model.specs.History.{Call}
use Rattle.rq_workers.specs.Operations.{Carries}
use Rattle.rq_workers.specs.Operations.Stage.{Due}
use Rattle.rq_workers.proofs.worker.Worker.answered.Given as goal

-- the part is still to be called
abbrev pub invariant-loop : goal.invariant-loop
invariant-loop g l = (c : Call) → Carries c (Due l.part l.sub) l.fn.self (Due l.part l.sub) l.self
