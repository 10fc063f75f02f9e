use Rattle.rq_model.specs.History.{Call}
use Rattle.rq_workers.specs.declared.acts.Part.TheVariants.{Step}
use Rattle.rq_workers.specs.Operations.{Carries}
use Rattle.rq_workers.specs.Operations.Stage.{Due}
use Rattle.rq_workers.proofs.worker.Worker.stepped.Given as goal

-- a step is to be called
abbrev pub invariant-loop : goal.invariant-loop
invariant-loop g l = (c : Call) → Carries c (Due Step l.sub) l.fn.self (Due Step l.sub) l.self
