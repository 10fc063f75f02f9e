use Rattle.std.proofs.Common.{ap}
use Rattle.rq_level.specs.Ops.{Job}
use Rattle.rq_level.specs.Ops.Doing.{Receive}
use Rattle.rq_planner.specs.Asked.Task.{Chain}
use Rattle.rq_planner.proofs.Asking.{chained}
use Rattle.rq_engine.proofs.engine.Engine.start_take.Goals as goal

pub start_planned-requires-clause-forward : goal.start_planned-requires-clause-forward
start_planned-requires-clause-forward g c = ap (λ (j : Job). j.undo) c.receive-op.ensures.op

pub start_planned-requires-clause-may : goal.start_planned-requires-clause-may
start_planned-requires-clause-may g c = record {
  task = Chain (Receive c.args.sender);
  is = chained c.receive-op.result.level c.receive-op.result.bytes _ c.receive-op.ensures.told;
  may = record { ready = c.requires.may.ready; free = c.requires.waits.1; log = c.requires.may.log; inside = c.requires.waits.0 };
}

pub returns-clause-tried : goal.returns-clause-tried
returns-clause-tried g c = c.start_planned.ensures.tried (Chain (Receive c.args.sender)) (chained c.receive-op.result.level c.receive-op.result.bytes _ c.receive-op.ensures.told)

pub returns-clause-started : goal.returns-clause-started
returns-clause-started g c honest = c.start_planned.ensures.started honest (Chain (Receive c.args.sender)) (chained c.receive-op.result.level c.receive-op.result.bytes _ c.receive-op.ensures.told)

pub returns-clause-frames : goal.returns-clause-frames
returns-clause-frames g c = c.start_planned.ensures.frames (Chain (Receive c.args.sender)) (chained c.receive-op.result.level c.receive-op.result.bytes _ c.receive-op.ensures.told)
