use Rattle.rq_workers.proofs.Rounds.{checkpoint_more, checkpoints_end, may_checkpoint}
use Rattle.rq_workers.proofs.worker.Worker.make_checkpoints.Goals as goal

pub returns-then-not-asks : goal.returns-then-not-asks
returns-then-not-asks g c = checkpoints_end _ _ _ c.asks.result c.loop.invariant c.asks.ensures c.if-not-asks.true

pub loop-preserved : goal.loop-preserved
loop-preserved g c = checkpoint_more _ _ _ _ c.asks.result c.calls.result c.loop.invariant c.asks.ensures c.if-not-asks.false c.calls.ensures

pub calls-requires : goal.calls-requires
calls-requires g c = may_checkpoint _ _ c.asks.result c.asks.ensures c.if-not-asks.false
