use Rattle.rq_workers.proofs.Rounds.{force_more, forces_end, may_force}
use Rattle.rq_workers.proofs.worker.Worker.write_log.Goals as goal

pub returns-then-not-asks : goal.returns-then-not-asks
returns-then-not-asks g c = forces_end _ _ _ c.asks.result c.loop.invariant c.asks.ensures c.if-not-asks.true

pub loop-preserved : goal.loop-preserved
loop-preserved g c = force_more _ _ _ _ c.asks.result c.forces.result c.loop.invariant c.asks.ensures c.if-not-asks.false c.forces.ensures

pub forces-requires : goal.forces-requires
forces-requires g c = may_force _ _ c.asks.result c.asks.ensures c.if-not-asks.false
