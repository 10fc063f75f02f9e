use Rattle.rq_log.proofs.Kept.{fewer_forced}
use Rattle.rq_log.proofs.Log.forget_force.Goals as goal

pub invariant_of-self : goal.invariant_of-self
invariant_of-self g c = fewer_forced g.L.LogDevice _ _ c.self.inside.buffer.items _ c.args.forced c.self.invariant (rw (← c.self.view_is) at c.requires.fewer) (rw (← c.self.view_is) at c.requires.based)
