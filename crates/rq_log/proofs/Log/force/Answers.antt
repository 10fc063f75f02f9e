use Rattle.rq_log.proofs.Kept.{forced_all}
use Rattle.rq_log.proofs.Log.force.Goals as goal

pub invariant_of-self : goal.invariant_of-self
invariant_of-self g c =
    let L = g.L.LogDevice in
    let ok = rw (← c.self.view_is) at c.in_ok-hand_over.ensures.ok in
    forced_all L _ _ c.self.inside.buffer.items _ c.self.invariant ok.0 ok.2 ok.1 c.force.new.self c.force.ensures.honest c.in-Ok.ensures.durable c.force.ensures.seen _
