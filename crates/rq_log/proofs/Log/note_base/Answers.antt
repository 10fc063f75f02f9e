use Rattle.rq_log.proofs.Kept.{base_noted}
use Rattle.rq_log.proofs.Log.note_base.Goals as goal

pub invariant_of-self : goal.invariant_of-self
invariant_of-self g c =
    base_noted g.L.LogDevice _ _ c.self.inside.buffer.items _ c.self.invariant (rw (← c.self.view_is) at c.requires.forced) c.args.incarnation (rw (← c.self.view_is) at c.requires.record)
    (rw (← c.self.view_is) at c.requires.idle) (rw (← c.self.view_is) at c.requires.reads) (rw (← c.self.view_is) at c.requires.durable) _ c.put_base.new.self c.put_base.ensures
