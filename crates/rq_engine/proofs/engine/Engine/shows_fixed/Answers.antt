use Rattle.rq_engine.proofs.engine.Engine.shows_fixed.Goals as goal

pub returns : goal.returns
returns g c = rw (← c.self.view_is) c.self.invariant.frames_are
