use Rattle.rq_log.proofs.Kept.{reads_beginning}
use Rattle.rq_log.proofs.Log.shows_kept.Goals as goal

pub returns-clause-reads : goal.returns-clause-reads
returns-clause-reads g c = rw (← c.self.view_is) (reads_beginning g.L.LogDevice _ _ _ c.self.inside.buffer.items _ c.self.invariant)
