use Rattle.std.proofs.Common.{subst}
use Rattle.rq_log.specs.Reading.{IsReading}
use Rattle.rq_log.proofs.Keeping.{is_reading}
use Rattle.rq_log.proofs.reading.LogReader.shows_read.Goals as goal

pub returns-clause-reading : goal.returns-clause-reading
returns-clause-reading g c = subst (λ r. IsReading g.L.LogDevice r) c.self.view_is (is_reading g.L.LogDevice c.self.inside.past c.self.inside.first.value c.self.inside.last c.self.inside.stream c.self.invariant)
