use Rattle.rq_log.proofs.Places.{not_read_again, read_again}
use Rattle.rq_log.proofs.reading.LogReader.at.Goals as goal
use Rattle.rq_log.proofs.reading.LogReader.at.Goals.{in-Ok, in-Err}

pub returns-clause-found : goal.returns-clause-found
returns-clause-found g c = elim c.match-record_at.branch [
  | in-Ok w ↦
      let s = c.self.inside in
      rw w.result-is (rw (← c.self.view_is) (λ h r at. read_again g.L.LogDevice s.past s.stream s.first.value s.last c.self.invariant (c.record_at.ensures.read.honest h) c.args.place w.in-Ok.record _ (w.in-Ok.ensures.found h) r at))
  | in-Err w ↦ rw w.result-is tt
]

pub returns-clause-front : goal.returns-clause-front
returns-clause-front g c = elim c.match-record_at.branch [
  | in-Ok w ↦ rw w.result-is (rw (← c.self.view_is) (λ h. (_, w.in-Ok.ensures.found h)))
  | in-Err w ↦ rw w.result-is tt
]

pub returns-clause-err : goal.returns-clause-err
returns-clause-err g c = elim c.match-record_at.branch [
  | in-Ok w ↦ rw w.result-is tt
  | in-Err w ↦
      let s = c.self.inside in
      rw w.result-is (rw (← c.self.view_is) (not_read_again g.L.LogDevice s.past s.stream s.first.value s.last c.self.invariant w.in-Err.refusal c.args.place c.record_at.new.self.device c.record_at.ensures.read.honest w.in-Err.ensures.none))
]
