use Rattle.rq_laws.proofs.Places.{tells_same}
use Rattle.rq_laws.proofs.records.tells.Goals as goal

pub returns : goal.returns
returns g c = tells_same _ _ c.record_at.result c.record_at-2.result _ _ _ c.requires.same c.requires.counted c.requires.place c.record_at.ensures.found c.record_at-2.ensures.found
