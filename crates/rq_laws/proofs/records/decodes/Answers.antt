use Rattle.rq_laws.proofs.Told.{step_same}
use Rattle.rq_laws.proofs.records.decodes.Goals as goal

pub returns : goal.returns
returns c = step_same _ _ _ _ c.requires.same c.decode.ensures.front c.decode.ensures.found c.decode.ensures.short c.decode.ensures.bad c.decode-2.ensures.found c.decode-2.ensures.short c.decode-2.ensures.bad
