use Rattle.rq_laws.proofs.Told.{written_alike}
use Rattle.rq_laws.proofs.pages.set_slot.Goals as goal

pub returns : goal.returns
returns c = written_alike _ _ _ _ _ _ _ c.requires.same c.set_slot.ensures.written c.set_slot-2.ensures.written
