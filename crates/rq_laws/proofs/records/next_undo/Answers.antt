use Rattle.rq_laws.proofs.Told.{undo_same}
use Rattle.rq_laws.proofs.records.next_undo.Goals as goal

pub returns : goal.returns
returns c = undo_same _ _ _ _ c.requires.same c.requires.own c.next_undo.ensures.some c.next_undo.ensures.none c.next_undo-2.ensures.some c.next_undo-2.ensures.none
