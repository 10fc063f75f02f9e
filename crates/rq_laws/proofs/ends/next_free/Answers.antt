use Rattle.rq_laws.proofs.Least.{next_same}
use Rattle.rq_laws.proofs.ends.next_free.Goals as goal

pub returns : goal.returns
returns c = next_same _ _ _ _ _ _ _ c.requires.waiting c.requires.ends c.next_free.ensures.some c.next_free.ensures.none c.next_free-2.ensures.some c.next_free-2.ensures.none
