use Rattle.rq_laws.proofs.Least.{some_same}
use Rattle.rq_laws.proofs.ends.first_for.Goals as goal

pub returns : goal.returns
returns c = some_same _ _ _ _ _ _ _ c.requires.waiting c.requires.ends c.first_for.ensures.some c.first_for.ensures.none c.first_for-2.ensures.some c.first_for-2.ensures.none
