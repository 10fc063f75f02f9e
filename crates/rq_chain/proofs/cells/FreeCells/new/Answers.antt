use Rattle.std.proofs.Common.{refl}
use Rattle.rq_chain.proofs.Indexes.{indexed}
use Rattle.rq_chain.proofs.cells.FreeCells.new.Goals as goal

pub invariant_of-result : goal.invariant_of-result
invariant_of-result c = indexed _ _ _ _ _ refl refl c.in_ok-new.ensures c.in_ok-new-2.ensures c.in_ok-new-3.ensures
