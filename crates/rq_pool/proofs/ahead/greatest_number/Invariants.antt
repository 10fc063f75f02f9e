use Rattle.rq_pool.proofs.Numbering.{IsGreatest}
use Rattle.rq_pool.proofs.ahead.greatest_number.Given as goal

abbrev pub invariant-loop-slot : goal.invariant-loop-slot
invariant-loop-slot l = IsGreatest l.fn.layout l.fn.number l.fn.page l.slot l.greatest
