use Rattle.rq_pool.specs.Fixing.{AreSetTo}
use Rattle.rq_pool.proofs.Pages.hold_all.Given as goal

abbrev pub invariant-loop-place : goal.invariant-loop-place
invariant-loop-place g l = AreSetTo l.fixed l.fn.self l.self l.pages l.place
