use Rattle.std.proofs.Common.{arith}
use Rattle.rq_planner.proofs.planner.Planner.tell.Goals as goal

pub invariant_of-self : goal.invariant_of-self
invariant_of-self g c = let n = c.tell_store.ensures.count in let many = c.self.invariant in omega (arith, n, many)
