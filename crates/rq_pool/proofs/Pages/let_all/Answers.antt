use Rattle.rq_pool.proofs.Holding.{let_last}
use Rattle.rq_pool.proofs.Pages.let_all.Goals as goal

pub returns-clause-free : goal.returns-clause-free
returns-clause-free g c = let_last c.args.self.now c.hold_all.new.self c.args.pages.now c.hold_all.ensures
