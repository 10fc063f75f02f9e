use Rattle.rq_chain.proofs.Planned.{close_undone}
use Rattle.rq_chain.proofs.level.ChainLevel.plan_undo.Goals as goal

pub returns-in-Close : goal.returns-in-Close
returns-in-Close c = rw c.in-Close.is (close_undone c.args.layout.now c.args.self.now c.args.given.now c.args.latched.now.pages c.in-Close.sender c.reopen.new.plan c.reopen.result c.reopen.ensures.ok c.reopen.ensures.err)
