use Rattle.rq_restart.proofs.Following.{may_follow, not_next}
use Rattle.rq_restart.proofs.analysis.Analysis.may_take.Goals as goal

pub returns-then-is_next-clause-next : goal.returns-then-is_next-clause-next
returns-then-is_next-clause-next c = λ log are follow plain can back. may_follow c.args.self.now log c.args.record.now are follow plain c.is_next.result c.follows.result c.args.reads c.args.puts_back c.is_next.ensures c.follows.ensures can back c.if-is_next.true

pub returns-else-is_next-clause-next : goal.returns-else-is_next-clause-next
returns-else-is_next-clause-next c = λ log are follow plain can back. not_next c.args.self.now log c.args.record.now are follow plain c.is_next.result c.is_next.ensures c.if-is_next.false
