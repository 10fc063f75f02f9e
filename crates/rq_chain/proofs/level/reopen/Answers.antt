use Rattle.std.proofs.Common.{refl}
use Rattle.rq_chain.proofs.level.reopen.Goals as goal

pub returns-clause-ok : goal.returns-clause-ok
returns-clause-ok c k = record { marked = c.in_ok-put_closed.ensures.ok c.take_back.new.plan c.take_back.ensures.writes; inverse = c.take_back.ensures.inverse; kept = refl }
