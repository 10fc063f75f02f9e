use Rattle.rq_session.proofs.Due as due
use Rattle.rq_session.proofs.laws.each_wait.Goals as goal

pub returns : goal.returns
returns c = due.each_wait
