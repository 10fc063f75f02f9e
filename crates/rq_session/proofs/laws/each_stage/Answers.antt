use Rattle.rq_session.proofs.Due as due
use Rattle.rq_session.proofs.laws.each_stage.Goals as goal

pub returns : goal.returns
returns c = due.each_stage
