use Rattle.rq_session.proofs.EachTurn as turns
use Rattle.rq_session.proofs.laws.each_reply.Goals as goal

pub returns : goal.returns
returns c = turns.each_reply
