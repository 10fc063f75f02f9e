use Rattle.rq_session.proofs.EachTurn as turns
use Rattle.rq_session.proofs.laws.each_may_again.Goals as goal

pub returns : goal.returns
returns c = turns.each_may_again
