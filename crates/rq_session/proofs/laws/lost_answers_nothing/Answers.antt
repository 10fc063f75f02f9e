use Rattle.rq_session.proofs.EachTurn as turns
use Rattle.rq_session.proofs.laws.lost_answers_nothing.Goals as goal

pub returns : goal.returns
returns c = turns.lost_answers_nothing
