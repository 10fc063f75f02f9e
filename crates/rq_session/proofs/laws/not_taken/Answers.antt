use Rattle.rq_session.proofs.EachTurn as turns
use Rattle.rq_session.proofs.laws.not_taken.Goals as goal

pub returns : goal.returns
returns c = turns.not_taken
