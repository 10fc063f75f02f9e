use Rattle.rq_session.proofs.EachTurn as turns
use Rattle.rq_session.proofs.laws.each_loss.Goals as goal

pub returns : goal.returns
returns c = turns.each_loss
