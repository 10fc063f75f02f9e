use Rattle.rq_session.proofs.Balances as balances
use Rattle.rq_session.proofs.laws.one_answer_each.Goals as goal

pub returns : goal.returns
returns c = balances.one_answer_each
