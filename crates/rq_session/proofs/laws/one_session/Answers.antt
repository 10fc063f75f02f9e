use Rattle.rq_session.proofs.One.{each_keeps, one_first, one_loss, one_reply}
use Rattle.rq_session.proofs.laws.one_session.Goals as goal

pub returns-clause-keeps : goal.returns-clause-keeps
returns-clause-keeps c = each_keeps

pub returns-clause-reply : goal.returns-clause-reply
returns-clause-reply c = one_reply

pub returns-clause-request : goal.returns-clause-request
returns-clause-request c = one_first

pub returns-clause-loss : goal.returns-clause-loss
returns-clause-loss c = one_loss
