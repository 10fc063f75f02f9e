use Rattle.rq_model.proofs.Receipts.{receipts_are_exact}
use Rattle.rq_model.proofs.laws.receipts_are_exact.Goals as goal

pub returns : goal.returns
returns c = receipts_are_exact
