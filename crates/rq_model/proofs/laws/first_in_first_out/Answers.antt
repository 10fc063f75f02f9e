use Rattle.rq_model.proofs.Sent.{fifo_throughout}
use Rattle.rq_model.proofs.laws.first_in_first_out.Goals as goal

pub returns : goal.returns
returns c = fifo_throughout
