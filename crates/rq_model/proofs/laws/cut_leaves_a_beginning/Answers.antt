use Rattle.rq_model.proofs.Told.{cut_content}
use Rattle.rq_model.proofs.laws.cut_leaves_a_beginning.Goals as goal

pub returns : goal.returns
returns c = cut_content
