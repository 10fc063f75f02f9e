use Rattle.rq_record.proofs.Sizes.{each_length}
use Rattle.rq_record.proofs.laws.lengths.Goals as goal

pub returns : goal.returns
returns c = each_length
