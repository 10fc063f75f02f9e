use Rattle.rq_record.proofs.Whole as whole
use Rattle.rq_record.proofs.laws.one_spelling.Goals as goal

pub returns : goal.returns
returns c = whole.one_spelling
