use Rattle.rq_record.proofs.Whole as whole
use Rattle.rq_record.proofs.laws.framed.Goals as goal

pub returns-clause-front : goal.returns-clause-front
returns-clause-front c = whole.framed

pub returns-clause-whole : goal.returns-clause-whole
returns-clause-whole c = whole.framed_whole

pub returns-clause-bounded : goal.returns-clause-bounded
returns-clause-bounded c = λ r is. (whole.long_spelling r is, whole.short_spelling r is)
