use Rattle.std.proofs.Common.{refl, rules}
use Rattle.rq_tags.proofs.marks.counted.Goals as goal

pub returns-clause-held : goal.returns-clause-held
returns-clause-held c = refl

pub returns-clause-fits : goal.returns-clause-fits
returns-clause-fits c = search rules
