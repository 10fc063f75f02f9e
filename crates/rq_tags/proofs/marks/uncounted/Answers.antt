use Rattle.std.proofs.Common.{refl}
use Rattle.rq_tags.proofs.marks.uncounted.Goals as goal

pub returns-clause-held : goal.returns-clause-held
returns-clause-held c = refl
