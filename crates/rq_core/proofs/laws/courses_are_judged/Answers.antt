use Rattle.rq_core.proofs.Worked.{judged}
use Rattle.rq_core.proofs.laws.courses_are_judged.Goals as goal

pub returns : goal.returns
returns c = judged
