use Rattle.rq_cases.proofs.Leveled.{levels, wrong_plans}
use Rattle.rq_cases.proofs.levels_are_judged.Goals as goal

pub returns : goal.returns
returns c = record { right = levels; wrong = wrong_plans }
