use Rattle.rq_cases.proofs.WrongLevels.{wrong_levels}
use Rattle.rq_cases.proofs.wrong_levels_are_refused.Goals as goal

pub returns : goal.returns
returns c = wrong_levels
