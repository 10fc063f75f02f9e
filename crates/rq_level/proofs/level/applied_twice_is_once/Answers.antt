use Rattle.rq_level.proofs.EachLevel.{twice_is_once}
use Rattle.rq_level.proofs.level.applied_twice_is_once.Goals as goal

pub returns : goal.returns
returns c = twice_is_once
