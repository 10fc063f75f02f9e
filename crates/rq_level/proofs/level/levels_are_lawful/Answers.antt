use Rattle.rq_level.proofs.EachLevel.{all_lawful}
use Rattle.rq_level.proofs.level.levels_are_lawful.Goals as goal

pub returns : goal.returns
returns c = all_lawful
