use Rattle.rq_record.proofs.DeedParts as deeds
use Rattle.rq_record.proofs.laws.deeds_are_told.Goals as goal

pub returns : goal.returns
returns c = deeds.deeds_are_told
