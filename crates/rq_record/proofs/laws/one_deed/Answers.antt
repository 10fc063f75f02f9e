use Rattle.rq_record.proofs.DeedParts as deeds
use Rattle.rq_record.proofs.laws.one_deed.Goals as goal

pub returns : goal.returns
returns c = deeds.one_deed
