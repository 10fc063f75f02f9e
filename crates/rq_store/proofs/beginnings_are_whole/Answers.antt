use Rattle.rq_store.proofs.Cutting.{whole_dropped}
use Rattle.rq_store.proofs.beginnings_are_whole.Goals as goal

pub returns : goal.returns
returns c = whole_dropped
