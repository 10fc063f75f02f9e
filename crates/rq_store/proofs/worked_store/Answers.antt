use Rattle.rq_store.proofs.Worked as worked
use Rattle.rq_store.proofs.worked_store.Goals as goal

pub returns : goal.returns
returns c = worked.worked_store
