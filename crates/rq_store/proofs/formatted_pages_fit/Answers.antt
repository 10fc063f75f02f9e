use Rattle.rq_store.proofs.WorkedFits.{formatted_fit}
use Rattle.rq_store.proofs.formatted_pages_fit.Goals as goal

pub returns : goal.returns
returns c = formatted_fit
