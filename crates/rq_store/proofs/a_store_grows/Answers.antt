use Rattle.rq_store.proofs.Growing.{stores_grow}
use Rattle.rq_store.proofs.a_store_grows.Goals as goal

pub returns : goal.returns
returns c = stores_grow
