use Rattle.rq_store.proofs.Growing.{left_by_its_pages}
use Rattle.rq_store.proofs.pages_behind_a_store_do_not_count.Goals as goal

pub returns : goal.returns
returns c = left_by_its_pages
