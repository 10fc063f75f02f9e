use Rattle.rq_chain_check.proofs.Nexts.{next_told}
use Rattle.rq_chain_check.proofs.next_free.Goals as goal

pub returns : goal.returns
returns g c =
    let told = c.next_free.ensures in
    next_told _ _ _ c.next_free.result told.cell told.free told.from told.lowest told.none
