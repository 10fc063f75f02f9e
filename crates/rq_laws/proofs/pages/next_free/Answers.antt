use Rattle.rq_laws.proofs.Least.{cell_same}
use Rattle.rq_laws.proofs.pages.next_free.Goals as goal

pub returns : goal.returns
returns g c =
    cell_same _ _ _ _ _ _ _ c.requires.sizes c.requires.images
    c.next_free.ensures.cell c.next_free.ensures.free c.next_free.ensures.from c.next_free.ensures.lowest c.next_free.ensures.none
    c.next_free-2.ensures.cell c.next_free-2.ensures.free c.next_free-2.ensures.from c.next_free-2.ensures.lowest c.next_free-2.ensures.none
