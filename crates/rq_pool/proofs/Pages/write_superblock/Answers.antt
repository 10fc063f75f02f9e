use Rattle.std.proofs.Common.{arith, rules}
use Rattle.rq_pool.proofs.Over.{over_marked}
use Rattle.rq_pool.proofs.Ties.{first_placed, tied_marked}
use Rattle.rq_pool.proofs.Pages.write_superblock.Goals as goal

pub invariant_of-self : goal.invariant_of-self
invariant_of-self g c =
    let i = c.self.invariant in
    let m = c.mark.ensures in (
      rw (m.images, m.changed) (over_marked g.P.PageDevice _ _ _ _ _ i.0 0 (omega arith) c.write_page.ensures.honest c.write_page.ensures.others),
      rw (m.images) i.1,
      rw (m.images) i.2,
      i.3,
      rw (m.images, m.changed, m.places) (tied_marked _ _ _ _ _ 0 0 i.4 (first_placed _ _ _ _ _ i.4 i.3)),
      rw (m.images, m.places) i.5,
    )

pub returns-clause-device : goal.returns-clause-device
returns-clause-device g c = rw (← c.self.view_is) c.write_page.ensures.device

pub returns-clause-same : goal.returns-clause-same
returns-clause-same g c = search rules
