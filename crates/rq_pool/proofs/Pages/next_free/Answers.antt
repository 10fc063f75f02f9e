use Rattle.rq_pool.proofs.Indexes.{used_between, used_from}
use Rattle.rq_pool.proofs.Pages.next_free.Goals as goal

pub returns-in-Some-clause-lowest : goal.returns-in-Some-clause-lowest
returns-in-Some-clause-lowest g c =
    rw (← c.self.view_is) (used_between c.self.inside.layout _ c.self.inside.free c.self.invariant.1 c.args.from c.in-Some.place c.cell_addr.result c.cell_addr.ensures.value c.in-Some.ensures)

pub returns-in-None-clause-none : goal.returns-in-None-clause-none
returns-in-None-clause-none g c =
    rw (← c.self.view_is) (used_from c.self.inside.layout _ c.self.inside.free c.self.invariant.1 c.args.from c.in-None.ensures)
