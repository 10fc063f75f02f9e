use Rattle.rq_pool.specs.Indexed.{closed_groups, free_cells}
use Rattle.rq_pool.proofs.Indexes.{AreNotedOf}
use Rattle.rq_pool.proofs.notes.note_page.Given as goal

abbrev pub invariant-loop-slot : goal.invariant-loop-slot
invariant-loop-slot l = record {
  free : AreNotedOf (free_cells l.layout) l.layout l.page l.fn.free l.free l.number l.slot;
  closed : AreNotedOf (closed_groups l.layout) l.layout l.page l.fn.closed l.closed l.number l.slot;
}
