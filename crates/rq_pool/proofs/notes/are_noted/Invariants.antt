use Rattle.std.proofs.Common.{◌≡◌, ℕ, ◌/◌, ◌%◌, ◌<◌}
use Rattle.rq_page.specs.Sizes.{cell_at, cell_count, directory_at, sender_count}
use Rattle.rq_pool.specs.Indexed.{IsNotedOn, closed_groups, free_cells}
use Rattle.rq_pool.proofs.notes.are_noted.Given as goal

abbrev pub invariant-loop-slot : goal.invariant-loop-slot
invariant-loop-slot l = record {
  free : (k : ℕ) → k < cell_count l.layout → cell_at l.layout k / 16 ≡ l.number → cell_at l.layout k % 16 < l.slot
      → IsNotedOn (free_cells l.layout) l.layout l.page l.free k;
  closed : (k : ℕ) → k < sender_count l.layout → directory_at k / 16 ≡ l.number → directory_at k % 16 < l.slot
      → IsNotedOn (closed_groups l.layout) l.layout l.page l.closed k;
}
