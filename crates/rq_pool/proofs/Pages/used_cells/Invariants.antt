use Rattle.std.proofs.Common.{◌≡◌, ◌≤◌, ◌-◌}
use Rattle.rq_page.specs.Sizes.{cell_count}
use Rattle.rq_views.specs.Stored.{slots_in}
use Rattle.rq_pool.proofs.Counts.{used_below}
use Rattle.rq_pool.proofs.Pages.used_cells.Given as goal

abbrev pub invariant-loop-next : goal.invariant-loop-next
invariant-loop-next g l = record {
  used : l.used ≡ used_below l.self.sizes (slots_in l.self.sizes l.self.images) l.place;
  few : l.used ≤ l.place;
  within : l.place ≤ cell_count l.self.sizes;
}

abbrev pub decreases-loop-next : goal.decreases-loop-next
decreases-loop-next g l = cell_count l.self.sizes - l.place
