use Rattle.std.proofs.Common.{◌≡◌, ◌<◌, ◌≤◌, ℕ, true}
use Rattle.rq_page.specs.Pages.{lsn_of}
use Rattle.rq_pool.specs.Pooled.{image_at, is_changed}
use Rattle.rq_pool.proofs.Pages.has_change_beyond.Given as goal

abbrev pub invariant-loop-page : goal.invariant-loop-page
invariant-loop-page g l = record {
  low : 1 ≤ l.page;
  within : (p : ℕ) → 1 ≤ p → p < l.page → is_changed l.self.changed p ≡ true → lsn_of (image_at l.self.images p) ≤ l.lsn;
}
