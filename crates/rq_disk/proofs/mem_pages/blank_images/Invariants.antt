use Rattle.std.proofs.Common.{◌≡◌, ◌<◌, ℕ, length, get_or, replicate, []}
use Rattle.rq_disk.specs.declared.device.TheConstants.{PAGE}
use Rattle.rq_disk.proofs.mem_pages.blank_images.Given as goal

abbrev pub invariant-loop-page : goal.invariant-loop-page
invariant-loop-page l = record {
  count : length l.images.items ≡ l._page;
  all : l.images.items ≡ replicate l._page (replicate PAGE 0);
  blank : (p : ℕ) → p < l._page → get_or l.images.items p [] ≡ replicate PAGE 0;
}
