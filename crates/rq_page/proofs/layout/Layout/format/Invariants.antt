use Rattle.std.proofs.Common.{◌≡◌, ℕ, ◌<◌, ◌≤◌}
use Rattle.rq_page.specs.Pages.{slot_of}
use Rattle.rq_page.specs.Kinds.{kind_of}
use Rattle.rq_page.specs.Formatted.{formatted_slot, IsHeaderFor}
use Rattle.rq_page.proofs.layout.Layout.format.Given as goal

abbrev pub invariant-loop-slot : goal.invariant-loop-slot
invariant-loop-slot l = record {
  header : IsHeaderFor (kind_of l.self l.page) l.page 0 l.out;
  slots : (k : ℕ) → 1 ≤ k → k < l.slot → slot_of k l.out ≡ formatted_slot l.self l.page k;
}
