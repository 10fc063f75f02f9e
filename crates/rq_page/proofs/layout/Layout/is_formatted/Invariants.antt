use Rattle.std.proofs.Common.{◌≡◌, ℕ, ◌<◌, ◌≤◌}
use Rattle.rq_page.specs.Pages.{slot_of}
use Rattle.rq_page.specs.Formatted.{formatted_slot}
use Rattle.rq_page.proofs.layout.Layout.is_formatted.Given as goal

abbrev pub invariant-loop-slot : goal.invariant-loop-slot
invariant-loop-slot l = (k : ℕ) → 1 ≤ k → k < l.slot → slot_of k l.image ≡ formatted_slot l.self l.page k
