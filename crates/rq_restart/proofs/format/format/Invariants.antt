use Rattle.std.proofs.Common.{◌≡◌, ℕ, ◌≤◌, ◌<◌}
use Rattle.rq_page.specs.Formatted.{IsFormatted}
use Rattle.rq_restart.specs.Formatting.{KeepsOthers}
use Rattle.rq_restart.proofs.Formats.{IsUntold, IsWithin}
use Rattle.rq_restart.proofs.format.format.Given as goal

abbrev pub invariant-loop-number : goal.invariant-loop-number
invariant-loop-number g l = record {
  formatted : (p : ℕ) → 1 ≤ p → p < l.number → IsFormatted l.layout p (g.P.PageDevice.seen l.pages p);
  untold : IsUntold g.P.PageDevice l.layout l.fn.pages l.pages;
  within : IsWithin g.P.PageDevice l.layout l.fn.pages l.pages;
  others : KeepsOthers g.P.PageDevice l.layout l.fn.pages l.pages;
  honest : g.P.PageDevice.honest l.pages → g.P.PageDevice.honest l.fn.pages;
  stands : g.P.PageDevice.honest l.pages → g.P.PageDevice.stopped l.fn.pages → g.P.PageDevice.stopped l.pages;
  cause : g.P.PageDevice.faults l.pages ≡ g.P.PageDevice.faults l.fn.pages;
}
