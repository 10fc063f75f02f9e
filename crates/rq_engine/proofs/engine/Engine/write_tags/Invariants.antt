use Rattle.std.proofs.Common.{◌≡◌, ◌<◌, ◌≤◌, length, ℕ}
use Rattle.rq_page.specs.Sizes.{page_count}
use Rattle.rq_page.specs.Formatted.{IsFormatted}
use Rattle.rq_engine.specs.Crash.{KeepsFit}
use Rattle.rq_engine.specs.Devices.{KeepsPage}
use Rattle.rq_engine.proofs.engine.Engine.write_tags.Given as goal

abbrev pub invariant-loop-page : goal.invariant-loop-page
invariant-loop-page g l = record {
  low : page_count l.fn.self.state.sizes ≤ l.page;
  state : l.self.state ≡ l.fn.self.state;
  written : (p : ℕ) → page_count l.fn.self.state.sizes ≤ p → p < l.page → IsFormatted l.fn.grown p (g.P.PageDevice.seen l.self.pages p);
  beyond : (p : ℕ) → page_count l.fn.grown ≤ p → KeepsPage g.P.PageDevice l.fn.self.pages l.self.pages p;
  faults : g.P.PageDevice.faults l.self.pages ≡ g.P.PageDevice.faults l.fn.self.pages;
  changed : l.self.changed ≡ l.fn.self.changed;
  count : length l.self.frames ≡ length l.fn.self.frames;
  log : l.self.log ≡ l.fn.self.log;
  replacing : l.self.replacing ≡ l.fn.self.replacing;
  honest : g.P.PageDevice.honest l.self.pages → g.P.PageDevice.honest l.fn.self.pages;
  fit : KeepsFit g.P.PageDevice g.L.LogDevice l.fn.self l.self;
}
