use Rattle.std.proofs.Common.{◌≡◌, ◌<◌, ◌≤◌, length, ℕ, false}
use Rattle.rq_page.specs.Sizes.{page_count}
use Rattle.rq_pool.specs.Pooled.{is_changed}
use Rattle.rq_engine.specs.Crash.{KeepsFit}
use Rattle.rq_engine.specs.Devices.{KeepsPage}
use Rattle.rq_engine.proofs.engine.Engine.write_all.Given as goal

abbrev pub invariant-loop-page : goal.invariant-loop-page
invariant-loop-page g l = record {
  low : 1 ≤ l.page;
  state : l.self.state ≡ l.fn.self.state;
  clean : (p : ℕ) → 1 ≤ p → p < l.page → is_changed l.self.changed p ≡ false;
  behind : (p : ℕ) → page_count l.fn.self.state.sizes ≤ p → KeepsPage g.P.PageDevice l.fn.self.pages l.self.pages p;
  fewer : (p : ℕ) → is_changed l.fn.self.changed p ≡ false → is_changed l.self.changed p ≡ false;
  faults : g.P.PageDevice.faults l.self.pages ≡ g.P.PageDevice.faults l.fn.self.pages;
  count : length l.self.frames ≡ length l.fn.self.frames;
  log : l.self.log ≡ l.fn.self.log;
  replacing : l.self.replacing ≡ l.fn.self.replacing;
  honest : g.P.PageDevice.honest l.self.pages → g.P.PageDevice.honest l.fn.self.pages;
  fit : KeepsFit g.P.PageDevice g.L.LogDevice l.fn.self l.self;
}
