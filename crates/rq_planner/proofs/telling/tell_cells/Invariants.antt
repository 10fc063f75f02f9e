use Rattle.std.specs.Prelude.{IfSome}
use Rattle.std.proofs.Common.{◌≡◌, length}
use Rattle.rq_page.specs.Sizes.{cell_at}
use Rattle.rq_pool.specs.Fetching.{MayHaveRead}
use Rattle.rq_planner.specs.Answered.{IsFreeCell, KnowsBelow}
use Rattle.rq_planner.proofs.telling.tell_cells.Given as goal

-- the levels know the slots so far, and the next free cell is a free one
abbrev pub invariant-loop-place : goal.invariant-loop-place
invariant-loop-place g l = record {
  read : MayHaveRead g.P.PageDevice l.fn.pages l.pages;
  counted : g.P.PageDevice.faults l.pages.device ≡ g.P.PageDevice.faults l.fn.pages.device;
  count : length l.levels ≡ length l.fn.levels;
  known : KnowsBelow l.fn.pages.sizes l.pages.images (cell_at l.fn.pages.sizes l.place) l.levels;
  free : IfSome l.free (IsFreeCell l.fn.pages.sizes l.pages.images);
}
