use Rattle.std.proofs.Common.{◌≡◌, length}
use Rattle.rq_page.specs.Sizes.{client_slot_at}
use Rattle.rq_pool.specs.Fetching.{MayHaveRead}
use Rattle.rq_planner.specs.Answered.{KnowsBelow}
use Rattle.rq_planner.proofs.telling.tell_clients.Given as goal

-- the levels know the slots so far
abbrev pub invariant-loop-client : goal.invariant-loop-client
invariant-loop-client g l = record {
  read : MayHaveRead g.P.PageDevice l.fn.pages l.pages;
  counted : g.P.PageDevice.faults l.pages.device ≡ g.P.PageDevice.faults l.fn.pages.device;
  count : length l.levels ≡ length l.fn.levels;
  known : KnowsBelow l.fn.pages.sizes l.pages.images (client_slot_at l.fn.pages.sizes l.client) l.levels;
}
