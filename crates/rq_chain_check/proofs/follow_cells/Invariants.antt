use Rattle.std.proofs.Common.{◌≡◌, length}
use Rattle.rq_page.specs.Sizes.{IsLink}
use Rattle.rq_pool.specs.Fetching.{MayHaveRead}
use Rattle.rq_views.specs.Stored.{slots_in}
use Rattle.rq_pool.specs.Fetching.{IsReadAsStored}
use Rattle.rq_chain_check.proofs.Walks.{IsWalk}
use Rattle.rq_chain_check.proofs.follow_cells.Given as goal

-- the chain is followed so far
abbrev pub invariant-loop-received : goal.invariant-loop-received
invariant-loop-received g l = record {
  walk : IsReadAsStored g.P.PageDevice l.fn.pages l.pages → IsWalk l.fn.pages.sizes (slots_in l.fn.pages.sizes l.fn.pages.images) l.fn.sender l.group l.fn.met l.met l.received l.before l.at;
  link : IsLink l.fn.pages.sizes l.at;
  same : length l.met ≡ length l.fn.met;
  counted : g.P.PageDevice.faults l.pages.device ≡ g.P.PageDevice.faults l.fn.pages.device;
  read : MayHaveRead g.P.PageDevice l.fn.pages l.pages;
}
