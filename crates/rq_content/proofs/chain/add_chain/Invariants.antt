use Rattle.std.proofs.Common.{◌≡◌, ◌++◌, length, ◌+◌, ◌-◌}
use Rattle.rq_page.specs.Sizes.{IsLink}
use Rattle.rq_pool.specs.Fetching.{MayHaveRead}
use Rattle.rq_content.specs.Read.{cells_in, met}
use Rattle.rq_content.proofs.chain.add_chain.Given as goal

-- what was met and what is to be met is all
abbrev pub invariant-loop : goal.invariant-loop
invariant-loop g l = record {
  all : g.P.PageDevice.honest l.pages.device → l.rest.items ++ met (cells_in l.fn.pages.sizes l.fn.pages.images) l.sender l.at (l.count - l.counter) ≡ l.fn.rest.items ++ met (cells_in l.fn.pages.sizes l.fn.pages.images) l.sender l.fn.head l.count;
  link : IsLink l.fn.pages.sizes l.at;
  many : length l.rest.items ≡ length l.fn.rest.items + l.counter;
  counted : g.P.PageDevice.faults l.pages.device ≡ g.P.PageDevice.faults l.fn.pages.device;
  read : MayHaveRead g.P.PageDevice l.fn.pages l.pages;
}
