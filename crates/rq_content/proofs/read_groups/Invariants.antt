use Rattle.std.proofs.Common.{◌≡◌, map}
use Rattle.rq_model.specs.Tests.{below}
use Rattle.rq_pool.specs.Fetching.{MayHaveRead}
use Rattle.rq_content.specs.Read.{group_of, read_group}
use Rattle.rq_content.proofs.read_groups.Given as goal

-- the senders below are read
abbrev pub invariant-loop-sender : goal.invariant-loop-sender
invariant-loop-sender g l = record {
  groups : g.P.PageDevice.honest l.pages.device → map group_of l.groups.items ≡ map (read_group l.fn.pages.sizes l.fn.pages.images l.transactions) (below l.sender);
  counted : g.P.PageDevice.faults l.pages.device ≡ g.P.PageDevice.faults l.fn.pages.device;
  read : MayHaveRead g.P.PageDevice l.fn.pages l.pages;
}
