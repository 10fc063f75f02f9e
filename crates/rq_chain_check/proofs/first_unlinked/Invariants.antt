use Rattle.std.proofs.Common.{◌≡◌, length}
use Rattle.rq_pool.specs.Fetching.{MayHaveRead}
use Rattle.rq_views.specs.Stored.{slots_in}
use Rattle.rq_chain_check.specs.Follows.{AreFollowed}
use Rattle.rq_pool.specs.Fetching.{IsReadAsStored}
use Rattle.rq_chain_check.proofs.first_unlinked.Given as goal

-- the chains of the senders so far are whole
abbrev pub invariant-loop-sender : goal.invariant-loop-sender
invariant-loop-sender g l = record {
  followed : IsReadAsStored g.P.PageDevice l.fn.pages l.pages → AreFollowed l.fn.pages.sizes (slots_in l.fn.pages.sizes l.fn.pages.images) l.sender l.met;
  same : length l.met ≡ length l.fn.met;
  counted : g.P.PageDevice.faults l.pages.device ≡ g.P.PageDevice.faults l.fn.pages.device;
  read : MayHaveRead g.P.PageDevice l.fn.pages l.pages;
}
