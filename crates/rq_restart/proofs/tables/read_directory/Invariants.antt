use Rattle.std.proofs.Common.{◌≡◌, ◌≤◌, ℕ}
use Rattle.rq_pool.specs.Fetching.{MayHaveRead}
use Rattle.rq_groups.specs.Sent.{sent_count}
use Rattle.rq_restart.specs.Tables.{AreSentTo, AreWaitingTo}
use Rattle.rq_restart.proofs.Tabled.{IsNextAtHand}
use Rattle.rq_restart.proofs.tables.read_directory.Given as goal

-- the senders so far are told of
abbrev pub invariant-loop-sender : goal.invariant-loop-sender
invariant-loop-sender g l = record {
  read : MayHaveRead g.P.PageDevice l.fn.pages l.pages;
  counted : g.P.PageDevice.faults l.pages.device ≡ g.P.PageDevice.faults l.fn.pages.device;
  hand : IsNextAtHand l.fn.pages.sizes l.pages l.sender;
  waiting : AreWaitingTo l.fn.pages.sizes l.pages.images l.sender l.waiting;
  sent : AreSentTo l.fn.pages.sizes l.pages.images l.sender l.sent;
  few : (place : ℕ) → sent_count l.sent place ≤ l.fn.records;
}
