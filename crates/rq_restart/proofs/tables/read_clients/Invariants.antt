use Rattle.std.proofs.Common.{◌≡◌, ◌≤◌, ◌+◌, List, ℕ}
use Rattle.rq_pool.specs.Fetching.{MayHaveRead}
use Rattle.rq_groups.specs.Sent.{sent_count}
use Rattle.rq_restart.specs.Tables.{AreSentTo, AreWaitingTo}
use Rattle.rq_restart.proofs.Tabled.{IsNextAtHand}
use Rattle.rq_restart.proofs.tables.read_clients.Given as goal

-- the senders and the clients so far are told of
abbrev pub invariant-loop-client : goal.invariant-loop-client
invariant-loop-client g l = record {
  read : MayHaveRead g.P.PageDevice l.fn.pages l.pages;
  counted : g.P.PageDevice.faults l.pages.device ≡ g.P.PageDevice.faults l.fn.pages.device;
  hand : IsNextAtHand l.fn.pages.sizes l.pages (l.fn.senders + l.client);
  waiting : (waiting : List ℕ) → AreWaitingTo l.fn.pages.sizes l.fn.pages.images l.fn.senders waiting → AreWaitingTo l.fn.pages.sizes l.pages.images l.fn.senders waiting;
  sent : AreSentTo l.fn.pages.sizes l.pages.images (l.fn.senders + l.client) l.sent;
  few : (place : ℕ) → sent_count l.sent place ≤ l.fn.records;
}
