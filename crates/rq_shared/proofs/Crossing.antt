-- A shared engine may cross threads.
use denote.RattleType.{RattleType}
use denote.Param.Send.{IsSend, IsSync, sendable}
use Rattle.std.proofs.Crossing.{crosses}
use Rattle.std.proofs.sync.ledger.Book.TheSendSync as book
use Rattle.std.specs.declared.sync.ledger.Ledger as ledger
use Rattle.rq_bytes.proofs.ghost_list.GhostList.TheLaws.TheKnot as ghost_list
use Rattle.rq_disk.specs.declared.device.LogDevice as log_device
use Rattle.rq_disk.specs.declared.device.PageDevice as page_device
use Rattle.rq_level.specs.declared.level.Level as level
use Rattle.rq_groups.specs.contracts.Ends as Ends
use Rattle.rq_engine.specs.contracts.engine.Engine as Engine
use Rattle.rq_shared.proofs.count.Count.TheLaws.TheKnot as count
use Rattle.rq_txn.proofs.Transactions.TheSendSync as transactions
use Rattle.rq_shared.proofs.kept.AuditEntry.TheSendSync as entry
use Rattle.rq_shared.specs.contracts.kept.Kept as Kept
use Rattle.rq_shared.specs.declared.sharing.Sharing as sharing
use Rattle.rq_shared.specs.contracts.guarded.Guarded as Guarded
use Rattle.rq_shared.specs.contracts.shared.EngineLock as EngineLock

ends_send : IsSend Ends.the_row
ends_send = search (crosses, ghost_list.crosses, sendable) depth 60 fits 20000

module _ (P L B : RattleType) (p : page_device.Ghosts P.Denot) (l : log_device.Ghosts L.Denot) (b : level.Ghosts B.Denot) (s : IsSend P) (t : IsSend L) (u : IsSend B) where
  engine_send : IsSend (Engine.the_row P L B p l b)
  engine_send = search (transactions.the_send, ends_send, crosses, ghost_list.crosses, sendable) depth 60 fits 20000

  kept_send : IsSend (Kept.the_row P L B p l b)
  kept_send = search (engine_send, entry.the_send, crosses, count.crosses, sendable) depth 60 fits 20000

  module _ (G : RattleType) (h : sharing.Ghosts G.Denot) (g : ledger.Ghosts G.Denot) where
    guarded_send : IsSend (Guarded.the_row P L B G p l b h g)
    guarded_send = search (kept_send, book.the_send, crosses, sendable) depth 60 fits 20000

    pub lock_sync : IsSync (EngineLock.the_row P L B G p l b h g)
    lock_sync = search (guarded_send, crosses, sendable) depth 60 fits 20000
