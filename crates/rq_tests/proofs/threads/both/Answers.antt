use denote.RattleType.{RattleType}
use denote.Param.{param}
use denote.Param.Laws.{Laws}
use denote.Param.Send.{IsSend, IsSync, sendable}
use contract.Lifetimes.{Lfts}
use mir.Syntax.{Dict}
use Rattle.std.proofs.Crossing.{crosses}
use Rattle.std.specs.declared.sync.Wait as wait
use Rattle.std.specs.declared.sync.ledger.Ledger as ledger
use Rattle.std.specs.declared.thread.Threads as threads
use Rattle.rq_disk.specs.declared.device.LogDevice as log_device
use Rattle.rq_disk.specs.declared.device.PageDevice as page_device
use Rattle.rq_level.specs.declared.level.Level as level
use Rattle.rq_shared.specs.contracts.shared.EngineLock as EngineLock
use Rattle.rq_shared.specs.declared.sharing.Sharing as sharing
use Rattle.rq_shared.proofs.Crossing.{lock_sync}
use Rattle.rq_tests.proofs.threads.Common.TheSendSync as common
use Rattle.rq_tests.proofs.threads.Own.TheSendSync as own
use Rattle.rq_tests.proofs.threads.both.Lts as lts
use Rattle.rq_tests.proofs.threads.both.Goals as goal

-- what the first thread is given may cross to it
captures : (P L B G R : RattleType) (LP : Laws P) (LL : Laws L) (LB : Laws B) (LG : Laws G) (LR : Laws R) (p : page_device.Ghosts P.Denot) (pd : Dict) (l : log_device.Ghosts L.Denot) (ld : Dict) (b : level.Ghosts B.Denot) (bd : Dict) (n : sharing.Ghosts G.Denot) (nd : Dict) (h : ledger.Ghosts G.Denot) (hd : Dict) (r : threads.Ghosts R.Denot) (rd : Dict) (w : wait.Ghosts R.Denot) (wd dp dl db : Dict) (κs : Lfts 12)
    → IsSync (EngineLock.the_row (param 0 P) (param 1 L) (param 2 B) (param 3 G) p l b n h) → IsSync (param 4 R) → IsSend (param 1 (lts.arg-0-1 P L B G R LP LL LB LG LR p pd l ld b bd n nd h hd r rd w wd dp dl db κs))
captures P L B G R LP LL LB LG LR p pd l ld b bd n nd h hd r rd w wd dp dl db κs front rt =
    search (own.the_send, common.the_sync, crosses, sendable) depth 60 fits 20000

pub join-requires-send-F : goal.join-requires-send-F
join-requires-send-F g c κs within =
    let t = c.type_bounds in
    captures g.row.P g.row.L g.row.B g.row.G g.row.R g.P.laws g.L.laws g.B.laws g.G.laws g.R.laws g.P.PageDevice g.P.PageDevice-dict g.L.LogDevice g.L.LogDevice-dict g.B.Level g.B.Level-dict g.G.Sharing g.G.Sharing-dict g.G.Ledger g.G.Ledger-dict g.R.Threads g.R.Threads-dict g.R.Wait g.R.Wait-dict g.P.Destruct-dict g.L.Destruct-dict g.B.Destruct-dict κs
    (lock_sync (param 0 g.row.P) (param 1 g.row.L) (param 2 g.row.B) g.P.PageDevice g.L.LogDevice g.B.Level t.send-P t.send-L t.send-B (param 3 g.row.G) g.G.Sharing g.G.Ledger)
    t.sync-R
