use denote.RattleType.{RattleType}
use denote.Param.{param}
use denote.Param.Laws.{Laws}
use denote.Param.Send.{IsSend, IsSync, sendable}
use contract.Lifetimes.{Lfts}
use mir.Syntax.{Dict}
use Rattle.std.proofs.Crossing.{crosses}
use Rattle.std.specs.declared.io.Eprint as eprint
use Rattle.std.specs.declared.io.Print as print
use Rattle.std.specs.declared.sync.Wait as wait
use Rattle.std.specs.declared.sync.ledger.Ledger as ledger
use Rattle.std.specs.declared.thread.Threads as threads
use Rattle.std.specs.declared.time.Clock as clock
use Rattle.rq_disk.specs.declared.device.LogDevice as log_device
use Rattle.rq_disk.specs.declared.device.PageDevice as page_device
use Rattle.rq_level.specs.declared.level.Level as level
use Rattle.rq_shared.specs.contracts.shared.EngineLock as EngineLock
use Rattle.rq_shared.specs.declared.sharing.Sharing as sharing
use Rattle.rq_shared.proofs.Crossing.{lock_sync}
use Rattle.rq_server.specs.declared.length.LogLength as log_length
use Rattle.rq_server.proofs.server.Caller.TheSendSync as caller
use Rattle.rq_server.proofs.server.Post.TheSendSync as post
use Rattle.rq_server.proofs.server.fn.run.scope.Lts as lts
use Rattle.rq_server.proofs.server.fn.run.scope.Goals as goal

-- what the log writer is given may cross to its thread
for_log_writer : (P L B G K R : RattleType) (LP : Laws P) (LL : Laws L) (LB : Laws B) (LG : Laws G) (LK : Laws K) (LR : Laws R) (p : page_device.Ghosts P.Denot) (pd : Dict) (l : log_device.Ghosts L.Denot) (ld : Dict) (b : level.Ghosts B.Denot) (bd : Dict) (n : sharing.Ghosts G.Denot) (nd : Dict) (h : ledger.Ghosts G.Denot) (hd : Dict) (q : log_length.Ghosts K.Denot) (qd : Dict) (r : threads.Ghosts R.Denot) (rd : Dict) (w : wait.Ghosts R.Denot) (wd : Dict) (k : clock.Ghosts R.Denot) (kd : Dict) (o : print.Ghosts R.Denot) (od : Dict) (e : eprint.Ghosts R.Denot) (ed dp dl db : Dict) (κs : Lfts 8)
    → IsSync (EngineLock.the_row (param 0 P) (param 1 L) (param 2 B) (param 3 G) p l b n h) → IsSync (param 5 R) → IsSend (param 1 (lts.arg-0-1 P L B G K R LP LL LB LG LK LR p pd l ld b bd n nd h hd q qd r rd w wd k kd o od e ed dp dl db κs))
for_log_writer P L B G K R LP LL LB LG LK LR p pd l ld b bd n nd h hd q qd r rd w wd k kd o od e ed dp dl db κs front rt =
    search (caller.the_send, crosses, sendable) depth 60 fits 20000

pub spawn-log_writer-requires-send-F : goal.spawn-log_writer-requires-send-F
spawn-log_writer-requires-send-F g c κs within =
    let t = c.requires in
    for_log_writer g.row.P g.row.L g.row.B g.row.G g.row.K g.row.R g.P.laws g.L.laws g.B.laws g.G.laws g.K.laws g.R.laws g.P.PageDevice g.P.PageDevice-dict g.L.LogDevice g.L.LogDevice-dict g.B.Level g.B.Level-dict g.G.Sharing g.G.Sharing-dict g.G.Ledger g.G.Ledger-dict g.K.LogLength g.K.LogLength-dict g.R.Threads g.R.Threads-dict g.R.Wait g.R.Wait-dict g.R.Clock g.R.Clock-dict g.R.Print g.R.Print-dict g.R.Eprint g.R.Eprint-dict g.P.Destruct-dict g.L.Destruct-dict g.B.Destruct-dict κs
    (lock_sync (param 0 g.row.P) (param 1 g.row.L) (param 2 g.row.B) g.P.PageDevice g.L.LogDevice g.B.Level t.1 t.2 t.3 (param 3 g.row.G) g.G.Sharing g.G.Ledger)
    t.0

-- what the page writer is given may cross to its thread
for_page_writer : (P L B G K R : RattleType) (LP : Laws P) (LL : Laws L) (LB : Laws B) (LG : Laws G) (LK : Laws K) (LR : Laws R) (p : page_device.Ghosts P.Denot) (pd : Dict) (l : log_device.Ghosts L.Denot) (ld : Dict) (b : level.Ghosts B.Denot) (bd : Dict) (n : sharing.Ghosts G.Denot) (nd : Dict) (h : ledger.Ghosts G.Denot) (hd : Dict) (q : log_length.Ghosts K.Denot) (qd : Dict) (r : threads.Ghosts R.Denot) (rd : Dict) (w : wait.Ghosts R.Denot) (wd : Dict) (k : clock.Ghosts R.Denot) (kd : Dict) (o : print.Ghosts R.Denot) (od : Dict) (e : eprint.Ghosts R.Denot) (ed dp dl db : Dict) (κs : Lfts 8)
    → IsSync (EngineLock.the_row (param 0 P) (param 1 L) (param 2 B) (param 3 G) p l b n h) → IsSync (param 5 R) → IsSend (param 1 (lts.arg-1-1 P L B G K R LP LL LB LG LK LR p pd l ld b bd n nd h hd q qd r rd w wd k kd o od e ed dp dl db κs))
for_page_writer P L B G K R LP LL LB LG LK LR p pd l ld b bd n nd h hd q qd r rd w wd k kd o od e ed dp dl db κs front rt =
    search (caller.the_send, crosses, sendable) depth 60 fits 20000

pub spawn-page_writer-requires-send-F : goal.spawn-page_writer-requires-send-F
spawn-page_writer-requires-send-F g c κs within =
    let t = c.requires in
    for_page_writer g.row.P g.row.L g.row.B g.row.G g.row.K g.row.R g.P.laws g.L.laws g.B.laws g.G.laws g.K.laws g.R.laws g.P.PageDevice g.P.PageDevice-dict g.L.LogDevice g.L.LogDevice-dict g.B.Level g.B.Level-dict g.G.Sharing g.G.Sharing-dict g.G.Ledger g.G.Ledger-dict g.K.LogLength g.K.LogLength-dict g.R.Threads g.R.Threads-dict g.R.Wait g.R.Wait-dict g.R.Clock g.R.Clock-dict g.R.Print g.R.Print-dict g.R.Eprint g.R.Eprint-dict g.P.Destruct-dict g.L.Destruct-dict g.B.Destruct-dict κs
    (lock_sync (param 0 g.row.P) (param 1 g.row.L) (param 2 g.row.B) g.P.PageDevice g.L.LogDevice g.B.Level t.1 t.2 t.3 (param 3 g.row.G) g.G.Sharing g.G.Ledger)
    t.0

-- what the one who makes checkpoints is given may cross to its thread
for_checkpointer : (P L B G K R : RattleType) (LP : Laws P) (LL : Laws L) (LB : Laws B) (LG : Laws G) (LK : Laws K) (LR : Laws R) (p : page_device.Ghosts P.Denot) (pd : Dict) (l : log_device.Ghosts L.Denot) (ld : Dict) (b : level.Ghosts B.Denot) (bd : Dict) (n : sharing.Ghosts G.Denot) (nd : Dict) (h : ledger.Ghosts G.Denot) (hd : Dict) (q : log_length.Ghosts K.Denot) (qd : Dict) (r : threads.Ghosts R.Denot) (rd : Dict) (w : wait.Ghosts R.Denot) (wd : Dict) (k : clock.Ghosts R.Denot) (kd : Dict) (o : print.Ghosts R.Denot) (od : Dict) (e : eprint.Ghosts R.Denot) (ed dp dl db : Dict) (κs : Lfts 9)
    → IsSync (EngineLock.the_row (param 0 P) (param 1 L) (param 2 B) (param 3 G) p l b n h) → IsSync (param 5 R) → IsSync (param 4 K) → IsSend (param 1 (lts.arg-2-1 P L B G K R LP LL LB LG LK LR p pd l ld b bd n nd h hd q qd r rd w wd k kd o od e ed dp dl db κs))
for_checkpointer P L B G K R LP LL LB LG LK LR p pd l ld b bd n nd h hd q qd r rd w wd k kd o od e ed dp dl db κs front rt log =
    search (caller.the_send, crosses, sendable) depth 60 fits 20000

pub spawn-requires-send-F : goal.spawn-requires-send-F
spawn-requires-send-F g c κs within =
    let t = c.requires in
    for_checkpointer g.row.P g.row.L g.row.B g.row.G g.row.K g.row.R g.P.laws g.L.laws g.B.laws g.G.laws g.K.laws g.R.laws g.P.PageDevice g.P.PageDevice-dict g.L.LogDevice g.L.LogDevice-dict g.B.Level g.B.Level-dict g.G.Sharing g.G.Sharing-dict g.G.Ledger g.G.Ledger-dict g.K.LogLength g.K.LogLength-dict g.R.Threads g.R.Threads-dict g.R.Wait g.R.Wait-dict g.R.Clock g.R.Clock-dict g.R.Print g.R.Print-dict g.R.Eprint g.R.Eprint-dict g.P.Destruct-dict g.L.Destruct-dict g.B.Destruct-dict κs
    (lock_sync (param 0 g.row.P) (param 1 g.row.L) (param 2 g.row.B) g.P.PageDevice g.L.LogDevice g.B.Level t.1 t.2 t.3 (param 3 g.row.G) g.G.Sharing g.G.Ledger)
    t.0 t.4

-- what a worker is given may cross to its thread
for_worker : (P L B G K R : RattleType) (LP : Laws P) (LL : Laws L) (LB : Laws B) (LG : Laws G) (LK : Laws K) (LR : Laws R) (p : page_device.Ghosts P.Denot) (pd : Dict) (l : log_device.Ghosts L.Denot) (ld : Dict) (b : level.Ghosts B.Denot) (bd : Dict) (n : sharing.Ghosts G.Denot) (nd : Dict) (h : ledger.Ghosts G.Denot) (hd : Dict) (q : log_length.Ghosts K.Denot) (qd : Dict) (r : threads.Ghosts R.Denot) (rd : Dict) (w : wait.Ghosts R.Denot) (wd : Dict) (k : clock.Ghosts R.Denot) (kd : Dict) (o : print.Ghosts R.Denot) (od : Dict) (e : eprint.Ghosts R.Denot) (ed dp dl db : Dict) (κs : Lfts 8)
    → IsSync (EngineLock.the_row (param 0 P) (param 1 L) (param 2 B) (param 3 G) p l b n h) → IsSync (param 5 R) → IsSend (param 1 (lts.arg-7-1 P L B G K R LP LL LB LG LK LR p pd l ld b bd n nd h hd q qd r rd w wd k kd o od e ed dp dl db κs))
for_worker P L B G K R LP LL LB LG LK LR p pd l ld b bd n nd h hd q qd r rd w wd k kd o od e ed dp dl db κs front rt =
    search (post.the_send, crosses, sendable) depth 60 fits 20000

pub spawn-requires-in-loop-post-send-F : goal.spawn-requires-in-loop-post-send-F
spawn-requires-in-loop-post-send-F g c κs within =
    let t = c.requires in
    for_worker g.row.P g.row.L g.row.B g.row.G g.row.K g.row.R g.P.laws g.L.laws g.B.laws g.G.laws g.K.laws g.R.laws g.P.PageDevice g.P.PageDevice-dict g.L.LogDevice g.L.LogDevice-dict g.B.Level g.B.Level-dict g.G.Sharing g.G.Sharing-dict g.G.Ledger g.G.Ledger-dict g.K.LogLength g.K.LogLength-dict g.R.Threads g.R.Threads-dict g.R.Wait g.R.Wait-dict g.R.Clock g.R.Clock-dict g.R.Print g.R.Print-dict g.R.Eprint g.R.Eprint-dict g.P.Destruct-dict g.L.Destruct-dict g.B.Destruct-dict κs
    (lock_sync (param 0 g.row.P) (param 1 g.row.L) (param 2 g.row.B) g.P.PageDevice g.L.LogDevice g.B.Level t.1 t.2 t.3 (param 3 g.row.G) g.G.Sharing g.G.Ledger)
    t.0
