use Rattle.std.proofs.Common.{List, inl, inr, refl, subst, sym}
use Rattle.rq_pool.specs.declared.ahead.Ahead.{Ahead}
use Rattle.rq_restart.specs.Numbers.{AreNumbersOf}
use Rattle.rq_restart.specs.Repeating.{paged}
use Rattle.rq_restart.proofs.Numbers.{numbers_of}
use Rattle.rq_restart.proofs.Opens.{opens, read_enough, refused_over, refuses, some_frame}
use Rattle.rq_restart.proofs.Paths.{keeps_stores, keeps_unread}
use Rattle.rq_restart.proofs.Telling.{tells_read}
use Rattle.rq_restart.proofs.Undos.{still}
use Rattle.rq_restart.proofs.restart.restart.Goals as goal

pub restart_log-requires-clause-more : goal.restart_log-requires-clause-more
restart_log-requires-clause-more g c =
    let P = g.P.PageDevice in
    let loaded = c.in-Ok.ensures in
    some_frame P g.L.LogDevice c.args.pages c.args.log g.met.P.PageDevice.only_now c.in-Ok.pages loaded.pages loaded.seen loaded.device c.args.frames.count loaded.framed loaded.every c.args.frames.few

pub restart_log-requires-clause-numbers : goal.restart_log-requires-clause-numbers
restart_log-requires-clause-numbers g c =
    subst (λ (ahead : List Ahead). AreNumbersOf c.in-Ok.pages.sizes (paged c.in-Ok.pages) ahead) (sym c.deref.ensures.value)
    (numbers_of c.in-Ok.pages.sizes c.in-Ok.pages.images c.in-Ok.ahead.items c.in-Ok.ensures.numbers)

pub open-engine-requires-clause-loose : goal.open-engine-requires-clause-loose
open-engine-requires-clause-loose g c = c.in-Ok-restart_log.ensures.opened.continues.held c.in-Ok.ensures.loose

pub returns-in-Ok-restart_log-clause-opened : goal.returns-in-Ok-restart_log-clause-opened
returns-in-Ok-restart_log-clause-opened g c =
    let loaded = c.in-Ok.ensures in
    let o = c.in-Ok-restart_log.opened in
    rw c.open-engine.ensures (rw c.from.ensures
    (opens g.P.PageDevice g.L.LogDevice c.args.pages c.args.log g.met.P.PageDevice.only_now c.in-Ok.pages loaded.pages loaded.seen loaded.changed loaded.cause loaded.device c.args.frames.count loaded.framed loaded.every o.pages o.log o.cells o.tables.waiting o.tables.sent o.tables.planner o.report c.in-Ok-restart_log.ensures.opened))

pub returns-in-Ok-restart_log-clause-left : goal.returns-in-Ok-restart_log-clause-left
returns-in-Ok-restart_log-clause-left g c =
    let P = g.P.PageDevice in
    let L = g.L.LogDevice in
    let loaded = c.in-Ok.ensures in
    let o = c.in-Ok-restart_log.opened in
    let made = c.in-Ok-restart_log.ensures in
    rw c.open-engine.ensures
    (keeps_stores P L g.met.P.PageDevice.only_now g.met.P.PageDevice.counts_now g.met.L.LogDevice.counts_now g.met.P.PageDevice.seen_may_be g.met.L.LogDevice.seen_may_be_left c.args.pages c.args.log c.in-Ok.pages loaded.pages loaded.seen loaded.device o.pages.device o.log.device _ made.opened.continues.pages_honest made.opened.telling made.way)

pub returns-in-Ok-restart_log-clause-enough : goal.returns-in-Ok-restart_log-clause-enough
returns-in-Ok-restart_log-clause-enough g c =
    let loaded = c.in-Ok.ensures in
    let made = c.in-Ok-restart_log.ensures.opened in
    rw c.open-engine.ensures
    (read_enough g.P.PageDevice g.L.LogDevice c.args.pages c.args.log g.met.P.PageDevice.only_now c.in-Ok.pages loaded.pages loaded.seen loaded.device c.args.frames.count loaded.framed c.in-Ok-restart_log.opened.pages.device made.continues.pages_honest made.continues.stood)

pub returns-in-Ok-clause-refused : goal.returns-in-Ok-clause-refused
returns-in-Ok-clause-refused g c =
    let P = g.P.PageDevice in
    let L = g.L.LogDevice in
    let loaded = c.in-Ok.ensures in
    let s = c.in-Err-restart_log.stopped in
    refuses P L c.args.pages c.args.log c.args.frames.count s.refusal s.pages s.log (inr (refused_over P L c.args.pages c.args.log g.met.P.PageDevice.only_now c.in-Ok.pages loaded.pages loaded.seen loaded.device c.args.frames.count loaded.framed loaded.cause s.refusal s.pages s.log c.in-Err-restart_log.ensures.refused))

pub returns-in-Ok-clause-left : goal.returns-in-Ok-clause-left
returns-in-Ok-clause-left g c =
    let P = g.P.PageDevice in
    let L = g.L.LogDevice in
    let loaded = c.in-Ok.ensures in
    let s = c.in-Err-restart_log.stopped in
    let made = c.in-Err-restart_log.ensures in
    keeps_stores P L g.met.P.PageDevice.only_now g.met.P.PageDevice.counts_now g.met.L.LogDevice.counts_now g.met.P.PageDevice.seen_may_be g.met.L.LogDevice.seen_may_be_left c.args.pages c.args.log c.in-Ok.pages loaded.pages loaded.seen loaded.device s.pages s.log _ made.refused.honest made.refused.telling made.way_back

pub returns-in-Ok-clause-enough : goal.returns-in-Ok-clause-enough
returns-in-Ok-clause-enough g c =
    let loaded = c.in-Ok.ensures in
    let refused = c.in-Err-restart_log.ensures.refused in
    read_enough g.P.PageDevice g.L.LogDevice c.args.pages c.args.log g.met.P.PageDevice.only_now c.in-Ok.pages loaded.pages loaded.seen loaded.device c.args.frames.count loaded.framed c.in-Err-restart_log.stopped.pages refused.honest (λ framed. (refused.stood framed).0)

pub returns-clause-refused : goal.returns-clause-refused
returns-clause-refused g c =
    let s = c.in-Err.stopped in
    let made = c.in-Err.ensures in
    refuses g.P.PageDevice g.L.LogDevice c.args.pages c.args.log c.args.frames.count s.refusal s.device c.args.log (inl (record { stops = made.stopped; read = made.device; same = refl }))

pub returns-clause-left : goal.returns-clause-left
returns-clause-left g c =
    let P = g.P.PageDevice in
    let L = g.L.LogDevice in
    let new = c.in-Err.stopped.device in
    keeps_unread P L g.met.P.PageDevice.only_now g.met.P.PageDevice.counts_now g.met.L.LogDevice.counts_now g.met.P.PageDevice.seen_may_be g.met.L.LogDevice.seen_may_be_left c.args.pages c.args.log new c.in-Err.ensures.device
    (tells_read L c.args.log c.args.log (Unit {0}) (still L g.met.L.LogDevice.only_now c.args.log))

pub returns-clause-enough : goal.returns-clause-enough
returns-clause-enough g c = λ h z block few. c.in-Err.ensures.device
