use Rattle.std.proofs.Common.{refl, sym, arith}
use Rattle.rq_store.specs.Plans.{WaitsFor}
use Rattle.rq_engine.proofs.KeptUp.{pages_still}
use Rattle.rq_engine.proofs.Leveled.{take_only}
use Rattle.rq_engine.proofs.Opened.{state_is}
use Rattle.rq_engine.proofs.TakeCalls.{take_tried, waits_for}
use Rattle.rq_engine.proofs.Wanting.{take_frames}
use Rattle.rq_engine.proofs.engine.Engine.start_waiting.Goals as goal

pub returns-clause-tried : goal.returns-clause-tried
returns-clause-tried g c =
    let waits : WaitsFor c.args.self.now.state c.args.txn c.args.sender =
    waits_for c.args.txn c.args.sender (state_is c.self.view_is) c.self.invariant.kept.senders (sym c.if-not-may_receive.ensures) (let count = c.count.ensures in let some = c.if-count-eq0.false in omega (arith, count, some)) in
    take_tried g.P.PageDevice c.args.self.now _ _ c.args.txn c.args.number (pages_still g.P.PageDevice _ _ refl, refl) c.start_take.result c.args.sender waits c.start_take.ensures.tried

pub returns-clause-taken : goal.returns-clause-taken
returns-clause-taken g c honest =
    let waits : WaitsFor c.args.self.now.state c.args.txn c.args.sender =
    waits_for c.args.txn c.args.sender (state_is c.self.view_is) c.self.invariant.kept.senders (sym c.if-not-may_receive.ensures) (let count = c.count.ensures in let some = c.if-count-eq0.false in omega (arith, count, some)) in
    take_only c.args.self.now.state c.args.txn c.args.number c.args.sender c.start_take.result c.start_take.new.self.state waits (c.start_take.ensures.started honest)

pub returns-clause-frames : goal.returns-clause-frames
returns-clause-frames g c =
    let waits : WaitsFor c.args.self.now.state c.args.txn c.args.sender =
    waits_for c.args.txn c.args.sender (state_is c.self.view_is) c.self.invariant.kept.senders (sym c.if-not-may_receive.ensures) (let count = c.count.ensures in let some = c.if-count-eq0.false in omega (arith, count, some)) in
    take_frames g.P.PageDevice c.args.self.now c.args.self.now c.start_take.new.self c.args.txn c.args.number (pages_still g.P.PageDevice _ _ refl, refl) c.start_take.result c.args.sender waits c.start_take.ensures.tried.devices c.start_take.ensures.frames
