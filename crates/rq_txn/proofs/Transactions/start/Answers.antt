use Rattle.std.proofs.Common.{arith}
use Rattle.rq_txn.specs.Rows.{row_started, under_of}
use Rattle.rq_txn.proofs.Placing.{kept_started, seen_started, seen_refused, seen_absent, counted_at, room_left}
use Rattle.rq_txn.proofs.Transactions.start.Goals as goal

pub start-requires-clause-counted : goal.start-requires-clause-counted
start-requires-clause-counted c =
    let i = c.self.inside in
    counted_at i.rows i.places.items c.deref.result.now i.tally c.args.txn c.in-Some.key c.index_mut.result.now c.self.invariant c.deref.ensures.value c.in-Some.ensures c.index_mut.ensures.value

pub start-requires-clause-room : goal.start-requires-clause-room
start-requires-clause-room c =
    let i = c.self.inside in
    room_left i.rows i.places.items i.tally c.self.invariant (omega (arith, i.places.ok.0))

pub invariant_of-self : goal.invariant_of-self
invariant_of-self c =
    let i = c.self.inside in
    let e = c.start.ensures in
    kept_started c.start.result (under_of c.args.operation) i.rows i.places.items c.deref.result.now i.tally c.start.new.tally c.args.txn c.in-Some.key c.index_mut.result.now c.start.new.self c.self.invariant c.deref.ensures.value c.in-Some.ensures c.index_mut.ensures.value e.ok e.moved e.err e.same

pub returns-clause-ok : goal.returns-clause-ok
returns-clause-ok c =
    let i = c.self.inside in
    seen_started c.start.result (under_of c.args.operation) i.rows i.places.items c.deref.result.now i.tally c.args.self.now c.args.txn c.in-Some.key c.index_mut.result.now c.start.new.self c.self.invariant c.self.view_is c.deref.ensures.value c.in-Some.ensures c.index_mut.ensures.value c.start.ensures.ok

pub returns-clause-err : goal.returns-clause-err
returns-clause-err c =
    let i = c.self.inside in
    seen_refused c.start.result i.rows i.places.items c.deref.result.now i.tally c.args.self.now c.args.txn c.in-Some.key c.index_mut.result.now c.start.new.self c.self.invariant c.self.view_is c.deref.ensures.value c.in-Some.ensures c.index_mut.ensures.value c.start.ensures.err

pub returns-in_default-clause-ok : goal.returns-in_default-clause-ok
returns-in_default-clause-ok c =
    let i = c.self.inside in
    seen_absent i.rows i.places.items c.deref.result.now i.tally c.args.self.now c.args.txn (row_started (under_of c.args.operation)) c.self.invariant c.self.view_is c.deref.ensures.value c.in_default.ensures
