use Rattle.std.proofs.Common.{refl}
use Rattle.rq_txn.specs.Rows.{row_ended}
use Rattle.rq_txn.proofs.Placing.{kept_changed, seen_changed, seen_absent, seen_at, counted_at}
use Rattle.rq_txn.proofs.Standing.{under_found}
use Rattle.rq_txn.proofs.Transactions.note.Goals as goal

pub finish-requires-clause-busy : goal.finish-requires-clause-busy
finish-requires-clause-busy c =
    let i = c.self.inside in
    under_found c.args.txn c.args.self.now c.index_mut.result.now (seen_at i.rows i.places.items c.deref.result.now i.tally c.args.self.now c.args.txn c.in-Some.key c.index_mut.result.now c.self.invariant c.self.view_is c.deref.ensures.value c.in-Some.ensures c.index_mut.ensures.value) c.requires

pub finish-requires-clause-counted : goal.finish-requires-clause-counted
finish-requires-clause-counted c =
    let i = c.self.inside in
    counted_at i.rows i.places.items c.deref.result.now i.tally c.args.txn c.in-Some.key c.index_mut.result.now c.self.invariant c.deref.ensures.value c.in-Some.ensures c.index_mut.ensures.value

pub invariant_of-self : goal.invariant_of-self
invariant_of-self c =
    let i = c.self.inside in
    kept_changed i.rows i.places.items c.deref.result.now i.tally c.finish.new.tally c.args.txn (row_ended c.args.lsn) c.in-Some.key c.index_mut.result.now c.finish.new.self c.self.invariant c.deref.ensures.value c.in-Some.ensures c.index_mut.ensures.value c.finish.ensures.row refl c.finish.ensures.moved

pub returns-in-Some : goal.returns-in-Some
returns-in-Some c =
    let i = c.self.inside in
    seen_changed i.rows i.places.items c.deref.result.now i.tally c.args.self.now c.args.txn (row_ended c.args.lsn) c.in-Some.key c.index_mut.result.now c.finish.new.self c.self.invariant c.self.view_is c.deref.ensures.value c.in-Some.ensures c.index_mut.ensures.value c.finish.ensures.row

pub returns-in_default : goal.returns-in_default
returns-in_default c =
    let i = c.self.inside in
    seen_absent i.rows i.places.items c.deref.result.now i.tally c.args.self.now c.args.txn (row_ended c.args.lsn) c.self.invariant c.self.view_is c.deref.ensures.value c.in_default.ensures
