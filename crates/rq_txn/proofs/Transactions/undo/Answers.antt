use Rattle.std.proofs.Common.{refl}
use Rattle.rq_txn.specs.Rows.{row_taken_back}
use Rattle.rq_txn.proofs.Placing.{kept_changed, seen_changed, seen_absent, counted_at}
use Rattle.rq_txn.proofs.Transactions.undo.Goals as goal

pub undo-requires : goal.undo-requires
undo-requires c =
    let i = c.self.inside in
    counted_at i.rows i.places.items c.deref.result.now i.tally c.args.txn c.in-Some.key c.index_mut.result.now c.self.invariant c.deref.ensures.value c.in-Some.ensures c.index_mut.ensures.value

pub invariant_of-self : goal.invariant_of-self
invariant_of-self c =
    let i = c.self.inside in
    kept_changed i.rows i.places.items c.deref.result.now i.tally c.undo.new.tally c.args.txn row_taken_back c.in-Some.key c.index_mut.result.now c.undo.new.self c.self.invariant c.deref.ensures.value c.in-Some.ensures c.index_mut.ensures.value c.undo.ensures.row refl c.undo.ensures.moved

pub returns-in-Some : goal.returns-in-Some
returns-in-Some c =
    let i = c.self.inside in
    seen_changed i.rows i.places.items c.deref.result.now i.tally c.args.self.now c.args.txn row_taken_back c.in-Some.key c.index_mut.result.now c.undo.new.self c.self.invariant c.self.view_is c.deref.ensures.value c.in-Some.ensures c.index_mut.ensures.value c.undo.ensures.row

pub returns-in_default : goal.returns-in_default
returns-in_default c =
    let i = c.self.inside in
    seen_absent i.rows i.places.items c.deref.result.now i.tally c.args.self.now c.args.txn row_taken_back c.self.invariant c.self.view_is c.deref.ensures.value c.in_default.ensures
