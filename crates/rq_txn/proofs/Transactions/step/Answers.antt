use Rattle.std.proofs.Common.{refl}
use Rattle.rq_txn.specs.Rows.{row_of, row_stepped}
use Rattle.rq_txn.proofs.Placing.{kept_changed, seen_changed, seen_absent, seen_at, stepped_moved}
use Rattle.rq_txn.proofs.Standing.{left_found}
use Rattle.rq_txn.proofs.Transactions.step.Goals as goal

pub step-requires : goal.step-requires
step-requires c =
    let i = c.self.inside in
    left_found c.args.txn c.args.self.now c.index_mut.result.now (seen_at i.rows i.places.items c.deref.result.now i.tally c.args.self.now c.args.txn c.in-Some.key c.index_mut.result.now c.self.invariant c.self.view_is c.deref.ensures.value c.in-Some.ensures c.index_mut.ensures.value) c.requires

pub invariant_of-self : goal.invariant_of-self
invariant_of-self c =
    let i = c.self.inside in
    kept_changed i.rows i.places.items c.deref.result.now i.tally i.tally c.args.txn row_stepped c.in-Some.key c.index_mut.result.now c.step.new.self c.self.invariant c.deref.ensures.value c.in-Some.ensures c.index_mut.ensures.value c.step.ensures refl (stepped_moved (row_of c.index_mut.result.now).under i.tally)

pub returns-in-Some : goal.returns-in-Some
returns-in-Some c =
    let i = c.self.inside in
    seen_changed i.rows i.places.items c.deref.result.now i.tally c.args.self.now c.args.txn row_stepped c.in-Some.key c.index_mut.result.now c.step.new.self c.self.invariant c.self.view_is c.deref.ensures.value c.in-Some.ensures c.index_mut.ensures.value c.step.ensures

pub returns-in_default : goal.returns-in_default
returns-in_default c =
    let i = c.self.inside in
    seen_absent i.rows i.places.items c.deref.result.now i.tally c.args.self.now c.args.txn row_stepped c.self.invariant c.self.view_is c.deref.ensures.value c.in_default.ensures
