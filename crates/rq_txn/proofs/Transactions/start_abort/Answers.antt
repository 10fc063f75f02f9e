use Rattle.std.proofs.Common.{refl}
use Rattle.rq_txn.specs.Rows.{row_of, row_aborting}
use Rattle.rq_txn.proofs.Placing.{kept_changed, seen_changed, seen_absent}
use Rattle.rq_txn.proofs.Tallying.{kept_moved}
use Rattle.rq_txn.proofs.Transactions.start_abort.Goals as goal

pub invariant_of-self : goal.invariant_of-self
invariant_of-self c =
    let i = c.self.inside in
    kept_changed i.rows i.places.items c.deref.result.now i.tally i.tally c.args.txn row_aborting c.in-Some.key c.index_mut.result.now c.abort.new.self c.self.invariant c.deref.ensures.value c.in-Some.ensures c.index_mut.ensures.value c.abort.ensures refl (kept_moved (row_of c.index_mut.result.now).under (row_of c.index_mut.result.now).under i.tally refl (λ p. refl))

pub returns-in-Some : goal.returns-in-Some
returns-in-Some c =
    let i = c.self.inside in
    seen_changed i.rows i.places.items c.deref.result.now i.tally c.args.self.now c.args.txn row_aborting c.in-Some.key c.index_mut.result.now c.abort.new.self c.self.invariant c.self.view_is c.deref.ensures.value c.in-Some.ensures c.index_mut.ensures.value c.abort.ensures

pub returns-in_default : goal.returns-in_default
returns-in_default c =
    let i = c.self.inside in
    seen_absent i.rows i.places.items c.deref.result.now i.tally c.args.self.now c.args.txn row_aborting c.self.invariant c.self.view_is c.deref.ensures.value c.in_default.ensures
