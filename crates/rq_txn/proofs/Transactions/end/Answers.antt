use Rattle.rq_txn.proofs.Placing.{kept_ended, seen_ended, seen_left, counted_ended}
use Rattle.rq_txn.proofs.Transactions.end.Goals as goal

pub end-requires : goal.end-requires
end-requires c =
    let i = c.self.inside in
    counted_ended i.rows i.places.items c.deref.result.now i.tally c.in-Some.place c.args.txn c.remove-key.result c.remove.result c.self.invariant c.deref.ensures.value c.in-Some.ensures c.remove-key.ensures.value c.remove.ensures.value

pub invariant_of-self : goal.invariant_of-self
invariant_of-self c =
    let i = c.self.inside in
    kept_ended i.rows c.remove.new.self i.places.items c.deref.result.now c.remove-key.new.self.items i.tally c.end.new.tally c.in-Some.place c.args.txn c.remove-key.result c.remove.result c.self.invariant c.deref.ensures.value c.in-Some.ensures c.remove-key.ensures.value c.remove.ensures.value c.remove.ensures.updates c.remove.ensures.len c.remove-key.ensures.items c.end.ensures

pub returns-in-Some : goal.returns-in-Some
returns-in-Some c =
    let i = c.self.inside in
    seen_ended i.rows c.remove.new.self i.places.items c.deref.result.now c.remove-key.new.self.items i.tally c.in-Some.place c.args.self.now c.args.txn c.remove-key.result c.remove.result c.self.invariant c.self.view_is c.deref.ensures.value c.in-Some.ensures c.remove-key.ensures.value c.remove.ensures.value c.remove.ensures.updates c.remove-key.ensures.items

pub returns-in_default : goal.returns-in_default
returns-in_default c =
    let i = c.self.inside in
    seen_left i.rows i.places.items c.deref.result.now i.tally c.args.self.now c.args.txn c.self.invariant c.self.view_is c.deref.ensures.value c.in_default.ensures
