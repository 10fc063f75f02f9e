use Rattle.std.proofs.Common.{List, ◌∷◌, refl, ap, ◌∙◌}
use Rattle.rq_txn.specs.declared.Finished.{Finished}
use Rattle.rq_txn.specs.Rows.{fresh_row}
use Rattle.rq_txn.proofs.Placing.{kept_reserved, seen_reserved, kept_begun, seen_begun}
use Rattle.rq_txn.proofs.Transactions.begin.Goals as goal

pub invariant_of-self-then-is_err-2 : goal.invariant_of-self-then-is_err-2
invariant_of-self-then-is_err-2 c =
    let i = c.self.inside in
    kept_reserved i.rows c.reserve.new.self i.places.items c.try_reserve.new.self.items i.tally _ c.self.invariant c.reserve.ensures.rest_kept c.try_reserve.ensures.items

pub invariant_of-self-2 : goal.invariant_of-self-2
invariant_of-self-2 c =
    let i = c.self.inside in
    let kept = kept_reserved i.rows c.reserve.new.self i.places.items c.try_reserve.new.self.items i.tally c.reserve.new.self.capacity c.self.invariant c.reserve.ensures.rest_kept c.try_reserve.ensures.items in
    let seen = seen_reserved i.rows c.reserve.new.self i.places.items c.try_reserve.new.self.items c.reserve.new.self.capacity c.args.self.now c.self.view_is c.reserve.ensures.rest_kept c.try_reserve.ensures.items in
    let e = c.insert_reserved-key.ensures in
    kept_begun c.reserve.new.self c.insert_reserved-key.new.self c.try_reserve.new.self.items c.push.new.self.items i.tally c.args.txn.count c.insert_reserved-key.result c.args.self.now _ kept seen c.requires.rising e.was_vacant e.updates e.len refl refl (rw c.unwrap.ensures at c.push.ensures.items)

pub returns-clause-ok : goal.returns-clause-ok
returns-clause-ok c =
    let i = c.self.inside in
    let kept = kept_reserved i.rows c.reserve.new.self i.places.items c.try_reserve.new.self.items i.tally c.reserve.new.self.capacity c.self.invariant c.reserve.ensures.rest_kept c.try_reserve.ensures.items in
    let seen = seen_reserved i.rows c.reserve.new.self i.places.items c.try_reserve.new.self.items c.reserve.new.self.capacity c.args.self.now c.self.view_is c.reserve.ensures.rest_kept c.try_reserve.ensures.items in
    let e = c.insert_reserved-key.ensures in
    seen_begun c.reserve.new.self c.insert_reserved-key.new.self c.try_reserve.new.self.items c.push.new.self.items i.tally c.args.txn.count c.insert_reserved-key.result c.args.self.now _ kept seen e.was_vacant e.updates (rw c.unwrap.ensures at c.push.ensures.items) ∙ ap (λ (fs : List Finished). record (fresh_row c.args.txn) { finished = fs } ∷ c.args.self.now) c.new.ensures.items
