use Rattle.std.proofs.Common.{◌≡◌, ◌∷◌, sym, ap, ◌∙◌, subst, refl, drop, take, Option, ℕ}
use Rattle.std.specs.Option.{IsSome}
use Rattle.rq_groups.specs.declared.Held.{Held}
use Rattle.rq_groups.specs.Changes.{held_after}
use Rattle.rq_groups.specs.Chains.{IsEndTable}
use Rattle.rq_groups.specs.Heads.{IsTurned}
use Rattle.rq_groups.proofs.Chained.{newest_first, newest_known, side_undone}
use Rattle.rq_groups.proofs.end_table.EndTable.undo_take.Goals as goal

pub turn_back-requires-clause-order : goal.turn_back-requires-clause-order
turn_back-requires-clause-order c = c.self.invariant.order

pub turn_back-requires-clause-holds : goal.turn_back-requires-clause-holds
turn_back-requires-clause-holds c =
    let i = c.self.inside in
    let held = held_after i.changes.value in
    let h : Held = record { txn = c.args.txn; sender = c.args.sender } in
    let first : held ≡ h ∷ drop 1 held = newest_first h held (ap (take 1) c.self.view_is ∙ c.requires) in
    let known = newest_known i.holders i.heads.items (drop 1 held) c.args.txn c.args.sender (subst (IsEndTable i.holders i.heads.items) first c.self.invariant) in
    subst IsSome (sym known.0) refl

pub invariant_of-self : goal.invariant_of-self
invariant_of-self c =
    let i = c.self.inside in
    let held = held_after i.changes.value in
    let h : Held = record { txn = c.args.txn; sender = c.args.sender } in
    let first : held ≡ h ∷ drop 1 held = newest_first h held (ap (take 1) c.self.view_is ∙ c.requires) in
    subst (IsEndTable c.vacate-next.new.self c.turn_back.new.heads.items) (sym (ap held_after c.push.ensures))
    (side_undone i.holders c.vacate-next.new.self i.heads.items c.turn_back.new.heads.items (drop 1 held) c.args.txn c.args.sender
    (subst (IsEndTable i.holders i.heads.items) first c.self.invariant) c.vacate-next.ensures.vacant
    (subst (λ (o : Option ℕ). IsTurned c.args.txn o i.heads.items c.turn_back.new.heads.items) c.vacate-next.ensures.next c.turn_back.ensures))
