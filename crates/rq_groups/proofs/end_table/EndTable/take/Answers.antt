use Rattle.std.proofs.Common.{rules, ◌≡◌, ◌∷◌, true, false, not, sym, ap, ◌∙◌, subst, set, Some, None, Option, ℕ, arith}
use Rattle.std.specs.Option.{is_some}
use Rattle.rq_groups.specs.declared.Held.{Held}
use Rattle.rq_groups.specs.declared.places.Holding.{Holding}
use Rattle.rq_groups.specs.Changes.{held_after}
use Rattle.rq_groups.specs.Chains.{held_at, IsEndTable}
use Rattle.rq_groups.specs.Ends.{has_held, is_free_for}
use Rattle.rq_groups.specs.Heads.{newest_of}
use Rattle.rq_groups.proofs.Chained.{free_own, none_of, not_held, side_taken}
use Rattle.rq_groups.proofs.Holders.{with_had, with_new}
use Rattle.rq_groups.proofs.end_table.EndTable.take.Goals as goal

pub returns-then-is_some-clause-taken : goal.returns-then-is_some-clause-taken
returns-then-is_some-clause-taken c =
    let i = c.self.inside in
    let t = c.args.txn in
    let s = c.args.sender in
    let some : is_some (held_at i.holders s) ≡ true = ap is_some (sym c.of.ensures) ∙ sym c.is_some.ensures ∙ c.if-is_some.true in
    let own = free_own i.holders i.heads.items (held_after i.changes.value) t s c.self.invariant (ap (is_free_for t s) c.self.view_is ∙ c.requires) some in
    sym (with_had t s c.args.self.now (ap (has_held t s) (sym c.self.view_is) ∙ own))

pub returns-then-is_some-clause-newly : goal.returns-then-is_some-clause-newly
returns-then-is_some-clause-newly c =
    let i = c.self.inside in
    let t = c.args.txn in
    let s = c.args.sender in
    let some : is_some (held_at i.holders s) ≡ true = ap is_some (sym c.of.ensures) ∙ sym c.is_some.ensures ∙ c.if-is_some.true in
    let own = free_own i.holders i.heads.items (held_after i.changes.value) t s c.self.invariant (ap (is_free_for t s) c.self.view_is ∙ c.requires) some in
    sym (ap not (ap (has_held t s) (sym c.self.view_is) ∙ own))

pub invariant_of-self : goal.invariant_of-self
invariant_of-self c =
    let i = c.self.inside in
    subst (λ l. IsEndTable i.holders l (held_after i.changes.value)) (sym c.in_err-next.ensures.err) c.self.invariant

pub invariant_of-self-2 : goal.invariant_of-self-2
invariant_of-self-2 c =
    let i = c.self.inside in
    let t = c.args.txn in
    let s = c.args.sender in
    let ps = i.holders in
    let held = held_after i.changes.value in
    let none : held_at ps s ≡ None = none_of (held_at ps s) (ap is_some (sym c.of.ensures) ∙ sym c.is_some.ensures ∙ c.if-is_some.false) in
    let next : set ps s (Some (record { txn = t; next = c.in_ok-next.next })) ≡ set ps s (Some (record { txn = t; next = newest_of t i.heads.items })) = ap (λ (o : Option ℕ). let h : Holding = record { txn = t; next = o } in set ps s (Some h)) c.in_ok-next.ensures.old in
    subst (IsEndTable c.put-2.new.self c.put.new.heads.items) (sym (ap held_after c.push.ensures))
    (side_taken ps c.put-2.new.self i.heads.items c.put.new.heads.items held t s c.self.invariant none (omega arith) (c.put-2.ensures ∙ next) c.in_ok-next.ensures.put)

pub returns-clause-taken : goal.returns-clause-taken
returns-clause-taken c =
    let i = c.self.inside in
    let t = c.args.txn in
    let s = c.args.sender in
    let none : held_at i.holders s ≡ None = none_of (held_at i.holders s) (ap is_some (sym c.of.ensures) ∙ sym c.is_some.ensures ∙ c.if-is_some.false) in
    let new = not_held i.holders i.heads.items (held_after i.changes.value) c.self.invariant s none t in
    let h : Held = record { txn = t; sender = s } in
    ap held_after c.push.ensures ∙ ap (λ l. h ∷ l) c.self.view_is ∙ sym (with_new t s c.args.self.now (ap (has_held t s) (sym c.self.view_is) ∙ new))

pub returns-clause-newly : goal.returns-clause-newly
returns-clause-newly c =
    let i = c.self.inside in
    let t = c.args.txn in
    let s = c.args.sender in
    let none : held_at i.holders s ≡ None = none_of (held_at i.holders s) (ap is_some (sym c.of.ensures) ∙ sym c.is_some.ensures ∙ c.if-is_some.false) in
    sym (ap not (ap (has_held t s) (sym c.self.view_is) ∙ not_held i.holders i.heads.items (held_after i.changes.value) c.self.invariant s none t))

pub returns-then-sender-len-clause-own : goal.returns-then-sender-len-clause-own
returns-then-sender-len-clause-own c =
    let i = c.self.inside in
    let t = c.args.txn in
    let s = c.args.sender in
    let none : held_at i.holders s ≡ None = none_of (held_at i.holders s) (ap is_some (sym c.of.ensures) ∙ sym c.is_some.ensures ∙ c.if-is_some.false) in
    let own : has_held t s c.args.self.now ≡ false = ap (has_held t s) (sym c.self.view_is) ∙ not_held i.holders i.heads.items (held_after i.changes.value) c.self.invariant s none t in
    own

pub returns-in_err-next-clause-own : goal.returns-in_err-next-clause-own
returns-in_err-next-clause-own c =
    let i = c.self.inside in
    let t = c.args.txn in
    let s = c.args.sender in
    let none : held_at i.holders s ≡ None = none_of (held_at i.holders s) (ap is_some (sym c.of.ensures) ∙ sym c.is_some.ensures ∙ c.if-is_some.false) in
    let own : has_held t s c.args.self.now ≡ false = ap (has_held t s) (sym c.self.view_is) ∙ not_held i.holders i.heads.items (held_after i.changes.value) c.self.invariant s none t in
    search (rules, own)
