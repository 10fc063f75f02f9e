use Rattle.std.proofs.Common.{◌≡◌, sym, ap, ◌∙◌, Some, None}
use Rattle.std.proofs.lemmas.Option.{same_Some}
use Rattle.rq_groups.specs.declared.places.Holding.{Holding}
use Rattle.rq_groups.specs.Ends.{held_by, first_of}
use Rattle.rq_groups.proofs.Chained.{chain_split}
use Rattle.rq_groups.proofs.end_table.EndTable.before.Goals as goal

pub returns-in-Some : goal.returns-in-Some
returns-in-Some c t older tail =
    let i = c.self.inside in
    let there = chain_split i.holders i.heads.items _ t older c.args.sender c.self.invariant (tail.0, tail.1 ∙ ap (held_by t) (sym c.self.view_is)) in
    let h : Holding = record { txn = t; next = first_of older } in
    ap (λ (x : Holding). x.next) (same_Some c.in-Some.holding h (sym c.in-Some.is ∙ c.of.ensures ∙ there))

pub returns-in-None : goal.returns-in-None
returns-in-None c t older tail =
    let i = c.self.inside in
    let there = chain_split i.holders i.heads.items _ t older c.args.sender c.self.invariant (tail.0, tail.1 ∙ ap (held_by t) (sym c.self.view_is)) in
    let h : Holding = record { txn = t; next = first_of older } in
    let e : None ≡ Some h = sym c.in-None.is ∙ c.of.ensures ∙ there in
    absurd (cc)
