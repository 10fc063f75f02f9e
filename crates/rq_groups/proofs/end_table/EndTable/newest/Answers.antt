use Rattle.std.proofs.Common.{sym, ap, ◌∙◌, subst}
use Rattle.rq_groups.specs.Changes.{held_after}
use Rattle.rq_groups.specs.Ends.{AreApart, first_of, has_held, held_by, is_free_for}
use Rattle.rq_groups.specs.Heads.{newest_of}
use Rattle.rq_groups.proofs.Chained.{chain_apart, chain_newest, own_is_free}
use Rattle.rq_groups.proofs.end_table.EndTable.newest.Goals as goal

pub returns-clause-newest : goal.returns-clause-newest
returns-clause-newest c =
    let i = c.self.inside in
    let t = c.args.txn in
    c.newest.ensures ∙ ap (newest_of t) c.deref.ensures.value ∙ chain_newest i.holders t (newest_of t i.heads.items) (held_by t (held_after i.changes.value)) (c.self.invariant.chains t) ∙ ap (λ l. first_of (held_by t l)) c.self.view_is

pub returns-clause-once : goal.returns-clause-once
returns-clause-once c =
    let i = c.self.inside in
    let t = c.args.txn in
    subst (λ l. AreApart (held_by t l)) c.self.view_is (chain_apart i.holders t (newest_of t i.heads.items) (held_by t (held_after i.changes.value)) (c.self.invariant.chains t))

pub returns-clause-own : goal.returns-clause-own
returns-clause-own c s h =
    let i = c.self.inside in
    let t = c.args.txn in
    ap (is_free_for t s) (sym c.self.view_is) ∙ own_is_free i.holders i.heads.items (held_after i.changes.value) t s c.self.invariant (ap (has_held t s) c.self.view_is ∙ h)
