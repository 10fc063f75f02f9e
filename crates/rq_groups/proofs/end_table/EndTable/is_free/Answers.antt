use Rattle.std.proofs.Common.{◌≡◌, sym, ap, ◌∙◌, Some, None}
use Rattle.rq_groups.specs.Changes.{held_after}
use Rattle.rq_groups.specs.Chains.{held_at}
use Rattle.rq_groups.specs.Ends.{is_free_for}
use Rattle.rq_groups.proofs.Chained.{free_held, free_vacant}
use Rattle.rq_groups.proofs.end_table.EndTable.is_free.Goals as goal

pub returns-in-Some : goal.returns-in-Some
returns-in-Some c =
    let i = c.self.inside in
    let at : held_at i.holders c.args.sender ≡ Some c.in-Some.holding = sym c.of.ensures ∙ c.in-Some.is in
    c.eq.ensures ∙ sym (free_held i.holders i.heads.items (held_after i.changes.value) c.args.txn c.args.sender c.in-Some.holding c.self.invariant at) ∙ ap (is_free_for c.args.txn c.args.sender) c.self.view_is

pub returns-in-None : goal.returns-in-None
returns-in-None c =
    let i = c.self.inside in
    let at : held_at i.holders c.args.sender ≡ None = sym c.of.ensures ∙ c.in-None.is in
    sym (free_vacant i.holders i.heads.items (held_after i.changes.value) c.args.txn c.args.sender c.self.invariant at) ∙ ap (is_free_for c.args.txn c.args.sender) c.self.view_is
