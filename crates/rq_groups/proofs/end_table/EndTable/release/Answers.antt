use Rattle.std.proofs.Common.{sym, ap, subst, Option, ℕ}
use Rattle.rq_groups.specs.Changes.{held_after}
use Rattle.rq_groups.specs.Chains.{IsChain, IsEndTable}
use Rattle.rq_groups.specs.Ends.{held_by}
use Rattle.rq_groups.proofs.Chained.{side_released}
use Rattle.rq_groups.proofs.end_table.EndTable.release.Goals as goal

pub invariant_of-self : goal.invariant_of-self
invariant_of-self c =
    let i = c.self.inside in
    let t = c.args.txn in
    let held = held_after i.changes.value in
    let chain : IsChain i.holders t c.remove-newest.result (held_by t held) = subst (λ (o : Option ℕ). IsChain i.holders t o (held_by t held)) (sym c.remove-newest.ensures.old) (c.self.invariant.chains t) in
    subst (IsEndTable c.empty_chain.new.holders c.remove-newest.new.heads.items) (sym (ap held_after c.push.ensures))
    (side_released i.holders c.empty_chain.new.holders i.heads.items c.remove-newest.new.heads.items held t c.self.invariant c.remove-newest.ensures.removed (c.empty_chain.ensures t (held_by t held) chain))
