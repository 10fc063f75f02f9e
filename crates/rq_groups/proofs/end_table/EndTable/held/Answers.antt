use Rattle.std.proofs.Common.{ℕ, Bool, cond, ap, ◌∙◌}
use Rattle.rq_groups.specs.Ends.{is_held}
use Rattle.rq_groups.specs.Changes.{held_after}
use Rattle.rq_groups.proofs.Chained.{held_is_some}
use Rattle.rq_groups.proofs.end_table.EndTable.held.Goals as goal

pub returns : goal.returns
returns c s =
    let i = c.self.inside in
    c.held.ensures s ∙ ap (λ (b : Bool). cond {A = ℕ} b 1 0) (held_is_some i.holders i.heads.items (held_after i.changes.value) s c.self.invariant ∙ ap (is_held s) c.self.view_is)
