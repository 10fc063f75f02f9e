use Rattle.std.proofs.Common.{◌≡◌, None, sym, ap, ◌∙◌, arith}
use Rattle.std.specs.Option.{is_some}
use Rattle.std.proofs.lemmas.List.{get_or_past}
use Rattle.rq_groups.specs.Changes.{held_after}
use Rattle.rq_groups.specs.Chains.{held_at}
use Rattle.rq_groups.specs.Ends.{is_held}
use Rattle.rq_groups.proofs.Chained.{held_is_some}
use Rattle.rq_groups.proofs.end_table.EndTable.places.Goals as goal

pub returns : goal.returns
returns c s le =
    let i = c.self.inside in
    let none : held_at i.holders s ≡ None = get_or_past i.holders s None (omega (arith, le)) in
    ap (is_held s) (sym c.self.view_is) ∙ sym (held_is_some i.holders i.heads.items (held_after i.changes.value) s c.self.invariant) ∙ ap is_some none
