use Rattle.std.proofs.Common.{sym, ap, ◌∙◌, subst, Some, None}
use Rattle.rq_groups.specs.declared.heads.Head.{Head}
use Rattle.rq_groups.specs.Heads.{IsAt, IsGap, IsTurned}
use Rattle.rq_groups.proofs.Orders.{found_at, found_none, turned_none, turned_remove}
use Rattle.rq_groups.proofs.heads.remove.Goals as goal

pub returns-in-Ok-clause-old : goal.returns-in-Ok-clause-old
returns-in-Ok-clause-old c =
    let at = subst (λ l. IsAt l c.args.txn c.in-Ok.place) c.deref.ensures.value c.in-Ok.ensures in
    sym (found_at c.args.heads.now.items c.args.txn c.in-Ok.place c.remove.result at ∙ ap (λ (h : Head). Some h.newest) (sym c.remove.ensures.value))

pub returns-in-Ok-clause-removed : goal.returns-in-Ok-clause-removed
returns-in-Ok-clause-removed c =
    let heads = c.args.heads.now.items in
    subst (IsTurned c.args.txn None heads) (sym c.remove.ensures.items)
    (turned_remove heads c.args.txn c.in-Ok.place c.remove.result c.requires (subst (λ l. IsAt l c.args.txn c.in-Ok.place) c.deref.ensures.value c.in-Ok.ensures))

pub returns-in-Err-clause-old : goal.returns-in-Err-clause-old
returns-in-Err-clause-old c =
    sym (found_none c.args.heads.now.items c.args.txn c.in-Err.field-0 (subst (λ l. IsGap l c.args.txn c.in-Err.field-0) c.deref.ensures.value c.in-Err.ensures))

pub returns-in-Err-clause-removed : goal.returns-in-Err-clause-removed
returns-in-Err-clause-removed c =
    turned_none c.args.heads.now.items c.args.txn c.in-Err.field-0 c.requires (subst (λ l. IsGap l c.args.txn c.in-Err.field-0) c.deref.ensures.value c.in-Err.ensures)
