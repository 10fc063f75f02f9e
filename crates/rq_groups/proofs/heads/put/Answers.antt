use Rattle.std.proofs.Common.{sym, ap, ◌∙◌, subst, Some}
use Rattle.std.proofs.lemmas.List.{get_or_read}
use Rattle.rq_groups.specs.declared.heads.Head.{Head}
use Rattle.rq_groups.specs.Heads.{IsAt, IsGap, IsTurned}
use Rattle.rq_groups.proofs.Orders.{found_at, found_none, turned_insert, turned_set}
use Rattle.rq_groups.proofs.heads.put.Goals as goal

pub returns-in-Ok-clause-old : goal.returns-in-Ok-clause-old
returns-in-Ok-clause-old c =
    let heads = c.args.heads.now.items in
    let at : IsAt heads c.args.txn c.in-Ok.place = subst (λ l. IsAt l c.args.txn c.in-Ok.place) c.deref.ensures.value c.in-Ok.ensures in
    let read = get_or_read heads c.in-Ok.place c.index.result.now at.within c.index.ensures (record { txn = c.args.txn; newest = 0 }) in
    sym (found_at heads c.args.txn c.in-Ok.place (record { txn = c.args.txn; newest = 0 }) at ∙ ap (λ (h : Head). Some h.newest) (sym read))

pub returns-in-Ok-clause-put : goal.returns-in-Ok-clause-put
returns-in-Ok-clause-put c =
    let heads = c.args.heads.now.items in
    turned_set heads c.args.txn c.args.newest c.in-Ok.place (record { txn = c.args.txn; newest = 0 }) c.requires (subst (λ l. IsAt l c.args.txn c.in-Ok.place) c.deref.ensures.value c.in-Ok.ensures)

pub returns-in-Ok-insert-clause-old : goal.returns-in-Ok-insert-clause-old
returns-in-Ok-insert-clause-old c =
    sym (found_none c.args.heads.now.items c.args.txn c.in-Err.place (subst (λ l. IsGap l c.args.txn c.in-Err.place) c.deref.ensures.value c.in-Err.ensures))

pub returns-in-Ok-insert-clause-put : goal.returns-in-Ok-insert-clause-put
returns-in-Ok-insert-clause-put c =
    let heads = c.args.heads.now.items in
    subst (IsTurned c.args.txn (Some c.args.newest) heads) (sym c.in-Ok-insert.ensures.items)
    (turned_insert heads c.args.txn c.args.newest c.in-Err.place c.requires (subst (λ l. IsGap l c.args.txn c.in-Err.place) c.deref.ensures.value c.in-Err.ensures))
