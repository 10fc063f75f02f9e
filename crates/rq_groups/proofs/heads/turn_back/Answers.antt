use Rattle.std.proofs.Common.{◌≡◌, sym, subst, None}
use Rattle.std.specs.Option.{IsSome}
use Rattle.std.proofs.lemmas.Bool.{true≢false}
use Rattle.rq_groups.specs.declared.heads.Head.{Head}
use Rattle.rq_groups.specs.Heads.{IsAt, IsGap, IsTurned, newest_of}
use Rattle.rq_groups.proofs.Orders.{found_none, turned_remove, turned_set}
use Rattle.rq_groups.proofs.heads.turn_back.Goals as goal

pub returns-in-Some : goal.returns-in-Some
returns-in-Some c =
    let heads = c.args.heads.now.items in
    let q : Head = record { txn = c.args.txn; newest = 0 } in
    rw c.in-Some.is (turned_set heads c.args.txn c.in-Some.newest c.in-Ok.place q c.requires.order (subst (λ l. IsAt l c.args.txn c.in-Ok.place) c.deref.ensures.value c.in-Ok.ensures))

pub returns-in-None : goal.returns-in-None
returns-in-None c =
    let heads = c.args.heads.now.items in
    rw c.in-None.is (subst (IsTurned c.args.txn None heads) (sym c.remove.ensures.items)
    (turned_remove heads c.args.txn c.in-Ok.place c.remove.result c.requires.order (subst (λ l. IsAt l c.args.txn c.in-Ok.place) c.deref.ensures.value c.in-Ok.ensures)))

pub returns-in-Err : goal.returns-in-Err
returns-in-Err c =
    let none : newest_of c.args.txn c.args.heads.now.items ≡ None = found_none c.args.heads.now.items c.args.txn c.in-Err.field-0 (subst (λ l. IsGap l c.args.txn c.in-Err.field-0) c.deref.ensures.value c.in-Err.ensures) in
    absurd (true≢false (sym (subst IsSome none c.requires.holds)))
