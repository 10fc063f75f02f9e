-- Each move of an abort leaves less to do.
use Rattle.std.proofs.Common.{◌≡◌, ℕ, ◌+◌, ◌-◌, ◌*◌, ◌<◌, ◌≤◌, List, [], ◌∷◌, length, reverse, Option, Some, None, refl, sym, ◌∙◌, ap, subst, arith}
use Rattle.std.proofs.lemmas.List.{length-append, length-map, length-reverse}
use Rattle.std.proofs.lemmas.Option.{slice_get_within}
use Rattle.rq_model.specs.declared.record.Deed.{Deed}
use Rattle.rq_model.specs.declared.record.Deed.TheVariants.{Append, UnlinkHead, Close, Mark}
use Rattle.rq_model.specs.Vocabulary.{front}
use Rattle.rq_page.specs.declared.cell.Cell.{Cell}
use Rattle.rq_page.specs.Slots.Slot.{Free, Used}
use Rattle.rq_views.specs.Log.{Places, Write}
use Rattle.rq_views.specs.Plans.{IsPlan, relinked, with_next, with_prev}
use Rattle.rq_views.specs.Plans.Turn.{Undid}
use Rattle.rq_level.specs.Writes.{write_of, writes_of}
use Rattle.rq_txn.specs.declared.Finished.{Finished}
use Rattle.rq_txn.specs.Rows.{Under, row_started, row_stepped, row_undone}
use Rattle.rq_store.specs.State.{State}
use Rattle.rq_store.proofs.RowSums.{rows_without, rows_one}
use Rattle.rq_sound.specs.Sound.{IsSound}
use Rattle.rq_analysis.specs.Moves.{IsAbortMove}
use Rattle.rq_analysis.specs.Moves.IsAbortMove.{Starts, Writes, Undoes, Ends}
use Rattle.rq_analysis.specs.Work.{abort_work, left_to_undo, row_work}

link_one : (at : ℕ) (o : Option Cell) (f : Cell → Cell) (ws : List Write) → length (relinked at o f ws) ≤ length ws + 1
link_one at None f ws = omega arith
link_one at (Some c) f ws = omega arith

-- an inverse has three writes at most
pub inverse_is_short : (l : Places) (d : Deed) (ws : List Write) → IsPlan l (Undid d) ws → length ws ≤ 3
inverse_is_short l (Append s n tag previous body) ws p =
    let freed : Write = record { at = p.directory.tail; before = Used p.cell; after = Free } in
    let a = link_one p.cell.prev p.front (with_next 0) (freed ∷ []) in
    subst (λ v. length v ≤ 3) (sym p.writes) (omega (arith, a))
inverse_is_short l (UnlinkHead s n tag body) ws p =
    let back : Cell = record { sender = s; sequence = p.directory.received; tag = tag; body = body; next = p.directory.head; prev = 0 } in
    let taken : Write = record { at = p.new; before = Free; after = Used back } in
    let a = link_one p.directory.head p.old (with_prev p.new) (taken ∷ []) in
    subst (λ v. length v ≤ 3) (sym p.writes) (omega (arith, a))
inverse_is_short l (Close s) ws p = subst (λ v. length v ≤ 3) (sym p.writes) (omega arith)
inverse_is_short l (Mark c tag previous) ws p = subst (λ v. length v ≤ 3) (sym p.writes) (omega arith)

front_length : (fs : List Finished) → length (front fs) ≡ length fs - 1
front_length [] = refl
front_length (f ∷ []) = refl
front_length (f ∷ g ∷ fs) = let a = front_length (g ∷ fs) in omega (arith, a)

pub move_less : (s now : State) → IsSound s → IsAbortMove s now → abort_work now < abort_work s
move_less s now k (Starts r u rest f may lowest e) =
    let p = may.planned in
    let a = rows_one row_work r.txn (row_started u) s.rows r k.standing.distinct p.at_row in
    let short = inverse_is_short _ f.deed _ p.plan in
    let as_many : length (reverse (writes_of s.sizes u.writes)) ≡ length u.writes = length-reverse (writes_of s.sizes u.writes) ∙ length-map u.writes (write_of s.sizes) in
    let was : row_work r ≡ 5 * length r.finished + 1 = ap (λ (o : Option Under). left_to_undo (length r.finished) o + 1) p.idle in
    let some : length r.finished ≡ length rest + 1 = ap length may.newest ∙ length-append rest (f ∷ []) in
    subst (λ (n : State). abort_work n < abort_work s) (sym e) (omega (arith, a, short, as_many, was, some))
move_less s now k (Writes r u w images lsn d aim next e) =
    let a = rows_one row_work r.txn row_stepped s.rows r k.standing.distinct next.at_row in
    let was : row_work r ≡ 5 * (length r.finished - 1) + (length u.writes - u.made) + 1 + 1 = ap (λ (o : Option Under). left_to_undo (length r.finished) o + 1) next.under in
    let is : row_work (row_stepped r) ≡ 5 * (length r.finished - 1) + (length u.writes - (u.made + 1)) + 1 + 1 = ap (λ (o : Option Under). row_work (row_stepped (record r { under = o }))) next.under in
    let left = slice_get_within u.writes u.made w next.next in
    subst (λ (n : State). abort_work n < abort_work s) (sym e) (omega (arith, a, was, is, left))
move_less s now k (Undoes r u lsn d waiting ready more e) =
    let a = rows_one row_work r.txn (row_undone (front r.finished)) s.rows r k.standing.distinct ready.at_row in
    let was : row_work r ≡ 5 * (length r.finished - 1) + (length u.writes - u.made) + 1 + 1 = ap (λ (o : Option Under). left_to_undo (length r.finished) o + 1) ready.under in
    let one = front_length r.finished in
    subst (λ (n : State). abort_work n < abort_work s) (sym e) (omega (arith, a, was, one))
move_less s now k (Ends r idle aborting none e) =
    let a = rows_without row_work r.txn s.rows r k.standing.distinct idle.at_row in
    subst (λ (n : State). abort_work n < abort_work s) (sym e) (omega (arith, a))
