-- What a sender's chain has held, taken or not, is at most the length of the log.
use Rattle.std.proofs.Common.{ℕ, ◌+◌, ◌≤◌, ◌==◌, inl, inr, List, [], ◌∷◌, length, arith, Option, None, Some, subst, sym}
use Rattle.std.proofs.lemmas.Bool.{cases_Bool, cond-true, cond-false}
use Rattle.std.proofs.lemmas.List.{length-drop, length-map}
use Rattle.rq_model.specs.declared.record.Record.{Record}
use Rattle.rq_model.specs.declared.record.Deed.TheVariants.{Append, UnlinkHead, Mark}
use Rattle.rq_page.specs.Sizes.{Sizes}
use Rattle.rq_views.specs.Chain.{View, all_but_last}
use Rattle.rq_views.specs.Log.{Item}
use Rattle.rq_views.specs.Plans.{Turn, turn_sender, with_turn}
use Rattle.rq_views.specs.Plans.Turn.{Did, Undid}
use Rattle.rq_views.specs.Legal.{turn, view_after, view}
use Rattle.rq_views.specs.Items.{items, item_of}
use Rattle.rq_views.proofs.Deeds.{total, appended_total}

pub fewer_but_last : (xs : List (ℕ × List ℕ)) → length (all_but_last xs) ≤ length xs
fewer_but_last [] = omega arith
fewer_but_last (x ∷ []) = omega arith
fewer_but_last (x ∷ y ∷ xs) = let h : length (all_but_last (y ∷ xs)) ≤ length (y ∷ xs) = fewer_but_last (y ∷ xs) in omega arith

turn_total : (t : Turn) (v : View) → total (with_turn t v) ≤ total v + 1
turn_total (Did (Append s n tag previous body)) v = omega (arith, appended_total v tag body)
turn_total (Did (Mark c tag previous)) v = omega (arith, appended_total v tag [])
turn_total (Did (UnlinkHead s n tag body)) v = let e = length-drop 1 v.messages in omega arith
turn_total (Undid (Append s n tag previous body)) v = omega (arith, fewer_but_last v.messages)
turn_total (Undid (Mark c tag previous)) v = omega (arith, fewer_but_last v.messages)
turn_total _ v = omega arith

after_total : (s : ℕ) (t : Option Turn) (v : View) → total (view_after s t v) ≤ total v + 1
after_total s None v = omega arith
after_total s (Some t) v = elim (cases_Bool (turn_sender t == s)) [
  | inl y ↦ subst (λ w. total w ≤ total v + 1) (sym (cond-true (turn_sender t == s) (with_turn t v) v y)) (turn_total t v)
  | inr n ↦ subst (λ w. total w ≤ total v + 1) (sym (cond-false (turn_sender t == s) (with_turn t v) v n)) (omega arith)
]

-- each record adds one message at most
pub view_total : (log : List Item) (s : ℕ) → (view log s).received + length (view log s).messages ≤ length log
view_total [] s = omega arith
view_total (r ∷ log) s =
    let ih : total (view log s) ≤ length log = view_total log s in
    let one : total (view_after s (turn log r) (view log s)) ≤ total (view log s) + 1 = after_total s (turn log r) (view log s) in
    omega arith

-- so of a log of records
pub log_total : (z : Sizes) (log : List Record) (s : ℕ) → (view (items z log) s).received + length (view (items z log) s).messages ≤ length log
log_total z log s =
    let h = view_total (items z log) s in
    let e = length-map log (item_of z) in
    omega arith
