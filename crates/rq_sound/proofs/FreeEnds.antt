-- An end is free by the ledger where it is by the ends that are held.
use Rattle.std.proofs.Common.{◌≡◌, ◌≢◌, ℕ, ◌&&◌, ◌||◌, List, [], ◌∷◌, refl, sym, ◌∙◌, ap, true, false, not, Option, Some, None, inl, inr}
use Rattle.std.proofs.lemmas.Bool.{cases_Bool, false≢true, false_from_ne_true, and_from, or_left, or_right}
use Rattle.std.proofs.Math.Bool.{and-false}
use Rattle.rq_model.specs.declared.txn.Txn.{Txn}
use Rattle.rq_model.specs.Vocabulary.{In, is_some, same_txn, has_number}
use Rattle.rq_model.specs.Ledger.{Open}
use Rattle.rq_model.specs.Tests.{free_of, free_to_send, free_to_receive}
use Rattle.rq_model.proofs.Lists.{same_is, not_same}
use Rattle.rq_groups.specs.declared.Held.{Held}
use Rattle.rq_groups.specs.Ends.{HeldEnds, has_held, held_by, is_free_for}
use Rattle.rq_groups.proofs.Holders.{has_is_number}
use Rattle.rq_store.proofs.Ends.{holder, free_alone}
use Rattle.rq_txn.specs.Rows.{Row, found_row}
use Rattle.rq_store.specs.Settled.{AreEnds}
use Rattle.rq_store.specs.State.{State, ledger_of, open_of, open_ones_of}
use Rattle.rq_store.proofs.RowLists.{found_in}
use Rattle.rq_sound.specs.Sound.{IsSound}

some_row : (o : Option Row) → is_some o ≡ true → (r : Row) × (o ≡ Some r)
some_row None e = absurd (false≢true e)
some_row (Some r) e = (r, refl)

-- one side's ends, as the ledger has them
module _ (ends : HeldEnds) (hs : List Held) (side : Open → List ℕ) (is : (r : Row) → side (open_of ends r) ≡ held_by r.txn hs) where
  free_here : (t : Txn) (e : ℕ) → is_free_for t e hs ≡ true → (rows : List Row) → free_of side t e (open_ones_of ends rows) ≡ true
  free_here t e h [] = refl
  free_here t e h (r ∷ rows) = and_from (same_txn r.txn t || not (has_number e (side (open_of ends r)))) (free_of side t e (open_ones_of ends rows)) (elim (cases_Bool (same_txn r.txn t)) [
    | inl y ↦ or_left (same_txn r.txn t) (not (has_number e (side (open_of ends r)))) y
    | inr n ↦ or_right (same_txn r.txn t) (not (has_number e (side (open_of ends r)))) (ap not (ap (has_number e) (is r) ∙ sym (has_is_number r.txn e hs) ∙ false_from_ne_true (has_held r.txn e hs) (λ y. not_same r.txn t n (free_alone t r.txn e hs h y))))
  ]) (free_here t e h rows)

  taken_row : (t : Txn) (e : ℕ) (rows : List Row) (r : Row) → In r rows → r.txn ≢ t → has_held r.txn e hs ≡ true → free_of side t e (open_ones_of ends rows) ≡ false
  taken_row t e [] r i n h = absurd i
  taken_row t e (q ∷ rows) r i n h = elim i [
    | inl w ↦
        let a : same_txn q.txn t ≡ false = false_from_ne_true (same_txn q.txn t) (λ y. n (ap (λ (x : Row). x.txn) w ∙ same_is q.txn t y)) in
        let b : has_number e (side (open_of ends q)) ≡ true = ap (has_number e) (is q) ∙ sym (has_is_number q.txn e hs) ∙ ap (λ (x : Row). has_held x.txn e hs) (sym w) ∙ h in
        rw (a, b) refl
    | inr j ↦ ap (λ b. (same_txn q.txn t || not (has_number e (side (open_of ends q)))) && b) (taken_row t e rows r j n h) ∙ and-false (same_txn q.txn t || not (has_number e (side (open_of ends q))))
  ]

  free_side : (rows : List Row) → AreEnds rows hs → (t : Txn) (e : ℕ) → free_of side t e (open_ones_of ends rows) ≡ is_free_for t e hs
  free_side rows a t e = elim (cases_Bool (is_free_for t e hs)) [
    | inl y ↦ free_here t e y rows ∙ sym y
    | inr n ↦
        let h = holder t e hs n in
        let r = some_row (found_row h.0 rows) (a.living h.0 e h.2) in
        let i = found_in h.0 rows r.0 r.1 in
        taken_row t e rows r.0 i.0 (λ w. h.1 (sym i.1 ∙ w)) (ap (λ (x : Txn). has_held x e hs) i.1 ∙ h.2) ∙ sym n
  ]

pub free_is : (s : State) (k : IsSound s) (t : Txn) (e : ℕ) → free_to_send t e (ledger_of s).open_ones ≡ is_free_for t e s.ends.sending
free_is s k t e = free_side s.ends s.ends.sending (λ (o : Open). o.sending) (λ r. refl) s.rows k.standing.sending t e

pub free_to_take : (s : State) (k : IsSound s) (t : Txn) (e : ℕ) → free_to_receive t e (ledger_of s).open_ones ≡ is_free_for t e s.ends.receiving
free_to_take s k t e = free_side s.ends s.ends.receiving (λ (o : Open). o.receiving) (λ r. refl) s.rows k.standing.receiving t e
