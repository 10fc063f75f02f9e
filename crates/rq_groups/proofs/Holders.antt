-- The ends that are held: by whom, after one is taken, and after a release.
use Rattle.std.proofs.Common.{◌≡◌, ℕ, true, false, cond, nat_eq, ◌||◌, List, [], ◌∷◌, refl, sym, ◌∙◌, ap, inl, inr}
use Rattle.std.proofs.lemmas.Bool.{cases_Bool}
use Rattle.rq_model.specs.declared.txn.Txn.{Txn}
use Rattle.rq_model.specs.Vocabulary.{same_txn, has_number}
use Rattle.rq_model.specs.Ledger.{add_number}
use Rattle.rq_model.proofs.Lists.{same_is, same_self}
use Rattle.rq_groups.specs.declared.Held.{Held}
use Rattle.rq_groups.specs.Ends.{has_held, with_held, held_by, released}

-- an end that is held already is not held twice
pub with_had : (t : Txn) (s : ℕ) (hs : List Held) → has_held t s hs ≡ true → with_held t s hs ≡ hs
with_had t s hs e = rw e refl

pub with_new : (t : Txn) (s : ℕ) (hs : List Held) → has_held t s hs ≡ false → with_held t s hs ≡ record { txn = t; sender = s } ∷ hs
with_new t s hs e = rw e refl

-- ---- the ends of one transaction

pub has_is_number : (t : Txn) (s : ℕ) (hs : List Held) → has_held t s hs ≡ has_number s (held_by t hs)
has_is_number t s [] = refl
has_is_number t s (h ∷ hs) =
    elim (cases_Bool (same_txn h.txn t)) [
      | inl e ↦ rw e (ap (λ b. nat_eq h.sender s || b) (has_is_number t s hs))
      | inr e ↦ rw e (has_is_number t s hs)
    ]

pub held_first : (t : Txn) (h : Held) (hs : List Held) → same_txn h.txn t ≡ true → held_by t (h ∷ hs) ≡ h.sender ∷ held_by t hs
held_first t h hs e = rw e refl

pub held_later : (t : Txn) (h : Held) (hs : List Held) → same_txn h.txn t ≡ false → held_by t (h ∷ hs) ≡ held_by t hs
held_later t h hs e = rw e refl

-- taking an end adds its sender to the transaction's
pub held_with_same : (t : Txn) (s : ℕ) (hs : List Held) → held_by t (with_held t s hs) ≡ add_number s (held_by t hs)
held_with_same t s hs =
    elim (cases_Bool (has_held t s hs)) [
      | inl e ↦
          let g : has_number s (held_by t hs) ≡ true = sym (has_is_number t s hs) ∙ e in
          ap (held_by t) (with_had t s hs e) ∙ (rw g refl)
      | inr e ↦
          let g : has_number s (held_by t hs) ≡ false = sym (has_is_number t s hs) ∙ e in
          ap (held_by t) (with_new t s hs e) ∙ held_first t (record { txn = t; sender = s }) hs (same_self t) ∙ (rw g refl)
    ]

pub held_with_other : (t u : Txn) (s : ℕ) (hs : List Held) → same_txn t u ≡ false → held_by u (with_held t s hs) ≡ held_by u hs
held_with_other t u s hs h =
    elim (cases_Bool (has_held t s hs)) [
      | inl e ↦ ap (held_by u) (with_had t s hs e)
      | inr e ↦ ap (held_by u) (with_new t s hs e) ∙ held_later u (record { txn = t; sender = s }) hs h
    ]

pub released_first : (t : Txn) (h : Held) (hs : List Held) → same_txn h.txn t ≡ true → released t (h ∷ hs) ≡ released t hs
released_first t h hs e = rw e refl

pub released_later : (t : Txn) (h : Held) (hs : List Held) → same_txn h.txn t ≡ false → released t (h ∷ hs) ≡ h ∷ released t hs
released_later t h hs e = rw e refl

pub held_released_same : (t : Txn) (hs : List Held) → held_by t (released t hs) ≡ []
held_released_same t [] = refl
held_released_same t (h ∷ hs) =
    elim (cases_Bool (same_txn h.txn t)) [
      | inl e ↦ ap (held_by t) (released_first t h hs e) ∙ held_released_same t hs
      | inr e ↦ ap (held_by t) (released_later t h hs e) ∙ held_later t h (released t hs) e ∙ held_released_same t hs
    ]

pub held_released_other : (t u : Txn) (hs : List Held) → same_txn t u ≡ false → held_by u (released t hs) ≡ held_by u hs
held_released_other t u [] n = refl
held_released_other t u (h ∷ hs) n =
    elim (cases_Bool (same_txn h.txn t)) [
      | inl e ↦
          let g : same_txn h.txn u ≡ false = ap (λ w. same_txn w u) (same_is h.txn t e) ∙ n in
          ap (held_by u) (released_first t h hs e) ∙ held_released_other t u hs n ∙ sym (held_later u h hs g)
      | inr e ↦ ap (held_by u) (released_later t h hs e) ∙ ap (λ l. cond (same_txn h.txn u) (h.sender ∷ l) l) (held_released_other t u hs n)
    ]
