-- No committed send comes after a committed close.
use Rattle.std.proofs.Common.{◌≡◌, ℕ, List, [], ◌∷◌, ◌++◌, refl, sym, ◌∙◌, ap, true, false, Option, Some, None, ◌⊎◌, inl, inr, ◌&&◌, ◌||◌}
use Rattle.std.proofs.lemmas.Bool.{cases_Bool, or_cases, or_parts, or_from, or_left, or_right, and_parts, and_from, false≢true, false_from_ne_true}
use Rattle.rq_model.specs.declared.txn.Txn.{Txn}
use Rattle.rq_model.specs.Vocabulary.{Op, In, same_txn, ends, has_txn}
use Rattle.rq_model.specs.History.{Entry, Fin, finished, did_by, ops_by, ended, closes_by, is_send_by, sends_to, NoneAfterEnd}
use Rattle.rq_model.specs.Ledger.{any_ends}
use Rattle.rq_model.proofs.Lists.{same_is, same_self}

pub has_in : (u : Txn) (c : List Txn) → has_txn u c ≡ true → In u c
has_in u [] h = absurd (false≢true h)
has_in u (t ∷ c) h = elim (or_cases (same_txn t u) (has_txn u c) h) [ inl e ↦ inl (sym (same_is t u e)) | inr e ↦ inr (has_in u c e) ]

pub in_has : (u : Txn) (c : List Txn) → In u c → has_txn u c ≡ true
in_has u [] h = absurd h
in_has u (t ∷ c) h = elim h [ inl e ↦ or_left (same_txn t u) (has_txn u c) (ap (λ x. same_txn x u) (sym e) ∙ same_self u) | inr e ↦ or_right (same_txn t u) (has_txn u c) (in_has u c e) ]

pub any_ends_more : (s : ℕ) (xs : List Op) (op : Op) → any_ends s (xs ++ op ∷ []) ≡ (any_ends s xs || ends s op)
any_ends_more s [] op = elim (cases_Bool (ends s op)) [ inl y ↦ rw y refl | inr y ↦ rw y refl ]
any_ends_more s (x ∷ xs) op = elim (cases_Bool (ends s x)) [ inl y ↦ rw y refl | inr y ↦ rw y (any_ends_more s xs op) ]

pub no_last : {X : Type 0} (xs : List X) (x : X) → xs ++ x ∷ [] ≡ [] → ⊥
no_last [] x e = cc
no_last (y ∷ xs) x e = cc

-- with one entry less there is no close that there was not
ended_less : (s : ℕ) (w : Option Fin) (u : Txn) (ops : List Op) → any_ends s (did_by u w ops) ≡ false → any_ends s ops ≡ false
ended_less s None u ops e = e
ended_less s (Some d) u ops e = elim (cases_Bool (same_txn d.txn u)) [
  | inl y ↦ let v : any_ends s (ops ++ d.op ∷ []) ≡ false = rw y at e in (or_parts (any_ends s ops) (ends s d.op) (sym (any_ends_more s ops d.op) ∙ v)).0
  | inr n ↦ rw n at e
]

nil_less : (w : Option Fin) (u : Txn) (ops : List Op) → did_by u w ops ≡ [] → ops ≡ []
nil_less None u ops e = e
nil_less (Some d) u ops e = elim (cases_Bool (same_txn d.txn u)) [
  | inl y ↦ let v : ops ++ d.op ∷ [] ≡ [] = rw y at e in absurd (no_last ops d.op v)
  | inr n ↦ rw n at e
]

closes_none : (c : List Txn) (s : ℕ) (w : Option Fin) (h : List Entry) → ((u : Txn) → In u c → any_ends s (did_by u w (ops_by h u)) ≡ false) → closes_by c s w ≡ false
closes_none c s None h f = refl
closes_none c s (Some d) h f = false_from_ne_true (has_txn d.txn c && ends s d.op) (λ e.
    let p = and_parts (has_txn d.txn c) (ends s d.op) e in
    let v : any_ends s (ops_by h d.txn ++ d.op ∷ []) ≡ false = let x = f d.txn (has_in d.txn c p.0) in rw (same_self d.txn) at x in
    false≢true (sym (or_parts (any_ends s (ops_by h d.txn)) (ends s d.op) (sym (any_ends_more s (ops_by h d.txn) d.op) ∙ v)).1 ∙ p.1))

pub ended_none : (c : List Txn) (s : ℕ) (h : List Entry) → ((u : Txn) → In u c → any_ends s (ops_by h u) ≡ false) → ended c s h ≡ false
ended_none c s [] f = refl
ended_none c s (e ∷ h) f = or_from (closes_by c s (finished e)) (ended c s h) (closes_none c s (finished e) h f) (ended_none c s h (λ u j. ended_less s (finished e) u (ops_by h u) (f u j)))

closes_fewer : (c c' : List Txn) (s : ℕ) (w : Option Fin) (h : List Entry) → ((u : Txn) → In u c' → In u c ⊎ (did_by u w (ops_by h u) ≡ [])) → closes_by c s w ≡ false → closes_by c' s w ≡ false
closes_fewer c c' s None h f e = refl
closes_fewer c c' s (Some d) h f e = false_from_ne_true (has_txn d.txn c' && ends s d.op) (λ x.
    let p = and_parts (has_txn d.txn c') (ends s d.op) x in
    elim (f d.txn (has_in d.txn c' p.0)) [
      | inl j ↦ false≢true (sym e ∙ and_from (has_txn d.txn c) (ends s d.op) (in_has d.txn c j) p.1)
      | inr v ↦ let y : ops_by h d.txn ++ d.op ∷ [] ≡ [] = rw (same_self d.txn) at v in no_last (ops_by h d.txn) d.op y
    ])

ended_fewer : (c c' : List Txn) (s : ℕ) (h : List Entry) → ((u : Txn) → In u c' → In u c ⊎ (ops_by h u ≡ [])) → ended c s h ≡ false → ended c' s h ≡ false
ended_fewer c c' s [] f e = refl
ended_fewer c c' s (x ∷ h) f e =
    let p = or_parts (closes_by c s (finished x)) (ended c s h) e in
    or_from (closes_by c' s (finished x)) (ended c' s h) (closes_fewer c c' s (finished x) h f p.0)
    (ended_fewer c c' s h (λ u j. elim (f u j) [ inl k ↦ inl k | inr k ↦ inr (nil_less (finished x) u (ops_by h u) k) ]) p.1)

send_fewer : (c c' : List Txn) (s : ℕ) (w : Option Fin) (h : List Entry) → ((u : Txn) → In u c' → In u c ⊎ (did_by u w (ops_by h u) ≡ [])) → is_send_by c' s w ≡ true → is_send_by c s w ≡ true
send_fewer c c' s None h f e = absurd (false≢true e)
send_fewer c c' s (Some d) h f e =
    let p = and_parts (has_txn d.txn c') (sends_to s d.op) e in
    elim (f d.txn (has_in d.txn c' p.0)) [
      | inl j ↦ and_from (has_txn d.txn c) (sends_to s d.op) (in_has d.txn c j) p.1
      | inr v ↦ let y : ops_by h d.txn ++ d.op ∷ [] ≡ [] = rw (same_self d.txn) at v in absurd (no_last (ops_by h d.txn) d.op y)
    ]

-- of fewer transactions, or more that did nothing
pub fewer : (c c' : List Txn) (s : ℕ) (h : List Entry) → ((u : Txn) → In u c' → In u c ⊎ (ops_by h u ≡ [])) → NoneAfterEnd c s h → NoneAfterEnd c' s h
fewer c c' s [] f g = tt
fewer c c' s (x ∷ h) f g =
    let down : (u : Txn) → In u c' → In u c ⊎ (ops_by h u ≡ []) = λ u j. elim (f u j) [ inl k ↦ inl k | inr k ↦ inr (nil_less (finished x) u (ops_by h u) k) ] in
    (λ e. ended_fewer c c' s h down (g.0 (send_fewer c c' s (finished x) h f e)), fewer c c' s h down g.1)
