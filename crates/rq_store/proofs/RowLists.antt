-- Rows by transaction: who is found, changed and left out.
use Rattle.std.proofs.Common.{◌≡◌, ◌≢◌, List, [], ◌∷◌, refl, sym, ◌∙◌, ap, subst, true, false, not, Option, Some, None, inl, inr, ◌⊎◌}
use Rattle.std.proofs.lemmas.Bool.{cases_Bool, true≢false, false≢true, or_left}
use Rattle.std.proofs.lemmas.Option.{same_Some}
use Rattle.rq_model.specs.declared.txn.Txn.{Txn}
use Rattle.rq_model.specs.Vocabulary.{In, same_txn, is_some}
use Rattle.rq_model.proofs.Lists.{In-map, In-filter, same_is, same_self, not_same}
use Rattle.rq_model.proofs.Same.{other_same}
use Rattle.rq_txn.specs.Rows.{Row, found_row, change_row, change_row_one, without_row, AreDistinct, any_under}

-- what is found stands there, under that number
pub found_in : (t : Txn) (rows : List Row) (r : Row) → found_row t rows ≡ Some r → In r rows × (r.txn ≡ t)
found_in t [] r e = cc
found_in t (p ∷ rows) r e =
    elim (cases_Bool (same_txn p.txn t)) [
      | inl y ↦ let q : p ≡ r = same_Some p r (rw y at e) in (inl (sym q), ap (λ (x : Row). x.txn) (sym q) ∙ same_is p.txn t y)
      | inr n ↦ let g = found_in t rows r (rw n at e) in (inr g.0, g.1)
    ]

-- what stands there is found
pub in_found : (t : Txn) (rows : List Row) (r : Row) → In r rows → r.txn ≡ t → is_some (found_row t rows) ≡ true
in_found t [] r i e = absurd i
in_found t (p ∷ rows) r i e = elim (cases_Bool (same_txn p.txn t)) [
  | inl y ↦ rw y refl
  | inr n ↦ rw n (elim i [
    | inl q ↦ absurd (not_same p.txn t n (ap (λ (x : Row). x.txn) (sym q) ∙ e))
    | inr j ↦ in_found t rows r j e
  ])
]

pub some_not_none : (o : Option Row) → is_some o ≡ true → o ≡ None → ⊥
some_not_none o s e = false≢true (sym (ap (λ x. is_some x) e) ∙ s)

-- one row a transaction
pub unique : (rows : List Row) (p q : Row) → AreDistinct rows → In p rows → In q rows → p.txn ≡ q.txn → p ≡ q
unique [] p q d i j e = absurd i
unique (r ∷ rows) p q d i j e = elim i [
  | inl a ↦ elim j [
    | inl b ↦ a ∙ sym b
    | inr b ↦ absurd (some_not_none (found_row r.txn rows) (in_found r.txn rows q b (sym e ∙ ap (λ (x : Row). x.txn) a)) d.0)
  ]
  | inr a ↦ elim j [
    | inl b ↦ absurd (some_not_none (found_row r.txn rows) (in_found r.txn rows p a (e ∙ ap (λ (x : Row). x.txn) b)) d.0)
    | inr b ↦ unique rows p q d.1 a b e
  ]
]

-- after a change of t's row each row is the changed one, or was there before and is another's
pub changed : (t : Txn) (f : Row → Row) (rows : List Row) (r q : Row) → AreDistinct rows → found_row t rows ≡ Some r → In q (change_row t f rows) → (q ≡ f r) ⊎ (In q rows × (q.txn ≢ t))
changed t f rows r q d e i =
    let m = In-map (change_row_one t f) rows q i in
    let at = found_in t rows r e in
    elim (cases_Bool (same_txn m.0.txn t)) [
      | inl y ↦ inl (let w : q ≡ f m.0 = rw y at m.2 in w ∙ ap f (unique rows m.0 r d m.1 at.0 (same_is m.0.txn t y ∙ sym at.1)))
      | inr n ↦ inr (let w : q ≡ m.0 = rw n at m.2 in (subst (λ x. In x rows) (sym w) m.1, λ k. not_same m.0.txn t n (ap (λ (x : Row). x.txn) (sym w) ∙ k)))
    ]

-- a change that keeps numbers keeps who is found
pub found_other : (t u : Txn) (f : Row → Row) (rows : List Row) → ((r : Row) → (f r).txn ≡ r.txn) → found_row u (change_row t f rows) ≡ None → found_row u rows ≡ None
found_other t u f [] k e = refl
found_other t u f (r ∷ rows) k e =
    let same : (change_row_one t f r).txn ≡ r.txn = elim (cases_Bool (same_txn r.txn t)) [ inl y ↦ rw y (k r) | inr n ↦ rw n refl ] in
    elim (cases_Bool (same_txn r.txn u)) [
      | inl y ↦ let w : same_txn (change_row_one t f r).txn u ≡ true = ap (λ x. same_txn x u) same ∙ y in let bad : Some (change_row_one t f r) ≡ None = rw w at e in cc
      | inr n ↦ let w : same_txn (change_row_one t f r).txn u ≡ false = ap (λ x. same_txn x u) same ∙ n in rw n (found_other t u f rows k (rw w at e))
    ]

pub found_still : (t u : Txn) (f : Row → Row) (rows : List Row) → ((r : Row) → (f r).txn ≡ r.txn) → is_some (found_row u rows) ≡ true → is_some (found_row u (change_row t f rows)) ≡ true
found_still t u f [] k e = e
found_still t u f (r ∷ rows) k e =
    let same : (change_row_one t f r).txn ≡ r.txn = elim (cases_Bool (same_txn r.txn t)) [ inl y ↦ rw y (k r) | inr n ↦ rw n refl ] in
    elim (cases_Bool (same_txn r.txn u)) [
      | inl y ↦ let w : same_txn (change_row_one t f r).txn u ≡ true = ap (λ x. same_txn x u) same ∙ y in rw w refl
      | inr n ↦ let w : same_txn (change_row_one t f r).txn u ≡ false = ap (λ x. same_txn x u) same ∙ n in rw w (found_still t u f rows k (rw n at e))
    ]

none_still : (t u : Txn) (f : Row → Row) (rows : List Row) → ((r : Row) → (f r).txn ≡ r.txn) → found_row u rows ≡ None → found_row u (change_row t f rows) ≡ None
none_still t u f [] k e = refl
none_still t u f (r ∷ rows) k e =
    let same : (change_row_one t f r).txn ≡ r.txn = elim (cases_Bool (same_txn r.txn t)) [ inl y ↦ rw y (k r) | inr n ↦ rw n refl ] in
    elim (cases_Bool (same_txn r.txn u)) [
      | inl y ↦ let bad : Some r ≡ None = rw y at e in cc
      | inr n ↦ let w : same_txn (change_row_one t f r).txn u ≡ false = ap (λ x. same_txn x u) same ∙ n in rw w (none_still t u f rows k (rw n at e))
    ]

pub distinct_change : (t : Txn) (f : Row → Row) (rows : List Row) → ((r : Row) → (f r).txn ≡ r.txn) → AreDistinct rows → AreDistinct (change_row t f rows)
distinct_change t f [] k d = tt
distinct_change t f (r ∷ rows) k d =
    let same : (change_row_one t f r).txn ≡ r.txn = elim (cases_Bool (same_txn r.txn t)) [ inl y ↦ rw y (k r) | inr n ↦ rw n refl ] in
    (ap (λ x. found_row x (change_row t f rows)) same ∙ none_still t r.txn f rows k d.0, distinct_change t f rows k d.1)

-- the others after t is gone
pub gone : (t : Txn) (rows : List Row) (q : Row) → In q (without_row t rows) → In q rows × (q.txn ≢ t)
gone t rows q i =
    let g = In-filter (λ (r : Row). not (same_txn r.txn t)) rows q i in
    (g.0, λ e. true≢false (sym g.1 ∙ ap not (ap (λ u. same_txn u t) e ∙ same_self t)))

pub found_gone : (t u : Txn) (rows : List Row) → u ≢ t → found_row u (without_row t rows) ≡ found_row u rows
found_gone t u [] n = refl
found_gone t u (r ∷ rows) n = elim (cases_Bool (same_txn r.txn t)) [
  | inl y ↦ let k : same_txn r.txn u ≡ false = other_same r.txn u (λ e. n (sym e ∙ same_is r.txn t y)) in rw (y, k) (found_gone t u rows n)
  | inr m ↦ rw m (elim (cases_Bool (same_txn r.txn u)) [ inl y ↦ rw y refl | inr k ↦ rw k (found_gone t u rows n) ])
]

pub distinct_gone : (t : Txn) (rows : List Row) → AreDistinct rows → AreDistinct (without_row t rows)
distinct_gone t [] d = tt
distinct_gone t (r ∷ rows) d = elim (cases_Bool (same_txn r.txn t)) [
  | inl y ↦ rw y (distinct_gone t rows d.1)
  | inr m ↦ rw m (found_gone t r.txn rows (not_same r.txn t m) ∙ d.0, distinct_gone t rows d.1)
]

pub none_under : (rows : List Row) (r : Row) → any_under rows ≡ false → In r rows → is_some r.under ≡ false
none_under [] r e i = absurd i
none_under (p ∷ rows) r e i = elim (cases_Bool (is_some p.under)) [
  | inl y ↦ absurd (true≢false (sym (or_left (is_some p.under) (any_under rows) y) ∙ e))
  | inr n ↦ elim i [ inl q ↦ ap (λ (x : Row). is_some x.under) q ∙ n | inr j ↦ none_under rows r (rw n at e) j ]
]
