-- Sums over rows: once a row is changed or taken out, and one row of them.
use Rattle.std.proofs.Common.{◌≡◌, ℕ, ◌+◌, ◌≤◌, List, [], ◌∷◌, refl, sym, ◌∙◌, ap, Some, None, inl, inr, arith}
use Rattle.std.specs.List.{sum_by}
use Rattle.std.proofs.lemmas.Bool.{cases_Bool}
use Rattle.std.proofs.lemmas.List.Sums.{sum_by-cons}
use Rattle.rq_model.specs.declared.txn.Txn.{Txn}
use Rattle.rq_model.proofs.Lists.{same_is}
use Rattle.rq_model.specs.Vocabulary.{In, same_txn}
use Rattle.rq_txn.specs.Rows.{Row, found_row, AreDistinct, change_row, change_row_one, without_row}
use Rattle.rq_txn.proofs.Finding.{change_none}
use Rattle.rq_txn.proofs.Placing.{without_none}
use Rattle.std.proofs.lemmas.Option.{same_Some}

-- a change of one row that keeps a number of each keeps their sum
pub rows_sum : (f : Row → ℕ) (t : Txn) (g : Row → Row) (rows : List Row) → ((r : Row) → In r rows → r.txn ≡ t → f (g r) ≡ f r) → sum_by f (change_row t g rows) ≡ sum_by f rows
rows_sum f t g [] k = refl
rows_sum f t g (r ∷ rows) k =
    let rest = rows_sum f t g rows (λ q i. k q (inr i)) in
    let one : f (change_row_one t g r) ≡ f r = elim (cases_Bool (same_txn r.txn t)) [ inl y ↦ rw y (k r (inl refl) (same_is r.txn t y)) | inr n ↦ rw n refl ] in
    sum_by-cons f (change_row_one t g r) (change_row t g rows) ∙ ap (λ n. n + sum_by f (change_row t g rows)) one ∙ ap (λ n. f r + n) rest ∙ sym (sum_by-cons f r rows)

-- one row that is changed changes the sum by itself
pub rows_one : (f : Row → ℕ) (t : Txn) (g : Row → Row) (rows : List Row) (r : Row) → AreDistinct rows → found_row t rows ≡ Some r → sum_by f (change_row t g rows) + f r ≡ sum_by f rows + f (g r)
rows_one f t g [] r d e = cc
rows_one f t g (q ∷ rows) r d e = elim (cases_Bool (same_txn q.txn t)) [
  | inl y ↦
      let same : q ≡ r = same_Some q r (rw y at e) in
      let none : found_row t rows ≡ None = ap (λ u. found_row u rows) (sym (same_is q.txn t y)) ∙ d.0 in
      rw y (let a = sum_by-cons f (g q) (change_row t g rows) in let b = sum_by-cons f q rows in let c : sum_by f (change_row t g rows) ≡ sum_by f rows = ap (sum_by f) (change_none t g rows none) in
      let u : f (g q) ≡ f (g r) = ap (λ (x : Row). f (g x)) same in let v : f q ≡ f r = ap f same in omega (arith, a, b, c, u, v))
  | inr n ↦ rw n (let a = sum_by-cons f q (change_row t g rows) in let b = sum_by-cons f q rows in let ih = rows_one f t g rows r d.1 (rw n at e) in omega (arith, a, b, ih))
]

-- a sum without one row
pub rows_without : (f : Row → ℕ) (t : Txn) (rows : List Row) (r : Row) → AreDistinct rows → found_row t rows ≡ Some r → sum_by f (without_row t rows) + f r ≡ sum_by f rows
rows_without f t [] r d e = cc
rows_without f t (q ∷ rows) r d e = elim (cases_Bool (same_txn q.txn t)) [
  | inl y ↦
      let same : q ≡ r = same_Some q r (rw y at e) in
      let none : found_row t rows ≡ None = ap (λ u. found_row u rows) (sym (same_is q.txn t y)) ∙ d.0 in
      rw y (let b = sum_by-cons f q rows in let c : sum_by f (without_row t rows) ≡ sum_by f rows = ap (sum_by f) (without_none t rows none) in let v : f q ≡ f r = ap f same in omega (arith, b, c, v))
  | inr n ↦ rw n (let a = sum_by-cons f q (without_row t rows) in let b = sum_by-cons f q rows in let ih = rows_without f t rows r d.1 (rw n at e) in omega (arith, a, b, ih))
]

-- one of the rows is at most the sum of all
pub one_of_sum : (f : Row → ℕ) (rows : List Row) (r : Row) → In r rows → f r ≤ sum_by f rows
one_of_sum f [] r i = absurd i
one_of_sum f (q ∷ rows) r i =
    let a = sum_by-cons f q rows in
    elim i [
      | inl e ↦ let b : f r ≡ f q = ap f e in omega (arith, a, b)
      | inr j ↦ let b = one_of_sum f rows r j in omega (arith, a, b)
    ]
