-- Sums over rows of which few count.
use Rattle.std.proofs.Common.{◌≡◌, ◌≢◌, ℕ, List, [], ◌∷◌, sym, ◌∙◌, ap, inl, inr, arith, refl}
use Rattle.std.specs.List.{sum_by}
use Rattle.std.proofs.lemmas.List.Sums.{sum_by-cons}
use Rattle.rq_model.specs.Vocabulary.{In}
use Rattle.rq_txn.specs.Rows.{Row, found_row, AreDistinct}
use Rattle.rq_store.proofs.RowLists.{in_found, some_not_none}

-- where none has any, the sum is none
pub none_of_sum : (f : Row → ℕ) (rows : List Row) → ((q : Row) → In q rows → f q ≡ 0) → sum_by f rows ≡ 0
none_of_sum f [] h = refl
none_of_sum f (q ∷ rows) h =
    let a = sum_by-cons f q rows in
    let b = h q (inl refl) in
    let c = none_of_sum f rows (λ p i. h p (inr i)) in
    omega (arith, a, b, c)

-- where the others have none, the sum is that of the one
pub alone_of_sum : (f : Row → ℕ) (rows : List Row) (r : Row) → AreDistinct rows → In r rows → ((q : Row) → In q rows → q.txn ≢ r.txn → f q ≡ 0) → sum_by f rows ≡ f r
alone_of_sum f [] r d i h = absurd i
alone_of_sum f (q ∷ rows) r d i h =
    let a = sum_by-cons f q rows in
    let other : (p : Row) → In p rows → p.txn ≢ q.txn = (λ p j e. some_not_none (found_row q.txn rows) (in_found q.txn rows p j e) d.0) in
    elim i [
      | inl e ↦
          let b : f r ≡ f q = ap f e in
          let c = none_of_sum f rows (λ p j. h p (inr j) (λ k. other p j (k ∙ ap (λ (x : Row). x.txn) e))) in
          omega (arith, a, b, c)
      | inr j ↦
          let b = h q (inl refl) (λ k. other r j (sym k)) in
          let c = alone_of_sum f rows r d.1 j (λ p l n. h p (inr l) n) in
          omega (arith, a, b, c)
    ]
