-- What is under way, and what a transaction has left.
use Rattle.std.proofs.Common.{◌≡◌, ◌-◌, ◌<◌, List, [], ◌∷◌, ◌++◌, length, Option, Some, None, refl, ◌∙◌, ap, arith}
use Rattle.std.proofs.lemmas.List.{append-nil}
use Rattle.std.specs.List.{slice_get}
use Rattle.std.specs.Option.{IfSome, IsNone, IsSome, option_to_list}
use Rattle.rq_model.specs.declared.txn.Txn.{Txn}
use Rattle.rq_model.specs.Vocabulary.{front, last, last_or}
use Rattle.rq_txn.specs.declared.Finished.{Finished}
use Rattle.rq_txn.specs.declared.Operation.{Operation}
use Rattle.rq_txn.specs.declared.Transaction.{Transaction}
use Rattle.rq_txn.specs.Rows.{Row, row_of, under_way_of, found_row}

is_under : (o : Option Operation) → IsSome (under_way_of o) → IsSome o
is_under None h = h
is_under (Some o) h = refl

pub under_found : (t : Txn) (rows : List Row) (m : Transaction) → found_row t rows ≡ Some (row_of m) → IfSome (found_row t rows) (λ r. IsSome r.under) → IsSome m.under_way
under_found t rows m e h = is_under m.under_way (rw e at h)

is_left : (o : Option Operation) → IfSome (under_way_of o) (λ u. u.made < length u.writes) → IfSome o (λ p. p.made < length p.writes.items)
is_left None h = h
is_left (Some o) h = h

pub left_found : (t : Txn) (rows : List Row) (m : Transaction) → found_row t rows ≡ Some (row_of m) → IfSome (found_row t rows) (λ r. IfSome r.under (λ u. u.made < length u.writes)) → IfSome m.under_way (λ p. p.made < length p.writes.items)
left_found t rows m e h = is_left m.under_way (rw e at h)

-- what is left once the last is out
pub front_push : {X : Type 0} (xs : List X) (x : X) → front (xs ++ x ∷ []) ≡ xs
front_push [] x = refl
front_push (a ∷ []) x = refl
front_push (a ∷ b ∷ xs) x = ap (λ l. a ∷ l) (front_push (b ∷ xs) x)

pub front_out : {X : Type 0} (xs ys : List X) (o : Option X) → xs ≡ ys ++ option_to_list o → (IsNone o → length xs ≡ 0) → front xs ≡ ys
front_out xs ys (Some x) e n = ap front e ∙ front_push ys x
front_out [] ys None e n = e ∙ append-nil ys
front_out (x ∷ xs) ys None e n = absurd (omega (arith, n refl))

-- the last stands at the end
pub last_get : (fs : List Finished) → last fs ≡ slice_get fs (length fs - 1)
last_get [] = refl
last_get (f ∷ fs) = at f fs where
  end : (f : Finished) (fs : List Finished) → Some (last_or f fs) ≡ slice_get (f ∷ fs) (length fs)
  end f [] = refl
  end f (g ∷ fs) = end g fs

  at : (f : Finished) (fs : List Finished) → Some (last_or f fs) ≡ slice_get (f ∷ fs) (length (f ∷ fs) - 1)
  at f fs = end f fs ∙ ap (slice_get (f ∷ fs)) (let e : length fs ≡ length (f ∷ fs) - 1 = omega arith in e)
