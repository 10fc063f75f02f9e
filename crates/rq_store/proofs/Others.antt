-- What a record of one transaction leaves of the rows of the others.
use Rattle.std.proofs.Common.{◌≡◌, ◌≢◌, ℕ, ◌≤◌, ◌==◌, max, cond, refl, sym, ◌∙◌, ap, true, false, Option, Some, None, inl, inr, arith}
use Rattle.std.proofs.lemmas.Bool.{cases_Bool, eqb-true}
use Rattle.std.proofs.Math.Bool.{and-false}
use Rattle.rq_model.specs.declared.txn.Txn.{Txn}
use Rattle.rq_model.proofs.Lists.{same_self}
use Rattle.rq_model.specs.Vocabulary.{same_txn, is_some}
use Rattle.rq_views.specs.Log.{same_op}
use Rattle.rq_views.specs.Items.{operation}
use Rattle.rq_txn.specs.Rows.{Under}

pub none_of : (o : Option Under) → is_some o ≡ false → o ≡ None
none_of None e = refl
none_of (Some u) e = cc

-- operations of another transaction
pub other_op : (t u : Txn) (n m : ℕ) → same_txn t u ≡ false → same_op (operation t n) (operation u m) ≡ false
other_op t u n m e = rw e refl

-- operations of other numbers
pub other_number : (t u : Txn) (n m : ℕ) → n ≢ m → same_op (operation t n) (operation u m) ≡ false
other_number t u n m e = elim (cases_Bool (n == m)) [
  | inl y ↦ absurd (e (eqb-true n m y))
  | inr k ↦ rw k (and-false (same_txn t u))
]

-- the greatest number of a transaction after a record of another's operation
pub other_greatest : (t u : Txn) (n most : ℕ) → same_txn t u ≡ false → max (cond (same_txn t u) n 0) most ≡ most
other_greatest t u n most e = rw e (omega arith)

-- and after one of its own, numbered no less
pub own_greatest : (t u : Txn) (n most : ℕ) → t ≡ u → most ≤ n → max (cond (same_txn t u) n 0) most ≡ n
own_greatest t u n most e le = let own : same_txn t u ≡ true = ap (same_txn t) (sym e) ∙ same_self t in rw own (omega (arith, le))
