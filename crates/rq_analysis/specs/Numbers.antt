-- The greatest number of each running transaction's operations, as code keeps it.
use Rattle.std.specs.Prelude.{◌≡◌, ◌≤◌, ℕ, max, nat_eq, nat_lt, not, cond, ◌||◌, List, [], ◌∷◌, ◌++◌, length, None}
use Rattle.std.specs.List.{filter}
use Rattle.rq_model.specs.declared.txn.Sub.{Sub}
use Rattle.rq_model.specs.declared.txn.Txn.{Txn}
use Rattle.rq_model.specs.declared.record.Record.{Record}
use Rattle.rq_model.specs.declared.record.Record.TheVariants.{PageOp, PageUndo, OpEnd, OpVoid, CompEnd, Commit, AbortEnd, Base}
use Rattle.rq_model.specs.Vocabulary.{In, same_txn}
use Rattle.rq_views.specs.Items.{operation}
use Rattle.rq_txn.specs.Rows.{Row}
use Rattle.rq_store.specs.State.{State}
use Rattle.rq_sound.specs.Sound.{IsSound}

-- the greatest of the transaction's, 0 where it has none
abbrev pub number_of : Txn → List Sub → ℕ
number_of t [] = 0
number_of t (o ∷ os) = max (cond (same_txn o.txn t) o.number 0) (number_of t os)

-- those of others
abbrev pub numbers_but : Txn → List Sub → List Sub
numbers_but t os = filter (λ o. not (same_txn t o.txn)) os

-- and those of the transaction that are this number
abbrev pub numbers_left : Txn → ℕ → List Sub → List Sub
numbers_left t n os = filter (λ o. not (same_txn t o.txn) || nat_eq o.number n) os

-- one that is greater comes in the place of the transaction's last one
abbrev pub with_number : Sub → List Sub → List Sub
with_number o os = cond (nat_lt (number_of o.txn os) o.number) (numbers_but o.txn os ++ o ∷ []) os

abbrev pub numbers_after : Record → List Sub → List Sub
numbers_after (PageOp t n page slot before after) os = with_number (operation t n) os
numbers_after (PageUndo t n undone page slot after) os = with_number (operation t n) os
numbers_after (OpEnd t n level deed) os = with_number (operation t n) os
numbers_after (OpVoid t n) os = with_number (operation t n) os
numbers_after (CompEnd t n undone) os = with_number (operation t n) os
numbers_after (Commit t) os = numbers_but t os
numbers_after (AbortEnd t) os = numbers_but t os
numbers_after (Base many i) os = []
numbers_after _ os = os

abbrev pub numbers : List Record → List Sub
numbers [] = []
numbers (r ∷ log) = numbers_after r (numbers log)

-- Of each transaction of a sound store with nothing under way it is the number that its row has. No transaction stands
-- twice, however many operations it has.
pub record NumbersAreKept : Type 0 where
  pub kept : (s : State) (r : Row) → IsSound s → In r s.rows → r.under ≡ None
      → number_of r.txn (numbers s.records) ≡ r.number
  pub once : (log : List Record) (t : Txn) → length (filter (λ o. same_txn t o.txn) (numbers log)) ≤ 1
