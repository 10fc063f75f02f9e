-- The numbers of a transaction's operations: from 1 on, without gaps.
use Rattle.std.specs.Prelude.{◌≡◌, ℕ, ◌+◌, max, false, cond, List, [], ◌∷◌, Option, Some, None}
use Rattle.rq_model.specs.declared.txn.Txn.{Txn}
use Rattle.rq_model.specs.declared.txn.Sub.{Sub}
use Rattle.rq_model.specs.Vocabulary.{same_txn}
use Rattle.rq_views.specs.Log.{Item}
use Rattle.rq_views.specs.Log.Item.{PageOp}
use Rattle.rq_views.specs.Legal.{of_op, began}

-- the operation's number, where it is one of t
abbrev pub number_in : Txn → Option Sub → ℕ
number_in t None = 0
number_in t (Some o) = cond (same_txn o.txn t) o.number 0

-- the greatest number of an operation of t, 0 where it has none
abbrev pub greatest : Txn → List Item → ℕ
greatest t [] = 0
greatest t (r ∷ log) = max (number_in t (of_op r)) (greatest t log)

-- an operation's first record has the next number of its transaction
abbrev pub IsNumbered : List Item → Item → Type 0
IsNumbered log (PageOp o w) = began o log ≡ false → o.number ≡ greatest o.txn log + 1
IsNumbered log _ = Unit {0}

abbrev pub AreNumbered : List Item → Type 0
AreNumbered [] = Unit {0}
AreNumbered (r ∷ log) = IsNumbered log r × AreNumbered log
