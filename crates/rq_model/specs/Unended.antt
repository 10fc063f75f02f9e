-- Operations and transactions of a log that have no end.
use Rattle.std.specs.Prelude.{ℕ, Bool, false, cond, List, [], ◌∷◌, ◌++◌, Option, Some, None, nat_eq, ◌&&◌, ◌||◌, not}
use Rattle.rq_model.specs.declared.txn.Txn.{Txn}
use Rattle.rq_model.specs.declared.record.Record.{Record}
use Rattle.rq_model.specs.declared.record.Record.TheVariants.{PageOp, OpEnd, OpVoid, CompEnd}
use Rattle.std.specs.List.{filter}
use Rattle.rq_model.specs.Vocabulary.{same_txn, has_txn}
use Rattle.rq_model.specs.Content.{Ending, ending, has_end}

-- operations that have records and no end, and transactions with an ended operation and no end
abbrev pub of_operation : Record → Option (Txn × ℕ)
of_operation (PageOp t n page slot before after) = Some (t, n)
of_operation _ = None

abbrev pub operation_ended : Txn → ℕ → Record → Bool
operation_ended t n (OpEnd u m level deed) = same_txn u t && nat_eq m n
operation_ended t n (OpVoid u m) = same_txn u t && nat_eq m n
operation_ended t n (CompEnd u m undone) = same_txn u t && nat_eq m n
operation_ended t n _ = false

abbrev pub any_record : (Record → Bool) → List Record → Bool
any_record f [] = false
any_record f (r ∷ log) = f r || any_record f log

abbrev pub has_pair : Txn → ℕ → List (Txn × ℕ) → Bool
has_pair t n [] = false
has_pair t n (p ∷ ps) = (same_txn p.0 t && nat_eq p.1 n) || has_pair t n ps

abbrev pub add_pair : Option (Txn × ℕ) → List (Txn × ℕ) → List (Txn × ℕ)
add_pair None ps = ps
add_pair (Some p) ps = cond (has_pair p.0 p.1 ps) ps (ps ++ p ∷ [])

-- each operation with PageOps, once, in the order of its first
abbrev pub operations : List Record → List (Txn × ℕ)
operations [] = []
operations (r ∷ log) = add_pair (of_operation r) (operations log)

abbrev pub unfinished : List Record → List (Txn × ℕ)
unfinished log = filter (λ p. not (any_record (operation_ended p.0 p.1) log)) (operations log)

abbrev pub add_txn : Option Ending → List Txn → List Txn
add_txn None ts = ts
add_txn (Some e) ts = cond (has_txn e.txn ts) ts (ts ++ e.txn ∷ [])

abbrev pub workers : List Record → List Txn
workers [] = []
workers (r ∷ log) = add_txn (ending r) (workers log)

abbrev pub lost : List Record → List Txn
lost log = filter (λ t. not (has_end log t)) (workers log)
