-- What holds of the records of every legal log of a store, and of logs that follow the rules.
use Rattle.std.specs.Prelude.{◌≡◌, ◌≤◌, ℕ, ◌+◌, Bool, true, false, cond, nat_eq, List, [], ◌∷◌, length, Option, Some, None}
use Rattle.rq_model.specs.declared.txn.Txn.{Txn}
use Rattle.rq_model.specs.declared.record.Record.{Record}
use Rattle.rq_model.specs.declared.record.Record.TheVariants.{PageOp, PageUndo, OpEnd, CompEnd}
use Rattle.rq_model.specs.Bases.{is_base, marked}
use Rattle.rq_model.specs.Unended.{any_record}
use Rattle.rq_page.specs.Sizes.{Sizes}
use Rattle.rq_store.specs.Whole.{IsWhole}
use Rattle.rq_views.specs.Items.{operation}
use Rattle.rq_analysis.specs.Rules.{FollowAll, FollowsRules, IsReadInOrder, greatest_number, has_op}

-- Each record of a whole log, as it is read, follows the rules behind those before it, and is the next of its incarnation.
pub record WholeLogsFollow : Type 0 where
  pub one : (z : Sizes) (log : List Record) (r : Record) → IsWhole z (r ∷ log) → is_base r ≡ false
      → FollowsRules (marked log) r
  pub all : (z : Sizes) (log : List Record) → IsWhole z log → FollowAll (marked log)
  pub order : (z : Sizes) (log : List Record) → IsWhole z log → IsReadInOrder (marked log)

-- the record with this LSN
abbrev pub record_at : ℕ → List Record → Option Record
record_at lsn [] = None
record_at lsn (r ∷ log) = cond (nat_eq lsn (length log + 1)) (Some r) (record_at lsn log)

-- a PageUndo, of whatever operation, that names this LSN
abbrev pub names_write : ℕ → Record → Bool
names_write lsn (PageUndo t n undone page slot after) = nat_eq undone lsn
names_write lsn _ = false

-- a CompEnd, of whatever transaction, that names it
abbrev pub names_end : ℕ → Record → Bool
names_end lsn (CompEnd t n undone) = nat_eq undone lsn
names_end lsn _ = false

-- A PageOp of the operation at this place has this LSN and before-image, and no PageUndo names it.
pub record IsWriteOf (log : List Record) (t : Txn) (n lsn page slot : ℕ) (before : List ℕ) : Type 0 where
  pub after : List ℕ
  pub there : record_at lsn log ≡ Some (PageOp t n page slot before after)
  pub not_named : any_record (names_write lsn) log ≡ false

-- An OpEnd of the transaction has this LSN, and no CompEnd names it.
pub record IsEndOf (log : List Record) (t : Txn) (lsn : ℕ) : Type 0 where
  pub number : ℕ
  pub level : ℕ
  pub deed : List ℕ
  pub there : record_at lsn log ≡ Some (OpEnd t number level deed)
  pub not_named : any_record (names_end lsn) log ≡ false

-- What the rules say of whole logs that follow them: what PageUndos and CompEnds name, and that the numbers of a
-- transaction's operations have no gaps.
pub record RulesTell : Type 0 where
  pub undone : (log : List Record) (t : Txn) (n lsn page slot : ℕ) (after : List ℕ)
      → FollowAll (PageUndo t n lsn page slot after ∷ log) → IsWriteOf log t n lsn page slot after
  pub taken_back : (log : List Record) (t : Txn) (n lsn : ℕ) → FollowAll (CompEnd t n lsn ∷ log) → IsEndOf log t lsn
  pub no_gaps : (log : List Record) (t : Txn) (n : ℕ) → FollowAll log → 1 ≤ n → n ≤ greatest_number t log
      → has_op (operation t n) log ≡ true
