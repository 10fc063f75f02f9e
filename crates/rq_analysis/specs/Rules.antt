-- What a record has to be behind a log, said of the log alone.
use Rattle.std.specs.Prelude.{◌≡◌, ◌≤◌, ℕ, ◌+◌, Bool, true, false, not, ◌||◌, ◌&&◌, cond, max, nat_eq, List, [], ◌∷◌, length, Option, Some, None}
use Rattle.std.specs.List.{filter}
use Rattle.rq_model.specs.declared.txn.Txn.{Txn}
use Rattle.rq_model.specs.declared.txn.Sub.{Sub}
use Rattle.rq_model.specs.declared.record.Record.{Record}
use Rattle.rq_model.specs.declared.record.Record.TheVariants.{PageOp, PageUndo, OpEnd, OpVoid, CompEnd, Base}
use Rattle.rq_model.specs.Deeds.{deed_by}
use Rattle.rq_model.specs.Vocabulary.{first, is_some, same_txn}
use Rattle.rq_model.specs.Content.{has_end}
use Rattle.rq_model.specs.Bases.{marks}
use Rattle.rq_model.specs.Incarnations.{IsNext, incarnation_of, txn_of}
use Rattle.rq_model.specs.Unended.{any_record}
use Rattle.rq_views.specs.Log.{same_op}
use Rattle.rq_views.specs.Items.{operation}
use Rattle.rq_views.specs.Legal.{is_of}
use Rattle.rq_views.specs.Numbers.{number_in}
use Rattle.rq_analysis.specs.declared.open_work.UndoableWrite.{UndoableWrite}
use Rattle.rq_analysis.specs.OpenWorkView.{undoable_at}

-- whose operation, if the record is of one
abbrev pub op_of : Record → Option Sub
op_of (PageOp t n page slot before after) = Some (operation t n)
op_of (PageUndo t n undone page slot after) = Some (operation t n)
op_of (OpEnd t n level deed) = Some (operation t n)
op_of (OpVoid t n) = Some (operation t n)
op_of (CompEnd t n undone) = Some (operation t n)
op_of _ = None

abbrev pub ends_op : Record → Bool
ends_op (OpEnd t n level deed) = true
ends_op (OpVoid t n) = true
ends_op (CompEnd t n undone) = true
ends_op _ = false

-- the operation has a record in the log
abbrev pub has_op : Sub → List Record → Bool
has_op o [] = false
has_op o (r ∷ log) = is_of o (op_of r) || has_op o log

-- the operation has its OpEnd, OpVoid or CompEnd in the log
abbrev pub has_op_end : Sub → List Record → Bool
has_op_end o [] = false
has_op_end o (r ∷ log) = (ends_op r && is_of o (op_of r)) || has_op_end o log

-- the greatest number of an operation of the transaction, 0 where it has none
abbrev pub greatest_number : Txn → List Record → ℕ
greatest_number t [] = 0
greatest_number t (r ∷ log) = max (number_in t (op_of r)) (greatest_number t log)

abbrev pub write_more : Sub → ℕ → Record → List UndoableWrite → List UndoableWrite
write_more o lsn (PageOp t n page slot before after) ps =
    cond (same_op (operation t n) o) (undoable_at lsn (operation t n) page slot before ∷ ps) ps
write_more o lsn _ ps = ps

-- the slot writes of an operation, the newest first: their LSNs, places and before-images
abbrev pub writes_of : Sub → List Record → List UndoableWrite
writes_of o [] = []
writes_of o (r ∷ log) = write_more o (length log + 1) r (writes_of o log)

-- the record is the operation's, and undoes the write with this LSN
abbrev pub undoes : Sub → ℕ → Record → Bool
undoes o lsn (PageUndo t n undone page slot after) = same_op (operation t n) o && nat_eq undone lsn
undoes o lsn _ = false

-- those of its writes that none of its PageUndos names
abbrev pub standing : Sub → List Record → List UndoableWrite
standing o log = filter (λ p. not (any_record (undoes o p.lsn) log)) (writes_of o log)

abbrev pub end_more : Txn → ℕ → Record → List ℕ → List ℕ
end_more t lsn (OpEnd u n level deed) ns = cond (same_txn u t) (lsn ∷ ns) ns
end_more t lsn _ ns = ns

-- the LSNs of a transaction's OpEnds, the newest first
abbrev pub ends_of : Txn → List Record → List ℕ
ends_of t [] = []
ends_of t (r ∷ log) = end_more t (length log + 1) r (ends_of t log)

-- the record is the transaction's, and takes back what the OpEnd with this LSN tells
abbrev pub takes_back : Txn → ℕ → Record → Bool
takes_back t lsn (CompEnd u n undone) = same_txn u t && nat_eq undone lsn
takes_back t lsn _ = false

-- those of its OpEnds that none of its CompEnds names
abbrev pub left_of : Txn → List Record → List ℕ
left_of t log = filter (λ lsn. not (any_record (takes_back t lsn) log)) (ends_of t log)

abbrev pub IsRunning : List Record → Option Txn → Type 0
IsRunning log None = Unit {0}
IsRunning log (Some t) = has_end log t ≡ false

abbrev pub IsGoing : List Record → Option Sub → Type 0
IsGoing log None = Unit {0}
IsGoing log (Some o) = has_op_end o log ≡ false

abbrev pub HasBegun : List Record → Record → Type 0
HasBegun log (PageUndo t n undone page slot after) = has_op (operation t n) log ≡ true
HasBegun log (OpEnd t n level deed) = has_op (operation t n) log ≡ true
HasBegun log (OpVoid t n) = has_op (operation t n) log ≡ true
HasBegun log (CompEnd t n undone) = has_op (operation t n) log ≡ true
HasBegun log _ = Unit {0}

abbrev pub HasItsNumber : List Record → Record → Type 0
HasItsNumber log (PageOp t n page slot before after) = has_op (operation t n) log ≡ false → n ≡ greatest_number t log + 1
HasItsNumber log _ = Unit {0}

abbrev pub UndoesNewest : List Record → Record → Type 0
UndoesNewest log (PageUndo t n undone page slot after) =
    first (standing (operation t n) log) ≡ Some (undoable_at undone (operation t n) page slot after)
UndoesNewest log _ = Unit {0}

abbrev pub TakesBackNewest : List Record → Record → Type 0
TakesBackNewest log (CompEnd t n undone) = first (left_of t log) ≡ Some undone
TakesBackNewest log _ = Unit {0}

abbrev pub CanBeRead : Record → Type 0
CanBeRead (OpEnd t n level deed) = is_some (deed_by level deed) ≡ true
CanBeRead _ = Unit {0}

abbrev pub BeginsLog : List Record → Record → Type 0
BeginsLog log (Base many i) = log ≡ marks many
BeginsLog log _ = Unit {0}

-- What a record has to be behind a log as it was read, besides that it is of the store and of the running incarnation.
pub record FollowsRules (log : List Record) (r : Record) : Type 0 where
  -- its transaction has neither Commit nor AbortEnd
  pub running : IsRunning log (txn_of r)
  -- its operation has no OpEnd, OpVoid or CompEnd
  pub going : IsGoing log (op_of r)
  -- an operation begins with a PageOp
  pub begun : HasBegun log r
  -- and has the next number of its transaction then, from 1 on
  pub numbered : HasItsNumber log r
  -- a PageUndo names the newest PageOp of its operation that no PageUndo has named, with its page and slot, and leaves
  -- its before-image
  pub undoes : UndoesNewest log r
  -- a CompEnd names the newest OpEnd of its transaction that no CompEnd has named
  pub takes_back : TakesBackNewest log r
  -- the level that an OpEnd names reads its deed
  pub reads : CanBeRead r
  -- a Base comes first, behind marks for those that it stands for
  pub begins : BeginsLog log r

-- each record of the log is that
abbrev pub FollowAll : List Record → Type 0
FollowAll [] = Unit {0}
FollowAll (r ∷ log) = FollowsRules log r × FollowAll log

-- The record is the next of its incarnation behind a log as it was read. A Base says of which one the next records are.
abbrev pub IsNextIn : List Record → Record → Type 0
IsNextIn log (Base many i) = (1 ≤ i) × (i ≤ many)
IsNextIn log r = IsNext (incarnation_of log) r

-- the one is so of what stood before a Base, the other of what stood before any other record
abbrev pub BeforeIt : Record → Type 0 → Type 0 → Type 0
BeforeIt (Base many i) other base = base
BeforeIt r other base = other

-- each record of a log as it was read is that
abbrev pub IsReadInOrder : List Record → Type 0
IsReadInOrder [] = Unit {0}
IsReadInOrder (r ∷ log) = IsNextIn log r × BeforeIt r (IsReadInOrder log) (Unit {0})
