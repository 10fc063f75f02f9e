-- How a restart undoes operations that have no end: slot by slot, by records of its own.
use Rattle.std.specs.Prelude.{◌≡◌, ℕ, ◌+◌, ◌&&◌, ◌||◌, Bool, true, false, nat_eq, nat_lt, List, [], ◌∷◌, ◌++◌, length}
use Rattle.std.specs.List.{list_any}
use Rattle.rq_model.specs.declared.txn.Txn.{Txn}
use Rattle.rq_model.specs.declared.txn.Sub.{Sub}
use Rattle.rq_model.specs.declared.record.Record.{Record}
use Rattle.rq_model.specs.declared.record.Record.TheVariants.{PageUndo, OpVoid}
use Rattle.rq_model.specs.Vocabulary.{same_txn}
use Rattle.rq_analysis.specs.declared.open_work.UndoableWrite.{UndoableWrite}
use Rattle.rq_analysis.specs.declared.open_work.NextUndo.{NextUndo}
use Rattle.rq_analysis.specs.declared.open_work.NextUndo.TheVariants.{Void, Write}
use Rattle.rq_analysis.specs.OpenWorkView.{OpenWorkView, open_work_of, has_sub, undoable_by}

-- rising number: by incarnation, then count, then operation
abbrev pub txn_less : Txn → Txn → Bool
txn_less a b = nat_lt a.incarnation b.incarnation || (nat_eq a.incarnation b.incarnation && nat_lt a.count b.count)

abbrev pub op_less : Sub → Sub → Bool
op_less a b = txn_less a.txn b.txn || (same_txn a.txn b.txn && nat_lt a.number b.number)

abbrev pub any_undoable : Sub → List UndoableWrite → Bool
any_undoable o = list_any (undoable_by o)

-- the operation has no end, and all its writes are undone
pub record IsSpent (h : OpenWorkView) (o : Sub) : Type 0 where
  pub unfinished : has_sub o h.unfinished ≡ true
  pub none : any_undoable o h.undoable ≡ false

-- each operation without an end has a write that is not undone
abbrev pub NoneIsSpent : OpenWorkView → Type 0
NoneIsSpent h = (o : Sub) → has_sub o h.unfinished ≡ true → any_undoable o h.undoable ≡ true

abbrev pub void_of : Sub → Record
void_of o = OpVoid o.txn o.number

abbrev pub undo_of : UndoableWrite → Record
undo_of p = PageUndo p.by.txn p.by.number p.lsn p.page p.slot p.before

-- What the next record is where operations without an end are undone by slots: of those whose writes are all undone the
-- one of the least number is voided first; where there is none, the newest write of all is undone.
pub data IsNextUndo (h : OpenWorkView) (r : Record) : Type 0 where
  Voids : (o : Sub) → IsSpent h o → ((p : Sub) → IsSpent h p → op_less p o ≡ false) → r ≡ void_of o → IsNextUndo h r
  Undoes : (p : UndoableWrite) → (ps : List UndoableWrite) → NoneIsSpent h → h.undoable ≡ p ∷ ps → r ≡ undo_of p → IsNextUndo h r

-- the write is the newest of all, where each operation without an end has one
pub record IsNewestUndoable (h : OpenWorkView) (p : UndoableWrite) : Type 0 where
  pub none : NoneIsSpent h
  pub older : List UndoableWrite
  pub first : h.undoable ≡ p ∷ older

-- what is undone next is an operation that is voided, or the write with this LSN
abbrev pub IsUndoneNext : OpenWorkView → NextUndo → Type 0
IsUndoneNext h (Void o) = IsNextUndo h (void_of o)
IsUndoneNext h (Write lsn) = (p : UndoableWrite) × (p.lsn ≡ lsn) × IsNewestUndoable h p

-- each of these records, the newest first, is the next one behind the log
abbrev pub UndoesBehind : List Record → List Record → Type 0
UndoesBehind log [] = Unit {0}
UndoesBehind log (r ∷ front) = IsNextUndo (open_work_of (front ++ log)) r × UndoesBehind log front

-- the log with such records behind
pub record IsUndoing (log now : List Record) : Type 0 where
  pub front : List Record
  pub are : front ++ log ≡ now
  pub undoes : UndoesBehind log front

-- and with all by which operations without an end are undone
pub record IsUndone (log now : List Record) : Type 0 where
  pub undoing : IsUndoing log now
  pub none : (open_work_of now).unfinished ≡ []

-- what is left to do
abbrev pub work : OpenWorkView → ℕ
work h = length h.unfinished + length h.undoable
