-- Where the records stand that tell what may have to be undone, as the records of a log come one after the other.
use Rattle.std.specs.Prelude.{◌≡◌, ◌↔◌, ℕ, ◌+◌, ◌<◌, Bool, true, false, not, List, [], ◌∷◌, ◌++◌, length}
use Rattle.std.specs.List.{AllPairs, filter}
use Rattle.rq_model.specs.declared.txn.Txn.{Txn}
use Rattle.rq_model.specs.declared.txn.Sub.{Sub}
use Rattle.rq_model.specs.declared.record.Record.{Record}
use Rattle.rq_model.specs.declared.record.Record.TheVariants.{PageOp, OpEnd, OpVoid, CompEnd, Commit, AbortEnd, Base}
use Rattle.rq_model.specs.Unended.{any_record}
use Rattle.rq_model.specs.Vocabulary.{In, same_txn}
use Rattle.rq_log.specs.Places.{IsAt}
use Rattle.rq_log.specs.Spelled.{spelled}
use Rattle.rq_analysis.specs.declared.dues.PendingUndo.{PendingUndo}
use Rattle.rq_analysis.specs.declared.open_work.UndoableWrite.{UndoableWrite}
use Rattle.rq_analysis.specs.Dues.{dues, end_due}
use Rattle.rq_analysis.specs.OpenWorkView.{open_work_of}
use Rattle.rq_views.specs.Log.{same_op}
use Rattle.rq_views.specs.Items.{operation}
use Rattle.rq_restart.specs.declared.places.Place.{Place}

-- of PageOps and of OpEnds, in the order of the log
pub record OpenPlaces : Type 0 where
  pub writes : List Place
  pub ends : List Place

abbrev pub no_places : OpenPlaces
no_places = record { writes = []; ends = [] }

-- the record ends the transaction; a Base ends all
abbrev pub ends_txn : Record → Txn → Bool
ends_txn (Commit t) u = same_txn u t
ends_txn (AbortEnd t) u = same_txn u t
ends_txn (Base many i) u = true
ends_txn _ u = false

-- it ends the operation
abbrev pub ends_operation : Record → Sub → Bool
ends_operation (OpEnd t n level deed) o = same_op o (operation t n)
ends_operation (OpVoid t n) o = same_op o (operation t n)
ends_operation (CompEnd t n undone) o = same_op o (operation t n)
ends_operation (Base many i) o = true
ends_operation _ o = false

abbrev pub place_at : ℕ → ℕ → Txn → ℕ → Place
place_at lsn place t n = record { lsn = lsn; by = operation t n; place = place }

-- the place of the record, if it is a PageOp
abbrev pub write_at : ℕ → ℕ → Record → List Place
write_at lsn place (PageOp t n page slot before after) = place_at lsn place t n ∷ []
write_at lsn place _ = []

-- if it is an OpEnd
abbrev pub end_at : ℕ → ℕ → Record → List Place
end_at lsn place (OpEnd t n level deed) = place_at lsn place t n ∷ []
end_at lsn place _ = []

-- those that the record doesn't end, and its own
abbrev pub writes_after : ℕ → ℕ → Record → List Place → List Place
writes_after lsn place r writes = filter (λ p. not (ends_operation r p.by)) writes ++ write_at lsn place r

abbrev pub ends_after : ℕ → ℕ → Record → List Place → List Place
ends_after lsn place r ends = filter (λ p. not (ends_txn r p.by.txn)) ends ++ end_at lsn place r

abbrev pub places_after : ℕ → ℕ → Record → OpenPlaces → OpenPlaces
places_after lsn place r s = record { writes = writes_after lsn place r s.writes; ends = ends_after lsn place r s.ends }

abbrev pub without_operation : Sub → List Place → List Place
without_operation o places = filter (λ p. not (same_op p.by o)) places

abbrev pub without_txn : Txn → List Place → List Place
without_txn t places = filter (λ p. not (same_txn p.by.txn t)) places

-- each has a greater LSN than those before
abbrev pub AreRising : List Place → Type 0
AreRising places = AllPairs (λ (p q : Place). p.lsn < q.lsn) places

-- those of a log, once its records were taken one after the other
abbrev pub places_of : List Record → OpenPlaces
places_of [] = no_places
places_of (r ∷ log) = places_after (length log + 1) (length (spelled log)) r (places_of log)

-- a record of the log made the place, and none behind it ends what it is of
pub record IsOpenIn (at : ℕ → ℕ → Record → List Place) (ends : Record → Place → Bool) (log : List Record) (p : Place) : Type 0 where
  pub newer : List Record
  pub made : Record
  pub older : List Record
  pub is : log ≡ newer ++ (made ∷ older)
  pub there : at (length older + 1) (length (spelled older)) made ≡ p ∷ []
  pub none_ends : any_record (λ r. ends r p) newer ≡ false

-- They are the places of exactly the PageOps of operations that have no end, and of the OpEnds of transactions that have none,
-- by rising LSN.
pub record PlacesAreOpen : Type 0 where
  pub writes : (log : List Record) (p : Place) → In p (places_of log).writes ↔ IsOpenIn write_at (λ r q. ends_operation r q.by) log p
  pub ends : (log : List Record) (p : Place) → In p (places_of log).ends ↔ IsOpenIn end_at (λ r q. ends_txn r q.by.txn) log p
  pub writes_rise : (log : List Record) → AreRising (places_of log).writes
  pub ends_rise : (log : List Record) → AreRising (places_of log).ends

-- among these places is that of the operation's record with this LSN, and this record stands there
pub record IsKept (log : List Record) (kept : List Place) (lsn : ℕ) (by : Sub) (r : Record) : Type 0 where
  pub place : ℕ
  pub among : In (record { lsn = lsn; by = by; place = place }) kept
  pub there : IsAt log place r

-- the place of the PageOp that tells a write which is not undone
abbrev pub IsWriteKept : List Record → UndoableWrite → Type 0
IsWriteKept log w = (after : List ℕ) × IsKept log (places_of log).writes w.lsn w.by (PageOp w.by.txn w.by.number w.page w.slot w.before after)

-- that of the OpEnd that tells what is to be taken back
abbrev pub IsDueKept : List Record → PendingUndo → Type 0
IsDueKept log d = IsKept log (places_of log).ends d.lsn (operation d.txn d.number) (end_due d)

-- Of every log: all that a restart has to undo is told by records whose places are kept.
pub record UndosHavePlaces : Type 0 where
  pub writes : (log : List Record) (w : UndoableWrite) → In w (open_work_of log).undoable → IsWriteKept log w
  pub dues : (log : List Record) (d : PendingUndo) → In d (dues log) → IsDueKept log d
