-- Records that are read again, where they are to be undone.
use Rattle.std.specs.Prelude.{◌≡◌, ◌≢◌, ◌⊎◌, ◌↔◌, ℕ, ◌+◌, ◌%◌, ◌^◌, ◌<◌, ◌≤◌, ◌&&◌, nat_lt, cond, Bool, true, false, IsTrue, List, length, Some, Result, Ok, Err}
use Rattle.std.specs.List.{filter}
use Rattle.rq_model.specs.declared.record.Record.{Record}
use Rattle.rq_model.specs.declared.record.Record.TheVariants.{PageOp, PageUndo, OpEnd}
use Rattle.rq_model.specs.declared.refusal.Refusal.{Refusal}
use Rattle.rq_model.specs.declared.refusal.Refusal.TheVariants as why
use Rattle.rq_model.specs.declared.refusal.Damage.TheVariants as damage
use Rattle.rq_model.specs.Vocabulary.{In, first}
use Rattle.rq_disk.specs.declared.device.LogDevice.{Ghosts}
use Rattle.rq_log.specs.Places.{IsAt}
use Rattle.rq_record.specs.Spelling.{IsSlotNumber}
use Rattle.rq_analysis.specs.declared.dues.PendingUndo.{PendingUndo}
use Rattle.rq_analysis.specs.declared.open_work.NextUndo.{NextUndo}
use Rattle.rq_analysis.specs.declared.open_work.NextUndo.TheVariants.{Void, Write}
use Rattle.rq_analysis.specs.OpenWorkView.{OpenWorkView, lsn_undoable, undoable_by}
use Rattle.rq_analysis.specs.Pages.{IsNextUndo, void_of}
use Rattle.rq_analysis.specs.Rules.{op_of}
use Rattle.rq_views.specs.Items.{operation}
use Rattle.rq_views.specs.Legal.{is_of}
use Rattle.rq_restart.specs.declared.analysis.Analysis.{Analysis}
use Rattle.rq_restart.specs.Places.{AreRising}
use Rattle.rq_restart.specs.declared.places.Place.{Place}

-- but for what a PageUndo writes, and where, the records are the same
abbrev pub IsLike : Record → Record → Type 0
IsLike (PageUndo t n undone page slot after) r =
    (p : ℕ) × (s : ℕ) × (bytes : List ℕ) × IsSlotNumber s × (r ≡ PageUndo t n undone p s bytes)
IsLike q r = r ≡ q

-- but for that it is the record that undoes what is next
abbrev pub IsLikeUndo : OpenWorkView → Record → Type 0
IsLikeUndo h r = (q : Record) × IsNextUndo h q × IsLike q r

-- the write with this place is undone, as this record tells it
abbrev pub undo_told : Place → Record → Result Record Refusal
undo_told p (PageOp t n page slot before after) =
    cond (nat_lt 0 slot && nat_lt slot 16) (Ok (PageUndo p.by.txn p.by.number p.lsn page slot before)) (Err (why.Damaged (damage.Record p.lsn)))
undo_told p _ = Err (why.Damaged (damage.Record p.lsn))

-- why it is not made: memory is wanting for one that is told, or none is
abbrev pub NotMadeFor : Result Record Refusal → Refusal → Type 0
NotMadeFor (Ok r) e = e ≡ why.NoMemory
NotMadeFor (Err told) e = e ≡ told

-- what the operation of this place did, as this record of its end tells it
abbrev pub due_told : Place → Record → Result PendingUndo Refusal
due_told p (OpEnd t n level deed) = Ok (record { txn = p.by.txn; lsn = p.lsn; number = p.by.number; level = level; deed = deed })
due_told p _ = Err (why.Damaged (damage.Record p.lsn))

-- a record with this LSN has its place among these, by rising LSN; where each with this LSN says, one of its operation stands
pub record HasRecord (log : List Record) (places : List Place) (lsn : ℕ) : Type 0 where
  pub rise : AreRising places
  pub kept : ((p : Place) → In p places → p.lsn ≢ lsn) → ⊥
  pub stands : (p : Place) → In p places → p.lsn ≡ lsn → (r : Record) × IsAt log p.place r × (op_of r ≡ Some p.by)

-- the record wrote this slot, over these bytes
abbrev pub WroteOver : Record → ℕ → ℕ → List ℕ → Type 0
WroteOver (PageOp t n p s before after) page slot bytes = (p ≡ page) × (s ≡ slot) × (before ≡ bytes)
WroteOver _ page slot bytes = ⊥

-- a device that fails is told, and else the record that is not given
abbrev pub told_again : ℕ → Refusal → Refusal
told_again lsn why.DiskRead = why.DiskRead
told_again lsn _ = why.Damaged (damage.Record lsn)

-- A record is taken for that of one of these places, the one with this LSN, and it is of the place's operation. Which of that
-- operation's records it is, an honest device tells.
pub record IsOwn (places : List Place) (lsn : ℕ) (told : Record) : Type 0 where
  pub place : Place
  pub among : In place places
  pub at : place.lsn ≡ lsn
  pub own : is_of place.by (op_of told) ≡ true

-- it tells this
pub record IsToldByOwn (A : Type 0) (tell : Place → Record → Result A Refusal) (places : List Place) (lsn : ℕ) (a : A) : Type 0 where
  pub read : Record
  pub is_own : IsOwn places lsn read
  pub told : tell is_own.place read ≡ Ok a

-- what undoes the next write is told by such a record; what ends an operation without one, by none
abbrev pub IsOwnUndo : List Place → NextUndo → Record → Type 0
IsOwnUndo places (Void sub) r = r ≡ void_of sub
IsOwnUndo places (Write lsn) r = IsToldByOwn Record undo_told places lsn r

-- whether it tells that the slot was written over these bytes
pub record IsComparedWithOwn (places : List Place) (lsn page slot : ℕ) (bytes : List ℕ) (over : Bool) : Type 0 where
  pub read : Record
  pub is_own : IsOwn places lsn read
  pub answer : IsTrue over ↔ WroteOver read page slot bytes

-- of a PageUndo, where the write that it undoes is its operation's newest
abbrev pub ComparesOwn : Analysis → Record → Bool → Type 0
ComparesOwn f (PageUndo t n undone page slot after) over =
    ((over ≡ false) × (lsn_undoable (first (filter (undoable_by (operation t n)) f.open_work.undoable)) ≢ Some undone))
    ⊎ IsComparedWithOwn f.places.writes undone page slot after over
ComparesOwn f _ over = Unit {0}

module _ {L : Type 0} (g : Ghosts L) where
  -- why the record of a place was not given: the device failed, or gave another than before; or the log has no room
  abbrev pub NotGivenFor : Refusal → ℕ → List Record → ℕ → L → L → Type 0
  NotGivenFor why.LogFull lsn records place old new = (2 ^ 50 ≤ length records) × (g.faults new ≡ g.faults old)
  NotGivenFor why.DiskRead lsn records place old new = g.faults new ≡ (g.faults old + 1) % 2 ^ 64
  NotGivenFor (why.Damaged (damage.Record n)) lsn records place old new = (n ≡ lsn) × (g.faults new ≡ g.faults old)
      × (g.honest new → (r : Record) → IsAt records place r → ⊥)
  NotGivenFor _ lsn records place old new = ⊥

  -- the same of a record that stands there and has this LSN, in a log of so many records
  abbrev pub NotToldFor : Refusal → ℕ → ℕ → L → L → Type 0
  NotToldFor why.LogFull lsn count old new = (2 ^ 50 ≤ count) × (g.faults new ≡ g.faults old)
  NotToldFor why.DiskRead lsn count old new = g.faults new ≡ (g.faults old + 1) % 2 ^ 64
  NotToldFor (why.Damaged (damage.Record n)) lsn count old new = (n ≡ lsn) × (g.faults new ≡ g.faults old) × (g.honest new → ⊥)
  NotToldFor _ lsn count old new = ⊥

  -- why what such a record tells was not undone: memory is wanting only where the log has room for one more
  abbrev pub NotUndoneFor : Refusal → ℕ → ℕ → L → L → Type 0
  NotUndoneFor why.NoMemory lsn count old new = (count < 2 ^ 50) × (g.faults new ≡ g.faults old)
  NotUndoneFor e lsn count old new = NotToldFor e lsn count old new

  -- why what is next was not undone: it is a write, which its record tells
  abbrev pub NextNotUndoneFor : Refusal → NextUndo → ℕ → L → L → Type 0
  NextNotUndoneFor e (Void sub) count old new = ⊥
  NextNotUndoneFor e (Write lsn) count old new = NotUndoneFor e lsn count old new

  -- why a record that was read, and has this LSN, was not compared with the one whose write it undoes
  abbrev pub NotReadFor : Refusal → ℕ → L → L → Type 0
  NotReadFor why.DiskRead lsn old new = g.faults new ≡ (g.faults old + 1) % 2 ^ 64
  NotReadFor (why.Damaged (damage.Record n)) lsn old new = (n ≡ lsn) × (g.faults new ≡ g.faults old) × (g.honest new → ⊥)
  NotReadFor _ lsn old new = ⊥
