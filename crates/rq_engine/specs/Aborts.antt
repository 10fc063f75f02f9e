-- Aborts: what their calls find, what an inverse is planned from, and what they make of the lists.
use Rattle.std.specs.Prelude.{◌≡◌, ℕ, ◌+◌, ◌-◌, ◌≤◌, true, List, ◌∷◌, length, Option, Some, None}
use Rattle.rq_model.specs.declared.record.Deed.{Deed}
use Rattle.rq_model.specs.declared.record.Record.TheVariants.{AbortEnd}
use Rattle.rq_model.specs.declared.txn.Sub.{Sub}
use Rattle.rq_model.specs.declared.txn.Txn.{Txn}
use Rattle.rq_model.specs.History.Call.{Undo_next}
use Rattle.rq_model.specs.Legal.{OnFound}
use Rattle.rq_model.specs.Tests.{NoneHolds}
use Rattle.rq_model.specs.Vocabulary.{last}
use Rattle.rq_page.specs.Sizes.{Sizes}
use Rattle.rq_views.specs.Claims.{appends_of}
use Rattle.rq_views.specs.Log.{Slots}
use Rattle.rq_views.specs.Plans.Turn.{Undid}
use Rattle.rq_views.specs.Stored.{slots_in}
use Rattle.rq_level.specs.declared.writes.SlotWrite.{SlotWrite}
use Rattle.rq_groups.specs.Ends.{released}
use Rattle.rq_txn.specs.declared.Finished.{Finished}
use Rattle.rq_txn.specs.declared.Aim.TheVariants.{Undoing}
use Rattle.rq_txn.specs.Rows.{Under, finished_of, found_row, change_row, row_aborting, row_started, row_taken_back, without_row}
use Rattle.rq_store.specs.State.{State}
use Rattle.rq_sound.specs.Groups.{slots_now}
use Rattle.rq_sound.specs.Plans.{IsPlannedFrom}
use Rattle.rq_sound.specs.Rows.{comp_end}
use Rattle.rq_sound.specs.Inverses.{InverseIsLatched, InverseTakesLowest}
use Rattle.rq_planner.specs.Backs.{CanBeTakenBack}
use Rattle.rq_engine.specs.Answers.{HasNothingUnderWay, IsUnderWay}
use Rattle.rq_engine.specs.KeptUp.{with_images_of}
use Rattle.rq_engine.specs.Moves.{with_taken}
use Rattle.rq_engine.specs.Tested.{tested}

-- ---- what is found

-- the transaction aborts with nothing under way; its next operation has this number, and this is what it did last and has
-- not undone
abbrev pub IsTurnedBack : State → Txn → ℕ → Option Finished → Type 0
IsTurnedBack s t n newest = OnFound (found_row t s.rows)
    (λ r. (r.under ≡ None) × (n ≡ r.number + 1) × (r.aborting ≡ true) × (last r.finished ≡ newest))

-- what the transaction did last and has not undone
abbrev pub newest_of : State → Txn → Option Finished
newest_of s t = last (finished_of (found_row t s.rows))

-- ---- inverses

-- the inverse of the deed needs a latched page
abbrev pub UndoIsLatched : State → Deed → Type 0
UndoIsLatched s d = InverseIsLatched s.sizes (slots_now s) s.rows d

-- a message is put back into the lowest free cell on a page that nobody has latched
abbrev pub UndoTakesLowest : State → Deed → List SlotWrite → Type 0
UndoTakesLowest s d ws = InverseTakesLowest s.sizes (slots_now s) s.rows d ws

-- the operation takes back what the finished one did, planned from these slots, and nothing of it is made
pub record IsUndoPlan (z : Sizes) (q : Slots) (u : Under) (f : Finished) : Type 0 where
  pub made : u.made ≡ 0
  pub aim : u.aim ≡ Undoing f.lsn f.deed
  pub plan : IsPlannedFrom z q u.writes (Undid f.deed)

-- ---- the lists

-- a transaction with nothing under way was turned to abort
abbrev pub IsAborting : State → Txn → State → Type 0
IsAborting old t new = ((n : ℕ) × HasNothingUnderWay old t n)
    × (new ≡ record old { rows = change_row t row_aborting old.rows })

-- an abort that has nothing left to undo was ended by its record: its row and its ends are gone
abbrev pub IsAborted : State → Txn → State → Type 0
IsAborted old t new = ((n : ℕ) × IsTurnedBack old t n None)
    × (new ≡ record old {
      rows = without_row t old.rows;
      ends = record { sending = released t old.ends.sending; receiving = released t old.ends.receiving };
      records = AbortEnd t ∷ old.records;
    })

-- The inverse of what an aborting transaction did last was started by a plan. It is the transaction's next operation.
pub record IsUndoStarted (old : State) (sub : Sub) (IsPlan : Under → Finished → Type 0) (new : State) : Type 0 where
  pub under : Under
  pub done : Finished
  pub number : under.number ≡ sub.number
  pub ready : IsTurnedBack old sub.txn sub.number (Some done)
  pub plan : IsPlan under done
  pub lists : new ≡ record old { rows = change_row sub.txn (row_started under) old.rows }

-- It was planned from the slots of the store, by which its deed was done last. It takes the lowest free cell where it takes one.
pub record IsLowestUndo (s : State) (u : Under) (f : Finished) : Type 0 where
  pub can : CanBeTakenBack s.sizes (slots_now s) f.deed
  pub planned : IsUndoPlan s.sizes (slots_in s.sizes s.images) u f
  pub lowest : UndoTakesLowest s f.deed u.writes

-- it takes back what the aborting transaction did last
abbrev pub IsUndoOf : State → Txn → Under → Type 0
IsUndoOf s t u = (f : Finished) × ((n : ℕ) × IsTurnedBack s t n (Some f)) × IsLowestUndo s u f

-- or nothing is left to undo
abbrev pub UndoSays : State → Txn → Option Sub → State → Type 0
UndoSays old t (Some sub) new = (sub.txn ≡ t) × IsUndoStarted old sub (IsLowestUndo old) new
UndoSays old t None new = ((n : ℕ) × IsTurnedBack old t n None) × (new ≡ old)

-- the inverse has begun, whatever the device gave of pages that were read; no test of it holds
abbrev pub IsUndoBegun : State → Txn → Sub → State → Type 0
IsUndoBegun old t sub new = (sub.txn ≡ t) × NoneHolds (tested old (Undo_next t))
    × IsUndoStarted old sub (λ u f. (u.made ≡ 0) × (u.aim ≡ Undoing f.lsn f.deed)) (with_images_of old new)

-- An inverse whose writes are made was ended by the record that names what it undid. That is no longer among what its
-- transaction did. A message that the undone operation had taken waits again. The cell of a message that it had sent is free.
pub record IsUndoFinished (old : State) (sub : Sub) (new : State) : Type 0 where
  pub lsn : ℕ
  pub deed : Deed
  pub going : IsUnderWay old sub (λ r u. (length u.writes ≤ u.made) × (u.aim ≡ Undoing lsn deed))
  pub lists : new ≡ record old {
    rows = change_row sub.txn row_taken_back old.rows;
    records = comp_end sub.txn sub.number lsn ∷ old.records;
    cells_in_use = old.cells_in_use - appends_of deed;
    waiting = with_taken deed old.waiting;
  }
