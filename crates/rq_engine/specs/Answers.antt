-- What a call answers, and what it finds of the operation that it names.
use Rattle.std.specs.Prelude.{◌≡◌, ◌≢◌, ℕ, ◌+◌, ◌/◌, ◌%◌, ◌<◌, length, Bool, true, false, ◌∷◌, Option, Some, None, Result, Ok, Err, List}
use Rattle.rq_model.specs.Causes.{HasCause}
use Rattle.rq_model.specs.declared.txn.Sub.{Sub}
use Rattle.rq_model.specs.declared.txn.Txn.{Txn}
use Rattle.rq_model.specs.declared.refusal.Refusal.{Refusal}
use Rattle.rq_model.specs.declared.refusal.Refusal.TheVariants as why
use Rattle.rq_model.specs.History.{Call}
use Rattle.rq_model.specs.History.Call.{Start_receive, Start_receive_from, Undo_next}
use Rattle.rq_model.specs.Replay.{Reply as Gave}
use Rattle.rq_model.specs.Replay.Reply.{Gave_refusal}
use Rattle.rq_model.specs.Causes.{HasCause, takes_memory}
use Rattle.rq_model.specs.Ledger.{Ledger}
use Rattle.rq_model.specs.Legal.{OnFound}
use Rattle.rq_model.specs.Tests.{Passes, Size, starts}
use Rattle.rq_page.specs.Slots.{held_in, IsSlotOf}
use Rattle.rq_views.specs.Log.{put}
use Rattle.rq_views.specs.Stored.{slots_in}
use Rattle.rq_level.specs.declared.writes.SlotWrite.{SlotWrite}
use Rattle.rq_level.specs.Gists.{gist_of}
use Rattle.rq_txn.specs.declared.Aim.{Aim}
use Rattle.rq_txn.specs.declared.Aim.TheVariants.{Doing, Undoing}
use Rattle.rq_txn.specs.Rows.{Row, Under, found_row, change_row, row_stepped, any_under}
use Rattle.rq_store.specs.State.{State, ledger_of, size_of}
use Rattle.rq_sound.specs.Sound.{IsSound}
use Rattle.rq_store.specs.Steps.{IsPutIn, page_op}
use Rattle.rq_sound.specs.ModelSteps.{IsModelStep}
use Rattle.rq_disk.specs.declared.device.LogDevice as log_device
use Rattle.rq_disk.specs.declared.device.PageDevice as page_device
use Rattle.rq_model.specs.declared.record.Record.{Record}
use Rattle.rq_engine.specs.declared.operations.Ending.{Ending}
use Rattle.rq_engine.specs.declared.operations.Ending.TheVariants.{Deed, Inverse}
use Rattle.rq_engine.specs.Earlier.{on, IsEarlier}
use Rattle.rq_engine.specs.Opened.{OpenStore, AreHonest}

-- the call needs memory: what starts an operation, where there is one to start
abbrev pub needs_memory : Size → Ledger → Call → Bool
needs_memory z l (Start_receive t) = starts z l (Start_receive t)
needs_memory z l (Start_receive_from t s) = starts z l (Start_receive_from t s)
needs_memory z l (Undo_next t) = starts z l (Undo_next t)
needs_memory z l c = takes_memory c

-- a refusal has its cause in the store: where memory was wanting, the call has passed its tests and needs some
abbrev pub IsCausedIn : State → Call → Refusal → Type 0
IsCausedIn s c why.NoMemory = Passes (size_of s.sizes) (ledger_of s) c
    × (needs_memory (size_of s.sizes) (ledger_of s) c ≡ true)
IsCausedIn s c r = HasCause (any_under s.rows) c r

-- the call may be refused so, and that changes nothing
abbrev pub Refuses : State → Call → Refusal → Type 0
Refuses s call r = IsSound s → IsModelStep s call (Gave_refusal r) s × IsCausedIn s call r

-- whatever the earlier records were
abbrev pub RefusesOver : State → Call → Refusal → Type 0
RefusesOver s call r = (e : List Record) → IsEarlier e s → Refuses (on e s) call r

-- The call with its answer is an entry that may come next. It is one where the store goes back to a legal log and both devices
-- have been honest up to the call's end. The store after it is what that entry makes of it.
abbrev pub AnswersLegally : {P L X : Type 0} → page_device.Ghosts P → log_device.Ghosts L
    → OpenStore P L → Call → (X → Gave) → Result X Refusal → OpenStore P L → Type 0
AnswersLegally p l old call gave (Ok x) new = AreHonest p l new → (e : List Record) → IsEarlier e old.state
    → IsSound (on e old.state) → IsModelStep (on e old.state) call (gave x) (on e new.state)
AnswersLegally p l old call gave (Err r) new = AreHonest p l new → (e : List Record) → IsEarlier e old.state
    → IsSound (on e old.state) → IsModelStep (on e old.state) call (Gave_refusal r) (on e new.state)
    × IsCausedIn (on e old.state) call r

-- what is so of a transaction's operation under way, if it has this number
abbrev pub OnUnder : ℕ → (Row → Under → Type 0) → Row → Option Under → Type 0
OnUnder n P r None = ⊥
OnUnder n P r (Some u) = (u.number ≡ n) × P r u

-- the operation is under way, and this is so of its row and of it
abbrev pub IsUnderWay : State → Sub → (Row → Under → Type 0) → Type 0
IsUnderWay s sub P = OnFound (found_row sub.txn s.rows) (λ r. OnUnder sub.number P r r.under)

-- it is there to do a deed
abbrev pub IsDoing : Aim → Type 0
IsDoing (Doing d) = Unit {0}
IsDoing (Undoing lsn d) = ⊥

-- what it ends
abbrev pub ending_of : Aim → Ending
ending_of (Doing d) = Deed (gist_of d)
ending_of (Undoing lsn d) = Inverse lsn

abbrev pub IsOther : ℕ → Option Under → Type 0
IsOther n None = Unit {0}
IsOther n (Some u) = u.number ≢ n

abbrev pub NotFound : (Row → Type 0) → Option Row → Type 0
NotFound P None = Unit {0}
NotFound P (Some r) = P r

-- it is not
abbrev pub IsNotUnderWay : State → Sub → Type 0
IsNotUnderWay s sub = NotFound (λ r. IsOther sub.number r.under) (found_row sub.txn s.rows)

-- why an operation cannot be stepped or finished
abbrev pub Idle : State → Sub → Refusal → Type 0
Idle s sub why.Failed = s.failed ≡ true
Idle s sub why.UnknownOperation = (s.failed ≡ false) × IsNotUnderWay s sub
Idle s sub _ = ⊥

-- why it cannot be finished
abbrev pub CannotFinish : State → Sub → Refusal → Type 0
CannotFinish s sub why.Failed = s.failed ≡ true
CannotFinish s sub why.UnknownOperation = (s.failed ≡ false) × IsNotUnderWay s sub
CannotFinish s sub why.Unfinished = (s.failed ≡ false) × IsUnderWay s sub (λ r u. u.made < length u.writes)
CannotFinish s sub _ = ⊥

-- a slot write was made, with its record
pub record IsMade (old : State) (sub : Sub) (w : SlotWrite) (new : State) : Type 0 where
  pub state : new ≡ record old {
    rows = change_row sub.txn row_stepped old.rows;
    images = new.images;
    records = page_op sub.txn sub.number w ∷ old.records;
  }
  pub before : IsSlotOf old.sizes (w.at / 16) (w.at % 16) w.before
  pub slot : IsSlotOf old.sizes (w.at / 16) (w.at % 16) w.after
  pub slots : (a : ℕ) → slots_in old.sizes new.images a
      ≡ put (slots_in old.sizes old.images) w.at (held_in old.sizes (w.at / 16) w.after) a
  pub put_in : IsPutIn old w new.images

-- the transaction is open with nothing under way, and this is the number of its next operation
abbrev pub HasNothingUnderWay : State → Txn → ℕ → Type 0
HasNothingUnderWay s t n = OnFound (found_row t s.rows) (λ r. (r.under ≡ None) × (n ≡ r.number + 1))
