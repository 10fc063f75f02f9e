-- Undoing lost transactions, and where that stops.
use Rattle.std.specs.Prelude.{◌≡◌, ◌⊎◌, ℕ, ◌+◌, ◌^◌, ◌≤◌, List, [], ◌∷◌, length, take, true, Some, None}
use Rattle.rq_disk.specs.Device.{Images}
use Rattle.rq_model.specs.declared.record.Deed.{Deed}
use Rattle.rq_model.specs.declared.record.Record.{Record}
use Rattle.rq_model.specs.declared.record.Record.TheVariants.{AbortEnd}
use Rattle.rq_model.specs.declared.refusal.Refusal.{Refusal}
use Rattle.rq_model.specs.declared.refusal.Refusal.TheVariants as why
use Rattle.rq_model.specs.declared.refusal.Damage.TheVariants as damage
use Rattle.rq_model.specs.declared.txn.Txn.{Txn}
use Rattle.rq_model.specs.Deeds.{deed_by}
use Rattle.rq_model.specs.Vocabulary.{is_some}
use Rattle.rq_page.specs.Sizes.{Sizes}
use Rattle.rq_views.specs.Stored.{slots_in}
use Rattle.rq_level.specs.declared.writes.SlotWrite.{SlotWrite}
use Rattle.rq_pool.specs.Pooled.{Pooled}
use Rattle.rq_store.specs.Fitting.{image_in}
use Rattle.rq_store.specs.State.{State}
use Rattle.rq_store.specs.Steps.{page_op}
use Rattle.rq_sound.specs.Rows.{comp_end}
use Rattle.rq_sound.specs.Sound.{IsSound}
use Rattle.rq_planner.specs.Backs.{CannotBeTakenBack, IsTakingBack}
use Rattle.rq_analysis.specs.declared.dues.PendingUndo.{PendingUndo}
use Rattle.rq_analysis.specs.OpenWorkView.{open_work_of}
use Rattle.rq_analysis.specs.Choices.{least_free}
use Rattle.rq_analysis.specs.Dues.{deed_due, dues}
use Rattle.rq_analysis.specs.Numbers.{number_of, numbers}
use Rattle.rq_analysis.specs.Walk.{IsBetween, IsWithin}
use Rattle.rq_engine.specs.Earlier.{rebased}
use Rattle.rq_restart.specs.Past.{IsPast}
use Rattle.rq_restart.specs.Repeating.{ArePagesCounted, Belongs, Repeats, paged, slots_on}

-- the log with the records of these writes of an operation behind, the first of them the oldest
abbrev pub with_writes : Txn → ℕ → List SlotWrite → List Record → List Record
with_writes t n [] log = log
with_writes t n (w ∷ ws) log = with_writes t n ws (page_op t n w ∷ log)

-- what is done in its turn: a transaction ends, or what is due is taken back by such an operation with these writes
pub data Round : Type 0 where
  Ends : (txn : Txn) → Round
  TakesBack : (due : PendingUndo) (number : ℕ) (writes : List SlotWrite) → Round

-- the records of it, behind a log
abbrev pub after_round : Round → List Record → List Record
after_round (Ends t) log = AbortEnd t ∷ log
after_round (TakesBack d n ws) log = comp_end d.txn n d.lsn ∷ with_writes d.txn n ws log

-- of all these, the newest first
abbrev pub after_rounds : List Round → List Record → List Record
after_rounds [] log = log
after_rounds (r ∷ rs) log = after_round r (after_rounds rs log)

-- Behind this log what is due first is to be taken back, by its transaction's next operation: nobody without an end has
-- nothing due.
pub record IsTakenNext (log : List Record) (d : PendingUndo) (n : ℕ) : Type 0 where
  pub older : List PendingUndo
  pub first : dues log ≡ d ∷ older
  pub nobody : least_free (dues log) (open_work_of log).active ≡ None
  pub number : n ≡ number_of d.txn (numbers log) + 1

-- Of those without an end that have nothing due the one of the least number ends next; where there is none, what is due
-- first is taken back.
abbrev pub IsNextRound : List Record → Round → Type 0
IsNextRound log (Ends t) = least_free (dues log) (open_work_of log).active ≡ Some t
IsNextRound log (TakesBack d n ws) = IsTakenNext log d n

abbrev pub AreRounds : List Record → List Round → Type 0
AreRounds log [] = Unit {0}
AreRounds log (r ∷ rs) = IsNextRound (after_rounds rs log) r × AreRounds log rs

-- the log with such rounds behind, each in its turn
pub record AbortsBehind (log now : List Record) : Type 0 where
  pub rounds : List Round
  pub turns : AreRounds log rounds
  pub are : after_rounds rounds log ≡ now

-- the writes take back what is due, over some pages of which this is so
pub record IsPlannedOn (z : Sizes) (on : Images → Type 0) (due : PendingUndo) (ws : List SlotWrite) : Type 0 where
  pub pages : Images
  pub on_pages : on pages
  pub plan : IsTakingBack z (slots_on z pages) (deed_by due.level due.deed) ws

-- what is taken back in each round is planned over pages of which this is so, and of the log before the round
abbrev pub ArePlanned : Sizes → (List Record → Images → Type 0) → List Record → List Round → Type 0
ArePlanned z on log [] = Unit {0}
ArePlanned z on log (Ends t ∷ rs) = ArePlanned z on log rs
ArePlanned z on log (TakesBack d n ws ∷ rs) = IsPlannedOn z (on (after_rounds rs log)) d ws × ArePlanned z on log rs

-- the log with such rounds behind, each so planned
pub record AbortsOn (z : Sizes) (on : List Record → Images → Type 0) (log now : List Record) : Type 0 where
  pub behind : AbortsBehind log now
  pub planned : ArePlanned z on log behind.rounds

-- the same, and some writes of the next
pub data IsAborting (z : Sizes) (on : List Record → Images → Type 0) (log now : List Record) : Type 0 where
  Between : AbortsOn z on log now → IsAborting z on log now
  Within : (older : List Record) (d : PendingUndo) (n : ℕ) (ws : List SlotWrite) (made : ℕ) → AbortsOn z on log older
      → IsTakenNext older d n → IsPlannedOn z (on older) d ws → with_writes d.txn n (take made ws) older ≡ now
      → IsAborting z on log now

-- the log was repeated from the first pages to these
abbrev pub RepeatedFrom : Sizes → Images → List Record → Images → Type 0
RepeatedFrom z first log pages = Repeats z log first pages

-- and so it was wherever the log before was repeated to those
abbrev pub RepeatedSince : Sizes → List Record → Images → List Record → Images → Type 0
RepeatedSince z log old now pages = (first : Images) → Repeats z log first old → Repeats z now first pages

-- such rounds are planned over the pages as they are, and as the records behind leave them
abbrev pub AbortsFrom : {P : Type 0} → Sizes → List Record → Pooled P → List Record → Type 0
AbortsFrom z log old now = AbortsOn z (RepeatedSince z log (paged old)) log now

abbrev pub IsAbortingFrom : {P : Type 0} → Sizes → List Record → Pooled P → List Record → Type 0
IsAbortingFrom z log old now = IsAborting z (RepeatedSince z log (paged old)) log now

-- the log with the records of the first of these writes of an operation behind
pub record IsMaking (t : Txn) (n : ℕ) (ws : List SlotWrite) (log now : List Record) : Type 0 where
  pub made : ℕ
  pub are : with_writes t n (take made ws) log ≡ now

-- whatever stood where the log has marks, where the one is so of a sound store of these sizes, the other is
abbrev pub OfStore : Sizes → (List Record → State → Type 0) → (List Record → State → Type 0) → Type 0
OfStore z before after = (e : List Record) (base : State) → IsSound base → base.sizes ≡ z → before e base → after e base

-- the pages and the log, with these records for its marks, show the store, with nothing under way
abbrev pub IsShown : {P : Type 0} → List Record → Pooled P → List Record → State → Type 0
IsShown log pages e base = IsPast e log × IsBetween base pages.images (rebased e log)

-- they show the store with what is due being taken back, by so many of these writes
abbrev pub IsShownWithin : {P : Type 0} → List Record → Pooled P → PendingUndo → ℕ → List SlotWrite → ℕ → List Record → State
    → Type 0
IsShownWithin log pages d n ws made e base =
    IsPast e log × IsWithin base pages.images (rebased e log) d.txn n d.lsn (deed_due d) ws made

-- some pages and this log show the store on its way
pub data IsOnItsWay (base : State) (log : List Record) : Type 0 where
  Between : (images : List (List ℕ)) → IsBetween base images log → IsOnItsWay base log
  Within : (images : List (List ℕ)) (t : Txn) (n lsn : ℕ) (deed : Deed) (ws : List SlotWrite) (made : ℕ)
      → IsWithin base images log t n lsn deed ws made → IsOnItsWay base log

-- Records came behind the log, as is said of them, and were repeated on the pages; a store of which the one was so is one
-- of which the other is.
pub record HasGoneOn {P : Type 0} (z : Sizes) (behind : Type 0) (log now : List Record) (old new : Pooled P)
    (before after : List Record → State → Type 0) : Type 0 where
  pub aborting : behind
  pub repeated : (first : Images) → Repeats z log first (paged old) → Repeats z now first (paged new)
  pub counted : ArePagesCounted z (length log) (paged old) → ArePagesCounted z (length now) (paged new)
  pub shown : OfStore z before after

-- some were ended or taken back, in whole rounds
abbrev pub HasAborted : {P : Type 0} → Sizes → List Record → Pooled P → List Record → Pooled P → Type 0
HasAborted z log old now new = HasGoneOn z (AbortsFrom z log old now) log now old new (IsShown log old) (IsShown now new)

-- the log with records behind, of which this is so, is at its greatest length, and shows such a store on its way
pub record IsFull (z : Sizes) (behind : List Record → Type 0) (before : List Record → State → Type 0) : Type 0 where
  pub last : List Record
  pub aborting : behind last
  pub full : 2 ^ 50 ≤ length last
  pub way : OfStore z before (λ e base. IsOnItsWay base (rebased e last))

-- what is due is told by no deed, or by one that the slots of these pages do not show to be done last
abbrev pub IsNotUndone : Sizes → List (List ℕ) → PendingUndo → Type 0
IsNotUndone z images due = CannotBeTakenBack z (slots_in z images) (deed_by due.level due.deed)

-- Behind the log that these pages are of, what is due cannot be taken back: the slots do not show that it was done last, or
-- its transaction has had 2^64 - 1 operations.
abbrev pub CannotBeTaken : Sizes → List (List ℕ) → List Record → PendingUndo → Type 0
CannotBeTaken z images log due = IsNotUndone z images due ⊎ (2 ^ 64 ≤ number_of due.txn (numbers log) + 1)

-- The next record that goes on so would stand here and doesn't belong there; or what is due first, told by the OpEnd with
-- this LSN, is to be taken back next and cannot be.
pub data IsBadStep (z : Sizes) (behind : List Record → Type 0) (first : Images) (last : List Record) (lsn : ℕ) : Type 0 where
  BadRecord : (newest : Record) (mid : Images) → behind (newest ∷ last) → lsn ≡ length last + 1
      → Repeats z last first mid → (Belongs z last newest mid → ⊥) → IsBadStep z behind first last lsn
  BadDue : (due : PendingUndo) (older : List PendingUndo) (images : List (List ℕ)) (mid : Images) → dues last ≡ due ∷ older
      → least_free (dues last) (open_work_of last).active ≡ None → lsn ≡ due.lsn → mid ≡ image_in images
      → Repeats z last first mid → CannotBeTaken z images last due → IsBadStep z behind first last lsn

-- Damage is told of this record where the next such record doesn't belong there, or what the OpEnd with this LSN tells
-- cannot be taken back. So it is of no such store.
pub record IsBadAbort {P : Type 0} (z : Sizes) (behind : List Record → Type 0) (log : List Record) (old : Pooled P)
    (before : List Record → State → Type 0) (lsn : ℕ) : Type 0 where
  pub last : List Record
  pub aborting : behind last
  pub bad : (first : Images) → Repeats z log first (paged old) → IsBadStep z behind first last lsn
  pub none : OfStore z before (λ e base. ⊥)

-- why lost transactions were not undone
abbrev pub AbortStops : {P : Type 0} → Sizes → (List Record → Type 0) → List Record → Pooled P
    → (List Record → State → Type 0) → Refusal → Type 0
AbortStops z behind log old before why.NoMemory = Unit {0}
AbortStops z behind log old before why.DiskRead = Unit {0}
AbortStops z behind log old before why.DiskWrite = Unit {0}
AbortStops z behind log old before why.LogFull = IsFull z behind before
AbortStops z behind log old before (why.Damaged (damage.Record lsn)) = IsBadAbort z behind log old before lsn
AbortStops z behind log old before _ = ⊥

abbrev pub AbortingStops : {P : Type 0} → Sizes → List Record → Pooled P → Refusal → Type 0
AbortingStops z log old e = AbortStops z (IsAbortingFrom z log old) log old (IsShown log old) e

-- why what is due was not planned to be taken back
abbrev pub PlanStops : Sizes → List (List ℕ) → PendingUndo → Refusal → Type 0
PlanStops z images due why.NoMemory = is_some (deed_by due.level due.deed) ≡ true
PlanStops z images due why.DiskRead = Unit {0}
PlanStops z images due (why.Damaged (damage.Record lsn)) = (lsn ≡ due.lsn) × IsNotUndone z images due
PlanStops z images due _ = ⊥

-- why what the record with this LSN tells is not undone
abbrev pub blamed_on : ℕ → Refusal → Refusal
blamed_on lsn why.NoMemory = why.NoMemory
blamed_on lsn why.DiskRead = why.DiskRead
blamed_on lsn _ = why.Damaged (damage.Record lsn)
