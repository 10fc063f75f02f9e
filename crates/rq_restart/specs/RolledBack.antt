-- What a restart makes of a log: the records by which it undoes what has no end, behind it.
use Rattle.std.specs.Prelude.{◌≡◌, ◌⊎◌, ℕ, ◌^◌, ◌≤◌, List, ◌∷◌, length}
use Rattle.rq_disk.specs.Device.{Images}
use Rattle.rq_model.specs.declared.record.Record.{Record}
use Rattle.rq_model.specs.declared.refusal.Refusal.{Refusal}
use Rattle.rq_model.specs.declared.refusal.Refusal.TheVariants as why
use Rattle.rq_model.specs.declared.refusal.Damage.TheVariants as damage
use Rattle.rq_page.specs.Sizes.{Sizes}
use Rattle.rq_store.specs.Opening.{next_restart}
use Rattle.rq_analysis.specs.Pages.{IsUndoing, IsUndone}
use Rattle.rq_analysis.specs.Recovered.{IsRecovered, IsRecovering}
use Rattle.rq_engine.specs.Earlier.{rebased}
use Rattle.rq_restart.specs.Past.{WhereLeft}
use Rattle.rq_restart.specs.Aborting.{AbortsBehind, ArePlanned, IsAborting, IsBadStep, RepeatedFrom}
use Rattle.rq_restart.specs.Checked.{IsEnded, WasReadAndRedone}
use Rattle.rq_chain_check.specs.Links.{AreLinked, IsFault}
use Rattle.rq_views.specs.Log.{Slots}
use Rattle.rq_restart.specs.Repeating.{Repeats, slots_on}
use Rattle.rq_restart.specs.Undoing.{IsBadUndo}

-- Behind the log stand the records by which operations without an end are undone, and then those by which lost
-- transactions are, each in its turn, none where every transaction had its end. All have it then.
pub record IsRolledBack (log rolled_back : List Record) : Type 0 where
  pub undone : List Record
  pub undoes : IsUndone log undone
  pub aborting : AbortsBehind undone rolled_back
  pub ended : IsEnded rolled_back
  pub none_lost : IsEnded log → rolled_back ≡ undone

-- what is taken back in the rounds of it is planned over the pages that the log before was repeated on
abbrev pub ArePlannedFrom : Sizes → Images → (log rolled_back : List Record) → IsRolledBack log rolled_back → Type 0
ArePlannedFrom z first log rolled_back m = ArePlanned z (RepeatedFrom z first) m.undone m.aborting.rounds

-- The same, wherever the log was repeated to the pages as they were: its records were repeated on them, too. Of a store
-- that was left so, they recover it.
pub record IsRolledBackSince (z : Sizes) (log rolled_back : List Record) (old new : Images) : Type 0 where
  pub is : IsRolledBack log rolled_back
  pub planned : (first : Images) → Repeats z log first old → ArePlannedFrom z first log rolled_back is
  pub repeated : (first : Images) → Repeats z log first old → Repeats z rolled_back first new
  pub recovered : (first : Images) → Repeats z log first old
      → WhereLeft z first log (λ e. IsRecovered z (rebased e log) (rebased e rolled_back))

-- The pages went through the log, and the records that mend it were repeated on them too, each operation of them planned
-- from the slots as they were. The senders' chains are whole then. Of a store that was left so, the records recover it.
pub record IsRolledBackOn (z : Sizes) (log rolled_back : List Record) (first last : Images) : Type 0 where
  pub read_and_redone : WasReadAndRedone z log first
  pub rolls_back : IsRolledBack log rolled_back
  pub planned : ArePlannedFrom z first log rolled_back rolls_back
  pub repeated : Repeats z rolled_back first last
  pub linked : AreLinked z (slots_on z last)
  pub recovered : WhereLeft z first log (λ e. IsRecovered z (rebased e log) (rebased e rolled_back))

-- Behind the log stand such records, and the one that begins the next incarnation.
pub record HasRepeated (z : Sizes) (log now : List Record) (first last : Images) : Type 0 where
  pub rolled_back : List Record
  pub rolled_back_on : IsRolledBackOn z log rolled_back first last
  pub begun : now ≡ next_restart rolled_back ∷ rolled_back

-- the log, with the records behind that recover some of it, is at its greatest length
pub record IsAtBound (z : Sizes) (log : List Record) : Type 0 where
  pub now : List Record
  pub recovering : IsRecovering z log now
  pub full : 2 ^ 50 ≤ length now

-- the same of any log, from these pages: nothing of a transaction is undone before all operations without an end are. Of a
-- store that was left so, they recover some of it.
pub record HasNoRoom (z : Sizes) (first : Images) (log : List Record) : Type 0 where
  pub undone : List Record
  pub undoing : IsUndoing log undone
  pub now : List Record
  pub aborting : IsAborting z (RepeatedFrom z first) undone now
  pub turn : (now ≡ undone) ⊎ IsUndone log undone
  pub none_lost : IsEnded log → now ≡ undone
  pub full : 2 ^ 50 ≤ length now
  pub recovering : WhereLeft z first log (λ e. IsRecovering z (rebased e log) (rebased e now))

-- What would undo the next lost transaction doesn't belong there, or what it did, told by the OpEnd with this LSN, cannot
-- be taken back. So it is of no store that was left so.
pub record IsBadRollback (z : Sizes) (log : List Record) (first : Images) (lsn : ℕ) : Type 0 where
  pub undone : List Record
  pub undoes : IsUndone log undone
  pub last : List Record
  pub aborting : IsAborting z (RepeatedFrom z first) undone last
  pub bad : IsBadStep z (IsAborting z (RepeatedFrom z first) undone) first last lsn
  pub none : WhereLeft z first log (λ e. ⊥)

-- Once the log was mended, on the pages too, the senders' chains are not whole, and this is the page to be named. So it is
-- of no store that was left so.
pub record IsUnlinked (z : Sizes) (log : List Record) (first : Images) (page : ℕ) : Type 0 where
  pub rolled_back : List Record
  pub rolls_back : IsRolledBack log rolled_back
  pub planned : ArePlannedFrom z first log rolled_back rolls_back
  pub last : Images
  pub repeated : Repeats z rolled_back first last
  pub fault : IsFault z (slots_on z last) page
  pub none : WhereLeft z first log (λ e. ⊥)

-- why the chains in these slots were not found to be whole
abbrev pub LinkStops : Sizes → Slots → Refusal → Type 0
LinkStops z q why.NoMemory = Unit {0}
LinkStops z q why.DiskRead = Unit {0}
LinkStops z q (why.Damaged (damage.Page page)) = IsFault z q page
LinkStops z q _ = ⊥

-- why the log was not mended, or the chains are not whole once it is
abbrev pub RollbackStops : Sizes → List Record → Images → Refusal → Type 0
RollbackStops z log first why.NoMemory = Unit {0}
RollbackStops z log first why.DiskRead = Unit {0}
RollbackStops z log first why.DiskWrite = Unit {0}
RollbackStops z log first why.LogFull = HasNoRoom z first log
RollbackStops z log first (why.Damaged (damage.Record lsn)) = IsBadUndo z log first lsn ⊎ IsBadRollback z log first lsn
RollbackStops z log first (why.Damaged (damage.Page page)) = IsUnlinked z log first page
RollbackStops z log first _ = ⊥
