-- Why a restart did not open a store, and where it stopped.
use Rattle.std.specs.Prelude.{◌≡◌, false, ◌⊎◌, ℕ, ◌+◌, ◌%◌, ◌^◌, ◌≤◌, IsTrue, List, [], ◌∷◌, length}
use Rattle.rq_disk.specs.Device.{Images}
use Rattle.rq_model.specs.declared.record.Record.{Record}
use Rattle.rq_model.specs.declared.refusal.Refusal.{Refusal}
use Rattle.rq_model.specs.declared.refusal.Refusal.TheVariants as why
use Rattle.rq_model.specs.declared.refusal.Damage.TheVariants as damage
use Rattle.rq_model.specs.Bases.{is_base}
use Rattle.rq_page.specs.Sizes.{Sizes}
use Rattle.rq_disk.specs.declared.device.LogDevice.{Ghosts}
use Rattle.rq_record.specs.Spelling.{IsRecord}
use Rattle.rq_log.specs.Reading.{BeginsWith, IsRead, StopsFor}
use Rattle.rq_log.specs.Spelled.{AreSpelled}
use Rattle.rq_analysis.specs.Growth.{grows}
use Rattle.rq_analysis.specs.Numbers.{numbers}
use Rattle.rq_restart.specs.Repeating.{Belongs, Repeats}
use Rattle.rq_restart.specs.Checked.{WasReadAndRedone, IsBeyond}
use Rattle.rq_restart.specs.RolledBack.{HasNoRoom, IsAtBound, IsBadRollback, IsUnlinked}
use Rattle.rq_restart.specs.Undoing.{IsBadUndo, IsToBeWritten}

-- a record behind these belongs there, and a table that is kept of the log may grow by it
pub record MayGrow (z : Sizes) (front : List Record) (r : Record) (mid : Images) : Type 0 where
  pub belongs : Belongs z front r mid
  pub grows : IsTrue (grows r (numbers front))

-- Why a record that was read behind these was not repeated, in its place: it doesn't belong there, or it does and memory is
-- wanting.
abbrev pub NotRepeated : Sizes → List Record → Record → Images → Refusal → Type 0
NotRepeated z front r mid why.NoMemory = MayGrow z front r mid
NotRepeated z front r mid (why.Damaged (damage.Record lsn)) = (lsn ≡ length front + 1) × (Belongs z front r mid → ⊥)
NotRepeated z front r mid _ = ⊥

module _ {L : Type 0} (g : Ghosts L) where
  -- the record that was read behind these, which is no Base, doesn't belong there
  pub record IsBadNext (z : Sizes) (front : List Record) (mid : Images) (e : Refusal) (old new : L) : Type 0 where
    pub newest : Record
    pub is_record : IsRecord newest
    pub plain : is_base newest ≡ false
    pub begins : g.honest new → BeginsWith (newest ∷ front) (g.seen old)
    pub told : e ≡ why.Damaged (damage.Record (length front + 1))
    pub bad : Belongs z front newest mid → ⊥
    pub counted : g.faults new ≡ g.faults old

  -- the record that was read behind these belongs there, and memory is wanting for it
  pub record LacksMemory (z : Sizes) (front : List Record) (mid : Images) (old new : L) : Type 0 where
    pub newest : Record
    pub is_record : IsRecord newest
    pub begins : g.honest new → BeginsWith (newest ∷ front) (g.seen old)
    pub grown : MayGrow z front newest mid

  -- the record that was read behind these writes a page that could not be had in a frame
  pub record LacksPage (z : Sizes) (front : List Record) (e : Refusal) (old new : L) : Type 0 where
    pub newest : Record
    pub is_record : IsRecord newest
    pub begins : g.honest new → BeginsWith (newest ∷ front) (g.seen old)
    pub page : ℕ
    pub wants : IsToBeWritten z newest page
    pub is : (e ≡ why.DiskRead) ⊎ (e ≡ why.DiskWrite)
    pub counted : g.faults new ≡ g.faults old

  -- what the device reads as could not be made durable, before it was read
  pub record IsNotForced (front : List Record) (e : Refusal) (old new : L) : Type 0 where
    pub none : front ≡ []
    pub is : e ≡ why.DiskWrite
    pub failed : g.faults new ≡ (g.faults old + 1) % 2 ^ 64

  -- memory is wanting: for the next record, or before the device was read at all
  abbrev pub IsWanting : Sizes → List Record → Images → Refusal → L → L → Type 0
  IsWanting z front mid e old new = (e ≡ why.NoMemory) × (g.faults new ≡ g.faults old)
      × (((front ≡ []) × (new ≡ old)) ⊎ LacksMemory z front mid old new)

  -- A log was gone through as it was read, as far as these records: each belonged where it stood and was repeated. Behind
  -- them no more could be read or kept, or no record stands there. Or one does that doesn't belong, or whose page could not be had; or
  -- the log could not be made durable.
  pub record IsStoppedBehind (z : Sizes) (first : Images) (e : Refusal) (old new : L) : Type 0 where
    pub front : List Record
    pub are_spelled : AreSpelled front
    pub begins : g.honest new → BeginsWith front (g.seen old)
    pub mid : Images
    pub repeated : Repeats z front first mid
    pub why : StopsFor g e front old new ⊎ (IsWanting z front mid e old new ⊎ (IsBadNext z front mid e old new
        ⊎ (LacksPage z front e old new ⊎ IsNotForced front e old new)))
    pub read : IsRead g old new

-- why no incarnation was begun over a log, with the failures of its device before and after it, and that it was left
-- alone
abbrev pub BeginsNot : Refusal → ℕ → ℕ → ℕ → ℕ → Type 0 → Type 0
BeginsNot why.NoMemory records last before now untouched = (now ≡ before) × untouched
BeginsNot why.LogFull records last before now untouched = ((2 ^ 50 ≤ records) ⊎ (2 ^ 64 ≤ last + 1)) × untouched
BeginsNot why.DiskWrite records last before now untouched = now ≡ (before + 1) % 2 ^ 64
BeginsNot _ records last before now untouched = ⊥

-- why a store over this log, which was read and gone through, was not opened, and where
abbrev pub WhyShut : Sizes → List Record → Images → Refusal → Type 0
WhyShut z log first why.NoMemory = Unit {0}
WhyShut z log first why.DiskRead = WasReadAndRedone z log first
WhyShut z log first why.DiskWrite = WasReadAndRedone z log first
WhyShut z log first why.LogFull = HasNoRoom z first log × WasReadAndRedone z log first
WhyShut z log first (why.Damaged (damage.Record lsn)) =
    (IsBadUndo z log first lsn ⊎ IsBadRollback z log first lsn) × WasReadAndRedone z log first
WhyShut z log first (why.Damaged (damage.Page page)) =
    IsBeyond z log first page ⊎ (IsUnlinked z log first page × WasReadAndRedone z log first)
WhyShut z log first _ = ⊥

-- why a store over this log was not opened, where it may have been left so
abbrev pub MayBeShut : Type 0 → Sizes → List Record → Refusal → Type 0
MayBeShut left z log why.NoMemory = Unit {0}
MayBeShut left z log why.LogFull = left → IsAtBound z log
MayBeShut left z log why.DiskRead = Unit {0}
MayBeShut left z log why.DiskWrite = Unit {0}
MayBeShut left z log (why.Damaged d) = left → ⊥
MayBeShut left z log _ = ⊥
