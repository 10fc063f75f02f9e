-- What contracts see of a log.
use Rattle.std.specs.Prelude.{◌≡◌, ◌⊎◌, ℕ, ◌+◌, ◌-◌, ◌^◌, ◌<◌, ◌≤◌, Bool, false, Option, Some, None, List, ◌∷◌, length, drop, take}
use Rattle.rq_model.specs.declared.record.Record.{Record}
use Rattle.rq_model.specs.Bases.{based, standing, gone}
use Rattle.rq_disk.specs.Device.{Only}
use Rattle.rq_disk.specs.declared.device.LogDevice.{Ghosts}
use Rattle.rq_log.specs.Spelled.{spelled, spelled_all, AreSpelled, EndsWithAll, HoldsTo, IsBeginning, GoesOn}

pub record Logged (L : Type 0) : Type 0 where
  -- the records, the newest first; those that are not handed over yet are among them, and those that a Base stands for
  pub records : List Record
  -- how many of them, from the oldest on, are forced
  pub forced : ℕ
  -- how many bytes of them are not handed over
  pub pending : ℕ
  -- the bytes of room for records to come
  pub reserved : ℕ
  -- where those that are handed over end on the device, if the proper beginning of a record stands behind them
  pub torn_at : Option ℕ
  -- whether a write, a cut, a force or a replacement has failed
  pub failed : Bool
  -- a replacement by a Base of this incarnation has failed
  pub replacing : Option ℕ
  pub device : L
  -- the device as it was when the records were read of it, or when they were last forced
  pub settled : L

-- what stands on a device, or is to
abbrev pub held : {L : Type 0} → Logged L → List Record
held log = standing log.records

-- how many of those are forced
abbrev pub kept : {L : Type 0} → Logged L → ℕ
kept log = log.forced - gone log.records

module _ {L : Type 0} (g : Ghosts L) where
  -- at that moment a crash would have left what the device reads as, and nothing else
  abbrev pub IsSettled : Logged L → Type 0
  IsSettled log = Only (g.seen log.settled) (g.may_leave log.settled)

  -- and no replacement has failed since
  abbrev pub WasDurable : Logged L → Type 0
  WasDurable log = IsSettled log × (log.replacing ≡ None)

  -- a crash now leaves the first records, with all that are forced, and a torn end perhaps
  abbrev pub LeavesBeginnings : Logged L → Type 0
  LeavesBeginnings log = (c : List ℕ) → g.may_leave log.device c → IsBeginning log.records log.forced c

  -- a crash now leaves such a beginning, or the Base that was to stand for all
  abbrev pub LeavesReplaced : Logged L → ℕ → Type 0
  LeavesReplaced log i = (c : List ℕ) → g.may_leave log.device c → IsBeginning log.records log.forced c ⊎ (c ≡ spelled (based i log.records))

  -- A crash might have left it of the log before. Or it is what was read then, with the first of the records that were not
  -- handed over.
  abbrev pub WasLeftOrGoesOn : Logged L → List ℕ → Type 0
  WasLeftOrGoesOn log c = g.may_leave log.device c ⊎ GoesOn (held log) (kept log) (g.seen log.device) c

  -- the first held some of the records, with a torn end perhaps, and the second these alone
  abbrev pub WasCut : Logged L → L → Type 0
  WasCut log device = (count : ℕ) × (count + kept log ≤ length (held log))
      × EndsWithAll (drop count (held log)) (g.seen log.device) × (g.seen device ≡ spelled_all (drop count (held log)))

  -- what is so of each log
  pub record IsLog (log : Logged L) : Type 0 where
    pub spelled : AreSpelled log.records
    pub order : log.forced ≤ length log.records
    -- what a Base stands for is forced, and so is the Base, once anything is
    pub based : 0 < log.forced → gone log.records < log.forced
    pub leaves : g.honest log.device → WasDurable log → LeavesBeginnings log
    pub running : log.failed ≡ false → log.replacing ≡ None
    pub replaced : g.honest log.device → IsSettled log → (i : ℕ) → log.replacing ≡ Some i → LeavesReplaced log i

  -- the newest records stand in a buffer, and an honest device holds the others
  abbrev pub IsBuffered : Logged L → List ℕ → Type 0
  IsBuffered log buffer = (count : ℕ) × (count + kept log ≤ length (held log))
      × (g.honest log.device → HoldsTo log.torn_at (drop count (held log)) (g.seen log.device))
      × (buffer ≡ spelled_all (take count (held log)))

  -- what is so of its fields
  pub record Keeps (log : Logged L) (last size : ℕ) (buffer : List ℕ) (capacity : ℕ) : Type 0 where
    pub is_log : IsLog log
    pub count : last ≡ length log.records
    pub total : length (spelled log.records) < 2 ^ 64 → size ≡ length (spelled log.records)
    pub room : length buffer + log.reserved ≤ capacity
    -- a force is behind the cut
    pub whole : 0 < kept log → log.torn_at ≡ None
    pub buffered : log.failed ≡ false → IsBuffered log buffer

-- a record of so many bytes was added, as the n-th, in room that was reserved for it
pub record IsAppended {L : Type 0} (old : Logged L) (added : Record) (size n : ℕ) (new : Logged L) : Type 0 where
  pub lsn : n ≡ length new.records
  pub records : new.records ≡ added ∷ old.records
  pub reserved : new.reserved + size ≡ old.reserved
  pub pending : new.pending ≡ old.pending + size
  pub forced : new.forced ≡ old.forced
  pub failed : new.failed ≡ false
  pub replacing : new.replacing ≡ old.replacing
  pub torn : new.torn_at ≡ old.torn_at
  pub device : new.device ≡ old.device
  pub settled : new.settled ≡ old.settled
