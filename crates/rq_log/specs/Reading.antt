-- What is read of a device.
use Rattle.std.specs.Prelude.{◌≡◌, ◌≢◌, ◌⊎◌, ℕ, ◌+◌, ◌%◌, ◌^◌, ◌≤◌, Bool, true, false, List, [], ◌++◌, length, drop}
use Rattle.rq_model.specs.declared.record.Record.{Record}
use Rattle.rq_model.specs.declared.refusal.Refusal.{Refusal}
use Rattle.rq_model.specs.declared.refusal.Refusal.TheVariants as why
use Rattle.rq_model.specs.declared.refusal.Damage.TheVariants as damage
use Rattle.rq_disk.specs.declared.device.LogDevice.{Ghosts}
use Rattle.rq_record.specs.Spelling.{HoldsRecord, BeginsRecord}
use Rattle.rq_model.specs.Bases.{IsMarked, is_base, with_next}
use Rattle.rq_log.specs.Crash.{LeavesOnly}
use Rattle.rq_log.specs.Spelled.{spelled, AreSpelled}

-- a device that is read record by record
pub record LogRead (L : Type 0) : Type 0 where
  -- the records that were read, the newest first, and those that a Base among them stands for
  pub records : List Record
  -- how many bytes behind them were read too
  pub left : ℕ
  pub device : L
  -- the device as it was before anything was read of it
  pub first : L

-- bytes begin with these records
abbrev pub BeginsWith : List Record → List ℕ → Type 0
BeginsWith records bytes = (rest : List ℕ) × (bytes ≡ spelled records ++ rest)

-- behind these records there are bytes
abbrev pub HasMoreBehind : List Record → List ℕ → Type 0
HasMoreBehind records bytes = (rest : List ℕ) × (rest ≢ []) × (bytes ≡ spelled records ++ rest)

-- These records are all there are: behind them stand so many bytes, no byte or a proper beginning of a record, which is
-- none.
pub record EndsShort (records : List Record) (left : ℕ) (bytes : List ℕ) : Type 0 where
  pub end : List ℕ
  pub short : BeginsRecord end
  pub long : length end ≡ left
  pub is : bytes ≡ spelled records ++ end

-- behind these records no record stands, nor a proper beginning of one; or a Base does, which has to be the first
pub record IsDamagedBehind (records : List Record) (bytes : List ℕ) : Type 0 where
  pub rest : List ℕ
  pub bad : (h : HoldsRecord rest) → (is_base h.0 ≡ true) × (records ≢ [])
  pub no_beginning : BeginsRecord rest → ⊥
  pub is : bytes ≡ spelled records ++ rest

-- What a record that is read behind so many counts. It counts one more, or, if it is a Base, all that it stands for. A Base has
-- to be the first.
pub record IsReadBehind (last : ℕ) (r : Record) (lsn : ℕ) : Type 0 where
  pub first : (is_base r ≡ false) ⊎ (last ≡ 0)
  pub counts : (log : List Record) → length log ≡ last → lsn ≡ length (with_next r log)
  pub few : lsn ≤ 2 ^ 50

-- bytes of a device: those that were read and are not taken, and how many were read
pub record Streamed (L : Type 0) : Type 0 where
  pub unread : List ℕ
  pub at : ℕ
  -- a read gave fewer bytes than were asked for
  pub ended : Bool
  pub device : L

-- so few bytes were taken that a number of 64 bits counts those of one window more
abbrev pub HasRoomToRead : {L : Type 0} → Streamed L → Type 0
HasRoomToRead s = s.at ≤ 2 ^ 63 + length s.unread

module _ {L : Type 0} (g : Ghosts L) where
  -- the device of a log was only read
  pub record IsRead (old new : L) : Type 0 where
    pub same : g.seen new ≡ g.seen old
    pub honest : g.honest new → g.honest old
    pub leaves : (c : List ℕ) → g.may_leave new c → g.may_leave old c
    pub moments : LeavesOnly g old new (g.may_leave old)

  -- why reading a device stopped behind these records
  abbrev pub StopsFor : Refusal → List Record → L → L → Type 0
  StopsFor why.LogFull records old new = (2 ^ 50 ≤ length records)
      × (g.honest new → HasMoreBehind records (g.seen old)) × (g.faults new ≡ g.faults old)
  StopsFor why.DiskRead records old new = g.faults new ≡ (g.faults old + 1) % 2 ^ 64
  StopsFor (why.Damaged (damage.Record lsn)) records old new = (lsn ≡ length records + 1)
      × (g.honest new → IsDamagedBehind records (g.seen old)) × (g.faults new ≡ g.faults old)
  StopsFor _ records old new = ⊥

  -- what is so of each device that is read
  pub record IsReading (r : LogRead L) : Type 0 where
    pub are_spelled : AreSpelled r.records
    pub marked : IsMarked r.records
    pub begins : g.honest r.device → BeginsWith r.records (g.seen r.first)
    pub read : IsRead r.first r.device

  -- what is left of a device: what was read and is not taken, and what was not read
  abbrev pub left_of : Streamed L → List ℕ
  left_of s = s.unread ++ drop s.at (g.seen s.device)

  -- so many bytes stand there, unless the device has no others
  abbrev pub HasMost : ℕ → Streamed L → Type 0
  HasMost most s = (most ≤ length s.unread) ⊎ (g.honest s.device → drop s.at (g.seen s.device) ≡ [])

  -- what is so of the fields of a stream
  pub record KeepsStream (s : Streamed L) (window : List ℕ) (start end : ℕ) : Type 0 where
    pub order : start ≤ end
    pub within : end ≤ length window
    pub wide : 546 ≤ length window
    pub none_behind : s.ended ≡ true → g.honest s.device → drop s.at (g.seen s.device) ≡ []

  -- what is so of the fields of a reader
  pub record KeepsRead (records : List Record) (s : Streamed L) (first : L) (last : ℕ) : Type 0 where
    pub are_spelled : AreSpelled records
    pub marked : IsMarked records
    pub count : last ≡ length records
    pub few : last ≤ 2 ^ 50
    pub place : s.at ≡ length (spelled records) + length s.unread
    pub front : g.honest s.device → g.seen first ≡ spelled records ++ left_of s
    pub read : IsRead first s.device
