-- What is written of a log. A log is its records, the newest first.
use Rattle.std.specs.Prelude.{◌≡◌, ◌⊎◌, ℕ, ◌+◌, ◌%◌, ◌^◌, ◌≤◌, List, [], ◌∷◌, ◌++◌, Option, length}
use Rattle.std.specs.Io.KnownBytes.{Appends}
use Rattle.rq_model.specs.declared.record.Record.{Record}
use Rattle.rq_model.specs.declared.record.Record.TheVariants.{Base}
use Rattle.rq_model.specs.Bases.{IsMarked}
use Rattle.rq_model.specs.declared.refusal.Refusal.{Refusal}
use Rattle.rq_model.specs.declared.refusal.Refusal.TheVariants as why
use Rattle.rq_model.specs.declared.refusal.Damage.TheVariants as damage
use Rattle.rq_disk.specs.declared.device.LogDevice.{Ghosts}
use Rattle.rq_log.specs.Reading.{BeginsWith, EndsShort, HasMoreBehind, IsDamagedBehind}
use Rattle.rq_log.specs.Spelled.{AreSpelled, EndsWith}
use Rattle.rq_inspect.specs.declared.inspecting.Stop.{Stop}
use Rattle.rq_inspect.specs.declared.inspecting.Stop.TheVariants as stops
use Rattle.rq_inspect.specs.Lines.{line_of, torn_text}
use Rattle.rq_inspect.specs.Reports.{IsReport, Reported, Tells, report_text}

-- a Base comes first
abbrev pub lines_one : Record → List ℕ → List ℕ → List ℕ
lines_one (Base many i) older line = line
lines_one r older line = older ++ line

-- the line of each record, the oldest one's first
abbrev pub lines : List Record → List ℕ
lines [] = []
lines (r ∷ log) = lines_one r (lines log) (line_of (length log + 1) r)

-- the same, and a line more where bytes that are no record stand behind them, so many
abbrev pub listed_text : List Record → ℕ → List ℕ
listed_text log left = lines log ++ torn_text left

-- The bytes are a log's, with a proper beginning of a record behind it perhaps. What a writer holds grew by the line of each
-- record, the one on that beginning, and then the log's report.
pub record IsInspected (bytes : List ℕ) (old new : Option (List ℕ)) : Type 0 where
  pub log : List Record
  pub are_spelled : AreSpelled log
  pub marked : IsMarked log
  pub left : ℕ
  pub is : EndsShort log left bytes
  pub report : Reported
  pub told : IsReport log report
  pub written : Appends old new (listed_text log left ++ report_text report)

-- The bytes begin with these records, and the line of each is written. Nothing else is written but the line on their end, if
-- these are all.
pub record IsBegun (bytes : List ℕ) (Written : List ℕ → Type 0) : Type 0 where
  pub log : List Record
  pub are_spelled : AreSpelled log
  pub marked : IsMarked log
  pub begins : BeginsWith log bytes
  pub written : Written (lines log) ⊎ ((left : ℕ) × EndsShort log left bytes × Written (listed_text log left))

-- Behind these records the bytes go on with what is none, the record with this number. The line of each of those before it is
-- written, and nothing else.
pub record IsCutShort (bytes : List ℕ) (Written : List ℕ → Type 0) (lsn : ℕ) : Type 0 where
  pub log : List Record
  pub are_spelled : AreSpelled log
  pub marked : IsMarked log
  pub next : lsn ≡ length log + 1
  pub damaged : IsDamagedBehind log bytes
  pub written : Written (lines log)

-- The bytes go on behind as many records as a log may have.
pub record IsOverfull (bytes : List ℕ) : Type 0 where
  pub log : List Record
  pub are_spelled : AreSpelled log
  pub marked : IsMarked log
  pub full : 2 ^ 50 ≤ length log
  pub more : HasMoreBehind log bytes

module _ {L : Type 0} (g : Ghosts L) where
  -- Why an inspection stopped, and what of the log's text was written by then. Of a writer that failed nothing is known.
  abbrev pub IsStopped : Stop → L → L → (List ℕ → Type 0) → Type 0
  IsStopped (stops.Refused why.NoMemory) log back Written = (g.faults back ≡ g.faults log)
      × (g.honest back → IsBegun (g.seen log) Written)
  IsStopped (stops.Refused why.DiskRead) log back Written = (g.faults back ≡ (g.faults log + 1) % 2 ^ 64)
      × (g.honest back → IsBegun (g.seen log) Written)
  IsStopped (stops.Refused why.LogFull) log back Written = (g.faults back ≡ g.faults log)
      × (g.honest back → IsBegun (g.seen log) Written × IsOverfull (g.seen log))
  IsStopped (stops.Refused (why.Damaged (damage.Record lsn))) log back Written = (g.faults back ≡ g.faults log)
      × (g.honest back → IsCutShort (g.seen log) Written lsn)
  IsStopped (stops.Refused _) log back Written = ⊥
  IsStopped (stops.Output e) log back Written = Unit {0}

-- ---- on the way

-- why a report was not written: no part of it was, unless the writer failed
abbrev pub IsUnprinted : Stop → Option (List ℕ) → Option (List ℕ) → Type 0
IsUnprinted (stops.Refused e) old new = (e ≡ why.NoMemory) × (new ≡ old)
IsUnprinted (stops.Output e) old new = Unit {0}

module _ {L : Type 0} (g : Ghosts L) where
  -- why a second reading stopped: because of no byte, if they are a log's
  abbrev pub IsUnread : Refusal → L → L → Type 0
  IsUnread why.NoMemory log back = g.faults back ≡ g.faults log
  IsUnread why.DiskRead log back = g.faults back ≡ (g.faults log + 1) % 2 ^ 64
  IsUnread why.LogFull log back = (g.faults back ≡ g.faults log) × (g.honest back → IsOverfull (g.seen log))
  IsUnread (why.Damaged (damage.Record lsn)) log back = (g.faults back ≡ g.faults log)
      × (g.honest back → (older : List Record) → AreSpelled older → EndsWith older (g.seen log) → ⊥)
  IsUnread _ log back = ⊥

  -- why a log was not read again, or its report not written
  abbrev pub IsUnreported : Stop → L → L → Option (List ℕ) → Option (List ℕ) → Type 0
  IsUnreported (stops.Refused e) log back old new = IsUnread e log back × (new ≡ old)
  IsUnreported (stops.Output e) log back old new = Unit {0}

-- the lines are written, and the report tells the log, read once
pub record IsListed (bytes : List ℕ) (old new : Option (List ℕ)) (report : Reported) : Type 0 where
  pub log : List Record
  pub are_spelled : AreSpelled log
  pub marked : IsMarked log
  pub left : ℕ
  pub is : EndsShort log left bytes
  pub told : Tells log [] report
  pub written : Appends old new (listed_text log left)

-- the report of the log is written
pub record IsReported (log : List Record) (old new : Option (List ℕ)) : Type 0 where
  pub report : Reported
  pub told : IsReport log report
  pub written : Appends old new (report_text report)

-- a text is written but for its end, which a piece holds
abbrev pub IsWrittenBut : Option (List ℕ) → Option (List ℕ) → List ℕ → List ℕ → Type 0
IsWrittenBut old new piece text = (front : List ℕ) × Appends old new front × (front ++ piece ≡ text)
