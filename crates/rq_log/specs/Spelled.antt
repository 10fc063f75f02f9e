-- Records as they stand in the log, and what of them a crash leaves. The newest record is the first of a list.
use Rattle.std.specs.Prelude.{◌≡◌, ◌⊎◌, ℕ, ◌+◌, ◌-◌, ◌<◌, ◌≤◌, List, [], ◌∷◌, ◌++◌, length, drop, Option, Some, None}
use Rattle.rq_model.specs.declared.record.Record.{Record}
use Rattle.rq_model.specs.Bases.{standing, gone}
use Rattle.rq_record.specs.Spelling.{IsRecord, BeginsRecord, spelling}

-- the spellings, one after the other, the oldest record's first
abbrev pub spelled_all : List Record → List ℕ
spelled_all [] = []
spelled_all (r ∷ older) = spelled_all older ++ spelling r

-- each has a spelling
abbrev pub AreAllSpelled : List Record → Type 0
AreAllSpelled [] = Unit {0}
AreAllSpelled (r ∷ older) = IsRecord r × AreAllSpelled older

-- of a log: what of it stands on a device
abbrev pub spelled : List Record → List ℕ
spelled log = spelled_all (standing log)

abbrev pub AreSpelled : List Record → Type 0
AreSpelled log = AreAllSpelled (standing log)

-- these records, and behind them no byte, or a proper beginning of a record, which is none
abbrev pub EndsWithAll : List Record → List ℕ → Type 0
EndsWithAll records bytes = (end : List ℕ) × BeginsRecord end × (bytes ≡ spelled_all records ++ end)

abbrev pub EndsWith : List Record → List ℕ → Type 0
EndsWith log bytes = EndsWithAll (standing log) bytes

-- the same; where they end is told if there is such a beginning
abbrev pub HoldsTo : Option ℕ → List Record → List ℕ → Type 0
HoldsTo None records bytes = bytes ≡ spelled_all records
HoldsTo (Some end) records bytes = EndsWithAll records bytes × (end ≡ length (spelled_all records)) × (end < length bytes)

-- all of those begin with these bytes
abbrev pub GoOnTo : List ℕ → List ℕ → Type 0
GoOnTo bytes all = (rest : List ℕ) × (all ≡ bytes ++ rest)

-- These bytes are records from the oldest on, the first so many and perhaps more, with a torn end: only newest ones lack.
-- Once any were forced, no end that was read stands behind them: the bytes are the first of what the records spell.
abbrev pub AreFirst : List Record → ℕ → List ℕ → Type 0
AreFirst records kept bytes = (lost : ℕ) × (lost + kept ≤ length records) × EndsWithAll (drop lost records) bytes
    × (0 < kept → GoOnTo bytes (spelled_all records))

-- The same of what stands of a log, of which so many records are forced, those before the newest Base among them.
abbrev pub IsBeginning : List Record → ℕ → List ℕ → Type 0
IsBeginning log forced bytes = AreFirst (standing log) (forced - gone log) bytes

-- These bytes are the records that were read, with the first of those behind them. They are the first so many records and
-- perhaps more, and then a torn end. That is of the next of them, or of the end that was read.
pub record GoesOn (records : List Record) (kept : ℕ) (seen bytes : List ℕ) : Type 0 where
  -- so many records come behind what was read
  pub behind : ℕ
  pub within : behind + kept ≤ length records
  pub reads : EndsWithAll (drop behind records) seen
  -- so many of these lack
  pub lost : ℕ
  pub some : lost ≤ behind
  pub is : EndsWithAll (drop lost records) bytes
  pub from : GoOnTo bytes (spelled_all records) ⊎ GoOnTo bytes seen
