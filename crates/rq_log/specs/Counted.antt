-- What the bytes of a log tell of its last LSN.
use Rattle.std.specs.Prelude.{◌≡◌, ℕ, ◌+◌, List, [], length}
use Rattle.rq_model.specs.declared.record.Record.{Record}
use Rattle.rq_model.specs.Bases.{marked, with_next}
use Rattle.rq_disk.specs.Records.{HoldsRecords}
use Rattle.rq_record.specs.Spelling.{HoldsRecord}
use Rattle.rq_log.specs.Spelled.{AreSpelled, EndsWith}

-- the LSN of the last whole record of a log with these bytes: how many records it has, with those that its Base stands for
abbrev pub LastLsn : List ℕ → ℕ → Type 0
LastLsn bytes lsn = (log : List Record) → AreSpelled log → EndsWith log bytes → lsn ≡ length (marked log)

-- of any bytes: how many whole records stand in front, where a first one that is a Base counts with those that it stands for
pub record IsCounted (bytes : List ℕ) (lsn : ℕ) : Type 0 where
  pub records : ℕ
  pub holds : HoldsRecords bytes records
  pub first : (h : HoldsRecord bytes) → lsn + 1 ≡ records + length (with_next h.0 [])
  pub none : (HoldsRecord bytes → ⊥) → lsn ≡ records
