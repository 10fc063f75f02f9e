-- Receipts that an audit tells of, and what is so of the commits that they name.
use Rattle.std.specs.Prelude.{◌≡◌, ◌⊎◌, ◌<◌, ℕ, List, drop, length, Some, true}
use Rattle.rq_model.specs.declared.record.Record.{Record}
use Rattle.rq_model.specs.Bases.{based}
use Rattle.rq_model.specs.Vocabulary.{In}
use Rattle.rq_model.specs.Ledger.{Done}
use Rattle.rq_model.specs.Commits.{committed_of}
use Rattle.rq_model.specs.Replay.{Number, Reply as Gave}
use Rattle.rq_model.specs.Replay.Reply.{Gave_commit, Gave_receipt}
use Rattle.rq_disk.specs.declared.device.LogDevice as log_device
use Rattle.rq_log.specs.Spelled.{EndsWith}
use Rattle.rq_engine.specs.Earlier.{rebased}
use Rattle.rq_engine.specs.Opened.{OpenStore}
use Rattle.rq_shared.specs.Entries.{Noted}

-- some call of the audit gave this
abbrev pub IsGivenIn : List Noted → Gave → Type 0
IsGivenIn audit g = (x : Noted) × In x audit × (x.gave ≡ g)

-- A commit of the audit was answered by this number, and an acknowledgement by its receipt.
pub record IsReceiptOf (audit : List Noted) (n : Number) : Type 0 where
  pub committed : IsGivenIn audit (Gave_commit n)
  pub acknowledged : IsGivenIn audit (Gave_receipt (Some n))

-- These bytes are the log's first records, those that a Base stands for among them, with a torn end perhaps. The commit is one
-- of these records.
abbrev pub KeepsCommit : List Record → Done → List ℕ → Type 0
KeepsCommit records d bytes = (lost : ℕ) × EndsWith (drop lost records) bytes
    × In d (committed_of (drop lost records))

-- With these earlier records the number names a commit of the store that stands behind them. The commit is in every log that a
-- crash may leave. That is a log of its records, or where a checkpoint has failed of a Base that stands for all of them.
pub record IsDurable {P L : Type 0} (l : log_device.Ghosts L) (earlier : List Record) (s : OpenStore P L) (n : Number) : Type 0 where
  pub commit : Done
  pub txn : commit.txn ≡ n.txn
  pub lsn : commit.lsn ≡ n.lsn
  pub behind : length earlier < commit.lsn
  pub stands : In commit (committed_of (rebased earlier s.state.records))
  pub survives : (bytes : List ℕ) → l.may_leave s.log bytes
      → KeepsCommit (rebased earlier s.state.records) commit bytes
      ⊎ ((s.replacing ≡ true) × (i : ℕ) × KeepsCommit (based i (rebased earlier s.state.records)) commit bytes)
