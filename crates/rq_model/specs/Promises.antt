-- What holds at every place of every legal history, and how a history goes on.
use Rattle.std.specs.Prelude.{◌≡◌, ℕ, ◌+◌, ◌*◌, ◌≤◌, List, [], ◌∷◌, ◌++◌, length, Bool, true, false, Option, Some, None, ◌&&◌, ◌||◌, not, map}
use Rattle.rq_model.specs.declared.refusal.Refusal.TheVariants.{Failed}
use Rattle.rq_model.specs.declared.txn.Txn.{Txn}
use Rattle.rq_model.specs.declared.message.Message.{Message}
use Rattle.rq_model.specs.declared.record.Record.{Record}
use Rattle.rq_model.specs.declared.record.Record.TheVariants.{Restart as Restart_record}
use Rattle.rq_model.specs.Vocabulary.{In}
use Rattle.rq_model.specs.History.{Entry, Call, Fifo, commits, ended}
use Rattle.rq_model.specs.History.Entry.{Started, Acknowledged, Committed, Forced, Checkpointed, Migrated, Grew, Crash, Refused, Restarted}
use Rattle.rq_model.specs.History.Job.{Sending}
use Rattle.rq_model.specs.Ledger.{Done, Ledger, ledger, kept_in, runs}
use Rattle.rq_model.specs.Ledger.Phase.{Shut}
use Rattle.rq_model.specs.Growth.{Growth, IsGrownBy, IsOfMigration, MayStand, growth}
use Rattle.rq_model.specs.Growth.Growth.{Grows}
use Rattle.rq_model.specs.Legal.{Legal, IsLegal, MayGrow}
use Rattle.rq_model.specs.Tests.{Size, size_at}
use Rattle.rq_model.specs.Content.{content}
use Rattle.rq_model.specs.Commits.{committed_of}
use Rattle.rq_model.specs.Rules.{KeepsRules}
use Rattle.rq_model.specs.Groups.{group}
use Rattle.rq_model.specs.Replay.{Reply, Replays, AllSay}
use Rattle.rq_model.specs.Bases.{based}
use Rattle.rq_model.specs.Incarnations.{incarnation_of, InOrder, Extends, Ties, opened_ledger}

-- at every place: what was taken is a beginning of what was sent
abbrev pub FifoThroughout : List Entry → Type 0
FifoThroughout h = (newer older : List Entry) → newer ++ older ≡ h → Fifo older

-- every commit that was acknowledged is among the commits, whatever came since
abbrev pub AcknowledgedStay : Size → Type 0
AcknowledgedStay z = (newer older : List Entry) (t : Txn) (lsn : ℕ)
    → IsLegal z (newer ++ (Acknowledged t lsn true ∷ older)) → In (Committed t lsn) older
    → In t (commits (newer ++ (Acknowledged t lsn true ∷ older)))

abbrev pub is_force : Entry → Bool
is_force (Forced lsn) = true
is_force (Checkpointed lsn) = true
is_force (Migrated pages lsn) = true
is_force _ = false

abbrev pub is_restart : Entry → Bool
is_restart (Restarted i records) = true
is_restart _ = false

-- one of the entries is such
abbrev pub any_entry : (Entry → Bool) → List Entry → Bool
any_entry f [] = false
any_entry f (e ∷ h) = f e || any_entry f h

-- for the number that a commit answered a receipt is given exactly where a force has answered since, and no restart
abbrev pub ReceiptsAreExact : Size → Type 0
ReceiptsAreExact z = (newer older : List Entry) (t : Txn) (lsn : ℕ) (given : Bool)
    → IsLegal z (Acknowledged t lsn given ∷ (newer ++ (Committed t lsn ∷ older)))
    → given ≡ (any_entry is_force newer && not (any_entry is_restart newer))

abbrev pub is_crash : Entry → Bool
is_crash (Crash kept records) = true
is_crash (Grew pages records) = true
is_crash _ = false

-- a migration that was answered stays: from the next crash on the store has the clients of its tag pages
abbrev pub MigrationsStay : Size → Type 0
MigrationsStay z = (newer older : List Entry) (pages lsn : ℕ) → IsLegal z (newer ++ (Migrated pages lsn ∷ older))
    → any_entry is_crash newer ≡ true → (size_at z (newer ++ (Migrated pages lsn ∷ older))).clients ≡ 15 * pages

-- nothing is sent to a group that a committed transaction closed
abbrev pub NothingBehindClose : Size → Type 0
NothingBehindClose z = (h : List Entry) (t : Txn) (n : ℕ) (m : Message) → IsLegal z (Started t n (Sending m) ∷ h)
    → ended (commits h) m.sender h ≡ false

-- a replay from the ledger of a legal history is a longer legal history, whose entries are what was asked and answered
abbrev pub ReplayGoesOn : Size → Type 0
ReplayGoesOn z = (h : List Entry) (audit : List (Call × Reply)) (l : Ledger) → IsLegal z h
    → Replays (size_at z h) (ledger h) audit l
    → (newer : List Entry) × IsLegal z (newer ++ h) × (ledger (newer ++ h) ≡ l) × AllSay audit newer

-- the crash that leaves so many records, and the tag pages of a migration or none
abbrev pub crash_with : Option ℕ → ℕ → List Entry → Entry
crash_with None records h = Crash (kept_in records (ledger h).committed) records
crash_with (Some pages) records h = Grew pages records

-- the crash that leaves this log, and no tag pages more
abbrev pub crash_to : List Record → List Entry → Entry
crash_to log h = crash_with None (length log) h

-- A history ends with a crash that left these tag pages and this log: the entry may come there, and the commits and the content that
-- the log tells are those of the history.
pub record EndsBy (tags : Option ℕ) (z : Size) (h : List Entry) (log : List Record) : Type 0 where
  pub legal : IsLegal z (crash_with tags (length log) h ∷ h)
  pub ties : Ties (ledger (crash_with tags (length log) h ∷ h)) log
  pub commits : map (λ (d : Done). d.txn) (committed_of log) ≡ commits (crash_with tags (length log) h ∷ h)
  pub content : (s : ℕ) → content log s ≡ group (crash_with tags (length log) h ∷ h) s

abbrev pub EndsInCrash : Size → List Entry → List Record → Type 0
EndsInCrash z h log = EndsBy None z h log

-- A crash that leaves the first records of the log, with all that are forced and the one that began the incarnation. No answered
-- migration awaits it.
abbrev pub CrashGoesOn : Size → Type 0
CrashGoesOn z = (h : List Entry) (newer older : List Record) → IsLegal z h → IsGrownBy (growth h) None
    → Ties (ledger h) (newer ++ older)
    → KeepsRules older
    → (ledger h).forced ≤ length older → (ledger h).incarnation ≤ incarnation_of older → EndsInCrash z h older

-- a crash that leaves the Base of a checkpoint or a migration, which may stand for all records
abbrev pub CheckpointCrashGoesOn : Size → Type 0
CheckpointCrashGoesOn z = (h : List Entry) (log : List Record) → IsLegal z h → IsGrownBy (growth h) None → Ties (ledger h) log
    → KeepsRules log
    → MayStand (growth h) (ledger h) → EndsInCrash z h (based (incarnation_of log) log)

-- the log that stands with tag pages: that of a migration which was answered as it is, and else one record for all
abbrev pub log_grown : Growth → List Record → List Record
log_grown (Grows pages) log = log
log_grown _ log = based (incarnation_of log) log

-- A crash that leaves tag pages, where it may: its log tells the history's commits and content.
abbrev pub GrowthGoesOn : Size → Type 0
GrowthGoesOn z = (h : List Entry) (pages : ℕ) (log : List Record) → IsLegal z h → MayGrow (size_at z h) (ledger h) pages
    → IsOfMigration (growth h) (ledger h) pages → Ties (ledger h) log → KeepsRules log
    → EndsBy (Some pages) z h (log_grown (growth h) log)

-- a crash of a store that is not open, which leaves what was left before, with some of what a restart that was stopped
-- has added
abbrev pub ShutCrashGoesOn : Size → Type 0
ShutCrashGoesOn z = (h : List Entry) (older now : List Record) → IsLegal z h → (ledger h).phase ≡ Shut
    → Ties (ledger h) older
    → Extends older now → InOrder now → KeepsRules now → EndsInCrash z h now

-- a store that does not run refuses every call as Failed
abbrev pub StillStoreRefuses : Size → Type 0
StillStoreRefuses z = (l : Ledger) (c : Call) → runs l.phase ≡ false → Legal z l (Refused c Failed)

-- the restart that leaves this log
abbrev pub restart_to : List Record → Entry
restart_to log = Restarted (incarnation_of log) (length log)

-- A history ends with a restart that left this log: the entry may come there, and the ledger is that of a store opened
-- over the log.
pub record EndsInRestart (z : Size) (h : List Entry) (log : List Record) : Type 0 where
  pub legal : IsLegal z (restart_to log ∷ h)
  pub ties : Ties (ledger (restart_to log ∷ h)) log
  pub ledger : opened_ledger log ≡ ledger (restart_to log ∷ h)

-- a restart of a store that is not open, over its log with what the restart added, the newest of which begins the next
-- incarnation
abbrev pub RestartGoesOn : Size → Type 0
RestartGoesOn z = (h : List Entry) (older now : List Record) → IsLegal z h → (ledger h).phase ≡ Shut
    → Ties (ledger h) older
    → Extends older now → InOrder now → EndsInRestart z h (Restart_record (incarnation_of now + 1) ∷ now)
