-- Which entry may come next.
use Rattle.std.specs.Prelude.{◌≡◌, ◌⊎◌, ℕ, ◌+◌, ◌<◌, ◌≤◌, true, false, List, [], ◌∷◌, Option, Some, None, nat_eq, nat_lt, ◌&&◌, length, map, not, IsTrue, slice_get}
use Rattle.rq_model.specs.declared.txn.Txn.{Txn}
use Rattle.rq_model.specs.declared.refusal.Refusal.{Refusal}
use Rattle.rq_model.specs.declared.refusal.Refusal.TheVariants.{NoMemory, DiskRead, Latched, PoolFull, DiskWrite, Damaged, NotForced}
use Rattle.rq_model.specs.Vocabulary.{Op, last, last_or, is_some}
use Rattle.rq_model.specs.Vocabulary.Op.{Send, Take, End, Mark}
use Rattle.rq_model.specs.History.{Job, Entry, Call}
use Rattle.rq_model.specs.History.Call.{Begin, Start_send, Start_receive, Start_receive_from, Start_close, Start_mark, Step, Finish, Commit, Acknowledge, Start_abort, Undo_next, End_abort, Hand_over, Force, Checkpoint, Migrate, Write_page, Last_tag, Client_tag, Show}
use Rattle.rq_model.specs.History.Job.{Sending, Taking, Ending, Marking, Undoing}
use Rattle.rq_model.specs.History.Entry.{Begun, Started, None_free, None_from, Stepped, Ready, Did, Undid, Committed, Acknowledged, Aborting, None_left, Aborted, Handed_over, Forced, Checkpointed, Migrated, Grew, Wrote, Told, Told_client, Shown, Refused, Crash, Restarted}
use Rattle.rq_model.specs.Ledger.{Open, Ledger, Phase, runs, kept_in, ledger, group_in, sent_in, marks_in, rest_in, found, tag_of, own_takes}
use Rattle.rq_model.specs.Ledger.Phase.{Running, Stopped, Shut as Is_shut}
use Rattle.rq_model.specs.Growth.{Growth, IsGrownBy, IsOfMigration, MayStand, growth, records_grown}
use Rattle.rq_model.specs.Tests.{Size, bad_tags, below, free_to_receive, holds_for, first_of, size_at, tests, Passes, starts, writes_page}

-- Where each refusal may come: memory's and the disk's own where the store runs, latches and frames where an operation
-- would start, a page that is not forced where one is to be written, and each of the others exactly where its test is
-- the first that is true.
abbrev pub LegalRefusal : Size → Ledger → Call → Refusal → Type 0
LegalRefusal z l c NoMemory = runs l.phase ≡ true
LegalRefusal z l c DiskRead = runs l.phase ≡ true
LegalRefusal z l c DiskWrite = runs l.phase ≡ true
LegalRefusal z l c (Damaged d) = runs l.phase ≡ true
LegalRefusal z l c Latched = Passes z l c × (starts z l c ≡ true)
LegalRefusal z l c PoolFull = Passes z l c × (starts z l c ≡ true)
LegalRefusal z l c NotForced = Passes z l c × (writes_page c ≡ true)
LegalRefusal z l c r = first_of (tests z l c) ≡ Some r

-- what was looked for is there, and this holds of it
abbrev pub OnFound : {X : Type 0} → Option X → (X → Type 0) → Type 0
OnFound None P = ⊥
OnFound (Some x) P = P x

abbrev pub At : Ledger → Txn → (Open → Type 0) → Type 0
At l t P = OnFound (found t l.open_ones) P

-- the operation under way is done by op
abbrev pub IsDoneBy : Ledger → Open → Option Job → Op → Type 0
IsDoneBy l o (Some (Sending m)) (Send n) = n ≡ m
IsDoneBy l o (Some (Taking s)) (Take m) = (m.sender ≡ s)
    × (slice_get (rest_in l.committed s) (length (own_takes s o)) ≡ Some m)
IsDoneBy l o (Some (Ending s)) (End r) = r ≡ s
IsDoneBy l o (Some (Marking c tag)) (Mark d u) = (d ≡ c) × (u ≡ tag)
IsDoneBy l o _ _ = ⊥

abbrev pub start_of : Txn → Job → Call
start_of t (Sending m) = Start_send t m
start_of t (Taking s) = Start_receive_from t s
start_of t (Ending s) = Start_close t s
start_of t (Marking c tag) = Start_mark t c tag
start_of t Undoing = Undo_next t

-- what more a start needs
abbrev pub CanStart : Ledger → Open → Job → Type 0
CanStart l o (Taking s) = IsTrue (holds_for l o s)
CanStart l o Undoing = IsTrue (is_some (last o.ops))
CanStart l o _ = Unit {0}

-- no more records than there are, where the store is open. Where it is not, a restart that was stopped may leave some
-- of its own.
abbrev pub IsUpTo : ℕ → Phase → ℕ → Type 0
IsUpTo n Running records = records ≤ n
IsUpTo n Stopped records = records ≤ n
IsUpTo n Is_shut records = Unit {0}

-- one record more: that of a checkpoint or a migration which the crash cut off, or which a device refused
abbrev pub IsCheckpointed : Growth → Ledger → ℕ → Type 0
IsCheckpointed g l records = MayStand g l × (records ≡ l.records + 1)

-- What a crash may leave: all that is forced, and of the commits those, in their order, whose records it leaves.
pub record MayCrash (l : Ledger) (kept records : ℕ) : Type 0 where
  pub durable : l.durable ≤ kept
  pub forced : l.forced ≤ records
  pub exact : kept ≡ kept_in records l.committed

-- A crash may leave tag pages of a store that is open, where no transaction is. The store had none.
pub record MayGrow (z : Size) (l : Ledger) (pages : ℕ) : Type 0 where
  pub tags : bad_tags z pages ≡ false
  pub none_open : l.open_ones ≡ []
  pub not_shut : l.phase ≡ Is_shut → ⊥

-- A restart opens a store that is not open. It makes a record, and begins an incarnation that was not there before.
pub record MayRestart (l : Ledger) (i records : ℕ) : Type 0 where
  pub later : l.incarnation < i
  pub shut : l.phase ≡ Is_shut
  pub more : l.records < records

-- The entry may come next, by the ledger alone. Of crashes `MayCome` asks more.
abbrev pub Legal : Size → Ledger → Entry → Type 0
Legal z l (Begun t) = Passes z l Begin × (t.incarnation ≡ l.incarnation) × (t.count ≡ l.begins + 1)
Legal z l (Started t n job) = Passes z l (start_of t job) × At l t (λ o. (n ≡ o.number + 1) × CanStart l o job)
Legal z l (None_free t) = Passes z l (Start_receive t)
    × At l t (λ o. (s : ℕ) → s < z.senders → free_to_receive t s l.open_ones ≡ true → holds_for l o s ≡ false)
Legal z l (None_from t s) = Passes z l (Start_receive_from t s) × At l t (λ o. holds_for l o s ≡ false)
Legal z l (Stepped t n lsn) = Passes z l (Step t n) × At l t (λ o. 0 < o.left) × (lsn ≡ l.records + 1)
Legal z l (Ready t n) = Passes z l (Step t n) × At l t (λ o. o.left ≡ 0)
Legal z l (Did t n op) = Passes z l (Finish t n) × At l t (λ o. IsDoneBy l o o.under op)
Legal z l (Undid t n) = Passes z l (Finish t n) × At l t (λ o. o.under ≡ Some Undoing)
Legal z l (Committed t lsn) = Passes z l (Commit t) × (lsn ≡ l.records + 1)
Legal z l (Acknowledged t lsn given) = Passes z l (Acknowledge t lsn)
    × (given ≡ (nat_eq t.incarnation l.incarnation && not (nat_lt l.forced lsn)))
Legal z l (Aborting t) = Passes z l (Start_abort t)
Legal z l (None_left t) = Passes z l (Undo_next t) × At l t (λ o. last o.ops ≡ None)
Legal z l (Aborted t) = Passes z l (End_abort t)
Legal z l Handed_over = Passes z l Hand_over
Legal z l (Forced lsn) = Passes z l Force × (lsn ≡ l.records)
Legal z l (Checkpointed lsn) = Passes z l Checkpoint × (lsn ≡ l.records + 1)
Legal z l (Migrated pages lsn) = Passes z l (Migrate pages) × (lsn ≡ l.records + 1)
Legal z l (Wrote page done) = Passes z l (Write_page page)
Legal z l (Told s sent tag) = Passes z l (Last_tag s) × (sent ≡ length (sent_in l.committed s))
    × (tag ≡ tag_of (sent_in l.committed s))
Legal z l (Told_client c count tag) = Passes z l (Client_tag c) × (count ≡ length (marks_in l.committed c))
    × (tag ≡ last_or 0 (marks_in l.committed c))
Legal z l (Shown groups) = Passes z l Show × (groups ≡ map (group_in l.committed) (below z.senders))
Legal z l (Refused c r) = LegalRefusal z l c r
Legal z l (Grew pages records) = MayGrow z l pages × (l.records ≤ records)
Legal z l (Crash kept records) = MayCrash l kept records
Legal z l (Restarted i records) = MayRestart l i records

-- The entry may come next. Tag pages that a crash leaves are of a migration; its record is the last that is left. Those of one that
-- was answered are left.
abbrev pub MayCome : Size → Growth → Ledger → Entry → Type 0
MayCome z g l (Grew pages records) = MayGrow z l pages × IsOfMigration g l pages × (records ≡ records_grown g l)
MayCome z g l (Crash kept records) = MayCrash l kept records × IsGrownBy g None
    × (IsUpTo l.records l.phase records ⊎ IsCheckpointed g l records)
MayCome z g l e = Legal z l e

-- The entry may come behind a history, at a store of the size that it has there.
abbrev pub MayFollow : Size → List Entry → Entry → Type 0
MayFollow z h e = MayCome (size_at z h) (growth h) (ledger h) e

-- Every entry may come where it stands. The newest comes first.
abbrev pub IsLegal : Size → List Entry → Type 0
IsLegal z [] = Unit {0}
IsLegal z (e ∷ h) = MayFollow z h e × IsLegal z h
