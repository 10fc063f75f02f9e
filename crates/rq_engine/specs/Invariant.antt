-- What is so of the fields of every engine, whatever log it was opened over.
use Rattle.std.specs.Prelude.{◌≡◌, ℕ, ◌+◌, ◌-◌, ◌*◌, ◌^◌, ◌≤◌, Bool, false, List, ◌∷◌, ◌++◌, length, Option, Some, None}
use Rattle.std.specs.List.{sum_by}
use Rattle.rq_model.specs.declared.record.Record.{Record}
use Rattle.rq_model.specs.declared.txn.Txn.{Txn}
use Rattle.rq_model.specs.Vocabulary.{In}
use Rattle.rq_model.specs.Deeds.{spelled_deed, TellsItself}
use Rattle.rq_disk.specs.declared.device.LogDevice as log_device
use Rattle.rq_log.specs.Logged.{Logged, IsSettled}
use Rattle.rq_page.specs.Sizes.{Sizes, sender_count}
use Rattle.rq_views.specs.InStore.{IsDeedOf}
use Rattle.rq_level.specs.LevelState.{LevelState}
use Rattle.rq_level.specs.Writes.{AreSlotWrites}
use Rattle.rq_txn.specs.declared.Aim.{Aim}
use Rattle.rq_txn.specs.declared.Aim.TheVariants.{Doing, Undoing}
use Rattle.rq_txn.specs.declared.Finished.{Finished}
use Rattle.rq_txn.specs.Rows.{Row, Under, AreDistinct, deed_of}
use Rattle.rq_pool.specs.Held.{Held}
use Rattle.rq_groups.specs.Sent.{SentBy, sent_count}
use Rattle.rq_groups.specs.Waiting.{waits}
use Rattle.rq_store.specs.Sends.{place_count}
use Rattle.rq_store.specs.State.{State, owed_by}
use Rattle.rq_store.specs.Steps.{op_end}
use Rattle.rq_planner.specs.Answered.{KnowsCells}
use Rattle.rq_engine.specs.Frames.{AreFixedAsLatched}

-- the bytes of the record that ends an operation
abbrev pub end_bytes : Aim → ℕ
end_bytes (Doing d) = 30 + length (spelled_deed d)
end_bytes (Undoing lsn d) = 37

-- the bytes of the records that an operation under way has yet to log
abbrev pub room_of : Option Under → ℕ
room_of None = 0
room_of (Some u) = 546 * (length u.writes - u.made) + end_bytes u.aim

abbrev pub room_one : Row → ℕ
room_one r = room_of r.under

-- what its record will say is in range, and a deed's bytes tell the deed
abbrev pub EndFits : Aim → Type 0
EndFits (Doing d) = (1 ≤ length (spelled_deed d)) × (length (spelled_deed d) ≤ 256) × TellsItself d
EndFits (Undoing lsn d) = 1 ≤ lsn

-- what is so of an operation under way
pub record IsUnderConsistent (z : Sizes) (u : Under) : Type 0 where
  pub number : 1 ≤ u.number
  pub made : u.made ≤ length u.writes
  pub few : length u.writes ≤ 3
  pub slots : AreSlotWrites z u.writes
  pub sender : IsDeedOf z (deed_of u.aim)
  pub fits : EndFits u.aim

abbrev pub UnderConsistent : Sizes → Option Under → Type 0
UnderConsistent z None = Unit {0}
UnderConsistent z (Some u) = IsUnderConsistent z u

-- what is so of a finished operation
pub record IsDoneConsistent (z : Sizes) (f : Finished) : Type 0 where
  pub lsn : 1 ≤ f.lsn
  pub sender : IsDeedOf z f.deed
  pub reads : TellsItself f.deed

-- the log holds this record, with this LSN
pub record IsLogged (log : List Record) (lsn : ℕ) (r : Record) : Type 0 where
  pub newer : List Record
  pub older : List Record
  pub log_is : log ≡ newer ++ r ∷ older
  pub at : lsn ≡ length older + 1

-- the end of a finished operation of the transaction
abbrev pub end_of : Txn → Finished → Record
end_of t f = op_end t f.number f.deed

-- what is so of a transaction that has not ended, where no more than so many records are logged or owed
pub record IsRowConsistent (z : Sizes) (incarnation begins total : ℕ) (r : Row) : Type 0 where
  pub mine : r.txn.incarnation ≡ incarnation
  pub low : 1 ≤ r.txn.count
  pub high : r.txn.count ≤ begins
  pub number : r.number ≤ total
  pub done : (f : Finished) → In f r.finished → IsDoneConsistent z f
  pub under : UnderConsistent z r.under

-- the records that are logged or owed
abbrev pub total_of : State → ℕ
total_of s = length s.records + owed_by s.rows

-- how many of its operations are finished
abbrev pub done_one : Row → ℕ
done_one r = length r.finished

-- A number and a tag is kept of each sender and client. None has more committed messages or marks than there are records, those
-- that open transactions may have made included.
pub record AreSendsConsistent (z : Sizes) (records done : ℕ) (sent : SentBy) : Type 0 where
  pub counts : length sent.counts ≡ place_count z
  pub tags : length sent.tags ≡ place_count z
  pub few : (g : ℕ) → sent_count sent g + done ≤ records

-- The room in the log for what operations under way have yet to log is reserved, and no more. With it the log is not over its
-- greatest length. No more messages wait, with those that open transactions may have sent, than there are records.
pub record IsConsistent (s : State) (failed : Bool) (owed reserved : ℕ) : Type 0 where
  pub incarnation : 1 ≤ s.incarnation
  pub low : s.incarnation ≤ length s.records
  pub fails : s.failed ≡ false → failed ≡ false
  pub owes : owed ≡ owed_by s.rows
  pub room : sum_by room_one s.rows ≡ reserved
  pub count : total_of s ≤ 2 ^ 50
  pub distinct : AreDistinct s.rows
  pub rows : (r : Row) → In r s.rows → IsRowConsistent s.sizes s.incarnation s.begins (total_of s) r
  pub senders : length s.waiting ≡ sender_count s.sizes
  pub few : (g : ℕ) → waits s.waiting g + sum_by done_one s.rows ≤ length s.records
  pub sent : AreSendsConsistent s.sizes (length s.records) (sum_by done_one s.rows) s.sent
  -- the end of each finished operation stands in the log, at its LSN
  pub ended : (r : Row) (f : Finished) → In r s.rows → In f r.finished → IsLogged s.records f.lsn (end_of r.txn f)

-- And when its log was last forced, a crash would have left that log alone. Its levels know the cells, and operations under way have
-- their pages fixed in frames.
pub record IsEngine {L : Type 0} (g : log_device.Ghosts L) (s : State) (frames : List Held) (log : Logged L) (owed : ℕ)
    (known : List LevelState) : Type 0 where
  pub kept : IsConsistent s log.failed owed log.reserved
  pub durable : IsSettled g log
  pub cells : KnowsCells s.sizes s.images known
  pub frames_are : AreFixedAsLatched s.rows frames
