-- A history is a list of entries, the newest first. The commit list, and what of it was sent and taken, are filters and
-- joins of it.
use Rattle.std.specs.Prelude.{◌≡◌, ℕ, Bool, true, false, cond, List, [], ◌∷◌, ◌++◌, Option, Some, None, nat_eq, ◌&&◌, ◌||◌, take, drop, length}
use Rattle.std.specs.List.{filter_map, flat_map}
use Rattle.rq_model.specs.declared.txn.Txn.{Txn}
use Rattle.rq_model.specs.declared.refusal.Refusal.{Refusal}
use Rattle.rq_model.specs.declared.message.Message.{Message}
use Rattle.rq_model.specs.Vocabulary.{Op, same_txn, sent_for, taken_from, marked_for, ends, has_txn, IsPrefix}
use Rattle.rq_model.specs.Vocabulary.Op.{Send, Take, End, Mark}

-- What an operation under way is to do. Of a receive it is the group that was picked.
pub data Job : Type 0 where
  Sending : (message : Message) → Job
  Taking : (sender : ℕ) → Job
  Ending : (sender : ℕ) → Job
  Marking : (client tag : ℕ) → Job
  Undoing : Job

-- The committed content of a group.
pub record Group : Type 0 where
  pub sent : ℕ
  pub last_tag : ℕ
  pub received : ℕ
  pub closed : Bool
  pub rest : List Message

-- A call, for its refusal.
pub data Call : Type 0 where
  Begin : Call
  Start_send : (t : Txn) (message : Message) → Call
  Start_receive : (t : Txn) → Call
  Start_receive_from : (t : Txn) (sender : ℕ) → Call
  Start_close : (t : Txn) (sender : ℕ) → Call
  Start_mark : (t : Txn) (client tag : ℕ) → Call
  Step : (t : Txn) (number : ℕ) → Call
  Finish : (t : Txn) (number : ℕ) → Call
  Commit : (t : Txn) → Call
  Acknowledge : (t : Txn) (lsn : ℕ) → Call
  Start_abort : (t : Txn) → Call
  Undo_next : (t : Txn) → Call
  End_abort : (t : Txn) → Call
  Hand_over : Call
  Force : Call
  Checkpoint : Call
  Migrate : (pages : ℕ) → Call
  Write_page : (page : ℕ) → Call
  Last_tag : (sender : ℕ) → Call
  Client_tag : (client : ℕ) → Call
  Show : Call

-- One call with its reply, a crash, or a restart. `Grew` is a crash that left the tag pages of a migration: so many stand on the
-- device, and the store that is opened next has them.
pub data Entry : Type 0 where
  Begun : (t : Txn) → Entry
  Started : (t : Txn) (number : ℕ) (job : Job) → Entry
  None_free : (t : Txn) → Entry
  None_from : (t : Txn) (sender : ℕ) → Entry
  Stepped : (t : Txn) (number lsn : ℕ) → Entry
  Ready : (t : Txn) (number : ℕ) → Entry
  Did : (t : Txn) (number : ℕ) (op : Op) → Entry
  Undid : (t : Txn) (number : ℕ) → Entry
  Committed : (t : Txn) (lsn : ℕ) → Entry
  Acknowledged : (t : Txn) (lsn : ℕ) (given : Bool) → Entry
  Aborting : (t : Txn) → Entry
  None_left : (t : Txn) → Entry
  Aborted : (t : Txn) → Entry
  Handed_over : Entry
  Forced : (lsn : ℕ) → Entry
  Checkpointed : (lsn : ℕ) → Entry
  Migrated : (pages lsn : ℕ) → Entry
  Wrote : (page : ℕ) (done : Bool) → Entry
  Told : (sender sent tag : ℕ) → Entry
  Told_client : (client count tag : ℕ) → Entry
  Shown : (groups : List Group) → Entry
  Refused : (call : Call) (refusal : Refusal) → Entry
  Grew : (pages records : ℕ) → Entry
  Crash : (kept records : ℕ) → Entry
  Restarted : (incarnation records : ℕ) → Entry

-- what an entry makes of the commit list
abbrev pub committed_by : Entry → List Txn → List Txn
committed_by (Committed t lsn) c = c ++ t ∷ []
committed_by (Crash kept records) c = take kept c
committed_by _ c = c

-- the commit list
abbrev pub commits : List Entry → List Txn
commits [] = []
commits (e ∷ h) = committed_by e (commits h)

-- what an entry makes of the number of commits that no crash may take
abbrev pub durable_by : Entry → ℕ → ℕ → ℕ
durable_by (Forced lsn) committed n = committed
durable_by (Checkpointed lsn) committed n = committed
durable_by (Migrated pages lsn) committed n = committed
durable_by (Grew pages records) committed n = committed
durable_by (Restarted i records) committed n = committed
durable_by _ committed n = n

abbrev pub durable : List Entry → ℕ
durable [] = 0
durable (e ∷ h) = durable_by e (length (commits h)) (durable h)

-- what an entry finished, and whose it is
pub record Fin : Type 0 where
  pub txn : Txn
  pub op : Op

abbrev pub finished : Entry → Option Fin
finished (Did t number op) = Some (record { txn = t; op = op })
finished _ = None

-- what t did, with this one more
abbrev pub did_by : Txn → Option Fin → List Op → List Op
did_by t None ops = ops
did_by t (Some d) ops = cond (same_txn d.txn t) (ops ++ d.op ∷ []) ops

-- what t did, in order
abbrev pub ops_by : List Entry → Txn → List Op
ops_by [] t = []
ops_by (e ∷ h) t = did_by t (finished e) (ops_by h t)

abbrev pub sends : List Entry → ℕ → List Message
sends h s = flat_map (λ t. filter_map (sent_for s) (ops_by h t)) (commits h)

abbrev pub takes : List Entry → ℕ → List Message
takes h s = flat_map (λ t. filter_map (taken_from s) (ops_by h t)) (commits h)

-- the tags that committed transactions marked for client c
abbrev pub marks : List Entry → ℕ → List ℕ
marks h c = flat_map (λ t. filter_map (marked_for c) (ops_by h t)) (commits h)

abbrev pub closes_by : List Txn → ℕ → Option Fin → Bool
closes_by c s None = false
closes_by c s (Some d) = has_txn d.txn c && ends s d.op

-- some transaction of c closed s
abbrev pub ended : List Txn → ℕ → List Entry → Bool
ended c s [] = false
ended c s (e ∷ h) = closes_by c s (finished e) || ended c s h

abbrev pub sends_to : ℕ → Op → Bool
sends_to s (Send m) = nat_eq m.sender s
sends_to s (Take m) = false
sends_to s (End r) = false
sends_to s (Mark client tag) = false

abbrev pub is_send_by : List Txn → ℕ → Option Fin → Bool
is_send_by c s None = false
is_send_by c s (Some d) = has_txn d.txn c && sends_to s d.op

-- no send for s of a transaction of c comes after a close of s by one
abbrev pub NoneAfterEnd : List Txn → ℕ → List Entry → Type 0
NoneAfterEnd c s [] = Unit {0}
NoneAfterEnd c s (e ∷ h) = (is_send_by c s (finished e) ≡ true → ended c s h ≡ false) × NoneAfterEnd c s h

pub record FifoOf (h : List Entry) (s : ℕ) : Type 0 where
  pub order : IsPrefix (takes h s) (sends h s)
  pub after_end : NoneAfterEnd (commits h) s h

abbrev pub Fifo : List Entry → Type 0
Fifo h = (s : ℕ) → FifoOf h s

-- what is committed and not taken
abbrev pub rest : List Entry → ℕ → List Message
rest h s = drop (length (takes h s)) (sends h s)
