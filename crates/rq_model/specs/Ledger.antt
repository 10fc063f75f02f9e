-- What a history comes to: its commit list with what each transaction did, and those that have not ended.
use Rattle.std.specs.Prelude.{ℕ, ◌+◌, ◌-◌, ◌<◌, ◌≤◌, nat_eq, nat_lt, Bool, true, false, cond, List, [], ◌∷◌, ◌++◌, Option, Some, None, ◌||◌, take, drop, length, map, not}
use Rattle.std.specs.List.{filter, filter_map, flat_map, sum_by}
use Rattle.rq_model.specs.declared.txn.Txn.{Txn}
use Rattle.rq_model.specs.declared.refusal.Refusal.TheVariants.{DiskWrite}
use Rattle.rq_model.specs.declared.message.Message.{Message}
use Rattle.rq_model.specs.Vocabulary.{Op, client_group, last, same_txn, sent_for, taken_from, marked_for, ends, has_number, last_or, front}
use Rattle.rq_model.specs.Vocabulary.Op.{Send, Take, End, Mark}
use Rattle.rq_model.specs.History.{Job, Group, Entry}
use Rattle.rq_model.specs.History.Job.{Sending, Taking, Ending, Marking, Undoing}
use Rattle.rq_model.specs.History.Entry.{Begun, Started, Did, Undid, Committed, Aborting, Aborted, Stepped, Forced, Checkpointed, Migrated, Grew, Refused, Crash, Restarted}

-- A transaction that has not ended. Its operations are those finished and not undone, in order. It holds the sending and
-- receiving ends of these groups: those of senders, and those of clients, which are numbered from 2 ^ 32 on. Of the
-- operation under way, `left` is how many of its slot writes are not made.
pub record Open : Type 0 where
  pub txn : Txn
  pub aborting : Bool
  pub ops : List Op
  pub sending : List ℕ
  pub receiving : List ℕ
  pub number : ℕ
  pub under : Option Job
  pub left : ℕ

-- a committed transaction, the place of its Commit record in the log, and what it did
pub record Done : Type 0 where
  pub txn : Txn
  pub lsn : ℕ
  pub ops : List Op

-- a store runs; or it has failed, and answers nothing more; or it is not open
pub data Phase : Type 0 where
  Running : Phase
  Stopped : Phase
  Shut : Phase

abbrev pub runs : Phase → Bool
runs Running = true
runs Stopped = false
runs Shut = false

pub record Ledger : Type 0 where
  pub committed : List Done
  pub open_ones : List Open
  pub phase : Phase
  pub incarnation : ℕ
  pub begins : ℕ
  pub records : ℕ
  pub forced : ℕ
  pub durable : ℕ

-- how many commits stand in the first n records
abbrev pub kept_in : ℕ → List Done → ℕ
kept_in n [] = 0
kept_in n (d ∷ c) = cond (nat_lt n d.lsn) 0 1 + kept_in n c

abbrev pub sent_in : List Done → ℕ → List Message
sent_in c s = flat_map (λ d. filter_map (sent_for s) d.ops) c

abbrev pub taken_in : List Done → ℕ → List Message
taken_in c s = flat_map (λ d. filter_map (taken_from s) d.ops) c

abbrev pub marks_in : List Done → ℕ → List ℕ
marks_in ds c = flat_map (λ d. filter_map (marked_for c) d.ops) ds

abbrev pub any_ends : ℕ → List Op → Bool
any_ends s [] = false
any_ends s (op ∷ ops) = ends s op || any_ends s ops

abbrev pub ended_in : List Done → ℕ → Bool
ended_in [] s = false
ended_in (d ∷ c) s = any_ends s d.ops || ended_in c s

abbrev pub rest_in : List Done → ℕ → List Message
rest_in c s = drop (length (taken_in c s)) (sent_in c s)

abbrev pub tag_of : List Message → ℕ
tag_of [] = 0
tag_of (m ∷ ms) = (last_or m ms).tag

-- the committed content of s
abbrev pub group_in : List Done → ℕ → Group
group_in c s = record {
  sent = length (sent_in c s);
  last_tag = tag_of (sent_in c s);
  received = length (taken_in c s);
  closed = ended_in c s;
  rest = rest_in c s;
}

-- t's entry among those that have not ended
abbrev pub found : Txn → List Open → Option Open
found t [] = None
found t (o ∷ os) = cond (same_txn o.txn t) (Some o) (found t os)

abbrev pub ops_of : Option Open → List Op
ops_of None = []
ops_of (Some o) = o.ops

abbrev pub change_one : Txn → (Open → Open) → Open → Open
change_one t f o = cond (same_txn o.txn t) (f o) o

abbrev pub change : Txn → (Open → Open) → List Open → List Open
change t f os = map (change_one t f) os

abbrev pub without : Txn → List Open → List Open
without t os = filter (λ o. not (same_txn o.txn t)) os

abbrev pub fresh_one : Txn → Open
fresh_one t = record {
  txn = t;
  aborting = false;
  ops = [];
  sending = [];
  receiving = [];
  number = 0;
  under = None;
  left = 0;
}

abbrev pub add_number : ℕ → List ℕ → List ℕ
add_number s ns = cond (has_number s ns) ns (s ∷ ns)

abbrev pub started : ℕ → ℕ → Job → Open → Open
started n left (Sending m) o = record o {
  number = n;
  under = Some (Sending m);
  left = left;
  sending = add_number m.sender o.sending;
}
started n left (Taking s) o = record o {
  number = n;
  under = Some (Taking s);
  left = left;
  receiving = add_number s o.receiving;
}
started n left (Ending s) o = record o {
  number = n;
  under = Some (Ending s);
  left = left;
  sending = add_number s o.sending;
}
started n left (Marking client tag) o = record o {
  number = n;
  under = Some (Marking client tag);
  left = left;
  sending = add_number (client_group client) o.sending;
}
started n left Undoing o = record o { number = n; under = Some Undoing; left = left }

abbrev pub stepped : Open → Open
stepped o = record o { left = o.left - 1 }

-- t's own sends for s, and its own takes from s
abbrev pub own_sends : ℕ → Open → List Message
own_sends s o = filter_map (sent_for s) o.ops

abbrev pub own_takes : ℕ → Open → List Message
own_takes s o = filter_map (taken_from s) o.ops

-- how many messages the chain of s holds where no operation is under way on it: what is committed and not taken, and
-- what those that have not ended sent, without what they took
abbrev pub in_chain : Ledger → ℕ → ℕ
in_chain l s = length (rest_in l.committed s) + sum_by (λ o. length (own_sends s o)) l.open_ones - sum_by
    (λ o. length (own_takes s o)) l.open_ones

-- how many slots the inverse of an operation writes
abbrev pub undo_writes : Ledger → Option Op → ℕ
undo_writes l None = 0
undo_writes l (Some (Send m)) = cond (nat_lt 1 (in_chain l m.sender)) 3 2
undo_writes l (Some (Take m)) = cond (nat_eq (in_chain l m.sender) 0) 2 3
undo_writes l (Some (End s)) = 1
undo_writes l (Some (Mark client tag)) = 1

-- how many slots an operation writes: a cell, the cell beside it where there is one, and the directory slot; a close the
-- last alone, a mark its client's slot
abbrev pub writes : Ledger → Txn → Job → ℕ
writes l t (Sending m) = cond (nat_eq (in_chain l m.sender) 0) 2 3
writes l t (Taking s) = cond (nat_lt 1 (in_chain l s)) 3 2
writes l t (Ending s) = 1
writes l t (Marking client tag) = 1
writes l t Undoing = undo_writes l (last (ops_of (found t l.open_ones)))

abbrev pub done_more : Op → Open → Open
done_more op o = record o { ops = o.ops ++ op ∷ []; under = None }

abbrev pub undone : Open → Open
undone o = record o { ops = front o.ops; under = None }

-- what an entry makes of the ledger, where it is legal there
abbrev pub after : Entry → Ledger → Ledger
after (Begun t) l = record l { open_ones = fresh_one t ∷ l.open_ones; begins = l.begins + 1 }
after (Started t n job) l = record l { open_ones = change t (started n (writes l t job) job) l.open_ones }
after (Stepped t n lsn) l = record l { open_ones = change t stepped l.open_ones; records = l.records + 1 }
after (Did t n op) l = record l { open_ones = change t (done_more op) l.open_ones; records = l.records + 1 }
after (Undid t n) l = record l { open_ones = change t undone l.open_ones; records = l.records + 1 }
after (Committed t lsn) l = record l {
  committed = l.committed ++ record {
    txn = t;
    lsn = lsn;
    ops = ops_of (found t l.open_ones);
  } ∷ [];
  open_ones = without t l.open_ones;
  records = l.records + 1;
}
after (Aborting t) l = record l { open_ones = change t (λ o. record o { aborting = true }) l.open_ones }
after (Aborted t) l = record l { open_ones = without t l.open_ones; records = l.records + 1 }
after (Forced lsn) l = record l { forced = l.records; durable = length l.committed }
after (Checkpointed lsn) l = record l { records = l.records + 1; forced = l.records + 1; durable = length l.committed }
after (Migrated pages lsn) l = record l {
  phase = Stopped;
  records = l.records + 1;
  forced = l.records + 1;
  durable = length l.committed;
}
after (Grew pages records) l = record l { phase = Shut; records = records; forced = records; durable = length l.committed }
after (Crash kept records) l = record l {
  committed = take kept l.committed;
  open_ones = [];
  phase = Shut;
  records = records;
  forced = records;
}
after (Refused c DiskWrite) l = record l { phase = Stopped }
after (Restarted i records) l = record l {
  open_ones = [];
  phase = Running;
  incarnation = i;
  begins = 0;
  records = records;
  forced = records;
  durable = length l.committed;
}
after _ l = l

-- a formatted store has an empty log, and is not open
abbrev pub empty : Ledger
empty = record {
  committed = [];
  open_ones = [];
  phase = Shut;
  incarnation = 0;
  begins = 0;
  records = 0;
  forced = 0;
  durable = 0;
}

abbrev pub ledger : List Entry → Ledger
ledger [] = empty
ledger (e ∷ h) = after e (ledger h)

-- the LSNs of commits rise, over low and up to high
abbrev pub Rising : ℕ → List Done → ℕ → Type 0
Rising low [] high = low ≤ high
Rising low (d ∷ c) high = (low < d.lsn) × Rising d.lsn c high
