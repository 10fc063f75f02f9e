-- The queue as plain lists: what its rows stand for in the ledger, and what its calls answer.
use Rattle.std.specs.Prelude.{◌≡◌, ℕ, ◌-◌, ◌<◌, ◌≤◌, Bool, cond, List, [], ◌∷◌, Option, Some, None, map, length, IsTrue, not, slice_index_or, ◌++◌}
use Rattle.std.specs.List.{filter, filter_map, flat_map}
use Rattle.rq_model.specs.declared.txn.Txn.{Txn}
use Rattle.rq_model.specs.declared.message.Message.{Message}
use Rattle.rq_model.specs.declared.refusal.Refusal.{Refusal}
use Rattle.rq_model.specs.declared.refusal.Refusal.TheVariants.{Failed, UnknownOperation}
use Rattle.rq_reference.specs.declared.rows.State.{State}
use Rattle.rq_reference.specs.declared.rows.State.TheVariants.{Running as Running_state, Stopped as Stopped_state, Shut as Shut_state}
use Rattle.rq_reference.specs.declared.rows.Act.{Act}
use Rattle.rq_reference.specs.declared.rows.Act.TheVariants.{Sent, Taken, Closed, Marked}
use Rattle.rq_reference.specs.declared.rows.Work.{Work}
use Rattle.rq_reference.specs.declared.rows.Work.TheVariants.{Sending as Sending_work, Taking as Taking_work, Closing as Closing_work, Marking as Marking_work, Undoing as Undoing_work}
use Rattle.rq_reference.specs.declared.scans.Tagged.{Tagged}
use Rattle.rq_reference.specs.declared.scans.Tagged.TheVariants.{Sends, Marks}
use Rattle.rq_reference.specs.declared.scans.Way.{Way}
use Rattle.rq_reference.specs.declared.scans.Way.TheVariants.{Sent as Way_sent, Taken as Way_taken}
use Rattle.rq_reference.specs.declared.rows.OpenTxn.{OpenTxn}
use Rattle.rq_reference.specs.declared.rows.CommittedTxn.{CommittedTxn}
use Rattle.rq_model.specs.Vocabulary.{Op, client_group, first, front, has_number, marked_for, sent_for, taken_from}
use Rattle.rq_model.specs.Vocabulary.Op.{Send, Take, End, Mark}
use Rattle.rq_model.specs.History.{Job, Call, Entry}
use Rattle.rq_model.specs.History.Job.{Sending, Taking, Ending, Marking, Undoing}
use Rattle.rq_model.specs.History.Entry.{Refused, Ready, Stepped, Did, Undid, Started, None_free, None_from, None_left}
use Rattle.rq_model.specs.Ledger.{Open, Done, Ledger, Phase, runs, after, found, kept_in, add_number, Rising}
use Rattle.rq_model.specs.Ledger.Phase.{Running, Stopped, Shut}
use Rattle.rq_model.specs.Growth.{Growth, growth_by}
use Rattle.rq_model.specs.Growth.Growth.{Grows, Stays}
use Rattle.rq_model.specs.Legal.{MayCome, IsDoneBy}
use Rattle.rq_model.specs.Tests.{Size, NoneHolds, first_of, grown_by, with_clients, has_under, ready_tests, below, gives, without_pages}

-- a reference runs; or a migration was answered, and it answers nothing more; or it is not open
abbrev pub phase_of : State → Phase
phase_of Running_state = Running
phase_of (Stopped_state pages) = Stopped
phase_of Shut_state = Shut

-- what no crash has told yet: a reference meets no device
abbrev pub growth_of : State → Growth
growth_of (Stopped_state pages) = Grows pages
growth_of _ = Stays

-- what a reference is: its sizes, what no crash has told yet, and the ledger
pub record Stand : Type 0 where
  pub size : Size
  pub growth : Growth
  pub ledger : Ledger

-- the entry may come next, and what it makes of the reference
abbrev pub May : Stand → Entry → Type 0
May s e = MayCome s.size s.growth s.ledger e

abbrev pub next : Entry → Stand → Stand
next e s = record { size = grown_by with_clients e s.size; growth = growth_by e s.growth; ledger = after e s.ledger }

-- the call may be refused so
abbrev pub MayBeRefused : Stand → Call → Refusal → Type 0
MayBeRefused s c r = May s (Refused c r) × IsTrue (without_pages r)

abbrev pub op_of : Act → Op
op_of (Sent m) = Send m
op_of (Taken m) = Take m
op_of (Closed s) = End s
op_of (Marked client tag) = Mark client tag

-- the messages that went this way through a sender's group
abbrev pub moved_for : Way → ℕ → Op → Option Message
moved_for Way_sent s = sent_for s
moved_for Way_taken s = taken_from s

abbrev pub moved_in : Way → List Done → ℕ → List Message
moved_in way c s = flat_map (λ d. filter_map (moved_for way s) d.ops) c

-- the tags of a sender's messages, or of a client's marks
abbrev pub tag_in : Option Message → Option ℕ
tag_in None = None
tag_in (Some m) = Some m.tag

abbrev pub tag_for : Tagged → ℕ → Op → Option ℕ
tag_for Sends s op = tag_in (sent_for s op)
tag_for Marks c op = marked_for c op

abbrev pub tags_in : Tagged → List Done → ℕ → List ℕ
tags_in tagged ds n = flat_map (λ d. filter_map (tag_for tagged n) d.ops) ds

abbrev pub job_of : Work → Job
job_of (Sending_work m) = Sending m
job_of (Taking_work s) = Taking s
job_of (Closing_work s) = Ending s
job_of (Marking_work client tag) = Marking client tag
job_of Undoing_work = Undoing

abbrev pub under_of : Option Work → Option Job
under_of None = None
under_of (Some w) = Some (job_of w)

abbrev pub open_of : OpenTxn → Open
open_of o = record {
  txn = o.txn;
  aborting = o.aborting;
  ops = map op_of o.acts.items;
  sending = o.sending.items;
  receiving = o.receiving.items;
  number = o.number;
  under = under_of o.work;
  left = o.left;
}

abbrev pub done_of : CommittedTxn → Done
done_of d = record { txn = d.txn; lsn = d.lsn; ops = map op_of d.acts.items }

-- the numbers of those that have not ended are of incarnation i, and their counts fall from at most b
abbrev pub Numbered : ℕ → ℕ → List Open → Type 0
Numbered i b [] = Unit {0}
Numbered i b (o ∷ os) = (o.txn.incarnation ≡ i) × (0 < o.txn.count) × (o.txn.count ≤ b)
    × Numbered i (o.txn.count - 1) os

-- what holds of every ledger that a reference keeps
pub record Sound (l : Ledger) : Type 0 where
  pub numbered : Numbered l.incarnation l.begins l.open_ones
  pub rising : Rising 0 l.committed l.records
  pub forced : l.forced ≤ l.records
  pub durable : l.durable ≤ kept_in l.forced l.committed

-- where the transaction stands
abbrev pub PlaceOf : List OpenTxn → Txn → Option ℕ → Type 0
PlaceOf rows t None = found t (map open_of rows) ≡ None
PlaceOf rows t (Some i) = (i < length rows) × ((d : OpenTxn) → (slice_index_or rows i d).txn ≡ t)
    × ((d : OpenTxn) → found t (map open_of rows) ≡ Some (open_of (slice_index_or rows i d)))

-- the transaction's place among those that have not ended
pub record StandsAt (l : Ledger) (t : Txn) (i : ℕ) : Type 0 where
  pub within : i < length l.open_ones
  pub numbered : (d : Open) → (slice_index_or l.open_ones i d).txn ≡ t
  pub found : (d : Open) → found t l.open_ones ≡ Some (slice_index_or l.open_ones i d)

-- the store runs, and the transaction stands at the place, with no operation under way
pub record FindsReady (l : Ledger) (t : Txn) (aborting : Bool) (i : ℕ) : Type 0 where
  pub stands : StandsAt l t i
  pub passes : NoneHolds (ready_tests l t aborting)

-- the tests of a call on an operation under way
abbrev pub busy_tests : Ledger → Txn → ℕ → List (Bool × Refusal)
busy_tests l t n = (not (runs l.phase), Failed) ∷ (not (has_under n (found t l.open_ones)), UnknownOperation) ∷ []

-- the store runs, and the transaction stands at the place, with this work under way under the number
pub record IsBusy (l : Ledger) (t : Txn) (n i : ℕ) (w : Work) : Type 0 where
  pub stands : StandsAt l t i
  pub under : (d : Open) → (slice_index_or l.open_ones i d).under ≡ Some (job_of w)
  pub passes : NoneHolds (busy_tests l t n)

-- why it is not so
pub record IsIdle (l : Ledger) (t : Txn) (n : ℕ) (r : Refusal) : Type 0 where
  pub first : first_of (busy_tests l t n) ≡ Some r
  pub plain : IsTrue (without_pages r)

-- a step's answer: the LSN of the record that it made, or none where none is left to make
abbrev pub step_entry : Txn → ℕ → Option ℕ → Entry
step_entry t n None = Ready t n
step_entry t n (Some lsn) = Stepped t n lsn

-- a receive's answer: the group that it takes from and its number, or none where no free group holds a message
abbrev pub receive_entry : Txn → Option (ℕ × ℕ) → Entry
receive_entry t None = None_free t
receive_entry t (Some given) = Started t given.1 (Taking given.0)

-- the same, from one group
abbrev pub receive_from_entry : Txn → ℕ → Option ℕ → Entry
receive_from_entry t s None = None_from t s
receive_from_entry t s (Some n) = Started t n (Taking s)

-- an undo's answer: the number of the inverse, or none where nothing is left
abbrev pub undo_entry : Txn → Option ℕ → Entry
undo_entry t None = None_left t
undo_entry t (Some n) = Started t n Undoing

-- what is finished: an operation, or the inverse of one
abbrev pub finish_entry : Txn → ℕ → Option Act → Entry
finish_entry t n (Some a) = Did t n (op_of a)
finish_entry t n None = Undid t n

-- the operation under way comes to this
abbrev pub ComesTo : Ledger → Open → Job → Option Act → Type 0
ComesTo l o job (Some a) = IsDoneBy l o (Some job) (op_of a)
ComesTo l o job None = job ≡ Undoing

-- what a transaction did, once this is finished too
abbrev pub ops_with : Option Act → List Op → List Op
ops_with (Some a) ops = ops ++ op_of a ∷ []
ops_with None ops = front ops

-- the ends that a transaction holds once it does this too
abbrev pub sending_with : Job → List ℕ → List ℕ
sending_with (Sending m) ns = add_number m.sender ns
sending_with (Ending s) ns = add_number s ns
sending_with (Marking client tag) ns = add_number (client_group client) ns
sending_with _ ns = ns

abbrev pub receiving_with : Job → List ℕ → List ℕ
receiving_with (Taking s) ns = add_number s ns
receiving_with _ ns = ns

abbrev pub op_in : Option Act → Option Op
op_in None = None
op_in (Some a) = Some (op_of a)

-- the groups that are free for the transaction and hold a message for it
abbrev pub receivable : Size → Ledger → Txn → List ℕ
receivable z l t = filter (gives l t (found t l.open_ones)) (below z.senders)

-- the one that is asked for, if it is among them; else the first
abbrev pub pick : ℕ → List ℕ → Option ℕ
pick s ns = cond (has_number s ns) (Some s) (first ns)

abbrev pub group_of : Option (ℕ × ℕ) → Option ℕ
group_of None = None
group_of (Some given) = Some given.0
