-- What a call makes of the lists of an open store, sound or not. Of one that may read pages it is told over a device that is
-- honest, and what begins over any.
use Rattle.std.specs.Prelude.{◌≡◌, ℕ, ◌+◌, ◌-◌, ◌<◌, ◌≤◌, true, not, nat_eq, nat_lt, ◌&&◌, List, ◌∷◌, length, Option, Some, None}
use Rattle.std.specs.List.{slice_get, sum_by}
use Rattle.rq_model.specs.declared.record.Deed.{Deed}
use Rattle.rq_model.specs.declared.record.Record.TheVariants.{Commit}
use Rattle.rq_model.specs.declared.txn.Sub.{Sub}
use Rattle.rq_model.specs.declared.txn.Txn.{Txn}
use Rattle.rq_model.specs.History.{Call}
use Rattle.rq_model.specs.History.Call.{Start_send, Start_close, Start_mark}
use Rattle.rq_model.specs.Replay.{receipt}
use Rattle.rq_model.specs.Tests.{NoneHolds}
use Rattle.rq_model.specs.Vocabulary.{message_of}
use Rattle.rq_page.specs.Sizes.{client_count, sender_count}
use Rattle.rq_views.specs.Stored.{slots_in}
use Rattle.rq_level.specs.declared.writes.SlotWrite.{SlotWrite}
use Rattle.rq_level.specs.Ops.Doing.{Send, Receive, Close}
use Rattle.rq_groups.specs.declared.End.{End}
use Rattle.rq_groups.specs.declared.End.TheVariants.{Sending, Receiving, Marking}
use Rattle.rq_groups.specs.Ends.{is_free_for, released}
use Rattle.rq_groups.specs.Sides.{with_end}
use Rattle.rq_groups.specs.declared.sent.LastTag.{LastTag}
use Rattle.rq_groups.specs.Sent.{sent_count, sent_tag}
use Rattle.rq_groups.specs.Waiting.{waits}
use Rattle.rq_txn.specs.declared.Finished.{Finished}
use Rattle.rq_txn.specs.declared.Aim.TheVariants.{Doing}
use Rattle.rq_txn.specs.Rows.{Under, found_row, finished_of, fresh_row, change_row, row_started, row_finished, without_row}
use Rattle.rq_planner.specs.Answered.{IsDeedFor}
use Rattle.rq_planner.specs.Asked.{Task}
use Rattle.rq_planner.specs.Asked.Task.{Chain, Tag}
use Rattle.rq_store.specs.State.{State}
use Rattle.rq_store.specs.Plans.{IsSendPlan, IsTakePlan, WaitsFor, NoneWaits}
use Rattle.rq_store.specs.Settled.{takes_one}
use Rattle.rq_store.specs.Steps.{op_end, gave_done}
use Rattle.rq_sound.specs.Calls.{checkpointed, migrated}
use Rattle.rq_engine.specs.Aborts.{IsAborted, IsAborting, IsUndoFinished, UndoSays}
use Rattle.rq_engine.specs.Closes.{IsClosePlan}
use Rattle.rq_engine.specs.KeptUp.{with_images_of}
use Rattle.rq_engine.specs.Marks.{IsMarkPlan}
use Rattle.rq_engine.specs.Answers.{IsUnderWay, IsMade, HasNothingUnderWay}
use Rattle.rq_engine.specs.Moves.{with_sends, with_tags, without_taken}
use Rattle.rq_engine.specs.Says.{outcome_of, receipt_of}
use Rattle.rq_engine.specs.Tested.{tested}
use Rattle.rq_engine.specs.declared.event.ClientTag.{ClientTag}
use Rattle.rq_engine.specs.declared.event.CommitNo.{CommitNo}
use Rattle.rq_engine.specs.declared.event.Event.{Event}
use Rattle.rq_engine.specs.declared.event.Event.TheVariants as event
use Rattle.rq_level.specs.declared.writes.Outcome.{Outcome}
use Rattle.rq_level.specs.declared.writes.Outcome.TheVariants as outcome
use Rattle.rq_engine.specs.declared.event.Progress.{Progress}
use Rattle.rq_engine.specs.declared.event.Progress.TheVariants as progress
use Rattle.rq_engine.specs.declared.event.Receipt.{Receipt}
use Rattle.rq_engine.specs.declared.event.Reply.{Reply}
use Rattle.rq_engine.specs.declared.event.Reply.TheVariants as reply

-- A transaction was begun: it is the next of this incarnation, and its row is the newest.
pub record IsBegun (old : State) (t : Txn) (new : State) : Type 0 where
  pub number : t ≡ record { incarnation = old.incarnation; count = old.begins + 1 }
  pub lists : new ≡ record old { rows = fresh_row t ∷ old.rows; begins = old.begins + 1 }

-- An operation was started by a plan. It is the next of its transaction, which had none under way and now holds the end of the
-- group.
pub record IsStarted (old : State) (sub : Sub) (end : End) (cells : ℕ) (IsPlan : Under → Type 0) (new : State)
    : Type 0 where
  pub under : Under
  pub number : under.number ≡ sub.number
  pub ready : HasNothingUnderWay old sub.txn sub.number
  pub plan : IsPlan under
  pub lists : new ≡ record old {
    rows = change_row sub.txn (row_started under) old.rows;
    ends = with_end sub.txn end old.ends;
    cells_in_use = cells;
  }

-- a send was started, which will use a cell more
abbrev pub IsSendStarted : State → Txn → ℕ → ℕ → List ℕ → Sub → State → Type 0
IsSendStarted old t sender tag body sub new =
    (sub.txn ≡ t) × IsStarted old sub (Sending sender) (old.cells_in_use + 1)
    (λ u. IsSendPlan old.sizes (slots_in old.sizes old.images) u sender tag body) new

-- a receive of a message that waits of this sender was started
abbrev pub IsTakeStarted : State → Txn → ℕ → Sub → State → Type 0
IsTakeStarted old t sender sub new =
    (sub.txn ≡ t) × WaitsFor old t sender × IsStarted old sub (Receiving sender) old.cells_in_use
    (λ u. IsTakePlan old.sizes (slots_in old.sizes old.images) u sender) new

-- a close of this group was started
abbrev pub IsCloseStarted : State → Txn → ℕ → Sub → State → Type 0
IsCloseStarted old t sender sub new =
    (sub.txn ≡ t) × IsStarted old sub (Sending sender) old.cells_in_use
    (λ u. IsClosePlan old.sizes (slots_in old.sizes old.images) u sender) new

-- a mark of this tag for this client was started
abbrev pub IsMarkStarted : State → Txn → ℕ → ℕ → Sub → State → Type 0
IsMarkStarted old t client tag sub new =
    (sub.txn ≡ t) × IsStarted old sub (Marking client) old.cells_in_use
    (λ u. IsMarkPlan old.sizes (slots_in old.sizes old.images) u client tag) new

-- ---- what has begun, whatever the device gave of pages that were read; no test of it holds

-- the operation is to do what was asked, and nothing of it is made
abbrev pub DoesTask : Task → Under → Type 0
DoesTask task u = (u.made ≡ 0) × (deed : Deed) × (u.aim ≡ Doing deed) × IsDeedFor task deed

abbrev pub IsSendBegun : State → Txn → ℕ → ℕ → List ℕ → Sub → State → Type 0
IsSendBegun old t sender tag body sub new =
    (sub.txn ≡ t) × NoneHolds (tested old (Start_send t (message_of sender tag body)))
    × IsStarted old sub (Sending sender) (old.cells_in_use + 1) (DoesTask (Chain (Send sender tag body))) (with_images_of old new)

abbrev pub IsTakeBegun : State → Txn → ℕ → Call → Sub → State → Type 0
IsTakeBegun old t sender c sub new =
    (sub.txn ≡ t) × NoneHolds (tested old c) × WaitsFor old t sender
    × IsStarted old sub (Receiving sender) old.cells_in_use (DoesTask (Chain (Receive sender))) (with_images_of old new)

abbrev pub IsCloseBegun : State → Txn → ℕ → Sub → State → Type 0
IsCloseBegun old t sender sub new =
    (sub.txn ≡ t) × NoneHolds (tested old (Start_close t sender))
    × IsStarted old sub (Sending sender) old.cells_in_use (DoesTask (Chain (Close sender))) (with_images_of old new)

abbrev pub IsMarkBegun : State → Txn → ℕ → ℕ → Sub → State → Type 0
IsMarkBegun old t client tag sub new =
    (sub.txn ≡ t) × NoneHolds (tested old (Start_mark t client tag))
    × IsStarted old sub (Marking client) old.cells_in_use (DoesTask (Tag (record { client = client; tag = tag })))
    (with_images_of old new)

-- ---- what each call says

-- a receive was started from some group, or the transaction is open with nothing under way and none waits
abbrev pub TakeSays : State → Txn → Option Sub → State → Type 0
TakeSays old t (Some sub) new = (sender : ℕ) × IsTakeStarted old t sender sub new
TakeSays old t None new = ((n : ℕ) × HasNothingUnderWay old t n) × NoneWaits old t × (new ≡ old)

-- a receive was started from this group, or the transaction is open with nothing under way and nothing waits there
abbrev pub TakeFromSays : State → Txn → ℕ → Option Sub → State → Type 0
TakeFromSays old t sender (Some sub) new = IsTakeStarted old t sender sub new
TakeFromSays old t sender None new =
    ((n : ℕ) × HasNothingUnderWay old t n) × (sender < sender_count old.sizes) × (is_free_for t sender old.ends.receiving ≡ true)
    × (waits old.waiting sender ≡ 0)
    × (new ≡ old)

-- the next write of the operation was made, with its record, or none is left
abbrev pub StepSays : State → Sub → Progress → State → Type 0
StepSays old sub (progress.Done lsn) new =
    (lsn ≡ length old.records + 1) × (w : SlotWrite) × IsUnderWay old sub (λ r u. slice_get u.writes u.made ≡ Some w)
    × IsMade old sub w new
StepSays old sub progress.Ready new = IsUnderWay old sub (λ r u. slice_get u.writes u.made ≡ None) × (new ≡ old)

-- An operation whose writes are made was ended by the record that says what it did.
pub record IsFinished (old : State) (sub : Sub) (o : Outcome) (new : State) : Type 0 where
  pub deed : Deed
  pub going : IsUnderWay old sub (λ r u. (length u.writes ≤ u.made) × (u.aim ≡ Doing deed))
  pub outcome : outcome_of o ≡ gave_done deed
  pub lists : new ≡ record old {
    rows = change_row sub.txn (row_finished (record { lsn = length old.records + 1; number = sub.number; deed = deed })) old.rows;
    records = op_end sub.txn sub.number deed ∷ old.records;
    waiting = without_taken deed old.waiting;
  }

-- an operation was ended: an inverse, where it says that something is undone, else a deed
abbrev pub FinishSays : State → Sub → Outcome → State → Type 0
FinishSays old sub outcome.Undone new = IsUndoFinished old sub new
FinishSays old sub o new = IsFinished old sub o new

-- the operations that a transaction finished
abbrev pub done_by : State → Txn → List Finished
done_by s t = finished_of (found_row t s.rows)

-- A transaction with nothing under way was committed. Its record is the newest, and its row and its ends are gone. What it sent
-- waits. What it sent or marked is counted, the last with its tag. The cells of what it took are free.
pub record IsCommitted (old : State) (t : Txn) (number : CommitNo) (new : State) : Type 0 where
  pub txn : number.txn ≡ t
  pub lsn : number.lsn ≡ length old.records + 1
  pub ready : (n : ℕ) × HasNothingUnderWay old t n
  pub lists : new ≡ record old {
    rows = without_row t old.rows;
    ends = record { sending = released t old.ends.sending; receiving = released t old.ends.receiving };
    records = Commit t ∷ old.records;
    cells_in_use = old.cells_in_use - sum_by takes_one (done_by old t);
    waiting = with_sends (done_by old t) old.waiting;
    sent = with_tags (sender_count old.sizes) (done_by old t) old.sent;
  }

-- a receipt is given where the commit is of this incarnation and its record is forced
abbrev pub AcknowledgedSays : State → CommitNo → Option Receipt → State → Type 0
AcknowledgedSays old number given new =
    (receipt_of given ≡ receipt (nat_eq number.txn.incarnation old.incarnation && not (nat_lt old.forced number.lsn))
    number.txn number.lsn) × (new ≡ old)

-- the sender is one of the store; how many messages of it are committed, and the tag of the last one
pub record LastTagSays (old : State) (sender : ℕ) (last : LastTag) (new : State) : Type 0 where
  pub of_the_store : sender < sender_count old.sizes
  pub sent : last.sent ≡ sent_count old.sent sender
  pub tag : last.tag ≡ sent_tag old.sent sender
  pub lists : new ≡ old

-- the client is one of the store; how many of its marks are committed, and the tag of the last one
pub record ClientTagSays (old : State) (client : ℕ) (last : ClientTag) (new : State) : Type 0 where
  pub of_the_store : client < client_count old.sizes
  pub count : last.count ≡ sent_count old.sent (sender_count old.sizes + client)
  pub tag : last.tag ≡ sent_tag old.sent (sender_count old.sizes + client)
  pub lists : new ≡ old

-- what each reply says that its event made of the lists; of a refusal another clause tells
abbrev pub AfterBegin : State → Reply → State → Type 0
AfterBegin old (reply.Begun t) new = IsBegun old t new
AfterBegin old (reply.Refused r) new = Unit {0}
AfterBegin old _ new = ⊥

abbrev pub AfterStartSend : State → Txn → ℕ → ℕ → List ℕ → Reply → State → Type 0
AfterStartSend old t sender tag body (reply.Started sub) new = IsSendStarted old t sender tag body sub new
AfterStartSend old t sender tag body (reply.Refused r) new = Unit {0}
AfterStartSend old t sender tag body _ new = ⊥

abbrev pub AfterStartReceive : State → Txn → Reply → State → Type 0
AfterStartReceive old t (reply.Started sub) new = TakeSays old t (Some sub) new
AfterStartReceive old t reply.NoMessage new = TakeSays old t None new
AfterStartReceive old t (reply.Refused r) new = Unit {0}
AfterStartReceive old t _ new = ⊥

abbrev pub AfterStartReceiveFrom : State → Txn → ℕ → Reply → State → Type 0
AfterStartReceiveFrom old t sender (reply.Started sub) new = TakeFromSays old t sender (Some sub) new
AfterStartReceiveFrom old t sender reply.NoMessage new = TakeFromSays old t sender None new
AfterStartReceiveFrom old t sender (reply.Refused r) new = Unit {0}
AfterStartReceiveFrom old t sender _ new = ⊥

abbrev pub AfterStartClose : State → Txn → ℕ → Reply → State → Type 0
AfterStartClose old t sender (reply.Started sub) new = IsCloseStarted old t sender sub new
AfterStartClose old t sender (reply.Refused r) new = Unit {0}
AfterStartClose old t sender _ new = ⊥

abbrev pub AfterStartMark : State → Txn → ℕ → ℕ → Reply → State → Type 0
AfterStartMark old t client tag (reply.Started sub) new = IsMarkStarted old t client tag sub new
AfterStartMark old t client tag (reply.Refused r) new = Unit {0}
AfterStartMark old t client tag _ new = ⊥

abbrev pub AfterStep : State → Sub → Reply → State → Type 0
AfterStep old sub (reply.Stepped p) new = StepSays old sub p new
AfterStep old sub (reply.Refused r) new = Unit {0}
AfterStep old sub _ new = ⊥

abbrev pub AfterFinish : State → Sub → Reply → State → Type 0
AfterFinish old sub (reply.Finished o) new = FinishSays old sub o new
AfterFinish old sub (reply.Refused r) new = Unit {0}
AfterFinish old sub _ new = ⊥

abbrev pub AfterStartAbort : State → Txn → Reply → State → Type 0
AfterStartAbort old t reply.Aborting new = IsAborting old t new
AfterStartAbort old t (reply.Refused r) new = Unit {0}
AfterStartAbort old t _ new = ⊥

abbrev pub AfterUndoNext : State → Txn → Reply → State → Type 0
AfterUndoNext old t (reply.Started sub) new = UndoSays old t (Some sub) new
AfterUndoNext old t reply.NothingLeft new = UndoSays old t None new
AfterUndoNext old t (reply.Refused r) new = Unit {0}
AfterUndoNext old t _ new = ⊥

abbrev pub AfterEndAbort : State → Txn → Reply → State → Type 0
AfterEndAbort old t reply.Aborted new = IsAborted old t new
AfterEndAbort old t (reply.Refused r) new = Unit {0}
AfterEndAbort old t _ new = ⊥

abbrev pub AfterCommit : State → Txn → Reply → State → Type 0
AfterCommit old t (reply.Committed number) new = IsCommitted old t number new
AfterCommit old t (reply.Refused r) new = Unit {0}
AfterCommit old t _ new = ⊥

abbrev pub AfterAcknowledged : State → CommitNo → Reply → State → Type 0
AfterAcknowledged old number (reply.Acknowledged given) new = AcknowledgedSays old number given new
AfterAcknowledged old number (reply.Refused r) new = Unit {0}
AfterAcknowledged old number _ new = ⊥

abbrev pub AfterHandOver : State → Reply → State → Type 0
AfterHandOver old reply.HandedOver new = new ≡ old
AfterHandOver old (reply.Refused r) new = Unit {0}
AfterHandOver old _ new = ⊥

abbrev pub AfterForce : State → Reply → State → Type 0
AfterForce old (reply.Forced lsn) new = (lsn ≡ length old.records) × (new ≡ record old { forced = length old.records })
AfterForce old (reply.Refused r) new = Unit {0}
AfterForce old _ new = ⊥

abbrev pub AfterCheckpoint : State → Reply → State → Type 0
AfterCheckpoint old (reply.Checkpointed lsn) new = (lsn ≡ length old.records + 1) × (new ≡ checkpointed old)
AfterCheckpoint old (reply.Refused r) new = Unit {0}
AfterCheckpoint old _ new = ⊥

abbrev pub AfterMigrate : State → Reply → State → Type 0
AfterMigrate old (reply.Migrated lsn) new = (lsn ≡ length old.records + 1) × (new ≡ migrated old)
AfterMigrate old (reply.Refused r) new = Unit {0}
AfterMigrate old _ new = ⊥

abbrev pub AfterWritePage : State → Reply → State → Type 0
AfterWritePage old (reply.Written w) new = new ≡ old
AfterWritePage old (reply.Refused r) new = Unit {0}
AfterWritePage old _ new = ⊥

abbrev pub AfterLastTag : State → ℕ → Reply → State → Type 0
AfterLastTag old sender (reply.LastTag last) new = LastTagSays old sender last new
AfterLastTag old sender (reply.Refused r) new = Unit {0}
AfterLastTag old sender _ new = ⊥

abbrev pub AfterClientTag : State → ℕ → Reply → State → Type 0
AfterClientTag old client (reply.ClientTag last) new = ClientTagSays old client last new
AfterClientTag old client (reply.Refused r) new = Unit {0}
AfterClientTag old client _ new = ⊥

abbrev pub AfterContent : State → Reply → State → Type 0
AfterContent old (reply.Content groups) new = new ≡ old
AfterContent old (reply.Refused r) new = Unit {0}
AfterContent old _ new = ⊥

-- What an event and its reply say of the lists.
abbrev pub ListsSay : State → Event → Reply → State → Type 0
ListsSay old event.Begin r new = AfterBegin old r new
ListsSay old (event.StartSend t sender tag body) r new = AfterStartSend old t sender tag body.items r new
ListsSay old (event.StartReceive t) r new = AfterStartReceive old t r new
ListsSay old (event.StartReceiveFrom t sender) r new = AfterStartReceiveFrom old t sender r new
ListsSay old (event.StartClose t sender) r new = AfterStartClose old t sender r new
ListsSay old (event.StartMark t client tag) r new = AfterStartMark old t client tag r new
ListsSay old (event.Step sub) r new = AfterStep old sub r new
ListsSay old (event.Finish sub) r new = AfterFinish old sub r new
ListsSay old (event.Commit t) r new = AfterCommit old t r new
ListsSay old (event.StartAbort t) r new = AfterStartAbort old t r new
ListsSay old (event.UndoNext t) r new = AfterUndoNext old t r new
ListsSay old (event.EndAbort t) r new = AfterEndAbort old t r new
ListsSay old (event.Acknowledged number) r new = AfterAcknowledged old number r new
ListsSay old event.HandOver r new = AfterHandOver old r new
ListsSay old event.Force r new = AfterForce old r new
ListsSay old event.Checkpoint r new = AfterCheckpoint old r new
ListsSay old (event.Migrate pages) r new = AfterMigrate old r new
ListsSay old (event.WritePage page) r new = AfterWritePage old r new
ListsSay old (event.LastTag sender) r new = AfterLastTag old sender r new
ListsSay old (event.ClientTag client) r new = AfterClientTag old client r new
ListsSay old event.Content r new = AfterContent old r new
