-- What a session does at a reply: each thing that it may do, with what it was told exactly where it does so.
use Rattle.std.specs.Prelude.{◌≡◌, ◌≢◌, ◌⊎◌, ◌↔◌, ℕ, Bool, true, false, Option, Some, None}
use Rattle.rq_model.specs.declared.txn.Txn.{Txn}
use Rattle.rq_model.specs.declared.txn.Sub.{Sub}
use Rattle.rq_model.specs.declared.refusal.Refusal.{Refusal}
use Rattle.rq_model.specs.declared.refusal.Refusal.TheVariants.{Failed}
use Rattle.rq_wire.specs.declared.answers.Answer.{Answer}
use Rattle.rq_wire.specs.declared.answers.Answer.TheVariants as answers
use Rattle.rq_engine.specs.declared.event.CommitNo.{CommitNo}
use Rattle.rq_engine.specs.declared.event.Event.{Event}
use Rattle.rq_engine.specs.declared.event.Event.TheVariants as events
use Rattle.rq_engine.specs.declared.event.Progress.TheVariants as progress
use Rattle.rq_engine.specs.declared.event.Reply.{Reply}
use Rattle.rq_engine.specs.declared.event.Reply.TheVariants as replies
use Rattle.rq_level.specs.declared.writes.Outcome.TheVariants as outcomes
use Rattle.rq_session.specs.declared.actions.Action.{Action}
use Rattle.rq_session.specs.declared.actions.Action.TheVariants.{Do, Await, Answer as Answers, End}
use Rattle.rq_session.specs.declared.stage.OwnTxn.{OwnTxn}
use Rattle.rq_session.specs.declared.stage.OwnTxn.TheVariants as held
use Rattle.rq_session.specs.declared.stage.Purpose.{Purpose}
use Rattle.rq_session.specs.declared.stage.Purpose.TheVariants as purposes
use Rattle.rq_session.specs.declared.stage.Stage.{Stage}
use Rattle.rq_session.specs.declared.stage.Stage.TheVariants as stages
use Rattle.rq_session.specs.declared.stage.Next.{Next}
use Rattle.rq_session.specs.Stages.{txn_held, own, held_in, is_undoing, IsStageAt}
use Rattle.rq_session.specs.Rules.{First, ended, after_loss, after_request, after_reply}
use Rattle.rq_wire.specs.declared.request.Request.{Request}
use Rattle.rq_session.specs.Laws.{AgainFits, IsAborting, IsReceipt, Lost, MayAgain, Takes, fits, given, owed}

-- ---- answers

-- a refusal is answered where its call is not made again; of a commit that is awaited the store's failure alone is
abbrev pub IsRefusal : Stage → Refusal → Type 0
IsRefusal (stages.Await commit) refusal = refusal ≡ Failed
IsRefusal s refusal = (owed s ≡ 1) × (MayAgain s refusal → ⊥)

-- an operation that a request asked for was to be finished
abbrev pub IsFinish : Stage → Type 0
IsFinish s = (sub : Sub) × (s ≡ stages.Finish sub purposes.Request)

-- what was told is this answer
abbrev pub Tells : Stage → Reply → Answer → Type 0
Tells s what (answers.Begun txn) = (s ≡ stages.Begin) × (what ≡ replies.Begun txn)
Tells s what answers.Sent = IsFinish s × (what ≡ replies.Finished outcomes.Sent)
Tells s what (answers.Message message) = IsFinish s × (what ≡ replies.Finished (outcomes.Message message))
Tells s what answers.NoMessage = ((h : OwnTxn) × (s ≡ stages.Start h)) × (what ≡ replies.NoMessage)
Tells s what answers.Closed = IsFinish s × (what ≡ replies.Finished outcomes.Closed)
Tells s what answers.Marked = IsFinish s × (what ≡ replies.Finished outcomes.Marked)
Tells s what (answers.Committed lsn) = IsReceipt s what lsn
Tells s what answers.Aborted = ((txn : Txn) × (s ≡ stages.EndAbort txn)) × (what ≡ replies.Aborted)
Tells s what (answers.LastTag sent tag) = ((h : OwnTxn) × (s ≡ stages.LastTag h)) × (what ≡ replies.LastTag (record { sent = sent; tag = tag }))
Tells s what (answers.ClientTag count tag) = ((h : OwnTxn) × (s ≡ stages.ClientTag h)) × (what ≡ replies.ClientTag (record { count = count; tag = tag }))
Tells s what (answers.Refused refusal) = (what ≡ replies.Refused refusal) × IsRefusal s refusal

-- it is answered exactly where it was told
abbrev pub AnswersAsTold : Stage → Reply → Action → Type 0
AnswersAsTold s what action = (answer : Answer) → (action ≡ Answers answer) ↔ Tells s what answer

abbrev pub EachAnswer : Type 0
EachAnswer = (s : Stage) (what : Reply) → AnswersAsTold s what (after_reply false s what).action

-- ---- calls

-- the operation that was started is the session's own
abbrev pub numbered : Txn → Sub → Sub
numbered txn sub = record { txn = txn; number = sub.number }

-- a request's operation was started
pub record IsStarted (s : Stage) (what : Reply) (sub : Sub) : Type 0 where
  pub before : OwnTxn
  pub txn : Txn
  pub known : Sub
  pub stage : s ≡ stages.Start before
  pub holds : txn_held before ≡ Some txn
  pub reply : what ≡ replies.Started known
  pub same : sub ≡ numbered txn known

-- the inverse of an earlier operation was started
pub record IsUndoStarted (s : Stage) (what : Reply) (sub : Sub) : Type 0 where
  pub txn : Txn
  pub known : Sub
  pub stage : s ≡ stages.UndoNext txn
  pub reply : what ≡ replies.Started known
  pub same : sub ≡ numbered txn known

abbrev pub IsStep : Stage → Sub → Type 0
IsStep s sub = (purpose : Purpose) × (s ≡ stages.Step sub purpose)

-- a slot was written
abbrev pub IsWritten : Reply → Type 0
IsWritten what = (lsn : ℕ) × (what ≡ replies.Stepped (progress.Done lsn))

-- an operation that a request asked for is finished
abbrev pub IsDone : Reply → Type 0
IsDone (replies.Finished outcomes.Sent) = Unit {0}
IsDone (replies.Finished (outcomes.Message message)) = Unit {0}
IsDone (replies.Finished outcomes.Closed) = Unit {0}
IsDone (replies.Finished outcomes.Marked) = Unit {0}
IsDone _ = ⊥

-- an operation that was left under way is finished, or the abort of a lost connection's request
pub record IsCleared (s : Stage) (what : Reply) (txn : Txn) : Type 0 where
  pub sub : Sub
  pub stage : s ≡ stages.Finish sub purposes.Clearing
  pub reply : IsDone what
  pub same : txn ≡ sub.txn

-- an inverse is finished
pub record IsTakenBack (s : Stage) (what : Reply) (txn : Txn) : Type 0 where
  pub sub : Sub
  pub stage : s ≡ stages.Finish sub purposes.Undoing
  pub reply : what ≡ replies.Finished outcomes.Undone
  pub same : txn ≡ sub.txn

-- what was told asks for this call; each other call is asked for by a request alone
abbrev pub AsksFor : Stage → Reply → Event → Type 0
AsksFor s what (events.Step sub) =
    IsStarted s what sub ⊎ (IsUndoStarted s what sub ⊎ (IsStep s sub × IsWritten what))
AsksFor s what (events.Finish sub) = IsStep s sub × (what ≡ replies.Stepped progress.Ready)
AsksFor s what (events.StartAbort txn) = IsCleared s what txn
AsksFor s what (events.UndoNext txn) = ((s ≡ stages.StartAbort txn) × (what ≡ replies.Aborting)) ⊎ IsTakenBack s what txn
AsksFor s what (events.EndAbort txn) = (s ≡ stages.UndoNext txn) × (what ≡ replies.NothingLeft)
AsksFor s what _ = ⊥

-- it is called exactly where what was told asks for it
abbrev pub AsksAsTold : Stage → Reply → Action → Type 0
AsksAsTold s what action = (ask : Event) → (action ≡ Do ask) ↔ AsksFor s what ask

abbrev pub EachAsk : Type 0
EachAsk = (lost : Bool) (s : Stage) (what : Reply) → AsksAsTold s what (after_reply lost s what).action

-- ---- waits

-- neither the commit's receipt nor the store's failure
abbrev pub IsNoReceipt : CommitNo → Reply → Type 0
IsNoReceipt commit (replies.Acknowledged None) = Unit {0}
IsNoReceipt commit (replies.Acknowledged (Some receipt)) = receipt.number ≢ commit
IsNoReceipt commit (replies.Refused Failed) = ⊥
IsNoReceipt commit (replies.Refused _) = Unit {0}
IsNoReceipt commit _ = ⊥

-- the commit of the session's own transaction was told
pub record IsToldOwn (s : Stage) (what : Reply) (commit : CommitNo) : Type 0 where
  pub before : OwnTxn
  pub stage : s ≡ stages.Commit before
  pub reply : what ≡ replies.Committed commit
  pub same : txn_held before ≡ Some commit.txn

abbrev pub WaitsFor : Stage → Reply → CommitNo → Type 0
WaitsFor s what commit = IsToldOwn s what commit ⊎ ((s ≡ stages.Await commit) × IsNoReceipt commit what)

-- a commit is awaited exactly where it was told, and up to its receipt
abbrev pub WaitsAsTold : Stage → Reply → Action → Type 0
WaitsAsTold s what action = (commit : CommitNo) → (action ≡ Await commit) ↔ WaitsFor s what commit

abbrev pub EachWait : Type 0
EachWait = (lost : Bool) (s : Stage) (what : Reply) → WaitsAsTold s what (after_reply lost s what).action

-- ---- the end

abbrev pub IsEndAbort : Stage → Type 0
IsEndAbort (stages.EndAbort txn) = Unit {0}
IsEndAbort _ = ⊥

-- an abort is done, or was refused where its call is not made again
abbrev pub AbortIsOver : Stage → Reply → Type 0
AbortIsOver s replies.Aborted = IsEndAbort s
AbortIsOver s (replies.Refused refusal) = IsAborting s × (MayAgain s refusal → ⊥)
AbortIsOver s _ = ⊥

-- no call of that kind is told this; or the connection is lost, and the abort is over
abbrev pub MayEnd : Bool → Stage → Reply → Type 0
MayEnd lost s what = (fits s what ≡ false) ⊎ ((lost ≡ true) × AbortIsOver s what)

-- a session ends exactly there
abbrev pub EndsAsTold : Bool → Stage → Reply → Action → Type 0
EndsAsTold lost s what action = (action ≡ End) ↔ MayEnd lost s what

abbrev pub EachEnd : Type 0
EachEnd = (lost : Bool) (s : Stage) (what : Reply) → EndsAsTold lost s what (after_reply lost s what).action

-- ---- the transaction

abbrev pub opened : Option Txn → OwnTxn
opened None = held.Free
opened (Some txn) = held.Open txn

abbrev pub aborting : Option Txn → OwnTxn
aborting None = held.Free
aborting (Some txn) = held.Aborting txn

abbrev pub left : Option Txn → Sub → OwnTxn
left None sub = held.Free
left (Some txn) sub = held.Left (numbered txn sub)

abbrev pub started_in : Stage → Sub → OwnTxn
started_in (stages.UndoNext txn) sub = held.Undoing (numbered txn sub)
started_in s sub = left (own s) sub

-- how the session's transaction stands after what was told; a refusal leaves it as it is
abbrev pub held_after : Stage → Reply → OwnTxn
held_after s (replies.Begun txn) = held.Open txn
held_after s (replies.Started sub) = started_in s sub
held_after s (replies.Finished outcomes.Sent) = opened (own s)
held_after s (replies.Finished (outcomes.Message message)) = opened (own s)
held_after s (replies.Finished outcomes.Closed) = opened (own s)
held_after s (replies.Finished outcomes.Marked) = opened (own s)
held_after s (replies.Finished outcomes.Undone) = aborting (own s)
held_after s replies.Aborting = aborting (own s)
held_after s (replies.Committed commit) = held.Free
held_after s replies.Aborted = held.Free
held_after s _ = held_in s

-- The stage is the one of what is to be done. The transaction stands as it was told where the session has not ended. An abort
-- that is under way, or another request, stays so.
pub record Follows (s : Stage) (what : Reply) (n : Next) : Type 0 where
  pub stage : IsStageAt n.action n.stage
  pub txn : (n ≡ ended) ⊎ (held_in n.stage ≡ held_after s what)
  pub abort : owed n.stage ≡ 1 → is_undoing n.stage ≡ is_undoing s

abbrev pub EachStage : Type 0
EachStage = (lost : Bool) (s : Stage) (what : Reply) → Follows s what (after_reply lost s what)

-- ---- one session

-- all that the laws say of a turn at a reply
pub record KeepsLaws (lost : Bool) (s : Stage) (what : Reply) (n : Next) : Type 0 where
  pub answer : lost ≡ false → AnswersAsTold s what n.action
  pub silent : lost ≡ true → given n.action ≡ 0
  pub ask : AsksAsTold s what n.action
  pub wait : WaitsAsTold s what n.action
  pub over : EndsAsTold lost s what n.action
  pub again : AgainFits s what n
  pub follows : Follows s what n

-- the session keeps them
abbrev pub EachKeeps : Type 0
EachKeeps = (lost : Bool) (s : Stage) (what : Reply) → (lost ≡ true → IsAborting s)
    → KeepsLaws lost s what (after_reply lost s what)

abbrev pub IsSame : Next → Next → Type 0
IsSame n m = (n.action ≡ m.action) × (n.stage ≡ m.stage)

abbrev pub IsSameFirst : First → First → Type 0
IsSameFirst n m = (n.call ≡ m.call) × (n.answer ≡ m.answer) × (n.stage ≡ m.stage)

-- a turn that keeps the laws is that of the session; once the connection is lost, an abort is under way
abbrev pub OneReply : Type 0
OneReply =
    (lost : Bool) (s : Stage) (what : Reply) (n : Next) → (lost ≡ true → IsAborting s) → KeepsLaws lost s what n
    → IsSame n (after_reply lost s what)

abbrev pub OneFirst : Type 0
OneFirst = (h : OwnTxn) (request : Request) (n : First) → Takes h request n → IsSameFirst n (after_request h request)

abbrev pub OneLoss : Type 0
OneLoss = (s : Stage) (n : Next) → Lost s n → IsSame n (after_loss s)
