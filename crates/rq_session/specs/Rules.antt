-- What a session does next: for a request by the transaction that it has, for a reply by the call that it asked for
-- last.
use Rattle.std.specs.Prelude.{ℕ, Bool, false, ◌==◌, ◌&&◌, if◌then◌else◌, Option, Some, None, option_map}
use Rattle.rq_engine.specs.Says.{call_of}
use Rattle.rq_model.specs.History.{Call}
use Rattle.rq_model.specs.History.Call.{Start_send, Start_receive, Start_receive_from, Start_close, Start_mark}
use Rattle.rq_model.specs.Vocabulary.{same_txn}
use Rattle.rq_model.specs.declared.txn.Txn.{Txn}
use Rattle.rq_model.specs.declared.txn.Sub.{Sub}
use Rattle.rq_model.specs.declared.refusal.Refusal.{Refusal}
use Rattle.rq_model.specs.declared.refusal.Refusal.TheVariants.{NoMemory, Failed, UnknownTransaction, Latched, PoolFull, TooManyTransactions}
use Rattle.rq_wire.specs.declared.request.Request.{Request}
use Rattle.rq_wire.specs.declared.request.Request.TheVariants as requests
use Rattle.rq_wire.specs.declared.answers.Answer.{Answer}
use Rattle.rq_wire.specs.declared.answers.Answer.TheVariants as answers
use Rattle.rq_engine.specs.declared.event.CommitNo.{CommitNo}
use Rattle.rq_engine.specs.declared.event.Event.{Event}
use Rattle.rq_engine.specs.declared.event.Event.TheVariants as events
use Rattle.rq_engine.specs.declared.event.Progress.TheVariants as progress
use Rattle.rq_engine.specs.declared.event.Reply.{Reply}
use Rattle.rq_engine.specs.declared.event.Reply.TheVariants as replies
use Rattle.rq_level.specs.declared.writes.Outcome.TheVariants as outcomes
use Rattle.rq_session.specs.declared.actions.Action.{Action}
use Rattle.rq_session.specs.declared.actions.Action.TheVariants.{Do, Again, Await, Answer as Answers, End}
use Rattle.rq_session.specs.declared.stage.OwnTxn.{OwnTxn}
use Rattle.rq_session.specs.declared.stage.OwnTxn.TheVariants.{Free, Open, Left, Aborting, Undoing}
use Rattle.rq_session.specs.declared.stage.Purpose.{Purpose}
use Rattle.rq_session.specs.declared.stage.Purpose.TheVariants as purposes
use Rattle.rq_session.specs.declared.stage.Stage.{Stage}
use Rattle.rq_session.specs.declared.stage.Stage.TheVariants as stages
use Rattle.rq_session.specs.declared.stage.Next.{Next}
use Rattle.rq_session.specs.Stages.{txn_held}

abbrev pub next : Action → Stage → Next
next action stage = record { action = action; stage = stage }

-- an answer, with this transaction kept
abbrev pub answered : Answer → OwnTxn → Next
answered answer h = next (Answers answer) (stages.Rest h)

abbrev pub ended : Next
ended = next End stages.Ended

-- ---- aborts

-- how an abort begins, or goes on
abbrev pub abort : OwnTxn → Next
abort Free = ended
abort (Open txn) = next (Do (events.StartAbort txn)) (stages.StartAbort txn)
abort (Left sub) = next (Do (events.Step sub)) (stages.Step sub purposes.Clearing)
abort (Aborting txn) = next (Do (events.UndoNext txn)) (stages.UndoNext txn)
abort (Undoing sub) = next (Do (events.Step sub)) (stages.Step sub purposes.Undoing)

-- an abort that was refused is answered so, and may go on at a further abort; where the connection is lost, the
-- session ends
abbrev pub abort_refused : Bool → Refusal → OwnTxn → Next
abort_refused lost refusal h = if lost then ended else answered (answers.Refused refusal) h

-- ---- replies

abbrev pub after_begin : Reply → Next
after_begin (replies.Begun txn) = answered (answers.Begun txn) (Open txn)
after_begin (replies.Refused refusal) = answered (answers.Refused refusal) Free
after_begin _ = ended

abbrev pub after_last_tag : OwnTxn → Reply → Next
after_last_tag h (replies.LastTag last) = answered (answers.LastTag last.sent last.tag) h
after_last_tag h (replies.Refused refusal) = answered (answers.Refused refusal) h
after_last_tag h _ = ended

abbrev pub after_client_tag : OwnTxn → Reply → Next
after_client_tag h (replies.ClientTag last) = answered (answers.ClientTag last.count last.tag) h
after_client_tag h (replies.Refused refusal) = answered (answers.Refused refusal) h
after_client_tag h _ = ended

-- an operation of the session's own transaction is stepped
abbrev pub started : Option Txn → ℕ → Purpose → Next
started None number purpose = ended
started (Some txn) number purpose =
    let sub : Sub = record { txn = txn; number = number } in
    next (Do (events.Step sub)) (stages.Step sub purpose)

abbrev pub after_start : OwnTxn → Reply → Next
after_start h (replies.Started sub) = started (txn_held h) sub.number purposes.Request
after_start h replies.NoMessage = answered answers.NoMessage h
after_start h (replies.Refused refusal) = answered (answers.Refused refusal) h
after_start h _ = ended

-- an operation under way was refused a step or its finish; the call is made again where memory was wanting
abbrev pub work_refused : Bool → Sub → Purpose → Refusal → Next → Next
work_refused lost sub purpose NoMemory again = again
work_refused lost sub purposes.Request refusal again = answered (answers.Refused refusal) (Left sub)
work_refused lost sub purposes.Clearing refusal again = abort_refused lost refusal (Left sub)
work_refused lost sub purposes.Undoing refusal again = abort_refused lost refusal (Undoing sub)

abbrev pub after_step : Bool → Sub → Purpose → Reply → Next
after_step lost sub purpose (replies.Stepped (progress.Done lsn)) = next (Do (events.Step sub)) (stages.Step sub purpose)
after_step lost sub purpose (replies.Stepped progress.Ready) = next (Do (events.Finish sub)) (stages.Finish sub purpose)
after_step lost sub purpose (replies.Refused refusal) = work_refused lost sub purpose refusal (next (Again (events.Step
    sub)) (stages.Step sub purpose))
after_step lost sub purpose _ = ended

-- an operation that a request asked for is done
abbrev pub done : Sub → Purpose → Answer → Next
done sub purposes.Request answer = answered answer (Open sub.txn)
done sub purposes.Clearing answer = abort (Open sub.txn)
done sub purposes.Undoing answer = ended

abbrev pub undone : Sub → Purpose → Next
undone sub purposes.Undoing = abort (Aborting sub.txn)
undone sub _ = ended

abbrev pub after_finish : Bool → Sub → Purpose → Reply → Next
after_finish lost sub purpose (replies.Finished outcomes.Sent) = done sub purpose answers.Sent
after_finish lost sub purpose (replies.Finished (outcomes.Message message)) = done sub purpose (answers.Message message)
after_finish lost sub purpose (replies.Finished outcomes.Closed) = done sub purpose answers.Closed
after_finish lost sub purpose (replies.Finished outcomes.Marked) = done sub purpose answers.Marked
after_finish lost sub purpose (replies.Finished outcomes.Undone) = undone sub purpose
after_finish lost sub purpose (replies.Refused refusal) = work_refused lost sub purpose refusal (next (Again
    (events.Finish sub)) (stages.Finish sub purpose))
after_finish lost sub purpose _ = ended

-- the commit is that of this transaction
abbrev pub is_commit_of : Option Txn → CommitNo → Bool
is_commit_of None commit = false
is_commit_of (Some txn) commit = same_txn txn commit.txn

-- the session waits for the receipt of its own commit, and for no other
abbrev pub after_commit : OwnTxn → Reply → Next
after_commit h (replies.Committed commit) = if is_commit_of (txn_held h) commit then next (Await commit) (stages.Await commit)
    else ended
after_commit h (replies.Refused refusal) = answered (answers.Refused refusal) h
after_commit h _ = ended

abbrev pub is_commit : CommitNo → CommitNo → Bool
is_commit a b = (a.lsn == b.lsn) && same_txn a.txn b.txn

-- the receipt of a commit, or the store's failure, ends the wait
abbrev pub after_await : CommitNo → Reply → Next
after_await commit (replies.Acknowledged None) = next (Await commit) (stages.Await commit)
after_await commit (replies.Refused Failed) = answered (answers.Refused Failed) Free
after_await commit (replies.Refused _) = next (Await commit) (stages.Await commit)
after_await commit (replies.Acknowledged (Some receipt)) = if is_commit receipt.number commit then answered (answers.Committed commit.lsn) Free
    else next (Await commit) (stages.Await commit)
after_await commit _ = ended

abbrev pub after_start_abort : Bool → Txn → Reply → Next
after_start_abort lost txn replies.Aborting = abort (Aborting txn)
after_start_abort lost txn (replies.Refused NoMemory) = next (Again (events.StartAbort txn)) (stages.StartAbort txn)
after_start_abort lost txn (replies.Refused refusal) = abort_refused lost refusal (Open txn)
after_start_abort lost txn _ = ended

-- an undo that was refused for want of memory, latches or frames is tried again
abbrev pub undo_refused : Bool → Txn → Refusal → Next
undo_refused lost txn NoMemory = next (Again (events.UndoNext txn)) (stages.UndoNext txn)
undo_refused lost txn Latched = next (Again (events.UndoNext txn)) (stages.UndoNext txn)
undo_refused lost txn PoolFull = next (Again (events.UndoNext txn)) (stages.UndoNext txn)
undo_refused lost txn refusal = abort_refused lost refusal (Aborting txn)

abbrev pub after_undo_next : Bool → Txn → Reply → Next
after_undo_next lost txn (replies.Started sub) = started (Some txn) sub.number purposes.Undoing
after_undo_next lost txn replies.NothingLeft = next (Do (events.EndAbort txn)) (stages.EndAbort txn)
after_undo_next lost txn (replies.Refused refusal) = undo_refused lost txn refusal
after_undo_next lost txn _ = ended

abbrev pub after_end_abort : Bool → Txn → Reply → Next
after_end_abort lost txn replies.Aborted = if lost then ended else answered answers.Aborted Free
after_end_abort lost txn (replies.Refused NoMemory) = next (Again (events.EndAbort txn)) (stages.EndAbort txn)
after_end_abort lost txn (replies.Refused refusal) = abort_refused lost refusal (Aborting txn)
after_end_abort lost txn _ = ended

-- a reply when nothing was asked ends the session, as does one that no call of that kind has
abbrev pub after_reply : Bool → Stage → Reply → Next
after_reply lost (stages.Rest h) what = ended
after_reply lost stages.Begin what = after_begin what
after_reply lost (stages.LastTag h) what = after_last_tag h what
after_reply lost (stages.ClientTag h) what = after_client_tag h what
after_reply lost (stages.Start h) what = after_start h what
after_reply lost (stages.Step sub purpose) what = after_step lost sub purpose what
after_reply lost (stages.Finish sub purpose) what = after_finish lost sub purpose what
after_reply lost (stages.Commit h) what = after_commit h what
after_reply lost (stages.Await commit) what = after_await commit what
after_reply lost (stages.StartAbort txn) what = after_start_abort lost txn what
after_reply lost (stages.UndoNext txn) what = after_undo_next lost txn what
after_reply lost (stages.EndAbort txn) what = after_end_abort lost txn what
after_reply lost stages.Ended what = ended

-- ---- a connection that is lost

-- what a request asked for is finished, for the abort
abbrev pub cleared : Purpose → Purpose
cleared purposes.Request = purposes.Clearing
cleared purpose = purpose

-- the call that was asked for last has not been made
abbrev pub after_loss : Stage → Next
after_loss (stages.Rest h) = abort h
after_loss stages.Begin = ended
after_loss (stages.LastTag h) = abort h
after_loss (stages.ClientTag h) = abort h
after_loss (stages.Start h) = abort h
after_loss (stages.Step sub purpose) = next (Do (events.Step sub)) (stages.Step sub (cleared purpose))
after_loss (stages.Finish sub purpose) = next (Do (events.Finish sub)) (stages.Finish sub (cleared purpose))
after_loss (stages.Commit h) = abort h
after_loss (stages.Await commit) = ended
after_loss (stages.StartAbort txn) = next (Do (events.StartAbort txn)) (stages.StartAbort txn)
after_loss (stages.UndoNext txn) = next (Do (events.UndoNext txn)) (stages.UndoNext txn)
after_loss (stages.EndAbort txn) = next (Do (events.EndAbort txn)) (stages.EndAbort txn)
after_loss stages.Ended = ended

-- ---- requests

-- What a request asks for first: this call, or this answer with no call, or neither. A send's body is told as bytes.
pub record First : Type 0 where
  pub call : Option Call
  pub answer : Option Answer
  pub stage : Stage

-- the call, and the answer, that is to be made
abbrev pub call_in : Action → Option Event
call_in (Do event) = Some event
call_in _ = None

abbrev pub answer_in : Action → Option Answer
answer_in (Answers answer) = Some answer
answer_in _ = None

abbrev pub first_of : Next → First
first_of n = record { call = option_map call_of (call_in n.action); answer = answer_in n.action; stage = n.stage }

-- what needs a transaction is refused without one
abbrev pub start : OwnTxn → Option Txn → (Txn → Call) → First
start h None call = first_of (answered (answers.Refused UnknownTransaction) h)
start h (Some txn) call = record { call = Some (call txn); answer = None; stage = stages.Start h }

abbrev pub begin : OwnTxn → Next
begin Free = next (Do events.Begin) stages.Begin
begin h = answered (answers.Refused TooManyTransactions) h

abbrev pub commit : OwnTxn → Option Txn → Next
commit h None = answered (answers.Refused UnknownTransaction) h
commit h (Some txn) = next (Do (events.Commit txn)) (stages.Commit h)

abbrev pub abort_request : OwnTxn → Option Txn → Next
abort_request h None = answered (answers.Refused UnknownTransaction) h
abort_request h (Some txn) = abort h

abbrev pub after_request : OwnTxn → Request → First
after_request h requests.Begin = first_of (begin h)
after_request h (requests.Send sender tag body) =
    start h (txn_held h) (λ txn. Start_send txn (record { sender = sender; tag = tag; body = body }))
after_request h requests.Receive = start h (txn_held h) Start_receive
after_request h (requests.ReceiveFrom sender) = start h (txn_held h) (λ txn. Start_receive_from txn sender)
after_request h (requests.Close sender) = start h (txn_held h) (λ txn. Start_close txn sender)
after_request h requests.Commit = first_of (commit h (txn_held h))
after_request h requests.Abort = first_of (abort_request h (txn_held h))
after_request h (requests.LastTag sender) = first_of (next (Do (events.LastTag sender)) (stages.LastTag h))
after_request h (requests.Mark client tag) = start h (txn_held h) (λ txn. Start_mark txn client tag)
after_request h (requests.ClientTag client) = first_of (next (Do (events.ClientTag client)) (stages.ClientTag h))

-- a request is taken at rest alone
abbrev pub taken : Stage → Request → First
taken (stages.Rest h) request = after_request h request
taken stage request = first_of (next End stage)
