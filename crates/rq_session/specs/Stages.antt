-- The transaction that a session has, and what each stage of a session is.
use Rattle.std.specs.Prelude.{◌≡◌, Bool, true, false, Option, Some, None}
use Rattle.rq_model.specs.declared.txn.Txn.{Txn}
use Rattle.rq_session.specs.declared.stage.OwnTxn.{OwnTxn}
use Rattle.rq_session.specs.declared.stage.OwnTxn.TheVariants as held
use Rattle.rq_model.specs.History.{Call}
use Rattle.rq_model.specs.History.Call.{Begin, Start_send, Start_receive, Start_receive_from, Start_close, Start_mark, Step, Finish, Commit, Start_abort, Undo_next, End_abort, Last_tag, Client_tag}
use Rattle.rq_engine.specs.Says.{call_of}
use Rattle.rq_session.specs.declared.actions.Action.{Action}
use Rattle.rq_session.specs.declared.actions.Action.TheVariants.{Do, Again, Await, Answer as Answers, End}
use Rattle.rq_session.specs.declared.stage.Purpose.{Purpose}
use Rattle.rq_session.specs.declared.stage.Purpose.TheVariants as purposes
use Rattle.rq_session.specs.declared.stage.Stage.{Stage}
use Rattle.rq_session.specs.declared.stage.Stage.TheVariants as stages

abbrev pub txn_held : OwnTxn → Option Txn
txn_held held.Free = None
txn_held (held.Open txn) = Some txn
txn_held (held.Left sub) = Some sub.txn
txn_held (held.Aborting txn) = Some txn
txn_held (held.Undoing sub) = Some sub.txn

-- the session's own transaction; a commit gives it up
abbrev pub own : Stage → Option Txn
own (stages.Rest h) = txn_held h
own stages.Begin = None
own (stages.LastTag h) = txn_held h
own (stages.ClientTag h) = txn_held h
own (stages.Start h) = txn_held h
own (stages.Step sub purpose) = Some sub.txn
own (stages.Finish sub purpose) = Some sub.txn
own (stages.Commit h) = txn_held h
own (stages.Await commit) = None
own (stages.StartAbort txn) = Some txn
own (stages.UndoNext txn) = Some txn
own (stages.EndAbort txn) = Some txn
own stages.Ended = None

-- how the session's transaction stands before the call that was asked for last
abbrev pub held_in : Stage → OwnTxn
held_in (stages.Rest h) = h
held_in stages.Begin = held.Free
held_in (stages.LastTag h) = h
held_in (stages.ClientTag h) = h
held_in (stages.Start h) = h
held_in (stages.Step sub purposes.Request) = held.Left sub
held_in (stages.Step sub purposes.Clearing) = held.Left sub
held_in (stages.Step sub purposes.Undoing) = held.Undoing sub
held_in (stages.Finish sub purposes.Request) = held.Left sub
held_in (stages.Finish sub purposes.Clearing) = held.Left sub
held_in (stages.Finish sub purposes.Undoing) = held.Undoing sub
held_in (stages.Commit h) = h
held_in (stages.Await commit) = held.Free
held_in (stages.StartAbort txn) = held.Open txn
held_in (stages.UndoNext txn) = held.Aborting txn
held_in (stages.EndAbort txn) = held.Aborting txn
held_in stages.Ended = held.Free

-- an abort is under way
abbrev pub is_undoing : Stage → Bool
is_undoing (stages.Step sub purposes.Clearing) = true
is_undoing (stages.Step sub purposes.Undoing) = true
is_undoing (stages.Finish sub purposes.Clearing) = true
is_undoing (stages.Finish sub purposes.Undoing) = true
is_undoing (stages.StartAbort txn) = true
is_undoing (stages.UndoNext txn) = true
is_undoing (stages.EndAbort txn) = true
is_undoing _ = false

-- the stage waits for the reply to a start in this transaction
abbrev pub IsStart : Txn → Stage → Type 0
IsStart txn s = (h : OwnTxn) × (s ≡ stages.Start h) × (txn_held h ≡ Some txn)

-- the stage waits for the reply to this call
abbrev pub IsStageOf : Call → Stage → Type 0
IsStageOf Begin s = s ≡ stages.Begin
IsStageOf (Start_send txn message) s = IsStart txn s
IsStageOf (Start_receive txn) s = IsStart txn s
IsStageOf (Start_receive_from txn sender) s = IsStart txn s
IsStageOf (Start_close txn sender) s = IsStart txn s
IsStageOf (Start_mark txn client tag) s = IsStart txn s
IsStageOf (Step txn number) s = (purpose : Purpose) × (s ≡ stages.Step (record { txn = txn; number = number }) purpose)
IsStageOf (Finish txn number) s = (purpose : Purpose) × (s ≡ stages.Finish (record { txn = txn; number = number }) purpose)
IsStageOf (Commit txn) s = (h : OwnTxn) × (s ≡ stages.Commit h) × (txn_held h ≡ Some txn)
IsStageOf (Start_abort txn) s = s ≡ stages.StartAbort txn
IsStageOf (Undo_next txn) s = s ≡ stages.UndoNext txn
IsStageOf (End_abort txn) s = s ≡ stages.EndAbort txn
IsStageOf (Last_tag sender) s = (h : OwnTxn) × (s ≡ stages.LastTag h)
IsStageOf (Client_tag client) s = (h : OwnTxn) × (s ≡ stages.ClientTag h)
IsStageOf _ s = ⊥

-- the stage is the one of what is to be done
abbrev pub IsStageAt : Action → Stage → Type 0
IsStageAt (Do event) s = IsStageOf (call_of event) s
IsStageAt (Again event) s = IsStageOf (call_of event) s
IsStageAt (Await commit) s = s ≡ stages.Await commit
IsStageAt (Answers answer) s = (h : OwnTxn) × (s ≡ stages.Rest h)
IsStageAt End s = s ≡ stages.Ended

-- the stage is the one of this call, or of the answer with none
abbrev pub IsFirstStage : Option Call → Stage → Type 0
IsFirstStage None s = (h : OwnTxn) × (s ≡ stages.Rest h)
IsFirstStage (Some call) s = IsStageOf call s
