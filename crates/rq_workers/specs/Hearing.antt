-- What a worker reads of replies, and what it calls of an operation.
use Rattle.std.specs.Prelude.{Bool, true, false, Result, Ok, Err}
use Rattle.rq_model.specs.declared.refusal.Refusal.TheVariants.{NoMemory, Latched}
use Rattle.rq_model.specs.declared.txn.Sub.{Sub}
use Rattle.rq_engine.specs.declared.event.Event.{Event}
use Rattle.rq_engine.specs.declared.event.Event.TheVariants as event
use Rattle.rq_engine.specs.declared.event.Progress.TheVariants as progress
use Rattle.rq_engine.specs.declared.event.Reply.{Reply}
use Rattle.rq_engine.specs.declared.event.Reply.TheVariants as reply
use Rattle.rq_workers.specs.declared.acts.RunEnd.{RunEnd}
use Rattle.rq_workers.specs.declared.acts.RunEnd.TheVariants as end
use Rattle.rq_workers.specs.declared.acts.Heard.{Heard}
use Rattle.rq_workers.specs.declared.acts.Heard.TheVariants as heard
use Rattle.rq_workers.specs.declared.acts.Part.{Part}
use Rattle.rq_workers.specs.declared.acts.Part.TheVariants as part
use Rattle.rq_workers.specs.declared.acts.AfterStep.{AfterStep}
use Rattle.rq_workers.specs.declared.acts.AfterStep.TheVariants as turn

-- what a reply says to an operation
abbrev pub heard_of : Reply → Heard
heard_of (reply.Started sub) = heard.Started sub
heard_of reply.NoMessage = heard.NoMessage
heard_of reply.NothingLeft = heard.NothingLeft
heard_of (reply.Stepped (progress.Done lsn)) = heard.Done lsn
heard_of (reply.Stepped progress.Ready) = heard.Ready
heard_of (reply.Finished outcome) = heard.Finished outcome
heard_of (reply.Refused refusal) = heard.Refused refusal
heard_of _ = heard.Other

-- what the last answer says of an operation
abbrev pub ended_of : Heard → RunEnd
ended_of (heard.Finished outcome) = end.Finished outcome
ended_of heard.NoMessage = end.NoMessage
ended_of heard.NothingLeft = end.NothingLeft
ended_of (heard.Refused refusal) = end.Refused refusal
ended_of _ = end.Other

-- the call of a part of an operation
abbrev pub part_event : Part → Sub → Event
part_event part.Step sub = event.Step sub
part_event part.Finish sub = event.Finish sub

-- a start that is refused so may be tried again
abbrev pub may_try_again : Heard → Bool
may_try_again (heard.Refused NoMemory) = true
may_try_again (heard.Refused Latched) = true
may_try_again _ = false

-- a call is refused for memory
abbrev pub wants_memory : Heard → Bool
wants_memory (heard.Refused NoMemory) = true
wants_memory _ = false

-- the operation that was started, or the answer
abbrev pub operation_of : Heard → Result Sub Heard
operation_of (heard.Started sub) = Ok sub
operation_of h = Err h

-- how an operation goes on once a step was answered so
abbrev pub turn_of : Heard → AfterStep
turn_of (heard.Done lsn) = turn.Again
turn_of heard.Ready = turn.Ready
turn_of h = turn.Last h
