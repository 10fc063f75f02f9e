-- What a worker does for one operation.
use Rattle.std.specs.Prelude.{◌≡◌, ◌⊎◌, Bool, true, false, List, [], ◌∷◌, Option, Some, None, Result, Ok, Err}
use Rattle.std.specs.declared.snapshot.Snapshot.{Snapshot}
use Rattle.rq_model.specs.declared.refusal.Refusal.TheVariants.{NoMemory, Latched}
use Rattle.rq_model.specs.declared.txn.Sub.{Sub}
use Rattle.rq_model.specs.History.{Call}
use Rattle.rq_engine.specs.Says.{call_of, has_body}
use Rattle.rq_shared.specs.declared.kept.Stamped.{Stamped}
use Rattle.rq_workers.specs.declared.acts.Act.{Act}
use Rattle.rq_workers.specs.declared.acts.Act.TheVariants.{Asked, Lacked, Made}
use Rattle.rq_workers.specs.declared.acts.Heard.{Heard}
use Rattle.rq_workers.specs.declared.acts.Heard.TheVariants as heard
use Rattle.rq_workers.specs.declared.acts.RunEnd.{RunEnd}
use Rattle.rq_workers.specs.declared.acts.Part.{Part}
use Rattle.rq_workers.specs.declared.acts.Part.TheVariants as part
use Rattle.rq_workers.specs.Hearing.{heard_of, ended_of, part_event}
use Rattle.rq_workers.specs.Acts.{Work, Did, DidOne}

-- How far an operation is.
pub data Stage : Type 0 where
  -- its start is to be called
  Starting : Stage
  -- its start was refused so, and may be tried again
  Refused_start : (last : Heard) → Stage
  -- it is started, and this part of it is to be called
  Due : (p : Part) (sub : Sub) → Stage
  -- that part was refused for memory, and is to be tried again
  Due_again : (p : Part) (sub : Sub) → Stage
  -- a step was made, and another is to come
  Between : (sub : Sub) → Stage
  -- that was the last answer
  Over : (last : Heard) → Stage

-- after its start was answered for good
abbrev pub once_started : Heard → Stage
once_started (heard.Started sub) = Due part.Step sub
once_started h = Over h

-- after its start was answered
abbrev pub after_start : Heard → Stage
after_start (heard.Refused NoMemory) = Refused_start (heard.Refused NoMemory)
after_start (heard.Refused Latched) = Refused_start (heard.Refused Latched)
after_start h = once_started h

-- after the start was refused, and the gate was asked whether to try again
abbrev pub after_asking : Heard → Bool → Stage
after_asking last true = Starting
after_asking last false = Over last

-- after a part of it was answered for good
abbrev pub once_answered : Part → Sub → Heard → Stage
once_answered part.Step sub (heard.Done lsn) = Between sub
once_answered part.Step sub heard.Ready = Due part.Finish sub
once_answered p sub h = Over h

-- after a part of it was answered
abbrev pub after_part : Part → Sub → Heard → Stage
after_part p sub (heard.Refused NoMemory) = Due_again p sub
after_part p sub h = once_answered p sub h

-- How an act leads on, in an operation whose start is this call. The gate is asked at point 3 between two steps and at point 4
-- before a call is tried again. Where it says no, an operation that is started goes on all the same. A start for a copy of
-- whose body memory is wanting counts as refused for memory.
abbrev pub LeadsOn : Call → Stage → Act → Stage → Type 0
LeadsOn c Starting (Made s) next = (call_of s.value.event ≡ c) × (next ≡ after_start (heard_of s.value.reply))
LeadsOn c Starting Lacked next = (has_body c ≡ true) × (next ≡ Refused_start (heard.Refused NoMemory))
LeadsOn c (Refused_start last) (Asked point passed) next = (point ≡ 4) × (next ≡ after_asking last passed)
LeadsOn c (Due p sub) (Made s) next = (s.value.event ≡ part_event p sub)
    × (next ≡ after_part p sub (heard_of s.value.reply))
LeadsOn c (Due_again p sub) (Asked point passed) next = (point ≡ 4) × (next ≡ Due p sub)
LeadsOn c (Between sub) (Asked point passed) next = (point ≡ 3) × (next ≡ Due part.Step sub)
LeadsOn c _ _ next = ⊥

-- these acts lead from one stage to another
abbrev pub Lead : Call → Stage → List Act → Stage → Type 0
Lead c from [] to = to ≡ from
Lead c from (a ∷ acts) to = (mid : Stage) × Lead c from acts mid × LeadsOn c mid a to

-- a worker did what leads from one stage to another
abbrev pub Carries : {S : Type 0} → Call → Stage → Work S → Stage → Work S → Type 0
Carries c from old to new = Did (λ acts. Lead c from acts to) old new

-- Where an operation is whose start was answered for good, or of which the gate said no.
abbrev pub started_stage : Result Sub Heard → Stage
started_stage (Ok sub) = Due part.Step sub
started_stage (Err h) = Over h

-- where it is once its steps are made, or one was refused
abbrev pub stepped_stage : Sub → Option Heard → Stage
stepped_stage sub None = Due part.Finish sub
stepped_stage sub (Some h) = Over h

-- the start was called once and answered so, or memory was wanting for a copy of its body
abbrev pub IsTried : {S : Type 0} → Call → Work S → Heard → Work S → Type 0
IsTried c old h new =
    ((s : Snapshot Stamped) × DidOne (Made s) old new × (call_of s.value.event ≡ c) × (heard_of s.value.reply ≡ h))
    ⊎ (DidOne Lacked old new × (h ≡ heard.Refused NoMemory) × (has_body c ≡ true))

-- It went through an operation, from its start to the last answer, which says what came of it.
abbrev pub GoesThrough : {S : Type 0} → Call → Work S → Work S → RunEnd → Type 0
GoesThrough c old new end = (last : Heard) × (end ≡ ended_of last) × Carries c Starting old (Over last) new
