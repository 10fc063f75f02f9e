-- How a session goes on: the calls that are made for it, and what comes of them.
use Rattle.std.specs.Prelude.{◌≡◌, ◌⊎◌, ◌||◌, ℕ, Bool, true, false, not, Option, Some, None, List, [], ◌∷◌, ◌++◌}
use Rattle.rq_engine.specs.Says.{call_of}
use Rattle.rq_engine.specs.declared.event.CommitNo.{CommitNo}
use Rattle.rq_engine.specs.declared.event.Event.{Event}
use Rattle.rq_engine.specs.declared.event.Event.TheVariants.{Acknowledged, Finish, Force, Step}
use Rattle.rq_engine.specs.declared.event.Progress.TheVariants as progress
use Rattle.rq_engine.specs.declared.event.Reply.{Reply}
use Rattle.rq_engine.specs.declared.event.Reply.TheVariants.{Stepped}
use Rattle.rq_shared.specs.declared.kept.Stamped.{Stamped}
use Rattle.rq_session.specs.declared.actions.Action.{Action}
use Rattle.rq_session.specs.declared.actions.Action.TheVariants.{Do, Again, Await, Answer, End}
use Rattle.rq_session.specs.declared.session.Session.{Session}
use Rattle.rq_session.specs.declared.stage.Stage.{Stage}
use Rattle.rq_session.specs.Rules.{after_loss, after_reply, taken}
use Rattle.rq_session.specs.Stages.{own}
use Rattle.rq_session.specs.Laws.{IsOwn, NamesOwn}
use Rattle.rq_wire.specs.declared.answers.Answer.{Answer as Answered_with}
use Rattle.rq_wire.specs.declared.request.Request.{Request}
use Rattle.rq_serving.specs.Asking.{Asks, IsAskedAt, Says, said_no}
use Rattle.rq_serving.specs.declared.asking.Asking.{Asking}
use Rattle.rq_serving.specs.declared.serving.Served.{Served}
use Rattle.rq_serving.specs.declared.serving.Served.TheVariants as came

-- the call is what is to be done
abbrev pub IsAsked : Action → Event → Type 0
IsAsked (Do event) e = event ≡ e
IsAsked (Again event) e = event ≡ e
IsAsked _ e = ⊥

-- what came with this answer, or with none
abbrev pub came_with : Option Answered_with → Served
came_with (Some answer) = came.Answered answer
came_with None = came.Ended

-- the call is one of an operation under way
abbrev pub under_way : Event → Bool
under_way (Step sub) = true
under_way (Finish sub) = true
under_way _ = false

-- Once the gate has said no, none but a call of an operation under way is made.
abbrev pub may_call : Bool → Event → Bool
may_call has_stopped event = not has_stopped || under_way event

-- the call is to be made again
abbrev pub is_again : Action → Bool
is_again (Again event) = true
is_again _ = false

-- a slot was written
abbrev pub was_written : Reply → Bool
was_written (Stepped (progress.Done lsn)) = true
was_written _ = false

-- what comes where no call is to be made, or none more
abbrev pub IsCome : Bool → Action → Served → Type 0
IsCome has_stopped (Do event) c = (may_call has_stopped event ≡ false) × (c ≡ came.Ended)
IsCome has_stopped (Again event) c = (may_call has_stopped event ≡ false) × (c ≡ came.Ended)
IsCome has_stopped (Await commit) c = c ≡ came.Waits commit.lsn
IsCome has_stopped (Answer answer) c = c ≡ came.Answered answer
IsCome has_stopped End c = c ≡ came.Ended

-- One call was made, and its stamp handed on. The gate was asked at point 3 where the call is a slot's write. The session was
-- told what the stamp says, and from that comes what is to be done next.
pub record IsCall {G S : Type 0} (answers_by : G → List (ℕ × Bool)) (made_by handed_to : S → List Stamped)
    (gate asked_gate : Asking G) (old new : S) (e : Event) (before : Session) (next : Action) (after : Session) : Type 0 where
  pub stamp : Stamped
  pub event : stamp.event ≡ e
  pub made : made_by new ≡ stamp ∷ made_by old
  pub handed : handed_to new ≡ stamp ∷ handed_to old
  pub asks : Asks answers_by gate asked_gate (was_written stamp.reply) 3
  pub next_is : next ≡ (after_reply before.lost before.stage stamp.reply).action
  pub lost : after.lost ≡ before.lost
  pub stage : after.stage ≡ (after_reply before.lost before.stage stamp.reply).stage

-- One call for a session: the stamp that answered it, and what the gate was asked and said before it and behind it.
pub record Round : Type 0 where
  pub before : List (ℕ × Bool)
  pub stamp : Stamped
  pub behind : List (ℕ × Bool)

-- the stamps
abbrev pub stamps_in : List Round → List Stamped
stamps_in [] = []
stamps_in (r ∷ older) = r.stamp ∷ stamps_in older

-- the gate's answers
abbrev pub said_in : List Round → List (ℕ × Bool)
said_in [] = []
said_in (r ∷ older) = r.behind ++ (r.before ++ said_in older)

-- the gate said no in one of these rounds, or before them
abbrev pub has_stopped : List Round → Bool → Bool
has_stopped rounds stopped = said_no (said_in rounds) || stopped

-- The call that was to be made was made. The gate was asked at point 4 before a call that is made again, and at point 3 behind
-- a slot's write. Where it had said no, the call is one of an operation under way.
pub record IsMade (stopped : Bool) (first : Action) (r : Round) : Type 0 where
  pub asks : IsAsked first r.stamp.event
  pub before : IsAskedAt (is_again first) 4 r.before
  pub may : may_call (said_no r.before || stopped) r.stamp.event ≡ true
  pub behind : IsAskedAt (was_written r.stamp.reply) 3 r.behind

-- One turn: the call was made, and the session was told what its stamp says.
pub record IsTurn (lost stopped : Bool) (from : Stage) (first : Action) (r : Round) (to : Stage) (next : Action) : Type 0 where
  pub call : IsMade stopped first r
  pub stage : to ≡ (after_reply lost from r.stamp.reply).stage
  pub action : next ≡ (after_reply lost from r.stamp.reply).action

-- behind these rounds nothing is done that is to be made again: others go on before that
abbrev pub DoesNothingAgain : List Round → Action → Type 0
DoesNothingAgain [] a = Unit {0}
DoesNothingAgain (r ∷ older) a = is_again a ≡ false

-- these rounds, the newest first, led from one stage to another, each turn by the next; whether the gate had said no
-- before is told
abbrev pub Turns : (lost stopped : Bool) → Stage → Action → List Round → Stage → Action → Type 0
Turns lost stopped from first [] to next = (to ≡ from) × (next ≡ first)
Turns lost stopped from first (r ∷ older) to next =
    (mid : Stage) × (a : Action) × Turns lost stopped from first older mid a
    × IsTurn lost (has_stopped older stopped) mid a r to next × DoesNothingAgain older a

-- These rounds led to an action for which no call was made, and this came of it. Behind a round that is no call to be made again,
-- since such a call is held. Without rounds it may be one: then others went on before, and the gate was asked. No call is held.
pub record CallsNoMore (lost stopped now_stopped : Bool) (from : Stage) (first : Action) (rounds : List Round) (last : List (ℕ × Bool))
    (to : Stage) (held : Option Event) (c : Served) : Type 0 where
  pub next : Action
  pub turns : Turns lost stopped from first rounds to next
  pub not_again : DoesNothingAgain rounds next
  pub asks : IsAskedAt (is_again next) 4 last
  pub comes : IsCome now_stopped next c
  pub none : held ≡ None

-- the last call is to be made again, and is held until then
abbrev pub IsHeld : (lost stopped : Bool) → Stage → Action → List Round → Stage → Option Event → Served → Type 0
IsHeld lost stopped from first [] to held c = ⊥
IsHeld lost stopped from first (r ∷ older) to held c =
    (event : Event) × Turns lost stopped from first (r ∷ older) to (Again event) × (held ≡ Some event) × (c ≡ came.Held)

-- A session was carried on from what it was to do, by calls through the step interface alone. It asked for each of them, and is
-- to do this next. The gate was asked at its points and nowhere else.
pub record IsGoing {G S : Type 0} (answers_by : G → List (ℕ × Bool)) (made_by handed_to : S → List Stamped)
    (gate asked_gate : Asking G) (old new : S) (before : Session) (first : Action) (after : Session) (next : Action) : Type 0 where
  pub rounds : List Round
  pub made : made_by new ≡ stamps_in rounds ++ made_by old
  pub handed : handed_to new ≡ stamps_in rounds ++ handed_to old
  pub says : Says answers_by gate asked_gate (said_in rounds)
  pub lost : after.lost ≡ before.lost
  pub turns : Turns before.lost gate.stopped before.stage first rounds after.stage next
  pub goes_on : DoesNothingAgain rounds next

-- It was carried on so until this came, and this call is held then. Where the first call was to be made again, the gate's no
-- may have kept it from that. Then the gate was asked once more than in the rounds, of which there are none.
pub record IsCarried {G S : Type 0} (answers_by : G → List (ℕ × Bool)) (made_by handed_to : S → List Stamped)
    (gate asked_gate : Asking G) (old new : S) (before : Session) (first : Action) (after : Session) (held : Option Event)
    (c : Served) : Type 0 where
  pub rounds : List Round
  pub last : List (ℕ × Bool)
  pub made : made_by new ≡ stamps_in rounds ++ made_by old
  pub handed : handed_to new ≡ stamps_in rounds ++ handed_to old
  pub says : Says answers_by gate asked_gate (last ++ said_in rounds)
  pub lost : after.lost ≡ before.lost
  pub goes : CallsNoMore before.lost gate.stopped asked_gate.stopped before.stage first rounds last after.stage held c
      ⊎ ((last ≡ []) × IsHeld before.lost gate.stopped before.stage first rounds after.stage held c)

-- What came of a request. It was carried on with the call that it asks for, where none was held. Or it had its answer with no
-- call.
abbrev pub IsServed : {G S : Type 0} → (G → List (ℕ × Bool)) → (S → List Stamped) → (S → List Stamped) → Asking G
    → Asking G → S → S → Session → Option Event → Request → Session → Option Event → Served → Type 0
IsServed answers_by made_by handed_to gate asked_gate old new before was_held request after held c =
    let n = taken before.stage request in
    ((event : Event) × (mid : Session) × (n.call ≡ Some (call_of event)) × (was_held ≡ None) × (mid.lost ≡ before.lost) × (mid.stage ≡ n.stage)
    × IsCarried answers_by made_by handed_to gate asked_gate old new mid (Do event) after held c)
    ⊎ ((n.call ≡ None) × (new ≡ old) × (asked_gate ≡ gate) × (after.lost ≡ before.lost)
    × (after.stage ≡ n.stage) × (held ≡ was_held) × (c ≡ came_with n.answer))

-- The session was carried on with what it is to do. Where that is the call that was held, it stays held, and nothing is done.
abbrev pub CarriesOrHolds : {G S : Type 0} → (G → List (ℕ × Bool)) → (S → List Stamped) → (S → List Stamped) → Asking G
    → Asking G → S → S → Session → Option Event → Action → Session → Option Event → Served → Type 0
CarriesOrHolds answers_by made_by handed_to gate asked_gate old new before None first after held c =
    IsCarried answers_by made_by handed_to gate asked_gate old new before first after held c
CarriesOrHolds answers_by made_by handed_to gate asked_gate old new before (Some event) first after held c =
    (first ≡ Do event) × (new ≡ old) × (asked_gate ≡ gate) × (after ≡ before) × (held ≡ Some event) × (c ≡ came.Held)

-- what came of a connection that was lost
abbrev pub IsLost : {G S : Type 0} → (G → List (ℕ × Bool)) → (S → List Stamped) → (S → List Stamped) → Asking G
    → Asking G → S → S → Session → Option Event → Session → Option Event → Served → Type 0
IsLost answers_by made_by handed_to gate asked_gate old new before was_held after held c =
    let n = after_loss before.stage in
    (mid : Session) × (mid.lost ≡ true) × (mid.stage ≡ n.stage)
    × CarriesOrHolds answers_by made_by handed_to gate asked_gate old new mid was_held n.action after held c

-- What came of asking for the receipt of a commit. It was asked for once, whatever the gate has said. The session was carried
-- on with what that told.
pub record IsAskedFor {G S : Type 0} (answers_by : G → List (ℕ × Bool)) (made_by handed_to : S → List Stamped)
    (gate asked_gate : Asking G) (old new : S) (number : CommitNo) (before after : Session) (held : Option Event) (c : Served) : Type 0 where
  pub mid : S
  pub mid_gate : Asking G
  pub next : Action
  pub told : Session
  pub asks : IsCall answers_by made_by handed_to gate mid_gate old mid (Acknowledged number) before next told
  pub goes : IsCarried answers_by made_by handed_to mid_gate asked_gate mid new told next after held c

-- a force was made, and its stamp handed on
pub record IsForce {S : Type 0} (made_by forced_by handed_to : S → List Stamped) (old new : S) : Type 0 where
  pub stamp : Stamped
  pub event : stamp.event ≡ Force
  pub made : made_by new ≡ stamp ∷ made_by old
  pub forced : forced_by new ≡ stamp ∷ forced_by old
  pub handed : handed_to new ≡ stamp ∷ handed_to old

-- ---- its own transaction

-- each of these calls was for the transaction that the session had then
abbrev pub AreOwn : (lost stopped : Bool) (from : Stage) (first : Action) (rounds : List Round) (to : Stage) (next : Action)
    → Turns lost stopped from first rounds to next → Type 0
AreOwn lost stopped from first [] to next t = Unit {0}
AreOwn lost stopped from first (r ∷ older) to next t =
    IsOwn (own t.0) (call_of r.stamp.event) × AreOwn lost stopped from first older t.0 t.1 t.2

-- What is called for a session names no transaction but its own, and a begin comes only where it has none. What is to be done
-- next does so too. Where that is to wait, it is for the commit that the session awaits.
abbrev pub CallsAreOwn : Type 0
CallsAreOwn =
    (lost stopped : Bool) (from : Stage) (first : Action) (rounds : List Round) (to : Stage) (next : Action)
    → NamesOwn from first → (t : Turns lost stopped from first rounds to next)
    → AreOwn lost stopped from first rounds to next t × NamesOwn to next
