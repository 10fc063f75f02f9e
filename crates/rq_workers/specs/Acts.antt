-- What a worker did. The newest act is the first of a list.
use Rattle.std.specs.Prelude.{◌≡◌, ◌≤◌, ℕ, ◌+◌, ◌==◌, Bool, true, false, not, ◌||◌, ◌&&◌, List, [], ◌∷◌, ◌++◌}
use Rattle.std.specs.declared.snapshot.Snapshot.{Snapshot}
use Rattle.rq_engine.specs.declared.event.Event.{Event}
use Rattle.rq_engine.specs.declared.event.Event.TheVariants.{Force}
use Rattle.rq_shared.specs.declared.kept.Stamped.{Stamped}
use Rattle.rq_workers.specs.declared.acts.Act.{Act}
use Rattle.rq_workers.specs.declared.acts.Act.TheVariants.{Asked, Lacked, Made, Forced}
use Rattle.rq_workers.specs.declared.acts.Heard.{Heard}
use Rattle.rq_model.specs.History.{Call}
use Rattle.rq_model.specs.History.Call.{Step, Finish, Write_page, Checkpoint}
use Rattle.rq_model.specs.Causes.{starts_one}
use Rattle.rq_engine.specs.Says.{call_of}
use Rattle.rq_workers.specs.Hearing.{heard_of}
use Rattle.rq_workers.specs.Forcing.{most_forced}
use Rattle.rq_workers.specs.Keeping.{counts_left}

-- the gate's answers, each with its point
abbrev pub asked_in : List Act → List (ℕ × Bool)
asked_in [] = []
asked_in (Asked point passed ∷ acts) = (point, passed) ∷ asked_in acts
asked_in (Lacked ∷ acts) = asked_in acts
asked_in (Made s ∷ acts) = asked_in acts
asked_in (Forced s ∷ acts) = asked_in acts

-- how often memory was wanting for a copy
abbrev pub lacked_in : List Act → ℕ
lacked_in [] = 0
lacked_in (Asked point passed ∷ acts) = lacked_in acts
lacked_in (Lacked ∷ acts) = lacked_in acts + 1
lacked_in (Made s ∷ acts) = lacked_in acts
lacked_in (Forced s ∷ acts) = lacked_in acts

-- the stamps of the calls
abbrev pub stamps_in : List Act → List Stamped
stamps_in [] = []
stamps_in (Asked point passed ∷ acts) = stamps_in acts
stamps_in (Lacked ∷ acts) = stamps_in acts
stamps_in (Made s ∷ acts) = s.value ∷ stamps_in acts
stamps_in (Forced s ∷ acts) = s.value ∷ stamps_in acts

-- the stamps of the interface's own force
abbrev pub forced_in : List Act → List Stamped
forced_in [] = []
forced_in (Asked point passed ∷ acts) = forced_in acts
forced_in (Lacked ∷ acts) = forced_in acts
forced_in (Made s ∷ acts) = forced_in acts
forced_in (Forced s ∷ acts) = s.value ∷ forced_in acts

-- the gate said no
abbrev pub was_stopped : List Act → Bool
was_stopped [] = false
was_stopped (Asked point passed ∷ acts) = not passed || was_stopped acts
was_stopped (Lacked ∷ acts) = was_stopped acts
was_stopped (Made s ∷ acts) = was_stopped acts
was_stopped (Forced s ∷ acts) = was_stopped acts

-- the newest act is a gate that was passed at this point
abbrev pub passed_at : ℕ → List Act → Bool
passed_at point (Asked p passed ∷ acts) = (p == point) && passed
passed_at point _ = false

-- What may be called behind these acts. A part of an operation may be called at any time. A page's write may be, directly
-- behind a gate that was passed at point 2. A checkpoint may be, behind one at point 5. Nothing else may be. A force is none:
-- that is the interface's own.
abbrev pub may_call : List Act → Call → Bool
may_call acts (Write_page page) = passed_at 2 acts
may_call acts Checkpoint = passed_at 5 acts
may_call acts (Step txn number) = true
may_call acts (Finish txn number) = true
may_call acts c = starts_one c

-- each call was one that may be made there, and each force came directly behind a gate that was passed at point 1
abbrev pub KeepsRule : List Act → Type 0
KeepsRule [] = Unit {0}
KeepsRule (Asked point passed ∷ acts) = KeepsRule acts
KeepsRule (Lacked ∷ acts) = KeepsRule acts
KeepsRule (Made s ∷ acts) = (may_call acts (call_of s.value.event) ≡ true) × KeepsRule acts
KeepsRule (Forced s ∷ acts) = (passed_at 1 acts ≡ true) × KeepsRule acts

-- What contracts see of a worker: what it did, and what it began with: its gate and its step interface as it took them.
pub record Work (S : Type 0) : Type 0 where
  pub done : List Act
  pub begun : S

-- What is so of a worker. What its gate answered since it took that, and at which points, is what it did. So is what was
-- called, forced by the interface's own force, and handed on, through its step interface since it took that. So is how
-- often memory was wanting for a copy. As many calls more are counted as left an entry. What the interface shows is at least
-- what was forced. Nothing was done but what may be.
pub record IsWork {G S : Type 0} (answers_by : G → List (ℕ × Bool)) (made_by forced_by told_by : S → List Stamped)
    (lacked_by counted_by shown_by : S → ℕ) (gate : G) (steps : S) (begun : G × S) (done : List Act) (has_stopped : Bool) : Type 0 where
  pub asked : answers_by gate ≡ asked_in done ++ answers_by begun.0
  pub made : made_by steps ≡ stamps_in done ++ made_by begun.1
  pub forced : forced_by steps ≡ forced_in done ++ forced_by begun.1
  pub told : told_by steps ≡ stamps_in done ++ told_by begun.1
  pub lacked : lacked_by steps ≡ lacked_in done + lacked_by begun.1
  pub counted : counted_by steps ≡ counts_left (stamps_in done) + counted_by begun.1
  pub shown : most_forced (forced_in done) ≤ shown_by steps
  pub ruled : KeepsRule done
  pub stopped : has_stopped ≡ was_stopped done

-- a worker did this in front of what it had done, and nothing else
abbrev pub DidOne : {S : Type 0} → Act → Work S → Work S → Type 0
DidOne a old new = (new.done ≡ a ∷ old.done) × (new.begun ≡ old.begun)

-- a worker made this call, heard this answer and handed the stamp on, and did nothing else
abbrev pub IsCalled : {S : Type 0} → Work S → Event → Heard → Work S → Type 0
IsCalled old e h new = (s : Snapshot Stamped) × DidOne (Made s) old new × (s.value.event ≡ e)
    × (heard_of s.value.reply ≡ h)

-- a worker forced by the interface's own force, heard this answer and handed the stamp on, and did nothing else
abbrev pub IsForced : {S : Type 0} → Work S → Heard → Work S → Type 0
IsForced old h new = (s : Snapshot Stamped) × DidOne (Forced s) old new × (s.value.event ≡ Force)
    × (heard_of s.value.reply ≡ h)

-- it did what has P, and nothing else
abbrev pub Did : {S : Type 0} → (List Act → Type 0) → Work S → Work S → Type 0
Did P old new = (acts : List Act) × (new.done ≡ acts ++ old.done) × (new.begun ≡ old.begun) × P acts
