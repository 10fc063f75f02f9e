-- What may happen to a store, what is answered, and the history that this tells.
use Rattle.std.specs.Prelude.{◌≡◌, ℕ, zero, suc, Bool, true, false, IsTrue, List, [], ◌∷◌, Option, Some, None, map, reverse, slice_get}
use Rattle.rq_restart.specs.declared.restart.Report.{Report}
use Rattle.rq_model.specs.declared.refusal.Refusal.{Refusal}
use Rattle.rq_model.specs.declared.refusal.Refusal.TheVariants as why
use Rattle.rq_model.specs.History.{Entry, Call}
use Rattle.rq_model.specs.History.Call.{Acknowledge, Migrate}
use Rattle.rq_model.specs.History.Entry.{Restarted as Restarted_entry}
use Rattle.rq_model.specs.Growth.{Growth, IsGrownBy, growth}
use Rattle.rq_model.specs.Growth.Growth.{May_grow}
use Rattle.rq_model.specs.Ledger.{Phase, ledger}
use Rattle.rq_model.specs.Ledger.Phase.{Running as Runs, Shut}
use Rattle.rq_model.specs.Replay.{Reply, Says}
use Rattle.rq_model.specs.Promises.{crash_with}
use Rattle.rq_model.specs.Causes.{IsCaused, calls_device}
use Rattle.rq_model.specs.Replay.Reply.{Gave_commit}
use Rattle.rq_model.specs.Tests.{any_busy}

pub data Happening : Type 0 where
  Asks : (call : Call) → Happening
  -- a receipt is asked for the commit that the nth happening answered
  Acknowledges : (n : ℕ) → Happening
  -- some later device call fails
  Fails : Happening
  Crashes : Happening
  -- a crash at a device call inside a call
  Stops_in : (call : Call) → Happening
  Restarts : Happening
  -- a crash at a device call inside a restart
  Stops_restart : Happening

pub data Answer : Type 0 where
  Answered : (reply : Reply) → Answer
  -- the last LSN that is left
  Crashed : (records : ℕ) → Answer
  Restarted : (report : Report) → Answer
  -- a restart was refused
  Refused : (refusal : Refusal) → Answer
  -- a restart of a store that is open
  Running : Answer
  Nothing : Answer

-- the happenings so far with their answers, the newest first
abbrev pub Course : Type 0
Course = List (Happening × Answer)

-- its last happening was no crash
abbrev pub is_no_crash : Answer → Type 0
is_no_crash (Crashed n) = ⊥
is_no_crash _ = Unit {0}

abbrev pub EndsWithoutCrash : Course → Type 0
EndsWithoutCrash [] = Unit {0}
EndsWithoutCrash (a ∷ course) = is_no_crash a.1

-- those behind a course, in order
abbrev pub paired : Course → List Happening → List Answer → Course
paired course (x ∷ xs) (a ∷ answers) = paired ((x, a) ∷ course) xs answers
paired course _ _ = course

abbrev pub course_of : List Happening → List Answer → Course
course_of xs answers = paired [] xs answers

-- the answers of a course, in order
abbrev pub answers_of : Course → List Answer
answers_of course = reverse (map (λ (a : Happening × Answer). a.1) course)

-- the nth of them, counted from 1
abbrev pub nth : ℕ → List Answer → Option Answer
nth zero answers = None
nth (suc n) answers = slice_get answers n

-- the acknowledgement of the commit that was answered
abbrev pub acknowledging : Option Answer → Option Call
acknowledging (Some (Answered (Gave_commit number))) = Some (Acknowledge number.txn number.lsn)
acknowledging _ = None

-- the call that a happening makes
abbrev pub called : Course → Happening → Option Call
called course (Asks call) = Some call
called course (Stops_in call) = Some call
called course (Acknowledges n) = acknowledging (nth n (answers_of course))
called course _ = None

abbrev pub restarts : Happening → Bool
restarts Restarts = true
restarts Stops_restart = true
restarts _ = false

abbrev pub MayRestart : Course → Happening → Type 0
MayRestart course x = IsTrue (restarts x)

abbrev pub makes_no_call : Option Call → Type 0
makes_no_call None = Unit {0}
makes_no_call (Some call) = ⊥

-- nothing happens at the store
abbrev pub DoesNothing : Course → Happening → Type 0
DoesNothing course (Acknowledges n) = makes_no_call (acknowledging (nth n (answers_of course)))
DoesNothing course Fails = Unit {0}
DoesNothing course _ = ⊥

-- It may crash a store in this phase. A call meets a crash only where it may ask something of a device, of a store that runs.
abbrev pub MayCrashIt : Happening → Phase → Type 0
MayCrashIt Crashes phase = Unit {0}
MayCrashIt (Stops_in call) phase = (phase ≡ Runs) × (calls_device call ≡ true)
MayCrashIt Stops_restart phase = phase ≡ Shut
MayCrashIt _ phase = ⊥

-- a migration inside which the crash comes may have come through
abbrev pub call_growth : Call → Growth → Growth
call_growth (Migrate pages) g = May_grow pages
call_growth _ g = g

abbrev pub growth_in : Happening → Growth → Growth
growth_in (Stops_in call) g = call_growth call g
growth_in _ g = g

-- by it a device's failure is told
abbrev pub is_of_device : Refusal → Bool
is_of_device why.DiskRead = true
is_of_device why.DiskWrite = true
is_of_device _ = false

-- the call with its reply is one entry more, and a refusal comes with its cause
abbrev pub AddsCall : Option Call → Reply → List Entry → List Entry → Type 0
AddsCall None reply older h = ⊥
AddsCall (Some call) reply older h = (e : Entry) × Says call reply e × IsCaused (any_busy (ledger older).open_ones) call reply
    × (h ≡ e ∷ older)

-- what a happening with its answer makes of the history
abbrev pub Adds : Course → Happening → Answer → List Entry → List Entry → Type 0
Adds course x (Answered reply) older h = AddsCall (called course x) reply older h
Adds course x (Crashed records) older h = MayCrashIt x (ledger older).phase × (tags : Option ℕ)
    × IsGrownBy (growth_in x (growth older)) tags
    × (h ≡ crash_with tags records older ∷ older)
Adds course x (Restarted report) older h = IsTrue (restarts x)
    × (h ≡ Restarted_entry report.incarnation report.records ∷ older)
Adds course x (Refused refusal) older h = IsTrue (restarts x) × ((ledger older).phase ≡ Shut)
    × (h ≡ older)
Adds course x Running older h = IsTrue (restarts x) × ((ledger older).phase ≡ Shut → ⊥) × (h ≡ older)
Adds course x Nothing older h = DoesNothing course x × (h ≡ older)

-- The happenings with their answers tell this history. They do for some choice of the groups that were picked, and of whether a
-- migration came through that a crash cut off or a device refused.
abbrev pub Tells : Course → List Entry → Type 0
Tells [] h = h ≡ []
Tells (a ∷ course) h = (older : List Entry) × Tells course older × Adds course a.0 a.1 older h
