-- Worked courses: the history that one tells, and courses and histories that are refused.
use Rattle.std.specs.Prelude.{ℕ, List, [], ◌∷◌, Some, None, true, false, take}
use Rattle.rq_model.specs.declared.message.Message.{Message}
use Rattle.rq_model.specs.declared.refusal.Refusal.TheVariants.{DiskWrite, Failed, Damaged, Latched, NoMemory}
use Rattle.rq_model.specs.declared.refusal.Damage.TheVariants as damage
use Rattle.rq_model.specs.Vocabulary.Op.{Send}
use Rattle.rq_model.specs.History.{Entry}
use Rattle.rq_model.specs.History.Call.{Begin, Start_send, Step, Finish, Commit as Commit_call, Acknowledge, Force}
use Rattle.rq_model.specs.History.Job.{Sending, Taking}
use Rattle.rq_model.specs.History.Entry.{Begun, Started, Stepped, Did, Committed, Acknowledged, Forced, Shown, None_free, Refused as Refused_entry, Crash as Crash_entry, Restarted as Restarted_entry}
use Rattle.rq_model.specs.Legal.{IsLegal}
use Rattle.rq_model.specs.Replay.{Number}
use Rattle.rq_model.specs.Replay.Reply.{Gave_txn, Gave_sub, Gave_commit, Gave_receipt, Gave_lsn, Gave_forced, Gave_sent, Gave_refusal}
use Rattle.rq_model.specs.Worked.{txn, small}
use Rattle.rq_restart.specs.declared.restart.Report.{Report}
use Rattle.rq_core.specs.Happenings.{Happening, Answer, Course, Tells}
use Rattle.rq_core.specs.Happenings.Happening.{Asks, Acknowledges, Fails, Crashes, Stops_in, Restarts, Stops_restart}
use Rattle.rq_core.specs.Happenings.Answer.{Answered, Crashed, Restarted, Refused, Running, Nothing}

abbrev pub hello : Message
hello = record { sender = 0; tag = 7; body = 104 ∷ [] }

abbrev pub number : Number
number = record { txn = txn 1 1; lsn = 5 }

abbrev pub second : Number
second = record { txn = txn 1 2; lsn = 6 }

abbrev pub report : ℕ → ℕ → ℕ → ℕ → Report
report i u l n = record { incarnation = i; unfinished = u; lost = l; records = n }

-- a send is committed, forced, acknowledged; then a call is stopped, a restart too, and the next one opens the store.
-- In order:
abbrev pub happened : Course
happened =
    (Restarts, Restarted (report 1 0 0 1))
    ∷ (Asks Begin, Answered (Gave_txn (txn 1 1)))
    ∷ (Asks (Start_send (txn 1 1) hello), Answered (Gave_sub (txn 1 1) 1))
    ∷ (Asks (Step (txn 1 1) 1), Answered (Gave_lsn 2))
    ∷ (Asks (Step (txn 1 1) 1), Answered (Gave_lsn 3))
    ∷ (Asks (Finish (txn 1 1) 1), Answered Gave_sent)
    ∷ (Asks (Commit_call (txn 1 1)), Answered (Gave_commit number))
    ∷ (Acknowledges 7, Answered (Gave_receipt None))
    ∷ (Asks Force, Answered (Gave_forced 5))
    ∷ (Acknowledges 7, Answered (Gave_receipt (Some number)))
    ∷ (Acknowledges 6, Nothing)
    ∷ (Restarts, Running)
    ∷ (Asks Begin, Answered (Gave_txn (txn 1 2)))
    ∷ (Asks (Commit_call (txn 1 2)), Answered (Gave_commit second))
    ∷ (Stops_in Force, Crashed 6)
    ∷ (Acknowledges 7, Answered (Gave_refusal Failed))
    ∷ (Stops_restart, Crashed 7)
    ∷ (Fails, Nothing)
    ∷ (Restarts, Refused DiskWrite)
    ∷ (Crashes, Crashed 8)
    ∷ (Restarts, Restarted (report 4 0 0 9))
    ∷ (Acknowledges 7, Answered (Gave_receipt None))
    ∷ []

abbrev pub turned : {X : Type 0} → List X → List X → List X
turned [] ys = ys
turned (x ∷ xs) ys = turned xs (x ∷ ys)

abbrev pub course : Course
course = turned happened []

-- the history that it tells, in order
abbrev pub entries : List Entry
entries =
    Restarted_entry 1 1
    ∷ Begun (txn 1 1)
    ∷ Started (txn 1 1) 1 (Sending hello)
    ∷ Stepped (txn 1 1) 1 2
    ∷ Stepped (txn 1 1) 1 3
    ∷ Did (txn 1 1) 1 (Send hello)
    ∷ Committed (txn 1 1) 5
    ∷ Acknowledged (txn 1 1) 5 false
    ∷ Forced 5
    ∷ Acknowledged (txn 1 1) 5 true
    ∷ Begun (txn 1 2)
    ∷ Committed (txn 1 2) 6
    ∷ Crash_entry 2 6
    ∷ Refused_entry (Acknowledge (txn 1 1) 5) Failed
    ∷ Crash_entry 2 7
    ∷ Crash_entry 2 8
    ∷ Restarted_entry 4 9
    ∷ Acknowledged (txn 1 1) 5 false
    ∷ []

abbrev pub history : List Entry
history = turned entries []

abbrev pub first_entries : ℕ → List Entry
first_entries n = turned (take n entries) []

-- a receipt for another commit
abbrev pub other : Number
other = record { txn = txn 1 1; lsn = 4 }

-- one happening with its answer tells no history, whatever came before it
abbrev pub TellsNothing : Course → Happening → Answer → Type 0
TellsNothing so_far x a = (h : List Entry) → Tells ((x, a) ∷ so_far) h → ⊥

-- the message of sender 0 is taken by a transaction that has not ended
abbrev pub taking : List Entry
taking = Stepped (txn 1 2) 1 6 ∷ Started (txn 1 2) 1 (Taking 0) ∷ first_entries 11

-- what is so of them
pub record AreJudged : Type 0 where
  pub told : Tells course history
  pub legal : IsLegal small history
  -- what was not answered so tells nothing
  pub another_receipt : TellsNothing [] (Asks (Acknowledge (txn 1 1) 5)) (Answered (Gave_receipt (Some other)))
  pub call_left_out : TellsNothing [] (Asks Begin) Nothing
  pub call_that_crashes : TellsNothing [] (Asks Begin) (Crashed 0)
  pub crash_left_out : TellsNothing [] Crashes Nothing
  pub restart_answered_as_a_call : TellsNothing [] Restarts (Answered (Gave_txn (txn 1 1)))
  pub running_while_shut : TellsNothing [] Restarts Running
  pub damaged_while_open : TellsNothing ((Restarts, Restarted (report 1 0 0 1)) ∷ []) (Asks Begin)
      (Answered (Gave_refusal (Damaged (damage.Page 0))))
  pub failed_without_a_write : TellsNothing ((Restarts, Restarted (report 1 0 0 1)) ∷ []) (Asks Begin)
      (Answered (Gave_refusal DiskWrite))
  pub latched_with_nothing_under_way : TellsNothing ((Restarts, Restarted (report 1 0 0 1)) ∷ [])
      (Asks (Start_send (txn 1 1) hello)) (Answered (Gave_refusal Latched))
  pub memory_of_a_step : TellsNothing ((Restarts, Restarted (report 1 0 0 1)) ∷ []) (Asks (Step (txn 1 1) 1))
      (Answered (Gave_refusal NoMemory))
  pub refused_while_open : TellsNothing ((Restarts, Restarted (report 1 0 0 1)) ∷ []) Restarts (Refused NoMemory)
  pub acknowledged_of_no_commit : TellsNothing ((Asks Begin, Answered (Gave_txn (txn 1 1))) ∷ []) (Acknowledges 1)
      (Answered (Gave_receipt None))
  pub answered_before_the_first : TellsNothing [] (Acknowledges 0) (Answered (Gave_receipt None))
  -- this history is legal
  pub none_where_it_is_taken : IsLegal small (None_free (txn 1 3) ∷ Begun (txn 1 3) ∷ taking)
  -- and these are not
  pub loses_what_was_left : (h : List Entry) → IsLegal small (Crash_entry 0 1 ∷ Crash_entry 0 3 ∷ h) → ⊥
  pub keeps_a_commit_without_its_record : IsLegal small (Crash_entry 1 4 ∷ first_entries 8) → ⊥
  pub opened_while_open : IsLegal small (Restarted_entry 2 9 ∷ first_entries 8) → ⊥
  pub none_where_one_waits : IsLegal small (None_free (txn 1 2) ∷ first_entries 11) → ⊥
  pub shows_nothing : IsLegal small (Shown [] ∷ first_entries 8) → ⊥
