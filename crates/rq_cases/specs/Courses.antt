-- What a course may tell, of refusals and their causes, of stops in calls and of none; and what it may not.
use Rattle.std.specs.Prelude.{ℕ, List, [], ◌∷◌}
use Rattle.rq_model.specs.declared.message.Message.{Message}
use Rattle.rq_model.specs.declared.txn.Txn.{Txn}
use Rattle.rq_model.specs.declared.refusal.Damage.{Damage}
use Rattle.rq_model.specs.declared.refusal.Refusal.{Refusal}
use Rattle.rq_model.specs.declared.refusal.Refusal.TheVariants.{Damaged, DiskRead, DiskWrite, Latched, NoMemory, PoolFull}
use Rattle.rq_model.specs.History.{Call, Entry}
use Rattle.rq_model.specs.History.Call.{Acknowledge, Begin, Commit, Finish, Force, Hand_over, Show, Start_receive_from, Start_send, Step, Write_page}
use Rattle.rq_model.specs.History.Entry.{Begun, Crash as Crash_entry, Did, Forced, None_free, None_from, Refused, Restarted as Restarted_entry, Started, Stepped}
use Rattle.rq_model.specs.History.Job.{Taking}
use Rattle.rq_model.specs.Ledger.{ledger}
use Rattle.rq_model.specs.Legal.{At, IsLegal}
use Rattle.rq_model.specs.Tests.{Size, any_busy}
use Rattle.rq_model.specs.Replay.Reply.{Gave_forced, Gave_refusal}
use Rattle.rq_model.specs.Vocabulary.Op.{Take}
use Rattle.rq_core.specs.Always.{GivesTo}
use Rattle.rq_core.specs.Happenings.{Course, Tells}
use Rattle.rq_model.specs.Causes.{HasCause}
use Rattle.rq_model.specs.Worked.{txn}
use Rattle.rq_core.specs.Happenings.Answer.{Answered, Crashed, Nothing, Restarted}
use Rattle.rq_core.specs.Happenings.Happening.{Asks, Restarts, Stops_in, Stops_restart}
use Rattle.rq_core.specs.Worked.{TellsNothing, first_entries, hello, report, taking}
use Rattle.rq_cases.specs.Store.{small}

-- a store that was opened once
abbrev pub opened : Course
opened = (Restarts, Restarted (report 1 0 0 1)) ∷ []

abbrev pub opened_history : List Entry
opened_history = Restarted_entry 1 1 ∷ []

-- a device of it has failed in a force
abbrev pub failed : Course
failed = (Asks Force, Answered (Gave_refusal DiskWrite)) ∷ opened

-- a call that is stopped in, with so many records left, behind the opening
abbrev pub StopsWith : Call → ℕ → Type 0
StopsWith call records = Tells ((Stops_in call, Crashed records) ∷ opened) (Crash_entry 0 records ∷ opened_history)

-- a crash at a device call inside a call: only a call that may ask something of a device has one, and only where the store runs
pub record StopsAreJudged : Type 0 where
  pub in_a_force : StopsWith Force 1
  pub in_a_hand_over : StopsWith Hand_over 1
  pub in_a_page_write : StopsWith (Write_page 1) 1
  pub in_a_send : StopsWith (Start_send (txn 1 1) hello) 1
  pub in_a_content : StopsWith Show 1
  pub in_a_begin : TellsNothing opened (Stops_in Begin) (Crashed 1)
  pub in_a_commit : TellsNothing opened (Stops_in (Commit (txn 1 1))) (Crashed 1)
  pub in_a_step : TellsNothing opened (Stops_in (Step (txn 1 1) 1)) (Crashed 1)
  pub of_a_store_that_failed : TellsNothing failed (Stops_in Force) (Crashed 1)
  pub of_a_store_that_is_shut : TellsNothing [] (Stops_in Force) (Crashed 0)
  pub in_a_restart_of_an_open_store : TellsNothing opened Stops_restart (Crashed 1)
  -- where the stop did not come, the call is answered; it is never left out, nor answered as a restart
  pub not_met : Tells ((Stops_in Force, Answered (Gave_forced 1)) ∷ opened) (Forced 1 ∷ opened_history)
  pub left_out : TellsNothing opened (Stops_in Force) Nothing
  pub answered_as_a_restart : TellsNothing opened (Stops_in Force) (Restarted (report 2 0 0 2))
  -- what was forced outlives it
  pub loses_the_forced : IsLegal small (Crash_entry 0 1 ∷ first_entries 9) → ⊥
  pub keeps_the_forced : IsLegal small (Crash_entry 1 5 ∷ first_entries 9)

-- a refusal with its call behind the opening
abbrev pub RefusedBy : Call → Refusal → Type 0
RefusedBy call r = Tells ((Asks call, Answered (Gave_refusal r)) ∷ opened) (Refused call r ∷ opened_history)

abbrev pub NotRefusedBy : Call → Refusal → Type 0
NotRefusedBy call r = TellsNothing opened (Asks call) (Answered (Gave_refusal r))

-- 1.1 has an operation under way, and 1.2 is begun
abbrev pub two_begun : List Entry
two_begun = Begun (txn 1 2) ∷ first_entries 3

abbrev pub other : Message
other = record { sender = 1; tag = 8; body = [] }

-- a refusal comes with its cause
pub record CausesAreJudged : Type 0 where
  pub memory_of_a_begin : RefusedBy Begin NoMemory
  pub memory_of_a_commit : RefusedBy (Commit (txn 1 1)) NoMemory
  pub memory_of_a_content : RefusedBy Show NoMemory
  pub memory_of_a_finish : NotRefusedBy (Finish (txn 1 1) 1) NoMemory
  pub memory_of_a_receipt : NotRefusedBy (Acknowledge (txn 1 1) 5) NoMemory
  pub memory_of_a_force : NotRefusedBy Force NoMemory
  pub memory_of_a_page_write : NotRefusedBy (Write_page 1) NoMemory
  pub disk_of_a_force : RefusedBy Force DiskWrite
  pub disk_of_a_page_write : RefusedBy (Write_page 1) DiskWrite
  pub disk_of_a_commit : NotRefusedBy (Commit (txn 1 1)) DiskWrite
  pub disk_of_a_send : RefusedBy (Start_send (txn 1 1) hello) DiskWrite
  pub read_of_a_send : RefusedBy (Start_send (txn 1 1) hello) DiskRead
  pub read_of_a_content : RefusedBy Show DiskRead
  pub read_of_a_commit : NotRefusedBy (Commit (txn 1 1)) DiskRead
  pub read_of_a_page_write : NotRefusedBy (Write_page 1) DiskRead
  pub frames_of_a_send : RefusedBy (Start_send (txn 1 1) hello) PoolFull
  pub frames_of_a_content : NotRefusedBy Show PoolFull
  pub frames_of_a_commit : NotRefusedBy (Commit (txn 1 1)) PoolFull
  pub damage_at_all : (call : Call) (d : Damage) → NotRefusedBy call (Damaged d)
  pub latched_by_another : HasCause (any_busy (ledger two_begun).open_ones) (Start_send (txn 1 2) other) Latched
  pub latched_by_another_legally : IsLegal small (Refused (Start_send (txn 1 2) other) Latched ∷ two_begun)
  pub latched_by_nobody : HasCause (any_busy (ledger (first_entries 2)).open_ones) (Start_send (txn 1 1) hello) Latched
      → ⊥
  pub latched_once_all_is_finished :
      HasCause (any_busy (ledger (first_entries 6)).open_ones) (Start_send (txn 1 1) hello) Latched → ⊥

-- 1.2 took the message of sender 0, and has not ended
abbrev pub took : List Entry
took = Did (txn 1 2) 1 (Take hello) ∷ Stepped (txn 1 2) 1 7 ∷ taking

-- the transaction finds nothing in any group
abbrev pub FindsNothing : List Entry → Txn → Type 0
FindsNothing h t = At (ledger h) t (λ o. (s : ℕ) → GivesTo h t o s → ⊥)

-- none, and what gives a message to whom
pub record NoneIsJudged : Type 0 where
  pub gives_what_is_committed : At (ledger (first_entries 11)) (txn 1 2) (λ o. GivesTo (first_entries 11) (txn 1 2) o 0)
  pub gives_nothing_uncommitted : FindsNothing (first_entries 6) (txn 1 1)
  pub gives_nothing_twice : FindsNothing took (txn 1 2)
  pub gives_nothing_of_a_held_end : FindsNothing (Begun (txn 1 3) ∷ took) (txn 1 3)
  pub none_once_taken : IsLegal small (None_free (txn 1 2) ∷ took)
  pub none_from_once_taken : IsLegal small (None_from (txn 1 2) 0 ∷ took)
  pub none_from_where_one_waits : IsLegal small (None_from (txn 1 2) 0 ∷ first_entries 11) → ⊥
  pub started_where_none_waits : IsLegal small (Started (txn 1 1) 2 (Taking 0) ∷ first_entries 6) → ⊥
  pub started_where_one_waits : IsLegal small (Started (txn 1 2) 1 (Taking 0) ∷ first_entries 11)
  -- whatever the history: a receive from one sender is refused for a latch or a frame only where its group gives one
  pub latched_for_nothing : (z : Size) (h : List Entry) (t : Txn) (s : ℕ)
      → IsLegal z (Refused (Start_receive_from t s) Latched ∷ h) → At (ledger h) t (λ o. GivesTo h t o s)
  pub frames_for_nothing : (z : Size) (h : List Entry) (t : Txn) (s : ℕ)
      → IsLegal z (Refused (Start_receive_from t s) PoolFull ∷ h) → At (ledger h) t (λ o. GivesTo h t o s)
