-- A log at its bound: calls that just fit, and calls that are refused.
use Rattle.std.specs.Prelude.{◌≡◌, ℕ, zero, suc, ◌+◌, ◌-◌, ◌^◌, ◌<◌, ◌≤◌, Bool, false, true, List, [], ◌∷◌, length, Option, Some, None}
use Rattle.std.specs.List.{sum_by}
use Rattle.rq_model.specs.declared.record.Record.{Record}
use Rattle.rq_model.specs.declared.record.Record.TheVariants.{Commit as Commit_record}
use Rattle.rq_model.specs.declared.refusal.Refusal.{Refusal}
use Rattle.rq_model.specs.declared.refusal.Refusal.TheVariants as why
use Rattle.rq_model.specs.declared.txn.Txn.{Txn}
use Rattle.rq_model.specs.History.{Call}
use Rattle.rq_model.specs.History.Call.{Commit, End_abort, Start_close, Start_send, Undo_next}
use Rattle.rq_model.specs.Incarnations.{incarnation_of}
use Rattle.rq_model.specs.Replay.{Number}
use Rattle.rq_model.specs.Replay.Reply.{Gave_commit, Gave_refusal, Gave_sub}
use Rattle.rq_model.specs.Tests.{first_of, log_full, tests}
use Rattle.rq_disk.specs.declared.mem_log.MemLog.{MemLog}
use Rattle.rq_disk.specs.declared.mem_pages.MemPages.{MemPages}
use Rattle.rq_page.specs.Sizes.{sender_count}
use Rattle.rq_txn.specs.Rows.{fresh_row, without_row}
use Rattle.rq_groups.specs.Ends.{released}
use Rattle.rq_store.specs.Opening.{next_restart, opened}
use Rattle.rq_store.specs.Settled.{takes_one}
use Rattle.rq_sound.specs.Sound.{IsSound}
use Rattle.rq_store.specs.State.{State, ledger_of, size_of}
use Rattle.rq_sound.specs.ModelSteps.{IsModelStep}
use Rattle.rq_engine.specs.Lists.{done_by}
use Rattle.rq_engine.specs.Moves.{with_sends, with_tags}
use Rattle.rq_engine.specs.Opened.{OpenStore}
use Rattle.rq_engine.specs.declared.event.CommitNo.{CommitNo}
use Rattle.rq_engine.specs.declared.event.Event.TheVariants as event
use Rattle.rq_engine.specs.declared.event.Reply.TheVariants as reply
use Rattle.rq_views.specs.WorkedItems.{t1}
use Rattle.rq_core.specs.Worked.{hello}
use Rattle.rq_cases.specs.Aborts.{close_turned, turned, undone}
use Rattle.rq_cases.specs.Applied.{Makes, MeetsAll}
use Rattle.rq_cases.specs.Opened.{over}
use Rattle.rq_cases.specs.Openings.{Checked, IsRefused}
use Rattle.rq_cases.specs.Restarting.{read_pages}
use Rattle.rq_cases.specs.Run.{send_started}
use Rattle.rq_cases.specs.Store.{formatted_pages, sizes}
use Rattle.rq_cases.specs.Worlds.{Hold}

-- a store that was opened so often, one time after the other
abbrev pub restarts : ℕ → List Record
restarts zero = []
restarts (suc n) = next_restart (restarts n) ∷ restarts n

abbrev pub just_opened : ℕ → State
just_opened n = opened sizes formatted_pages (restarts n)

-- then a transaction is begun
abbrev pub only_one : ℕ → Txn
only_one n = record { incarnation = incarnation_of (restarts n) + 1; count = 1 }

abbrev pub one_begun : ℕ → State
one_begun n = record (just_opened n) { rows = fresh_row (only_one n) ∷ []; begins = 1 }

-- and committed
abbrev pub one_committed : ℕ → State
one_committed n = record (one_begun n) {
  rows = without_row (only_one n) (one_begun n).rows;
  ends = record {
    sending = released (only_one n) (one_begun n).ends.sending;
    receiving = released (only_one n) (one_begun n).ends.receiving;
  };
  records = Commit_record (only_one n) ∷ (one_begun n).records;
  cells_in_use = (one_begun n).cells_in_use - sum_by takes_one (done_by (one_begun n) (only_one n));
  waiting = with_sends (done_by (one_begun n) (only_one n)) (one_begun n).waiting;
  sent = with_tags (sender_count (one_begun n).sizes) (done_by (one_begun n) (only_one n)) (one_begun n).sent;
}

-- its commit is answered
abbrev pub Commits : ℕ → Number → State → Type 0
Commits n number new = IsModelStep (one_begun n) (Commit (only_one n)) (Gave_commit number) new

-- or the log is full for it
abbrev pub IsFull : ℕ → State → Type 0
IsFull n new = IsModelStep (one_begun n) (Commit (only_one n)) (Gave_refusal why.LogFull) new

-- the start of a send is answered, or the log is full for it
abbrev pub Sends : ℕ → ℕ → State → Type 0
Sends n number new = IsModelStep (one_begun n) (Start_send (only_one n) hello) (Gave_sub (only_one n) number) new

abbrev pub IsFullForSend : ℕ → State → Type 0
IsFullForSend n new = IsModelStep (one_begun n) (Start_send (only_one n) hello) (Gave_refusal why.LogFull) new

-- so of a close
abbrev pub Closes : ℕ → ℕ → State → Type 0
Closes n number new = IsModelStep (one_begun n) (Start_close (only_one n) 0) (Gave_sub (only_one n) number) new

abbrev pub IsFullForClose : ℕ → State → Type 0
IsFullForClose n new = IsModelStep (one_begun n) (Start_close (only_one n) 0) (Gave_refusal why.LogFull) new

-- whether a commit passes the bound where a send is under way over a log of so many records
abbrev pub full_beside : ℕ → Bool
full_beside n = log_full (record (ledger_of send_started) { records = n }) 1

-- what the first test says that holds of a call, over a log of so many records
abbrev pub first_at : ℕ → State → Call → Option Refusal
first_at n s c = first_of (tests (size_of sizes) (record (ledger_of s) { records = n }) c)

pub record BoundsAreJudged : Type 0 where
  -- over a log of n + 1 records
  pub sound : (n : ℕ) → IsSound (one_begun n)
  pub records_are : (n : ℕ) → length (one_begun n).records ≡ n + 1
  -- a commit takes one
  pub commit_fits : (n : ℕ) → n + 2 ≤ 2 ^ 50
      → (new : State) × Commits n (record { txn = only_one n; lsn = length (one_begun n).records + 1 }) new
  pub commit_is_full : (n : ℕ) → 2 ^ 50 ≤ n + 1 → IsFull n (one_begun n)
  pub full_where_it_fits : (n : ℕ) (new : State) → n + 2 ≤ 2 ^ 50 → IsFull n new → ⊥
  pub fits_where_it_is_full : (n : ℕ) (number : Number) (new : State) → 2 ^ 50 ≤ n + 1 → Commits n number new → ⊥
  -- a send takes four at most
  pub send_fits : (n : ℕ) → n + 5 ≤ 2 ^ 50 → (new : State) × Sends n 1 new
  pub send_is_full : (n : ℕ) → 2 ^ 50 < n + 5 → IsFullForSend n (one_begun n)
  pub full_where_a_send_fits : (n : ℕ) (new : State) → n + 5 ≤ 2 ^ 50 → IsFullForSend n new → ⊥
  pub send_where_it_is_full : (n number : ℕ) (new : State) → 2 ^ 50 < n + 5 → Sends n number new → ⊥
  -- a close takes two
  pub close_fits : (n : ℕ) → n + 3 ≤ 2 ^ 50 → (new : State) × Closes n 1 new
  pub close_is_full : (n : ℕ) → 2 ^ 50 < n + 3 → IsFullForClose n (one_begun n)
  pub full_where_a_close_fits : (n : ℕ) (new : State) → n + 3 ≤ 2 ^ 50 → IsFullForClose n new → ⊥
  pub close_where_it_is_full : (n number : ℕ) (new : State) → 2 ^ 50 < n + 3 → Closes n number new → ⊥
  -- what an operation under way has yet to log is kept for it: here two writes and its end
  pub fits_beside : (n : ℕ) → n + 4 ≤ 2 ^ 50 → full_beside n ≡ false
  pub full_beside_it : (n : ℕ) → 2 ^ 50 < n + 4 → full_beside n ≡ true
  -- the inverse of a send takes four at most, that of a close two, and the end of an abort one
  pub undo_fits : (n : ℕ) → n + 4 ≤ 2 ^ 50 → first_at n turned (Undo_next t1) ≡ None
  pub undo_is_full : (n : ℕ) → 2 ^ 50 < n + 4 → first_at n turned (Undo_next t1) ≡ Some why.LogFull
  pub open_fits : (n : ℕ) → n + 2 ≤ 2 ^ 50 → first_at n close_turned (Undo_next t1) ≡ None
  pub open_is_full : (n : ℕ) → 2 ^ 50 < n + 2 → first_at n close_turned (Undo_next t1) ≡ Some why.LogFull
  pub end_fits : (n : ℕ) → n + 1 ≤ 2 ^ 50 → first_at n undone (End_abort t1) ≡ None
  pub end_is_full : (n : ℕ) → 2 ^ 50 < n + 1 → first_at n undone (End_abort t1) ≡ Some why.LogFull
  -- what has nothing left takes none
  pub nothing_left_fits : (n : ℕ) → first_at n undone (Undo_next t1) ≡ None
  -- the whole call, over devices in memory
  pub before_the_commit : (n : ℕ) (pages : MemPages) (log : MemLog)
      → Hold pages formatted_pages log (restarts (suc n)) → MeetsAll (over (one_begun n) pages log)
  pub commit_made : (n : ℕ) (pages : MemPages) (log : MemLog) (number : CommitNo) → n + 2 ≤ 2 ^ 50
      → number.txn ≡ only_one n → number.lsn ≡ n + 2 → Hold pages formatted_pages log (restarts (suc n))
      → Makes (over (one_begun n) pages log) (event.Commit (only_one n)) (reply.Committed number)
      (over (one_committed n) pages log)
  pub commit_refused : (n : ℕ) (pages : MemPages) (log : MemLog) → 2 ^ 50 ≤ n + 1 → n + 1 < 2 ^ 64
      → Hold pages formatted_pages log (restarts (suc n))
      → Makes (over (one_begun n) pages log) (event.Commit (only_one n)) (reply.Refused why.LogFull)
      (over (one_begun n) pages log)
  pub refused_where_it_fits : (n : ℕ) (pages : MemPages) (log : MemLog) (new : OpenStore MemPages MemLog)
      → n + 2 ≤ 2 ^ 50
      → Makes (over (one_begun n) pages log) (event.Commit (only_one n)) (reply.Refused why.LogFull) new → ⊥
  pub committed_where_it_is_full : (n : ℕ) (pages : MemPages) (log : MemLog) (number : CommitNo)
      (new : OpenStore MemPages MemLog) → 2 ^ 50 ≤ n + 1
      → Makes (over (one_begun n) pages log) (event.Commit (only_one n)) (reply.Committed number) new → ⊥
  -- a restart takes one, too
  pub restart_fits : (n : ℕ) (pages : MemPages) (log new : MemLog) → n < 2 ^ 50
      → Hold pages formatted_pages log (restarts n) → Checked pages log new read_pages (restarts (suc n))
  pub restart_is_full : (n : ℕ) (pages : MemPages) (log : MemLog) (count : ℕ) → 2 ^ 50 ≤ n → n < 2 ^ 64
      → Hold pages formatted_pages log (restarts n) → IsRefused pages log count why.LogFull pages log
  pub restart_full_where_it_fits : (n : ℕ) (pages new_pages : MemPages) (log new_log : MemLog) (count : ℕ) → n < 2 ^ 50
      → Hold pages formatted_pages log (restarts n)
      → IsRefused pages log count why.LogFull new_pages new_log → ⊥
