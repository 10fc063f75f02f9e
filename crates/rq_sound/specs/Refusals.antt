-- Refusals of a sound store, with whatever under way; and what the model's tests read, by the rows.
use Rattle.std.specs.Prelude.{◌≡◌, ℕ, ◌<◌, ◌||◌, true, false, length, Some}
use Rattle.std.specs.List.{sum_by}
use Rattle.std.specs.Option.{option_map}
use Rattle.rq_model.specs.declared.txn.Txn.{Txn}
use Rattle.rq_model.specs.declared.refusal.Refusal.{Refusal}
use Rattle.rq_model.specs.declared.refusal.Refusal.TheVariants.{DiskWrite}
use Rattle.rq_model.specs.History.{Entry, Call}
use Rattle.rq_model.specs.Commits.{committed_of}
use Rattle.rq_model.specs.Ledger.{after, ended_in, found}
use Rattle.rq_model.specs.Legal.{LegalRefusal}
use Rattle.rq_model.specs.Replay.{Reply}
use Rattle.rq_model.specs.Tests.{any_busy, has_closed, has_done, has_under, is_busy, newest, owed}
use Rattle.rq_model.specs.Vocabulary.{first, is_some, last}
use Rattle.rq_page.specs.declared.directory.Directory.{Directory}
use Rattle.rq_page.specs.Sizes.{directory_at, sender_count}
use Rattle.rq_page.specs.Slots.Slot.{Sender}
use Rattle.rq_groups.specs.Ends.{is_free_for}
use Rattle.rq_store.specs.State.{size_of, op_done, State, ledger_of, open_of, owed_by}
use Rattle.rq_txn.specs.Rows.{Row, found_row, any_under}
use Rattle.rq_store.specs.Rows.{is_under}
use Rattle.rq_sound.specs.Sound.{IsSound}
use Rattle.rq_sound.specs.ModelSteps.{IsModelStep}
use Rattle.rq_sound.specs.Calls.{failed, IsIdle}
use Rattle.rq_sound.specs.Groups.{slots_now}

-- A refusal that may come there, and that leaves the ledger, is a step that changes nothing. A device's failure stops
-- the store.
pub record RefusalsAreSteps : Type 0 where
  pub refused : (s : State) (c : Call) (r : Refusal) → IsSound s → LegalRefusal (size_of s.sizes) (ledger_of s) c r
      → after (Entry.Refused c r) (ledger_of s) ≡ ledger_of s → IsModelStep s c (Reply.Gave_refusal r) s
  pub fails : (s : State) (c : Call) → IsSound s → s.failed ≡ false
      → IsModelStep s c (Reply.Gave_refusal DiskWrite) (failed s)

-- what the model's tests read of a ledger, by the rows
pub record TestsReadRows : Type 0 where
  pub found_is : (s : State) (t : Txn)
      → found t (ledger_of s).open_ones ≡ option_map (open_of s.ends) (found_row t s.rows)
  pub count_is : (s : State) → length (ledger_of s).open_ones ≡ length s.rows
  pub busy_is : (s : State) → any_busy (ledger_of s).open_ones ≡ any_under s.rows
  pub owed_is : (s : State) → sum_by owed (ledger_of s).open_ones ≡ owed_by s.rows
  pub under_is : (s : State) (r : Row) (n : ℕ) → IsSound s → found_row r.txn s.rows ≡ Some r
      → has_under n (found r.txn (ledger_of s).open_ones) ≡ is_under n r.under
  pub one_busy_is : (s : State) (r : Row) → found_row r.txn s.rows ≡ Some r
      → is_busy (found r.txn (ledger_of s).open_ones) ≡ is_some r.under
  pub newest_is : (s : State) (r : Row) → found_row r.txn s.rows ≡ Some r
      → newest (found r.txn (ledger_of s).open_ones) ≡ option_map op_done (last r.finished)
  pub done_is : (s : State) (r : Row) → found_row r.txn s.rows ≡ Some r
      → has_done (found r.txn (ledger_of s).open_ones) ≡ is_some (first r.finished)
  -- whether the group is closed for who may send to it, by its directory slot
  pub closed_is : (s : State) (r : Row) (g : ℕ) (d : Directory) → IsSound s → IsIdle s r → g < sender_count s.sizes
      → is_free_for r.txn g s.ends.sending ≡ true → slots_now s (directory_at g) ≡ Sender g d
      → (ended_in (committed_of s.records) g || has_closed g (found r.txn (ledger_of s).open_ones)) ≡ d.closed
