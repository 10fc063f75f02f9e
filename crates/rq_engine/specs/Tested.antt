-- What a start tests before it reads a page, and a content, of every store over any device.
use Rattle.std.specs.Prelude.{ℕ, Bool, false, true, List, [], ◌∷◌, ◌++◌, nat_lt, not, length}
use Rattle.rq_model.specs.declared.refusal.Refusal.{Refusal}
use Rattle.rq_model.specs.declared.refusal.Refusal.TheVariants as why
use Rattle.rq_model.specs.History.{Call}
use Rattle.rq_model.specs.History.Call.{Start_send, Start_receive, Start_receive_from, Start_close, Start_mark, Undo_next, Show}
use Rattle.rq_model.specs.Ledger.{found}
use Rattle.rq_model.specs.Tests.{log_full, newest, ready_tests, undo_cost}
use Rattle.rq_model.specs.Vocabulary.{client_group}
use Rattle.rq_groups.specs.Ends.{is_free_for}
use Rattle.rq_page.specs.Sizes.{cell_count, client_count, directory_at, sender_count}
use Rattle.rq_page.specs.Slots.{Slot}
use Rattle.rq_page.specs.Slots.Slot.{Sender}
use Rattle.rq_store.specs.State.{State, ledger_of}
use Rattle.rq_txn.specs.Rows.{any_under}
use Rattle.rq_views.specs.Stored.{slots_in}

-- a directory slot tells that its group is closed
abbrev pub is_closed : Slot → Bool
is_closed (Sender s d) = d.closed
is_closed _ = false

-- the group of a sender is closed by the slots as they are
abbrev pub group_closed : State → ℕ → Bool
group_closed s g = is_closed (slots_in s.sizes s.images (directory_at g))

-- The tests in order, each with its refusal. Of a receive they are those of one that has a message to take, of an inverse of one
-- that has something to undo.
abbrev pub tested : State → Call → List (Bool × Refusal)
tested s (Start_send t m) =
    ready_tests (ledger_of s) t false
    ++ ((not (nat_lt m.sender (sender_count s.sizes)), why.UnknownSender) ∷ (nat_lt 216 (length m.body), why.TooLong)
    ∷ (not (is_free_for t m.sender s.ends.sending), why.SenderBusy) ∷ (group_closed s m.sender, why.Closed)
    ∷ (not (nat_lt s.cells_in_use (cell_count s.sizes)), why.Full) ∷ (log_full (ledger_of s) 4, why.LogFull) ∷ [])
tested s (Start_receive t) = ready_tests (ledger_of s) t false ++ ((log_full (ledger_of s) 4, why.LogFull) ∷ [])
tested s (Start_receive_from t g) =
    ready_tests (ledger_of s) t false
    ++ ((not (nat_lt g (sender_count s.sizes)), why.UnknownSender)
    ∷ (not (is_free_for t g s.ends.receiving), why.ReceiverBusy) ∷ (log_full (ledger_of s) 4, why.LogFull) ∷ [])
tested s (Start_close t g) =
    ready_tests (ledger_of s) t false
    ++ ((not (nat_lt g (sender_count s.sizes)), why.UnknownSender)
    ∷ (not (is_free_for t g s.ends.sending), why.SenderBusy) ∷ (group_closed s g, why.Closed)
    ∷ (log_full (ledger_of s) 2, why.LogFull) ∷ [])
tested s (Start_mark t c tag) =
    ready_tests (ledger_of s) t false
    ++ ((not (nat_lt c (client_count s.sizes)), why.UnknownClient)
    ∷ (not (is_free_for t (client_group c) s.ends.sending), why.ClientBusy) ∷ (log_full (ledger_of s) 2, why.LogFull) ∷ [])
tested s (Undo_next t) =
    ready_tests (ledger_of s) t true
    ++ ((log_full (ledger_of s) (undo_cost (newest (found t (ledger_of s).open_ones))), why.LogFull) ∷ [])
tested s Show = (s.failed, why.Failed) ∷ (any_under s.rows, why.Unfinished) ∷ []
tested s _ = []
