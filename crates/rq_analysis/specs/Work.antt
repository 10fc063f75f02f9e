-- How much is left of undoing transactions.
use Rattle.std.specs.Prelude.{ℕ, ◌+◌, ◌-◌, ◌*◌, length, Option, Some, None}
use Rattle.std.specs.List.{sum_by}
use Rattle.rq_txn.specs.Rows.{Row, Under}
use Rattle.rq_store.specs.State.{State}

-- an inverse counts five: its start, three writes at most, and its end; one under way counts what it has yet to do
abbrev pub left_to_undo : ℕ → Option Under → ℕ
left_to_undo n None = 5 * n
left_to_undo n (Some u) = 5 * (n - 1) + (length u.writes - u.made) + 1

-- the transaction's end counts one
abbrev pub row_work : Row → ℕ
row_work r = left_to_undo (length r.finished) r.under + 1

abbrev pub abort_work : State → ℕ
abort_work s = sum_by row_work s.rows
