-- What is counted of a store: the cells in use, and what waits.
use Rattle.std.specs.Prelude.{◌≡◌, ℕ, ◌+◌, ◌<◌, ◌≤◌, cond, List, [], length, map, take, Option, Some, None}
use Rattle.std.specs.List.{sum_by, filter_map}
use Rattle.rq_model.specs.declared.record.Record.{Record}
use Rattle.rq_model.specs.Vocabulary.{In, sent_for, taken_from}
use Rattle.rq_model.specs.Ledger.{rest_in}
use Rattle.rq_model.specs.Commits.{committed_of}
use Rattle.rq_model.specs.Tests.{count_rest, below}
use Rattle.rq_page.specs.Sizes.{Sizes, cell_count, sender_count}
use Rattle.rq_views.specs.Log.{Write}
use Rattle.rq_views.specs.Claims.{appends_of}
use Rattle.rq_views.specs.Stored.{is_used, count_used}
use Rattle.rq_level.specs.Writes.{writes_of}
use Rattle.rq_txn.specs.declared.Finished.{Finished}
use Rattle.rq_groups.specs.Waiting.{waits}
use Rattle.rq_store.specs.State.{op_done}
use Rattle.rq_store.specs.Fitting.{left_by}
use Rattle.rq_store.specs.Rows.{HasWaiting}
use Rattle.rq_store.specs.Settled.{takes_one}
use Rattle.rq_txn.specs.declared.Aim.{Aim}
use Rattle.rq_txn.specs.Rows.{Under, Row}
use Rattle.rq_txn.specs.declared.Aim.TheVariants as aims

-- how many sends are under way
abbrev pub appends_aim : Aim → ℕ
appends_aim (aims.Doing d) = appends_of d
appends_aim (aims.Undoing lsn d) = 0

abbrev pub appending : Option Under → ℕ
appending None = 0
appending (Some u) = appends_aim u.aim

abbrev pub appending_in : Row → ℕ
appending_in r = appending r.under

-- the messages that it took and has not put back
abbrev pub takes_all : Row → ℕ
takes_all r = sum_by takes_one r.finished

-- the messages that it sent and has not unlinked
abbrev pub appends_one : Finished → ℕ
appends_one f = appends_of f.deed

abbrev pub appends_all : Row → ℕ
appends_all r = sum_by appends_one r.finished

-- the cells that the writes made so far were over, and those that they left, by how many are used
abbrev pub uses_before : Write → ℕ
uses_before w = cond (is_used w.before) 1 0

abbrev pub uses_after : Write → ℕ
uses_after w = cond (is_used w.after) 1 0

abbrev pub made_of : Sizes → Option Under → List Write
made_of z None = []
made_of z (Some u) = take u.made (writes_of z u.writes)

abbrev pub before_in : Sizes → Row → ℕ
before_in z r = sum_by uses_before (made_of z r.under)

abbrev pub after_in : Sizes → Row → ℕ
after_in z r = sum_by uses_after (made_of z r.under)

-- how many messages it took from g
abbrev pub takes_in : ℕ → Row → ℕ
takes_in g r = length (filter_map (taken_from g) (map op_done r.finished))

-- how many messages it sent for g
abbrev pub sends_in : ℕ → Row → ℕ
sends_in g r = length (filter_map (sent_for g) (map op_done r.finished))

-- where a message is taken, one waits
abbrev pub CoversAim : List ℕ → Aim → Type 0
CoversAim ws (aims.Doing d) = HasWaiting ws d
CoversAim ws (aims.Undoing lsn d) = Unit {0}

abbrev pub IsCovered : List ℕ → Option Under → Type 0
IsCovered ws None = Unit {0}
IsCovered ws (Some u) = CoversAim ws u.aim

-- Cells in use are those of messages in chains by finished operations, of messages taken and not put back, and of sends
-- under way: by the commit list and the rows, and by the slots. The slots as they are have other cells used than those
-- of whole operations just by the writes made so far.
pub record AreCounted (z : Sizes) (log : List Record) (rows : List Row) (cells : ℕ) (waiting : List ℕ) : Type 0 where
  pub committed : count_rest (below (sender_count z)) (committed_of log) + sum_by appends_all rows
      + sum_by appending_in rows ≡ cells
  pub used : count_used z (left_by z log).quiet + sum_by takes_all rows + sum_by appending_in rows ≡ cells
  pub room : count_used z (left_by z log).slots + sum_by (before_in z) rows
      ≡ count_used z (left_by z log).quiet + sum_by (after_in z) rows
  pub bound : cells ≤ cell_count z
  pub waited : (g : ℕ) → g < sender_count z
      → waits waiting g + sum_by (takes_in g) rows ≡ length (rest_in (committed_of log) g)
  pub covered : (r : Row) → In r rows → IsCovered waiting r.under
