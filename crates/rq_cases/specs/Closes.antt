-- A close: its plan, what its calls make of a store's lists, and whom it refuses from then on; and what they don't.
use Rattle.std.specs.Prelude.{ℕ, List, [], ◌∷◌}
use Rattle.rq_model.specs.declared.record.Deed.TheVariants.{Close}
use Rattle.rq_model.specs.declared.record.Record.{Record}
use Rattle.rq_views.specs.WorkedItems.{t1}
use Rattle.rq_txn.specs.declared.Aim.TheVariants.{Doing}
use Rattle.rq_txn.specs.declared.Finished.{Finished}
use Rattle.rq_txn.specs.Rows.{Under}
use Rattle.rq_store.specs.State.{State}
use Rattle.rq_store.specs.Steps.{op_end, page_op}
use Rattle.rq_cases.specs.Run.{done_row, lists, log_1, sends_to_0}
use Rattle.rq_cases.specs.Store.{closed_pages, set_closed}

-- 1.1 closes the group of sender 0: the operation, once so many of its writes are made
abbrev pub close_under : ℕ → Under
close_under made = record { number = 1; writes = set_closed ∷ []; made = made; aim = Doing (Close 0) }

abbrev pub did_close : Finished
did_close = record { lsn = 3; number = 1; deed = Close 0 }

abbrev pub log_marked : List Record
log_marked = page_op t1 1 set_closed ∷ log_1

abbrev pub log_closed : List Record
log_closed = op_end t1 1 (Close 0) ∷ log_marked

abbrev pub closed : State
closed = lists (done_row t1 did_close ∷ []) sends_to_0 closed_pages log_closed 1 1 0 0
