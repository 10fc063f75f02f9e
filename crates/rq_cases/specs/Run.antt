-- A run of that store, state by state: transaction 1.1 sends a message and is committed, the log is forced, and 1.2
-- takes the message.
use Rattle.std.specs.Prelude.{ℕ, false, List, [], ◌∷◌, replicate, Some, None}
use Rattle.rq_model.specs.declared.record.Record.{Record}
use Rattle.rq_model.specs.declared.record.Record.TheVariants.{Commit, Restart}
use Rattle.rq_model.specs.declared.txn.Txn.{Txn}
use Rattle.rq_views.specs.WorkedItems.{sends, t1, t2, takes}
use Rattle.rq_txn.specs.declared.Finished.{Finished}
use Rattle.rq_txn.specs.declared.Aim.TheVariants.{Doing}
use Rattle.rq_txn.specs.Rows.{Row, Under, fresh_row}
use Rattle.rq_groups.specs.declared.Held.{Held}
use Rattle.rq_groups.specs.Ends.{HeldEnds}
use Rattle.rq_store.specs.State.{State}
use Rattle.rq_store.specs.Steps.{op_end, page_op}
use Rattle.rq_cases.specs.Store.{sizes, fill_cell, count_sent, free_cell, count_taken, formatted_pages, filled_pages, sent_pages, freed_pages, taken_pages}

-- the send and the receive, once so many of their writes are made
abbrev pub send_under : ℕ → Under
send_under made = record { number = 1; writes = fill_cell ∷ count_sent ∷ []; made = made; aim = Doing (sends 0) }

abbrev pub take_under : ℕ → Under
take_under made = record { number = 1; writes = free_cell ∷ count_taken ∷ []; made = made; aim = Doing (takes 0) }

-- a transaction with its first operation under way, and with that finished
abbrev pub busy_row : Txn → Under → Row
busy_row t u = record { txn = t; aborting = false; finished = []; number = 1; under = Some u }

abbrev pub done_row : Txn → Finished → Row
done_row t f = record { txn = t; aborting = false; finished = f ∷ []; number = 1; under = None }

abbrev pub did_send : Finished
did_send = record { lsn = 4; number = 1; deed = sends 0 }

abbrev pub did_take : Finished
did_take = record { lsn = 8; number = 1; deed = takes 0 }

-- who holds the end of sender 0
abbrev pub held : Txn → List Held
held t = record { txn = t; sender = 0 } ∷ []

abbrev pub no_ends : HeldEnds
no_ends = record { sending = []; receiving = [] }

abbrev pub sends_to_0 : HeldEnds
sends_to_0 = record { sending = held t1; receiving = [] }

abbrev pub takes_from_0 : HeldEnds
takes_from_0 = record { sending = []; receiving = held t2 }

-- the length field of no record: it is too large
abbrev pub no_record : List ℕ
no_record = 1 ∷ 0 ∷ 0 ∷ 0 ∷ []

-- the log: its first record, and with each one more
abbrev pub log_1 : List Record
log_1 = Restart 1 ∷ []

abbrev pub log_2 : List Record
log_2 = page_op t1 1 fill_cell ∷ log_1

abbrev pub log_3 : List Record
log_3 = page_op t1 1 count_sent ∷ log_2

abbrev pub log_4 : List Record
log_4 = op_end t1 1 (sends 0) ∷ log_3

abbrev pub log_5 : List Record
log_5 = Commit t1 ∷ log_4

abbrev pub log_6 : List Record
log_6 = page_op t2 1 free_cell ∷ log_5

abbrev pub log_7 : List Record
log_7 = page_op t2 1 count_taken ∷ log_6

abbrev pub log_8 : List Record
log_8 = op_end t2 1 (takes 0) ∷ log_7

abbrev pub log_9 : List Record
log_9 = Commit t2 ∷ log_8

-- so many messages of sender 0 wait
abbrev pub waits_of_0 : ℕ → List ℕ
waits_of_0 n = n ∷ replicate 14 0

-- a store of the first incarnation with these lists
abbrev pub lists : List Row → HeldEnds → List (List ℕ) → List Record → ℕ → ℕ → ℕ → ℕ → State
lists rows ends images records forced begins cells waits = record {
  sizes = sizes;
  rows = rows;
  ends = ends;
  images = images;
  records = records;
  forced = forced;
  failed = false;
  incarnation = 1;
  begins = begins;
  cells_in_use = cells;
  waiting = waits_of_0 waits;
  sent = record { counts = replicate 15 0; tags = replicate 15 0 };
}

-- the message of sender 0 is committed
abbrev pub one_sent : State → State
one_sent s = record s { sent = record { counts = 1 ∷ replicate 14 0; tags = 7 ∷ replicate 14 0 } }

-- it was just opened; 1.1 is begun, its send is started, one slot and then the other is written, the send is finished
abbrev pub fresh : State
fresh = lists [] no_ends formatted_pages log_1 1 0 0 0

abbrev pub begun : State
begun = lists (fresh_row t1 ∷ []) no_ends formatted_pages log_1 1 1 0 0

abbrev pub send_started : State
send_started = lists (busy_row t1 (send_under 0) ∷ []) sends_to_0 formatted_pages log_1 1 1 1 0

abbrev pub cell_filled : State
cell_filled = lists (busy_row t1 (send_under 1) ∷ []) sends_to_0 filled_pages log_2 1 1 1 0

abbrev pub group_counted : State
group_counted = lists (busy_row t1 (send_under 2) ∷ []) sends_to_0 sent_pages log_3 1 1 1 0

abbrev pub sent : State
sent = lists (done_row t1 did_send ∷ []) sends_to_0 sent_pages log_4 1 1 1 0

-- 1.1 is committed, and the log is forced
abbrev pub committed : State
committed = one_sent (lists [] no_ends sent_pages log_5 1 1 1 1)

abbrev pub forced : State
forced = one_sent (lists [] no_ends sent_pages log_5 5 1 1 1)

-- 1.2 is begun, its receive is started, its slots are written, it is finished; 1.2 is committed
abbrev pub begun_again : State
begun_again = one_sent (lists (fresh_row t2 ∷ []) no_ends sent_pages log_5 5 2 1 1)

abbrev pub take_started : State
take_started = one_sent (lists (busy_row t2 (take_under 0) ∷ []) takes_from_0 sent_pages log_5 5 2 1 1)

abbrev pub cell_freed : State
cell_freed = one_sent (lists (busy_row t2 (take_under 1) ∷ []) takes_from_0 freed_pages log_6 5 2 1 1)

abbrev pub take_counted : State
take_counted = one_sent (lists (busy_row t2 (take_under 2) ∷ []) takes_from_0 taken_pages log_7 5 2 1 1)

abbrev pub taken : State
taken = one_sent (lists (done_row t2 did_take ∷ []) takes_from_0 taken_pages log_8 5 2 1 0)

abbrev pub all_committed : State
all_committed = one_sent (lists [] no_ends taken_pages log_9 5 2 0 0)
