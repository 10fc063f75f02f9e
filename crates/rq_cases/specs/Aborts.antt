-- Aborts: what their calls make of a store's lists, and of what an inverse is planned; and what they don't.
use Rattle.std.specs.Prelude.{ℕ, true, List, [], ◌∷◌, None}
use Rattle.rq_model.specs.declared.record.Record.{Record}
use Rattle.rq_model.specs.declared.record.Record.TheVariants.{CompEnd}
use Rattle.rq_model.specs.declared.txn.Txn.{Txn}
use Rattle.rq_page.specs.Directories.{new_directory}
use Rattle.rq_views.specs.WorkedItems.{t1}
use Rattle.rq_level.specs.declared.writes.SlotWrite.{SlotWrite}
use Rattle.rq_txn.specs.declared.Finished.{Finished}
use Rattle.rq_txn.specs.Rows.{Row}
use Rattle.rq_store.specs.State.{State}
use Rattle.rq_store.specs.Steps.{page_op}
use Rattle.rq_cases.specs.Closes.{closed, did_close}
use Rattle.rq_cases.specs.Run.{did_send, lists, log_4, sends_to_0}
use Rattle.rq_cases.specs.Store.{cells_2, free_cell, group, group_page, group_slot, groups_1, one_sent, pages_with, sent_pages, written}

-- the directory slot of sender 0, as it was before the send, the receive and the close
abbrev pub count_back : SlotWrite
count_back = record {
  at = 17;
  before = group one_sent;
  after = group new_directory;
  page = group_page;
  slot = group_slot;
}

abbrev pub groups_back : ℕ → List ℕ
groups_back = written 1 (group new_directory) groups_1

abbrev pub undone_pages : List (List ℕ)
undone_pages = pages_with 6 groups_back 5 cells_2

-- a transaction that aborts, with this finished and not undone, and so many operations started
abbrev pub aborting_row : Txn → List Finished → ℕ → Row
aborting_row t fs number = record { txn = t; aborting = true; finished = fs; number = number; under = None }

-- the log, with each record of the abort one more
abbrev pub log_emptied : List Record
log_emptied = page_op t1 2 free_cell ∷ log_4

abbrev pub log_counted : List Record
log_counted = page_op t1 2 count_back ∷ log_emptied

abbrev pub log_undone : List Record
log_undone = CompEnd t1 2 4 ∷ log_counted

-- 1.1, which has sent, is turned to abort. The inverse of its send is started, its slots are written, and it is finished. Then
-- the abort is ended.
abbrev pub turned : State
turned = lists (aborting_row t1 (did_send ∷ []) 1 ∷ []) sends_to_0 sent_pages log_4 1 1 1 0

abbrev pub undone : State
undone = lists (aborting_row t1 [] 2 ∷ []) sends_to_0 undone_pages log_undone 1 1 0 0

-- 1.1, which has closed, is turned to abort
abbrev pub close_turned : State
close_turned = record closed { rows = aborting_row t1 (did_close ∷ []) 1 ∷ [] }
