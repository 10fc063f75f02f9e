-- Worked: t1 sent a message for sender 0 and committed; t2 sent one for sender 15 and took the first when a crash came.
use Rattle.std.specs.Prelude.{ℕ, true, List, [], ◌∷◌, None}
use Rattle.rq_model.specs.Deeds.{spelled_deed}
use Rattle.rq_model.specs.declared.record.Record.{Record}
use Rattle.rq_views.specs.WorkedItems.{sizes, t2, sends, takes, done_two}
use Rattle.rq_txn.specs.declared.Finished.{Finished}
use Rattle.rq_txn.specs.Rows.{Row}
use Rattle.rq_store.specs.State.{State}
use Rattle.rq_store.specs.Worked.{spelled_log}
use Rattle.rq_analysis.specs.declared.dues.PendingUndo.{PendingUndo}
use Rattle.rq_analysis.specs.Lost.{lost_store}

abbrev pub log_two : List Record
log_two = spelled_log done_two

-- what t2 had finished
abbrev pub sent_two : Finished
sent_two = record { lsn = 8; number = 1; deed = sends 15 }

abbrev pub took_two : Finished
took_two = record { lsn = 11; number = 2; deed = takes 0 }

abbrev pub sent_due : PendingUndo
sent_due = record { txn = t2; lsn = 8; number = 1; level = 1; deed = spelled_deed (sends 15) }

abbrev pub took_due : PendingUndo
took_due = record { txn = t2; lsn = 11; number = 2; level = 1; deed = spelled_deed (takes 0) }

abbrev pub row_two : Row
row_two = record {
  txn = t2;
  aborting = true;
  finished = sent_two ∷ took_two ∷ [];
  number = 2;
  under = None;
}

-- the store that the crash leaves, all records forced
abbrev pub store_two : List (List ℕ) → State
store_two images = lost_store sizes images log_two 11
