-- Worked histories with marks of clients: which are legal, what is told of a client, and which are not legal.
use Rattle.std.specs.Prelude.{◌≡◌, ◌+◌, ◌-◌, ◌^◌, ℕ, List, [], ◌∷◌, ◌++◌}
use Rattle.rq_model.specs.declared.txn.Txn.{Txn}
use Rattle.rq_model.specs.declared.refusal.Refusal.TheVariants.{UnknownTransaction, NotOpen, Unfinished, UnknownClient, ClientBusy, LogFull}
use Rattle.rq_model.specs.Vocabulary.Op.{Mark}
use Rattle.rq_model.specs.History.{Entry, marks}
use Rattle.rq_model.specs.History.Call.{Start_mark, Undo_next, Client_tag}
use Rattle.rq_model.specs.History.Job.{Marking, Sending, Undoing}
use Rattle.rq_model.specs.History.Entry.{Begun, Started, Stepped, Did, Undid, Committed, Aborting, Aborted, Refused, Crash, Restarted, Told_client}
use Rattle.rq_model.specs.Ledger.{ledger, marks_in}
use Rattle.rq_model.specs.Legal.{IsLegal}
use Rattle.rq_model.specs.Tests.{Size}
use Rattle.rq_model.specs.Worked.{txn, small, opened, letter, message, sent}

-- the entries of a mark, whose slot write has this LSN
abbrev pub marked : Txn → ℕ → ℕ → ℕ → ℕ → List Entry
marked t n client tag lsn = Did t n (Mark client tag) ∷ Stepped t n lsn ∷ Started t n (Marking client tag) ∷ []

-- a mark and a send that are committed, and a mark of the same client that is not
abbrev pub one_marked : List Entry
one_marked = Committed (txn 1 1) 7 ∷ (sent (txn 1 1) 2 (letter 1 97) 4 ++ (marked (txn 1 1) 1 3 70 2 ++
    (Begun (txn 1 1) ∷ opened)))

abbrev pub two_marked : List Entry
two_marked = Begun (txn 1 3) ∷ (marked (txn 1 2) 1 3 71 8 ++ (Begun (txn 1 2) ∷ one_marked))

-- it is lost with a crash
abbrev pub mark_lost : List Entry
mark_lost = Restarted 2 13 ∷ Crash 1 9 ∷ two_marked

-- the committed one is lost too
abbrev pub commit_lost : List Entry
commit_lost = Restarted 2 13 ∷ Crash 0 3 ∷ one_marked

-- it is undone, and another transaction marks the client twice and commits
abbrev pub mark_undone : List Entry
mark_undone = Aborted (txn 1 2) ∷ Undid (txn 1 2) 2 ∷ Stepped (txn 1 2) 2 10 ∷ Started (txn 1 2) 2 Undoing
    ∷ Aborting (txn 1 2) ∷ two_marked

abbrev pub marked_twice : List Entry
marked_twice = Committed (txn 1 3) 17 ∷ (marked (txn 1 3) 2 3 73 15 ++ (marked (txn 1 3) 1 3 72 13 ++ mark_undone))

-- undone, and not yet ended
abbrev pub undone_and_open : List Entry
undone_and_open = Undid (txn 1 2) 2 ∷ Stepped (txn 1 2) 2 10 ∷ Started (txn 1 2) 2 Undoing ∷ Aborting (txn 1 2) ∷ two_marked

-- a client's mark and a send for the sender of its number, of transactions that have not ended
abbrev pub mark_beside_send : List Entry
mark_beside_send = Started (txn 1 2) 1 (Sending (letter 1 97)) ∷ (marked (txn 1 1) 1 0 70 2 ++
    (Begun (txn 1 2) ∷ Begun (txn 1 1) ∷ opened))

abbrev pub send_beside_mark : List Entry
send_beside_mark = Started (txn 1 2) 1 (Marking 0 70) ∷ (sent (txn 1 1) 1 (letter 1 97) 2 ++
    (Begun (txn 1 2) ∷ Begun (txn 1 1) ∷ opened))

-- a mark that is started, and not finished
abbrev pub mark_started : List Entry
mark_started = Started (txn 1 2) 2 (Marking 5 74) ∷ two_marked

abbrev pub untagged : Size
untagged = record { senders = 15; cells = 15; clients = 0 }

-- a transaction in a log with so many records
abbrev pub begun_behind : ℕ → List Entry
begun_behind records = Begun (txn 1 1) ∷ Restarted 1 records ∷ []

-- a mark is under way, and no record more fits
abbrev pub mark_fills : List Entry
mark_fills = Begun (txn 1 2) ∷ Started (txn 1 1) 1 (Marking 3 70) ∷ begun_behind (2 ^ 50 - 2)

-- a transaction that marked aborts, in a log that had so many records before
abbrev pub aborting_behind : ℕ → List Entry
aborting_behind records = Aborting (txn 1 1) ∷ (marked (txn 1 1) 1 3 70 (records + 1) ++ begun_behind records)

pub record MarksAreWorked : Type 0 where
  -- what is told is what committed transactions marked
  pub told_none : IsLegal small (Told_client 3 0 0 ∷ opened)
  pub told_one : IsLegal small (Told_client 3 1 70 ∷ one_marked)
  pub told_of_another : IsLegal small (Told_client 4 0 0 ∷ one_marked)
  pub told_last_client : IsLegal small (Told_client 14 0 0 ∷ one_marked)
  pub told_no_client : IsLegal small (Refused (Client_tag 15) UnknownClient ∷ one_marked)
  pub told_unknown : IsLegal small (Told_client 15 0 0 ∷ one_marked) → ⊥
  pub told_uncommitted : IsLegal small (Told_client 3 2 71 ∷ two_marked) → ⊥
  pub told_uncommitted_tag : IsLegal small (Told_client 3 1 71 ∷ two_marked) → ⊥
  pub told_too_few : IsLegal small (Told_client 3 0 0 ∷ one_marked) → ⊥
  pub told_no_tag : IsLegal small (Told_client 3 1 0 ∷ one_marked) → ⊥
  pub told_committed : IsLegal small (Told_client 3 1 70 ∷ two_marked)
  pub told_after_loss : IsLegal small (Told_client 3 1 70 ∷ mark_lost)
  pub told_none_once_lost : IsLegal small (Told_client 3 0 0 ∷ commit_lost)
  pub told_once_lost : IsLegal small (Told_client 3 1 70 ∷ commit_lost) → ⊥
  pub told_without_undone : IsLegal small (Told_client 3 1 70 ∷ mark_undone)
  pub told_last : IsLegal small (Told_client 3 3 73 ∷ marked_twice)
  pub marks_in_order : marks marked_twice 3 ≡ 70 ∷ 72 ∷ 73 ∷ []
  pub marks_of_ledger : marks_in (ledger marked_twice).committed 3 ≡ 70 ∷ 72 ∷ 73 ∷ []
  -- a client's end is held by one transaction until it ends
  pub client_busy : IsLegal small (Refused (Start_mark (txn 1 3) 3 72) ClientBusy ∷ two_marked)
  pub marked_while_busy : IsLegal small (Started (txn 1 3) 1 (Marking 3 72) ∷ two_marked) → ⊥
  pub busy_for_nothing : IsLegal small (Refused (Start_mark (txn 1 3) 4 72) ClientBusy ∷ two_marked) → ⊥
  pub busy_for_itself : IsLegal small (Refused (Start_mark (txn 1 2) 3 72) ClientBusy ∷ two_marked) → ⊥
  pub marks_another : IsLegal small (Started (txn 1 3) 1 (Marking 4 72) ∷ two_marked)
  pub busy_once_started : IsLegal small (Refused (Start_mark (txn 1 3) 5 72) ClientBusy ∷ mark_started)
  pub busy_once_undone : IsLegal small (Refused (Start_mark (txn 1 3) 3 72) ClientBusy ∷ undone_and_open)
  pub marks_while_undone : IsLegal small (Started (txn 1 3) 1 (Marking 3 72) ∷ undone_and_open) → ⊥
  pub sends_for_its_number : IsLegal small (Started (txn 1 3) 1 (Sending (message 3 1 (97 ∷ []))) ∷ two_marked)
  pub sends_beside_mark : IsLegal small mark_beside_send
  pub marks_beside_send : IsLegal small send_beside_mark
  -- a client is known or not: in a store without tag pages none is
  pub unknown_client : IsLegal small (Refused (Start_mark (txn 1 3) 15 1) UnknownClient ∷ two_marked)
  pub unknown_for_nothing : IsLegal small (Refused (Start_mark (txn 1 3) 14 1) UnknownClient ∷ two_marked) → ⊥
  pub marks_unknown : IsLegal small (Started (txn 1 3) 1 (Marking 15 1) ∷ two_marked) → ⊥
  pub none_is_known : IsLegal untagged (Refused (Start_mark (txn 1 1) 0 5) UnknownClient ∷ Begun (txn 1 1) ∷ opened)
  pub none_is_told : IsLegal untagged (Refused (Client_tag 0) UnknownClient ∷ opened)
  -- a mark is as it was started, writes one slot, and counts as two records
  pub marks_as_started : IsLegal small (Did (txn 1 1) 1 (Mark 3 71) ∷ Stepped (txn 1 1) 1 2
      ∷ Started (txn 1 1) 1 (Marking 3 70) ∷ Begun (txn 1 1) ∷ opened) → ⊥
  pub marks_after_write : IsLegal small (Did (txn 1 1) 1 (Mark 3 70) ∷ Started (txn 1 1) 1 (Marking 3 70)
      ∷ Begun (txn 1 1) ∷ opened) → ⊥
  pub writes_once : IsLegal small (Stepped (txn 1 1) 1 3 ∷ Stepped (txn 1 1) 1 2 ∷ Started (txn 1 1) 1 (Marking 3 70)
      ∷ Begun (txn 1 1) ∷ opened) → ⊥
  pub two_records_fit : IsLegal small (Started (txn 1 1) 1 (Marking 3 70) ∷ begun_behind (2 ^ 50 - 2))
  pub one_record_fits : IsLegal small (Refused (Start_mark (txn 1 1) 3 70) LogFull ∷ begun_behind (2 ^ 50 - 1))
  pub full_for_nothing : IsLegal small (Refused (Start_mark (txn 1 1) 3 70) LogFull ∷ begun_behind (2 ^ 50 - 2)) → ⊥
  -- so does its inverse
  pub inverse_fits : IsLegal small (Started (txn 1 1) 2 Undoing ∷ aborting_behind (2 ^ 50 - 4))
  pub inverse_full_for_nothing : IsLegal small (Refused (Undo_next (txn 1 1)) LogFull ∷ aborting_behind (2 ^ 50 - 4)) → ⊥
  pub inverse_full : IsLegal small (Refused (Undo_next (txn 1 1)) LogFull ∷ aborting_behind (2 ^ 50 - 3))
  pub inverse_does_not_fit : IsLegal small (Started (txn 1 1) 2 Undoing ∷ aborting_behind (2 ^ 50 - 3)) → ⊥
  -- the transaction's state is told before the client's, and the log's last
  pub no_transaction : IsLegal small (Refused (Start_mark (txn 1 4) 15 1) UnknownTransaction ∷ two_marked)
  pub no_transaction_busy : IsLegal small (Refused (Start_mark (txn 1 4) 3 1) ClientBusy ∷ two_marked) → ⊥
  pub not_open : IsLegal small (Refused (Start_mark (txn 1 3) 15 1) NotOpen ∷ Aborting (txn 1 3) ∷ two_marked)
  pub not_open_busy : IsLegal small (Refused (Start_mark (txn 1 3) 3 1) ClientBusy ∷ Aborting (txn 1 3) ∷ two_marked) → ⊥
  pub unfinished : IsLegal small (Refused (Start_mark (txn 1 2) 15 1) Unfinished ∷ mark_started)
  pub unfinished_unknown : IsLegal small (Refused (Start_mark (txn 1 2) 15 1) UnknownClient ∷ mark_started) → ⊥
  pub unknown_where_full : IsLegal small (Refused (Start_mark (txn 1 2) 15 1) UnknownClient ∷ mark_fills)
  pub busy_where_full : IsLegal small (Refused (Start_mark (txn 1 2) 3 1) ClientBusy ∷ mark_fills)
  pub full_where_busy : IsLegal small (Refused (Start_mark (txn 1 2) 3 1) LogFull ∷ mark_fills) → ⊥
  pub full : IsLegal small (Refused (Start_mark (txn 1 2) 4 1) LogFull ∷ mark_fills)
