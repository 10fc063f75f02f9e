-- Worked histories: which are legal, what they come to, and which are not.
use Rattle.std.specs.Prelude.{◌≡◌, ◌+◌, ◌-◌, ◌*◌, ◌^◌, ℕ, zero, suc, List, [], ◌∷◌, ◌++◌, Some, true, false, map, replicate}
use Rattle.rq_model.specs.declared.txn.Txn.{Txn}
use Rattle.rq_model.specs.declared.message.Message.{Message}
use Rattle.rq_model.specs.declared.refusal.Refusal.TheVariants.{DiskWrite, Failed, NoMemory, Full, SenderBusy, ReceiverBusy, TooLong, UnknownSender, Closed, Unfinished, UnknownOperation, UnknownTransaction, NotOpen, Latched, NotForced, LogFull, NotQuiet}
use Rattle.rq_model.specs.Vocabulary.Op.{Send, Take, End}
use Rattle.rq_model.specs.History.{Entry, Call, Group, rest}
use Rattle.rq_model.specs.History.Call.{Begin, Checkpoint, Force, Start_send, Start_receive_from, Commit, Finish, Step, End_abort, Start_receive, Write_page}
use Rattle.rq_model.specs.History.Job.{Sending, Taking, Ending, Undoing}
use Rattle.rq_model.specs.History.Entry.{Begun, Started, None_from, Stepped, Ready, Did, Undid, Committed, Acknowledged, Aborting, None_left, Aborted, Forced, Checkpointed, Refused, Crash, Restarted, Shown, Told, Handed_over, Wrote}
use Rattle.rq_model.specs.Ledger.{ledger, group_in}
use Rattle.rq_model.specs.declared.record.Record.{Record}
use Rattle.rq_model.specs.declared.record.Record.TheVariants.{Restart as Restart_record}
use Rattle.rq_model.specs.Replay.{Reply, Replays}
use Rattle.rq_model.specs.Replay.Reply.{Gave_txn, Gave_commit}
use Rattle.rq_model.specs.Promises.{EndsInCrash, EndsInRestart, crash_to}
use Rattle.rq_model.specs.Legal.{IsLegal}
use Rattle.rq_model.specs.Tests.{Size, tests, first_of, below}

abbrev pub txn : ℕ → ℕ → Txn
txn i c = record { incarnation = i; count = c }

abbrev pub small : Size
small = record { senders = 15; cells = 15; clients = 15 }

abbrev pub opened : List Entry
opened = Restarted 1 1 ∷ []

abbrev pub message : ℕ → ℕ → List ℕ → Message
message s tag body = record { sender = s; tag = tag; body = body }

-- a message of one byte for sender 0
abbrev pub letter : ℕ → ℕ → Message
letter tag b = message 0 tag (b ∷ [])

-- the entries of a send to an empty chain, and of a receive of its only message; the last record made has this LSN
abbrev pub sent : Txn → ℕ → Message → ℕ → List Entry
sent t n m lsn = Did t n (Send m) ∷ Stepped t n (lsn + 1) ∷ Stepped t n lsn ∷ Started t n (Sending m) ∷ []

abbrev pub got : Txn → ℕ → Message → ℕ → List Entry
got t n m lsn = Did t n (Take m) ∷ Stepped t n (lsn + 1) ∷ Stepped t n lsn ∷ Started t n (Taking m.sender) ∷ []

-- to a chain that is not empty, and from one that holds more
abbrev pub sent_behind : Txn → ℕ → Message → ℕ → List Entry
sent_behind t n m lsn = Did t n (Send m) ∷ Stepped t n (lsn + 2) ∷ Stepped t n (lsn + 1) ∷ Stepped t n lsn
    ∷ Started t n (Sending m) ∷ []

abbrev pub got_before : Txn → ℕ → Message → ℕ → List Entry
got_before t n m lsn = Did t n (Take m) ∷ Stepped t n (lsn + 2) ∷ Stepped t n (lsn + 1) ∷ Stepped t n lsn
    ∷ Started t n (Taking m.sender) ∷ []

abbrev pub closed : Txn → ℕ → ℕ → ℕ → List Entry
closed t n s lsn = Did t n (End s) ∷ Stepped t n lsn ∷ Started t n (Ending s) ∷ []

-- one send, committed, acknowledged only behind the force, and there after a crash
abbrev pub hello : Message
hello = message 0 7 (104 ∷ 101 ∷ 108 ∷ 108 ∷ 111 ∷ [])

abbrev pub one_send : List Entry
one_send = got (txn 2 1) 1 hello 7 ++ (Begun (txn 2 1) ∷ Restarted 2 6 ∷ Crash 1 5 ∷ Acknowledged (txn 1 1) 5 true
    ∷ Forced 5 ∷ Acknowledged (txn 1 1) 5 false ∷ Committed (txn 1 1) 5
    ∷ (sent (txn 1 1) 1 hello 2 ++ (Begun (txn 1 1) ∷ opened)))

-- an uncommitted send is not received, not even by its own transaction
abbrev pub unseen : List Entry
unseen = got (txn 1 2) 1 (message 0 3 []) 6 ++ (Begun (txn 1 2) ∷ Committed (txn 1 1) 5 ∷ None_from (txn 1 1) 0
    ∷ (sent (txn 1 1) 1 (message 0 3 []) 2 ++ (None_from (txn 1 1) 0 ∷ Begun (txn 1 1) ∷ opened)))

-- the longest body, and what is refused
abbrev pub long : ℕ → ℕ → Message
long s n = message s 1 (replicate n 120)

abbrev pub bounds : List Entry
bounds = Started (txn 1 1) 2 (Sending (message 0 18446744073709551615 []))
    ∷ Refused (Start_send (txn 1 1) (long 15 217)) UnknownSender
    ∷ Refused (Start_send (txn 1 1) (message 15 1 (120 ∷ []))) UnknownSender
    ∷ Refused (Start_send (txn 1 1) (long 0 217)) TooLong
    ∷ (sent (txn 1 1) 1 (long 0 216) 2 ++ (Begun (txn 1 1) ∷ opened))

-- b is sent and not committed, a received and not committed; both are undone
abbrev pub both_open : List Entry
both_open = got_before (txn 1 3) 1 (letter 1 97) 10 ++
    (Begun (txn 1 3) ∷ (sent_behind (txn 1 2) 1 (letter 2 98) 6 ++
    (Begun (txn 1 2) ∷ Committed (txn 1 1) 5 ∷ (sent (txn 1 1) 1 (letter 1 97) 2 ++ (Begun (txn 1 1) ∷ opened)))))

abbrev pub both_undone : List Entry
both_undone = Aborted (txn 1 3) ∷ None_left (txn 1 3) ∷ Undid (txn 1 3) 2 ∷ Stepped (txn 1 3) 2 19
    ∷ Stepped (txn 1 3) 2 18 ∷ Started (txn 1 3) 2 Undoing ∷ Aborting (txn 1 3)
    ∷ Aborted (txn 1 2) ∷ None_left (txn 1 2) ∷ Undid (txn 1 2) 2 ∷ Stepped (txn 1 2) 2 15 ∷ Stepped (txn 1 2) 2 14
    ∷ Started (txn 1 2) 2 Undoing ∷ Aborting (txn 1 2) ∷ both_open

abbrev pub a_waits : Group
a_waits = record { sent = 1; last_tag = 1; received = 0; closed = false; rest = letter 1 97 ∷ [] }

abbrev pub a_gone : Group
a_gone = record { sent = 1; last_tag = 1; received = 1; closed = false; rest = [] }

-- a receive committed and not forced is gone with the crash, and so is the send
abbrev pub sent_and_got : List Entry
sent_and_got = Committed (txn 1 2) 9 ∷ (got (txn 1 2) 1 (letter 1 97) 6 ++
    (Begun (txn 1 2) ∷ Committed (txn 1 1) 5 ∷ (sent (txn 1 1) 1 (letter 1 97) 2 ++ (Begun (txn 1 1) ∷ opened))))

abbrev pub all_lost : List Entry
all_lost = Restarted 2 2 ∷ Crash 0 1 ∷ sent_and_got

-- fifteen messages fill the store, and a message taken keeps its cell until its taker commits
abbrev pub fifteen : ℕ → List Entry
fifteen zero = sent (txn 1 1) 1 (letter 1 97) 2 ++ (Begun (txn 1 1) ∷ opened)
fifteen (suc n) = sent_behind (txn 1 1) (suc (suc n)) (letter (suc (suc n)) (98 + n)) (5 + 4 * n) ++ fifteen n

abbrev pub filled : List Entry
filled = Started (txn 1 2) 1 (Sending (letter 16 112)) ∷ Committed (txn 1 3) 66
    ∷ Refused (Start_send (txn 1 2) (letter 16 112)) Full
    ∷ (got_before (txn 1 3) 1 (letter 1 97) 62 ++ (Begun (txn 1 3)
    ∷ Refused (Start_send (txn 1 2) (letter 16 112)) Full ∷ Begun (txn 1 2) ∷ Committed (txn 1 1) 61 ∷ fifteen 14))

-- a close that is undone, and one that is committed
abbrev pub closes : List Entry
closes = Committed (txn 1 3) 16 ∷ (got (txn 1 3) 1 (letter 1 97) 13 ++
    (Refused (Start_send (txn 1 3) (letter 2 98)) Closed ∷ Begun (txn 1 3) ∷ Committed (txn 1 2) 12
    ∷ Refused (Start_send (txn 1 2) (letter 2 98)) Closed
    ∷ (closed (txn 1 2) 2 0 10 ++ (sent (txn 1 2) 1 (letter 1 97) 7 ++
    (Begun (txn 1 2) ∷ Aborted (txn 1 1) ∷ Undid (txn 1 1) 2 ∷ Stepped (txn 1 1) 2 4 ∷ Started (txn 1 1) 2 Undoing
    ∷ Aborting (txn 1 1) ∷ (closed (txn 1 1) 1 0 2 ++ (Begun (txn 1 1) ∷ opened)))))))

-- ends are held until their transaction ends; an operation under way keeps its transaction from its commit
abbrev pub begun_five : List Entry
begun_five = Begun (txn 1 5) ∷ Begun (txn 1 4) ∷ Begun (txn 1 3) ∷ Begun (txn 1 2) ∷ Begun (txn 1 1) ∷ opened

abbrev pub held_ends : List Entry
held_ends = Refused (Commit (txn 1 3)) UnknownTransaction ∷ Restarted 2 2 ∷ Crash 0 1
    ∷ Refused (Step (txn 1 5) 9) UnknownOperation ∷ Refused (Finish (txn 1 5) 1) Unfinished
    ∷ Refused (Commit (txn 1 5)) Unfinished ∷ Started (txn 1 5) 1 (Sending (message 2 1 (100 ∷ [])))
    ∷ (got (txn 1 4) 1 (message 1 5 (99 ∷ [])) 13 ++ (Refused (Start_receive_from (txn 1 4) 0) ReceiverBusy
    ∷ (got (txn 1 3) 1 (letter 1 97) 10 ++ (Committed (txn 1 2) 9 ∷ Committed (txn 1 1) 8
    ∷ (sent (txn 1 2) 1 (message 1 5 (99 ∷ [])) 5 ++ (Refused (Start_send (txn 1 2) (letter 1 98)) SenderBusy
    ∷ (sent (txn 1 1) 1 (letter 1 97) 2 ++ begun_five)))))))

-- an aborting transaction starts nothing, and ends once all is undone
abbrev pub undoing : List Entry
undoing = Aborted (txn 1 1) ∷ None_left (txn 1 1) ∷ Undid (txn 1 1) 2 ∷ Ready (txn 1 1) 2 ∷ Stepped (txn 1 1) 2 6
    ∷ Stepped (txn 1 1) 2 5 ∷ Started (txn 1 1) 2 Undoing ∷ Refused (End_abort (txn 1 1)) Unfinished
    ∷ Refused (Start_send (txn 1 1) (letter 2 98)) NotOpen ∷ Aborting (txn 1 1)
    ∷ (sent (txn 1 1) 1 (letter 1 97) 2 ++ (Begun (txn 1 1) ∷ opened))

-- Histories that are refused. A crash may not keep a commit whose record it takes, nor leave more records than there
-- were; a second crash takes nothing that the first kept; a store is not opened again without a crash, whether it runs
-- or has failed, nor in an incarnation that was there before, nor without a record of its own; and one that has failed
-- refuses every call so.
abbrev pub committed_once : List Entry
committed_once = Committed (txn 1 1) 5 ∷ (sent (txn 1 1) 1 hello 2 ++ (Begun (txn 1 1) ∷ opened))

-- the same before the commit
abbrev pub sent_once : List Entry
sent_once = sent (txn 1 1) 1 hello 2 ++ (Begun (txn 1 1) ∷ opened)

-- the message is taken, and all is forced before a crash
abbrev pub taken_and_opened : List Entry
taken_and_opened = Restarted 2 10 ∷ Crash 2 9 ∷ Forced 9 ∷ sent_and_got

abbrev pub failed_force : List Entry
failed_force = Refused Force DiskWrite ∷ committed_once

-- a store that was opened over a log of the greatest length, and the logs of stores that were just opened, and opened
-- again
abbrev pub longest : List Entry
longest = Begun (txn 1 1) ∷ Restarted 1 (2 ^ 50) ∷ []

abbrev pub first_log : List Record
first_log = Restart_record 1 ∷ []

-- what a begin and a commit of nothing were asked and answered
abbrev pub begun_and_committed : List (Call × Reply)
begun_and_committed = (Commit (txn 1 1), Gave_commit (record { txn = txn 1 1; lsn = 2 })) ∷ (Begin, Gave_txn (txn 1 1))
    ∷ []

-- what is so of them
pub record AreWorked : Type 0 where
  pub one_send_legal : IsLegal small one_send
  pub unseen_legal : IsLegal small unseen
  pub bounds_legal : IsLegal small bounds
  pub both_undone_legal : IsLegal small both_undone
  pub both_undone_content : group_in (ledger both_undone).committed 0 ≡ a_waits
  pub open_busy : first_of (tests small (ledger (Begun (txn 1 4) ∷ both_open)) (Start_send (txn 1 4) (letter 3 99)))
      ≡ Some SenderBusy
  pub open_crashed : group_in (ledger (Restarted 2 24 ∷ Crash 1 13 ∷ both_open)).committed 0 ≡ a_waits
  pub open_committed : group_in (ledger (Restarted 2 19 ∷ Crash 2 14 ∷ Committed (txn 1 3) 14 ∷ both_open)).committed 0
      ≡ a_gone
  pub nothing_left : rest sent_and_got 0 ≡ []
  pub all_lost_content : group_in (ledger all_lost).committed 0
      ≡ record { sent = 0; last_tag = 0; received = 0; closed = false; rest = [] }
  pub all_lost_legal : IsLegal small (Shown (map (group_in (ledger all_lost).committed) (below 15)) ∷ all_lost)
  pub forced_content : group_in (ledger (Restarted 2 10 ∷ Crash 2 9 ∷ Forced 9 ∷ sent_and_got)).committed 0 ≡ a_gone
  pub cut_content : group_in (ledger (Restarted 2 6 ∷ Crash 1 5 ∷ sent_and_got)).committed 0 ≡ a_waits
  pub filled_legal : IsLegal small filled
  pub closes_legal : IsLegal small closes
  pub closes_content : group_in (ledger closes).committed 0
      ≡ record { sent = 1; last_tag = 1; received = 1; closed = true; rest = [] }
  pub held_ends_legal : IsLegal small held_ends
  pub undoing_legal : IsLegal small undoing
  pub crash_twice : IsLegal small (Restarted 2 6 ∷ Crash 1 5 ∷ Crash 1 5 ∷ committed_once)
  pub crash_after_failure : IsLegal small (Restarted 2 2 ∷ Crash 0 1 ∷ Refused Begin Failed ∷ failed_force)
  pub checkpoint_legal : IsLegal small (Acknowledged (txn 1 1) 5 true ∷ Refused (Commit (txn 1 1)) UnknownTransaction
      ∷ Checkpointed 6 ∷ committed_once)
  pub checkpoint_opened : IsLegal small (Restarted 2 7 ∷ Crash 1 6 ∷ Checkpointed 6 ∷ committed_once)
  pub checkpoint_content : group_in (ledger (Restarted 2 7 ∷ Crash 1 6 ∷ Checkpointed 6 ∷ committed_once)).committed 0
      ≡ record { sent = 1; last_tag = 7; received = 0; closed = false; rest = hello ∷ [] }
  pub checkpoint_stopped : IsLegal small (Crash 1 6 ∷ Refused Checkpoint DiskWrite ∷ committed_once)
  pub checkpoint_stopped_with_one_more : IsLegal small (Crash 1 7 ∷ Refused Checkpoint DiskWrite ∷ committed_once) → ⊥
  pub checkpoint_stopped_over_a_full_log : IsLegal small (Crash 0 (2 ^ 50 + 1) ∷ Refused Checkpoint DiskWrite
      ∷ Restarted 1 (2 ^ 50) ∷ []) → ⊥
  pub checkpoint_not_quiet : IsLegal small (Refused Checkpoint NotQuiet ∷ sent_once)
  pub checkpoint_for_nothing : IsLegal small (Refused Checkpoint NotQuiet ∷ committed_once) → ⊥
  pub checkpoint_of_open : IsLegal small (Checkpointed 5 ∷ sent_once) → ⊥
  pub checkpoint_elsewhere : IsLegal small (Checkpointed 5 ∷ committed_once) → ⊥
  pub checkpoint_lost : IsLegal small (Crash 1 5 ∷ Checkpointed 6 ∷ committed_once) → ⊥
  pub checkpoint_stopped_of_open : IsLegal small (Crash 0 5 ∷ sent_once) → ⊥
  pub checkpoint_inside : IsLegal small (Crash 1 6 ∷ committed_once)
  pub checkpoint_behind_another_failure : IsLegal small (Crash 1 6 ∷ failed_force) → ⊥
  pub checkpoint_over_a_full_log : IsLegal small (Crash 0 (2 ^ 50 + 1) ∷ Restarted 1 (2 ^ 50) ∷ []) → ⊥
  pub checkpoint_up_to_a_full_log : IsLegal small (Crash 0 (2 ^ 50) ∷ Restarted 1 (2 ^ 50 - 1) ∷ [])
  pub keeps_lost_commit : IsLegal small (Crash 1 4 ∷ committed_once) → ⊥
  pub loses_kept_commit : IsLegal small (Crash 0 5 ∷ committed_once) → ⊥
  pub loses_forced_commit : IsLegal small (Crash 0 1 ∷ Forced 5 ∷ committed_once) → ⊥
  pub leaves_more_than_there_was : IsLegal small (Crash 0 50 ∷ opened) → ⊥
  pub takes_what_was_kept : IsLegal small (Crash 0 1 ∷ Crash 1 5 ∷ committed_once) → ⊥
  pub opened_twice : IsLegal small (Restarted 2 6 ∷ committed_once) → ⊥
  pub opened_without_crash : IsLegal small (Restarted 2 6 ∷ failed_force) → ⊥
  pub opened_in_the_same : IsLegal small (Restarted 1 6 ∷ Crash 1 5 ∷ committed_once) → ⊥
  pub opened_without_a_record : IsLegal small (Restarted 2 5 ∷ Crash 1 5 ∷ committed_once) → ⊥
  pub answered_after_failure : IsLegal small (Begun (txn 1 2) ∷ failed_force) → ⊥
  pub out_of_memory_after_failure : IsLegal small (Refused Begin NoMemory ∷ failed_force) → ⊥
  pub acknowledged_too_early : IsLegal small (Acknowledged (txn 1 1) 5 true ∷ committed_once) → ⊥
  pub never_acknowledged : IsLegal small (Acknowledged (txn 1 1) 5 false ∷ Forced 5 ∷ committed_once) → ⊥
  pub acknowledged_no_more : IsLegal small (Acknowledged (txn 1 1) 5 false ∷ taken_and_opened)
  pub acknowledged_too_late : IsLegal small (Acknowledged (txn 1 1) 5 true ∷ taken_and_opened) → ⊥
  pub begun_next : IsLegal small (Begun (txn 1 2) ∷ opened) → ⊥
  pub started_next : IsLegal small (Started (txn 1 1) 2 (Sending hello) ∷ Begun (txn 1 1) ∷ opened) → ⊥
  pub stepped_next : IsLegal small (Stepped (txn 1 1) 1 3 ∷ Started (txn 1 1) 1 (Sending hello) ∷ Begun (txn 1 1)
      ∷ opened) → ⊥
  pub committed_next : IsLegal small (Committed (txn 1 1) 3 ∷ Begun (txn 1 1) ∷ opened) → ⊥
  pub forced_all : IsLegal small (Forced 4 ∷ committed_once) → ⊥
  pub none_where_one_waits : IsLegal small (None_from (txn 1 2) 0 ∷ Begun (txn 1 2) ∷ committed_once) → ⊥
  pub another_message : IsLegal small (Did (txn 1 1) 1 (Send (message 0 8 [])) ∷ Stepped (txn 1 1) 1 3
      ∷ Stepped (txn 1 1) 1 2 ∷ Started (txn 1 1) 1 (Sending hello) ∷ Begun (txn 1 1) ∷ opened) → ⊥
  pub told_last : IsLegal small (Told 0 1 7 ∷ committed_once)
  pub told_another : IsLegal small (Told 0 1 8 ∷ committed_once) → ⊥
  pub told_more : IsLegal small (Told 0 2 7 ∷ committed_once) → ⊥
  pub told_fewer : IsLegal small (Told 0 0 7 ∷ committed_once) → ⊥
  pub told_of_another_sender : IsLegal small (Told 1 0 0 ∷ committed_once)
  pub told_of_no_sender : IsLegal small (Told 15 0 0 ∷ committed_once) → ⊥
  pub told_before_commit : IsLegal small (Told 0 0 0 ∷ sent_once)
  pub told_too_early : IsLegal small (Told 0 1 7 ∷ sent_once) → ⊥
  pub told_tag_too_early : IsLegal small (Told 0 0 7 ∷ sent_once) → ⊥
  pub told_without_undone : IsLegal small (Told 0 1 1 ∷ both_undone)
  pub told_undone : IsLegal small (Told 0 2 2 ∷ both_undone) → ⊥
  pub told_tag_of_undone : IsLegal small (Told 0 1 2 ∷ both_undone) → ⊥
  pub told_after_take_and_restart : IsLegal small (Told 0 1 1 ∷ taken_and_opened)
  pub told_without_taken : IsLegal small (Told 0 0 0 ∷ taken_and_opened) → ⊥
  pub told_after_loss : IsLegal small (Told 0 0 0 ∷ all_lost)
  pub told_lost : IsLegal small (Told 0 1 1 ∷ all_lost) → ⊥
  pub latched_where_one_waits : IsLegal small (Refused (Start_receive (txn 1 2)) Latched ∷ Begun (txn 1 2)
      ∷ committed_once)
  pub latched_for_nothing : IsLegal small (Refused (Start_receive (txn 1 1)) Latched ∷ Begun (txn 1 1) ∷ opened) → ⊥
  pub not_forced : IsLegal small (Wrote 1 true ∷ Refused (Write_page 1) NotForced ∷ Handed_over ∷ committed_once)
  pub not_forced_of_no_page : IsLegal small (Refused Begin NotForced ∷ opened) → ⊥
  pub log_is_full : IsLegal small (Refused (Commit (txn 1 1)) LogFull ∷ longest)
  pub log_is_not_full : IsLegal small (Refused (Commit (txn 1 1)) LogFull ∷ Begun (txn 1 1) ∷ opened) → ⊥
  pub sent_behind_close : IsLegal small (Started (txn 1 3) 2 (Sending (letter 2 98)) ∷ closes) → ⊥
  pub replayed : Replays small (ledger opened) begun_and_committed
      (ledger (Committed (txn 1 1) 2 ∷ Begun (txn 1 1) ∷ opened))
  pub replayed_wrongly : Replays small (ledger opened)
      ((Commit (txn 1 1), Gave_commit (record { txn = txn 1 2; lsn = 2 })) ∷ [])
      (ledger (Committed (txn 1 1) 2 ∷ opened)) → ⊥
  pub crash_left : EndsInCrash small opened first_log
  pub crash_left_nothing : EndsInCrash small opened [] → ⊥
  pub restart_left : EndsInRestart small (crash_to first_log opened ∷ opened) (Restart_record 2 ∷ first_log)
