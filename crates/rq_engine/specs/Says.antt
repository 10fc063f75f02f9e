-- Events and replies as the model's words: calls, and what they gave.
use Rattle.rq_engine.specs.Answers.{IsCausedIn}
use Rattle.rq_store.specs.State.{State}
use Rattle.std.specs.Prelude.{◌≡◌, Bool, true, false, map, Option, Some, None, Result, Ok, Err}
use Rattle.rq_model.specs.declared.refusal.Refusal.{Refusal}
use Rattle.rq_model.specs.History.{Call}
use Rattle.rq_model.specs.History.Call.{Begin as Call_begin, Start_send as Call_start_send, Start_receive as Call_start_receive, Start_receive_from as Call_start_receive_from, Start_close as Call_start_close, Start_mark as Call_start_mark, Write_page as Call_write_page, Step as Call_step, Finish as Call_finish, Commit as Call_commit, Acknowledge as Call_acknowledge, Start_abort as Call_start_abort, Undo_next as Call_undo_next, End_abort as Call_end_abort, Hand_over as Call_hand_over, Force as Call_force, Checkpoint as Call_checkpoint, Migrate as Call_migrate, Last_tag as Call_last_tag, Client_tag as Call_client_tag, Show as Call_show}
use Rattle.rq_model.specs.Replay.{Number, Reply as Gave}
use Rattle.rq_model.specs.Replay.Reply.{Gave_nothing_left, Gave_txn, Gave_sub, Gave_lsn, Gave_forced, Gave_checkpoint, Gave_migrated, Gave_ready, Gave_sent, Gave_message, Gave_closed, Gave_marked, Gave_undone, Gave_handed_over, Gave_aborting, Gave_aborted, Gave_commit, Gave_receipt, Gave_none, Gave_written, Gave_tag, Gave_client_tag, Gave_content, Gave_refusal}
use Rattle.rq_content.specs.Read.{group_of}
use Rattle.rq_model.specs.declared.txn.Sub.{Sub}
use Rattle.rq_disk.specs.Device.{Only}
use Rattle.rq_log.specs.Spelled.{spelled}
use Rattle.rq_disk.specs.declared.device.LogDevice as log_device
use Rattle.rq_disk.specs.declared.device.PageDevice as page_device
use Rattle.rq_pool.specs.declared.Written.{Written}
use Rattle.rq_pool.specs.declared.Written.TheVariants.{Done, Nothing}
use Rattle.rq_pool.specs.Pooled.{image_at}
use Rattle.rq_pool.specs.Writing.{DeviceAfter}
use Rattle.rq_engine.specs.Opened.{OpenStore, NotWritten, WritesWhen}
use Rattle.rq_model.specs.Causes.{starts_one}
use Rattle.rq_engine.specs.KeptUp.{IsShown, PagesStay, ReplyCounts}
use Rattle.rq_engine.specs.declared.event.Progress.{Progress}
use Rattle.rq_engine.specs.declared.event.Progress.TheVariants as progress
use Rattle.rq_level.specs.declared.writes.Outcome.{Outcome}
use Rattle.rq_level.specs.declared.writes.Outcome.TheVariants as outcome
use Rattle.rq_engine.specs.declared.event.Event.{Event}
use Rattle.rq_engine.specs.declared.event.Event.TheVariants as event
use Rattle.rq_engine.specs.declared.event.CommitNo.{CommitNo}
use Rattle.rq_engine.specs.declared.event.Receipt.{Receipt}
use Rattle.rq_engine.specs.declared.event.Reply.{Reply}
use Rattle.rq_engine.specs.declared.event.Reply.TheVariants as reply

-- the call that an event stands for
abbrev pub call_of : Event → Call
call_of event.Begin = Call_begin
call_of (event.StartSend txn sender tag body) = Call_start_send txn
    (record { sender = sender; tag = tag; body = body.items })
call_of (event.StartReceive txn) = Call_start_receive txn
call_of (event.StartReceiveFrom txn sender) = Call_start_receive_from txn sender
call_of (event.StartClose txn sender) = Call_start_close txn sender
call_of (event.StartMark txn client tag) = Call_start_mark txn client tag
call_of (event.Step sub) = Call_step sub.txn sub.number
call_of (event.Finish sub) = Call_finish sub.txn sub.number
call_of (event.Commit txn) = Call_commit txn
call_of (event.Acknowledged number) = Call_acknowledge number.txn number.lsn
call_of (event.StartAbort txn) = Call_start_abort txn
call_of (event.UndoNext txn) = Call_undo_next txn
call_of (event.EndAbort txn) = Call_end_abort txn
call_of event.HandOver = Call_hand_over
call_of event.Force = Call_force
call_of event.Checkpoint = Call_checkpoint
call_of (event.Migrate pages) = Call_migrate pages
call_of (event.WritePage page) = Call_write_page page
call_of (event.LastTag sender) = Call_last_tag sender
call_of (event.ClientTag client) = Call_client_tag client
call_of event.Content = Call_show

-- the call has a body
abbrev pub has_body : Call → Bool
has_body (Call_start_send txn message) = true
has_body _ = false

abbrev pub progress_of : Progress → Gave
progress_of (progress.Done lsn) = Gave_lsn lsn
progress_of progress.Ready = Gave_ready

abbrev pub outcome_of : Outcome → Gave
outcome_of outcome.Sent = Gave_sent
outcome_of (outcome.Message m) = Gave_message m
outcome_of outcome.Closed = Gave_closed
outcome_of outcome.Marked = Gave_marked
outcome_of outcome.Undone = Gave_undone

-- a commit's number as the model's word
abbrev pub commit_number : CommitNo → Number
commit_number number = record { txn = number.txn; lsn = number.lsn }

abbrev pub receipt_of : Option Receipt → Option Number
receipt_of None = None
receipt_of (Some r) = Some (commit_number r.number)

-- the page was written
abbrev pub is_done : Written → Bool
is_done Done = true
is_done Nothing = false

-- what a reply gave
abbrev pub gave : Reply → Gave
gave (reply.Begun t) = Gave_txn t
gave (reply.Started sub) = Gave_sub sub.txn sub.number
gave reply.NoMessage = Gave_none
gave (reply.Stepped p) = progress_of p
gave (reply.Finished o) = outcome_of o
gave (reply.Committed number) = Gave_commit (commit_number number)
gave (reply.Acknowledged given) = Gave_receipt (receipt_of given)
gave reply.Aborting = Gave_aborting
gave reply.NothingLeft = Gave_nothing_left
gave reply.Aborted = Gave_aborted
gave reply.HandedOver = Gave_handed_over
gave (reply.Forced lsn) = Gave_forced lsn
gave (reply.Checkpointed lsn) = Gave_checkpoint lsn
gave (reply.Migrated lsn) = Gave_migrated lsn
gave (reply.Written w) = Gave_written (is_done w)
gave (reply.LastTag last) = Gave_tag last.sent last.tag
gave (reply.ClientTag last) = Gave_client_tag last.count last.tag
gave (reply.Content groups) = Gave_content (map group_of groups.items)
gave (reply.Refused r) = Gave_refusal r

-- the reply shows a content
abbrev pub IsContent : Reply → Type 0
IsContent (reply.Content groups) = Unit {0}
IsContent _ = ⊥

-- a refusal comes with its cause
abbrev pub RefusedForCause : State → Event → Reply → Type 0
RefusedForCause s e (reply.Refused r) = IsCausedIn s (call_of e) r
RefusedForCause s e _ = Unit {0}

-- All records are with the log's device, and it has not failed.
pub record HasHandedOver {P L : Type 0} (g : log_device.Ghosts L) (old new : OpenStore P L) : Type 0 where
  pub faults : g.faults new.log ≡ g.faults old.log
  pub reads : g.honest new.log → g.seen new.log ≡ spelled old.state.records

-- And a crash leaves nothing else.
pub record HasForced {P L : Type 0} (g : log_device.Ghosts L) (old new : OpenStore P L) : Type 0 where
  pub handed : HasHandedOver g old new
  pub durable : g.honest new.log → Only (spelled old.state.records) (g.may_leave new.log)

-- after records were to be handed over, or forced: they are, or the reply is a refusal and says why they are not
abbrev pub HandedSay : {P L : Type 0} → log_device.Ghosts L → OpenStore P L → OpenStore P L → Reply → Type 0
HandedSay g old new (reply.Refused r) = NotWritten g old new r
HandedSay g old new _ = HasHandedOver g old new

abbrev pub ForcedSay : {P L : Type 0} → log_device.Ghosts L → OpenStore P L → OpenStore P L → Reply → Type 0
ForcedSay g old new (reply.Refused r) = NotWritten g old new r
ForcedSay g old new _ = HasForced g old new

-- What an event and its reply say of the log's device. It stays as it is, but where records are handed over or forced. What a
-- checkpoint or a migration makes of it is said with that.
abbrev pub LogSays : {P L : Type 0} → log_device.Ghosts L → OpenStore P L → OpenStore P L → Event → Reply → Type 0
LogSays g old new event.HandOver r = HandedSay g old new r
LogSays g old new event.Force r = ForcedSay g old new r
LogSays g old new event.Checkpoint r = Unit {0}
LogSays g old new (event.Migrate pages) r = Unit {0}
LogSays g old new _ r = new.log ≡ old.log

-- the reply to the start of a receive
abbrev pub begun_reply : Result (Option Sub) Refusal → Reply
begun_reply (Ok (Some sub)) = reply.Started sub
begun_reply (Ok None) = reply.NoMessage
begun_reply (Err r) = reply.Refused r

-- the reply to the start of an inverse
abbrev pub undo_reply : Result (Option Sub) Refusal → Reply
undo_reply (Ok (Some sub)) = reply.Started sub
undo_reply (Ok None) = reply.NothingLeft
undo_reply (Err r) = reply.Refused r

-- what a reply says of a page that was to be written
abbrev pub written_by : Reply → Result Written Refusal
written_by (reply.Written w) = Ok w
written_by (reply.Refused r) = Err r
written_by _ = Ok Nothing

-- What an event and its reply say of the pages' device. It stays as it is, but where a page is written, or pages may be read,
-- and how often it failed is told then. What a checkpoint or a migration makes of it is said with that.
abbrev pub PagesSay : {P L : Type 0} → page_device.Ghosts P → OpenStore P L → OpenStore P L → Event → Reply → Type 0
PagesSay g old new (event.WritePage page) r = DeviceAfter g page (image_at old.state.images page) old.pages new.pages
    (written_by r)
PagesSay g old new event.Checkpoint r = Unit {0}
PagesSay g old new (event.Migrate pages) r = Unit {0}
PagesSay g old new event.Content r = IsShown g old new × ReplyCounts g r old new
PagesSay g old new e r = PagesStay (starts_one (call_of e)) g old r new

-- when a page is written, or is not
abbrev pub WritesSay : {P L : Type 0} → OpenStore P L → Event → Reply → Type 0
WritesSay old (event.WritePage page) r = WritesWhen old page (written_by r)
WritesSay old _ r = Unit {0}
