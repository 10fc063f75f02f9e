use Rattle.std.proofs.Common.{List, ap, refl, subst, ℕ}
use Rattle.rq_engine.specs.Says.{call_of}
use Rattle.rq_engine.specs.declared.event.Event.{Event}
use Rattle.rq_model.specs.Causes.{reads_pages, writes_out}
use Rattle.rq_engine.proofs.Applying.{not_leaves}
use Rattle.rq_engine.specs.Fixing.{AreWritesOf, RefusedForFrames}
use Rattle.rq_engine.specs.KeptUp.{RefusedButRead}
use Rattle.rq_engine.specs.Sends.{TakesLowest}
use Rattle.rq_level.specs.declared.writes.SlotWrite.{SlotWrite}
use Rattle.rq_sound.specs.Groups.{slots_now}
use Rattle.rq_store.specs.Plans.{IsSendPlan}
use Rattle.rq_model.specs.History.Call.{Start_send}
use Rattle.rq_model.specs.Vocabulary.{message_of}
use Rattle.rq_engine.proofs.Leaving.{plain_leaves, begun_leaves, take_begins, take_counts, undo_begins, undo_counts, undo_leaves}
use Rattle.rq_engine.proofs.Listing.{begun_answered, begun_caused, begun_latched, take_lists, take_from_lists, log_left, undo_answered, undo_latched, undo_lists}
use Rattle.rq_engine.proofs.Wanting.{begun_frames, undo_frames}
use Rattle.rq_engine.proofs.engine.Engine.call.Goals as goal

pub returns-in-Err-clause-refused : goal.returns-in-Err-clause-refused
returns-in-Err-clause-refused g c = plain_leaves c.args.self.now c.begin.new.self c.args.event.now _ (ap (λ (e : Event). reads_pages (call_of e)) c.in-Begin.is) (ap (λ (e : Event). writes_out (call_of e)) c.in-Begin.is) c.in-Err.ensures.refused

pub returns-in-Err-start_send-clause-refused : goal.returns-in-Err-start_send-clause-refused
returns-in-Err-start_send-clause-refused g c =
    rw (c.in-StartSend.is) (subst (λ (b : List ℕ). RefusedButRead (Start_send c.in-StartSend.txn (message_of c.in-StartSend.sender c.in-StartSend.tag b)) c.args.self.now c.in-Err-start_send.refusal c.start_send.new.self) c.deref.ensures.value c.in-Err-start_send.ensures.refused)

pub returns-in-Err-step-clause-refused : goal.returns-in-Err-step-clause-refused
returns-in-Err-step-clause-refused g c = plain_leaves c.args.self.now c.step.new.self c.args.event.now _ (ap (λ (e : Event). reads_pages (call_of e)) c.in-Step.is) (ap (λ (e : Event). writes_out (call_of e)) c.in-Step.is) c.in-Err-step.ensures.refused

pub returns-in-Err-finish-clause-refused : goal.returns-in-Err-finish-clause-refused
returns-in-Err-finish-clause-refused g c = plain_leaves c.args.self.now c.finish.new.self c.args.event.now _ (ap (λ (e : Event). reads_pages (call_of e)) c.in-Finish.is) (ap (λ (e : Event). writes_out (call_of e)) c.in-Finish.is) c.in-Err-finish.ensures.refused

pub returns-in-Err-commit-clause-refused : goal.returns-in-Err-commit-clause-refused
returns-in-Err-commit-clause-refused g c = plain_leaves c.args.self.now c.commit.new.self c.args.event.now _ (ap (λ (e : Event). reads_pages (call_of e)) c.in-Commit.is) (ap (λ (e : Event). writes_out (call_of e)) c.in-Commit.is) c.in-Err-commit.ensures.refused

pub returns-in-Err-content-clause-refused : goal.returns-in-Err-content-clause-refused
returns-in-Err-content-clause-refused g c = rw (c.in-Content.is) c.in-Err-content.ensures.refused

pub returns-in-StartReceive-clause-refused : goal.returns-in-StartReceive-clause-refused
returns-in-StartReceive-clause-refused g c = begun_leaves c.args.self.now c.start_receive.new.self c.args.event.now _ c.start_receive.result _ (ap call_of c.in-StartReceive.is) refl c.start_receive.ensures.refused c.receive_reply.ensures

pub returns-in-StartReceiveFrom-clause-refused : goal.returns-in-StartReceiveFrom-clause-refused
returns-in-StartReceiveFrom-clause-refused g c = begun_leaves c.args.self.now c.start_receive_from.new.self c.args.event.now _ c.start_receive_from.result _ (ap call_of c.in-StartReceiveFrom.is) refl c.start_receive_from.ensures.refused c.receive_reply-in-StartReceiveFrom.ensures

pub returns-in-StartReceive-clause-lists : goal.returns-in-StartReceive-clause-lists
returns-in-StartReceive-clause-lists g c = take_lists c.args.self.now.state _ c.start_receive.result _ c.args.event.now c.start_receive.new.self.state _ c.in-StartReceive.is c.start_receive.ensures.lists c.receive_reply.ensures

pub returns-in-StartReceiveFrom-clause-lists : goal.returns-in-StartReceiveFrom-clause-lists
returns-in-StartReceiveFrom-clause-lists g c = take_from_lists c.args.self.now.state _ _ c.start_receive_from.result _ c.args.event.now c.start_receive_from.new.self.state _ c.in-StartReceiveFrom.is c.start_receive_from.ensures.lists c.receive_reply-in-StartReceiveFrom.ensures

pub returns-in-Ok-start_send-clause-any_moment : goal.returns-in-Ok-start_send-clause-any_moment
returns-in-Ok-start_send-clause-any_moment g c =
    λ none. rw (c.in-StartSend.is) (log_left g.L.LogDevice c.args.self.now.log c.start_send.new.self.log _ c.start_send.ensures.devices.1 g.met.L.LogDevice.only_now (c.shows_kept.ensures.leaves none))

pub returns-in-StartReceive-clause-answered : goal.returns-in-StartReceive-clause-answered
returns-in-StartReceive-clause-answered g c = begun_answered g.P.PageDevice g.L.LogDevice c.args.self.now _ c.start_receive.result _ c.args.event.now c.start_receive.new.self (ap call_of c.in-StartReceive.is) c.start_receive.ensures.answered c.receive_reply.ensures

pub returns-in-Err-start_abort-clause-refused : goal.returns-in-Err-start_abort-clause-refused
returns-in-Err-start_abort-clause-refused g c = plain_leaves c.args.self.now c.start_abort.new.self c.args.event.now _ (ap (λ (e : Event). reads_pages (call_of e)) c.in-StartAbort.is) (ap (λ (e : Event). writes_out (call_of e)) c.in-StartAbort.is) c.in-Err-start_abort.ensures.refused

pub returns-in-Err-end_abort-clause-refused : goal.returns-in-Err-end_abort-clause-refused
returns-in-Err-end_abort-clause-refused g c = plain_leaves c.args.self.now c.end_abort.new.self c.args.event.now _ (ap (λ (e : Event). reads_pages (call_of e)) c.in-EndAbort.is) (ap (λ (e : Event). writes_out (call_of e)) c.in-EndAbort.is) c.in-Err-end_abort.ensures.refused

pub returns-in-UndoNext-clause-refused : goal.returns-in-UndoNext-clause-refused
returns-in-UndoNext-clause-refused g c = undo_leaves c.args.self.now c.undo_next.new.self c.args.event.now _ c.undo_next.result _ (ap call_of c.in-UndoNext.is) refl c.undo_next.ensures.refused c.undoing.ensures

pub returns-in-UndoNext-clause-lists : goal.returns-in-UndoNext-clause-lists
returns-in-UndoNext-clause-lists g c = undo_lists c.args.self.now.state _ c.undo_next.result _ c.args.event.now c.undo_next.new.self.state _ c.in-UndoNext.is c.undo_next.ensures.lists c.undoing.ensures

pub returns-in-UndoNext-clause-answered : goal.returns-in-UndoNext-clause-answered
returns-in-UndoNext-clause-answered g c = undo_answered g.P.PageDevice g.L.LogDevice c.args.self.now _ c.undo_next.result _ c.args.event.now c.undo_next.new.self (ap call_of c.in-UndoNext.is) c.undo_next.ensures.answered c.undoing.ensures

pub returns-in-Err-write_page-clause-answered : goal.returns-in-Err-write_page-clause-answered
returns-in-Err-write_page-clause-answered g c h earlier long k = rw (c.in-WritePage.is) (c.in-Err-write_page.ensures.answered h earlier long k).0

pub returns-in-Err-checkpoint-clause-answered : goal.returns-in-Err-checkpoint-clause-answered
returns-in-Err-checkpoint-clause-answered g c h earlier long k = rw (c.in-Checkpoint.is) (c.in-Err-checkpoint.ensures.answered h earlier long k).0

pub returns-in-Err-checkpoint-clause-refused : goal.returns-in-Err-checkpoint-clause-refused
returns-in-Err-checkpoint-clause-refused g c = not_leaves g.P.PageDevice g.L.LogDevice c.args.self.now c.checkpoint.new.self c.args.event.now _ (ap (λ (e : Event). reads_pages (call_of e)) c.in-Checkpoint.is) (ap (λ (e : Event). writes_out (call_of e)) c.in-Checkpoint.is) c.in-Err-checkpoint.ensures.refused

pub returns-in-StartReceive-clause-any_moment : goal.returns-in-StartReceive-clause-any_moment
returns-in-StartReceive-clause-any_moment g c =
    λ none. rw (c.in-StartReceive.is) (log_left g.L.LogDevice c.args.self.now.log c.start_receive.new.self.log _ c.start_receive.ensures.devices.1 g.met.L.LogDevice.only_now (c.shows_kept.ensures.leaves none))

pub returns-in-StartReceiveFrom-clause-answered : goal.returns-in-StartReceiveFrom-clause-answered
returns-in-StartReceiveFrom-clause-answered g c = begun_answered g.P.PageDevice g.L.LogDevice c.args.self.now _ c.start_receive_from.result _ c.args.event.now c.start_receive_from.new.self (ap call_of c.in-StartReceiveFrom.is) c.start_receive_from.ensures.answered c.receive_reply-in-StartReceiveFrom.ensures

pub returns-in-StartReceiveFrom-clause-any_moment : goal.returns-in-StartReceiveFrom-clause-any_moment
returns-in-StartReceiveFrom-clause-any_moment g c =
    λ none. rw (c.in-StartReceiveFrom.is) (log_left g.L.LogDevice c.args.self.now.log c.start_receive_from.new.self.log _ c.start_receive_from.ensures.devices.1 g.met.L.LogDevice.only_now (c.shows_kept.ensures.leaves none))

pub returns-in-Err-migrate-clause-answered : goal.returns-in-Err-migrate-clause-answered
returns-in-Err-migrate-clause-answered g c h earlier long k = rw (c.in-Migrate.is) (c.in-Err-migrate.ensures.answered h earlier long k).0

pub returns-in-Err-migrate-clause-cause : goal.returns-in-Err-migrate-clause-cause
returns-in-Err-migrate-clause-cause g c h earlier long k = rw (c.in-Migrate.is) (c.in-Err-migrate.ensures.answered h earlier long k).1

pub returns-in-StartReceive-clause-begun : goal.returns-in-StartReceive-clause-begun
returns-in-StartReceive-clause-begun g c = rw (c.in-StartReceive.is) (take_begins c.args.self.now c.start_receive.new.self _ _ c.start_receive.result _ c.start_receive.ensures.begun c.start_receive.ensures.none c.receive_reply.ensures)

pub returns-in-StartReceiveFrom-clause-begun : goal.returns-in-StartReceiveFrom-clause-begun
returns-in-StartReceiveFrom-clause-begun g c = rw (c.in-StartReceiveFrom.is) (take_begins c.args.self.now c.start_receive_from.new.self _ _ c.start_receive_from.result _ c.start_receive_from.ensures.begun c.start_receive_from.ensures.none c.receive_reply-in-StartReceiveFrom.ensures)

pub returns-in-UndoNext-clause-begun : goal.returns-in-UndoNext-clause-begun
returns-in-UndoNext-clause-begun g c = rw (c.in-UndoNext.is) (undo_begins c.args.self.now c.undo_next.new.self _ c.undo_next.result _ c.undo_next.ensures.begun c.undo_next.ensures.none c.undoing.ensures)

pub returns-in-StartReceive-clause-pages : goal.returns-in-StartReceive-clause-pages
returns-in-StartReceive-clause-pages g c = rw (c.in-StartReceive.is) (c.start_receive.ensures.devices.0, take_counts c.args.self.now c.start_receive.new.self g.P.PageDevice c.start_receive.result _ c.start_receive.ensures.faults c.receive_reply.ensures, c.start_receive.ensures.devices.4)

pub returns-in-StartReceiveFrom-clause-pages : goal.returns-in-StartReceiveFrom-clause-pages
returns-in-StartReceiveFrom-clause-pages g c = rw (c.in-StartReceiveFrom.is) (c.start_receive_from.ensures.devices.0, take_counts c.args.self.now c.start_receive_from.new.self g.P.PageDevice c.start_receive_from.result _ c.start_receive_from.ensures.faults c.receive_reply-in-StartReceiveFrom.ensures, c.start_receive_from.ensures.devices.4)

pub returns-in-UndoNext-clause-pages : goal.returns-in-UndoNext-clause-pages
returns-in-UndoNext-clause-pages g c = rw (c.in-UndoNext.is) (c.undo_next.ensures.devices.0, undo_counts c.args.self.now c.undo_next.new.self g.P.PageDevice c.undo_next.result _ c.undo_next.ensures.faults c.undoing.ensures, c.undo_next.ensures.devices.4)

pub returns-in-StartReceive-clause-frames : goal.returns-in-StartReceive-clause-frames
returns-in-StartReceive-clause-frames g c = rw (c.in-StartReceive.is) (begun_frames _ c.args.self.now c.start_receive.new.self.state c.start_receive.result _ c.start_receive.ensures.frames c.receive_reply.ensures)

pub returns-in-StartReceiveFrom-clause-frames : goal.returns-in-StartReceiveFrom-clause-frames
returns-in-StartReceiveFrom-clause-frames g c = rw (c.in-StartReceiveFrom.is) (begun_frames _ c.args.self.now c.start_receive_from.new.self.state c.start_receive_from.result _ c.start_receive_from.ensures.frames c.receive_reply-in-StartReceiveFrom.ensures)

pub returns-in-UndoNext-clause-frames : goal.returns-in-UndoNext-clause-frames
returns-in-UndoNext-clause-frames g c = rw (c.in-UndoNext.is) (undo_frames _ c.args.self.now c.undo_next.new.self.state c.undo_next.result _ c.undo_next.ensures.frames c.undoing.ensures)

pub returns-in-Err-start_send-clause-frames : goal.returns-in-Err-start_send-clause-frames
returns-in-Err-start_send-clause-frames g c =
    let s = c.args.self.now.state in
    rw (c.in-StartSend.is) (subst (λ (b : List ℕ). RefusedForFrames (λ (ws : List SlotWrite). g.P.PageDevice.honest c.start_send.new.self.pages → AreWritesOf s (λ u. IsSendPlan s.sizes (slots_now s) u c.in-StartSend.sender c.in-StartSend.tag b × TakesLowest s u.writes) ws) c.args.self.now c.in-Err-start_send.refusal) c.deref.ensures.value c.in-Err-start_send.ensures.full)

pub returns-in-Err-start_close-clause-frames : goal.returns-in-Err-start_close-clause-frames
returns-in-Err-start_close-clause-frames g c = rw (c.in-StartClose.is) c.in-Err-start_close.ensures.full

pub returns-in-Err-start_mark-clause-frames : goal.returns-in-Err-start_mark-clause-frames
returns-in-Err-start_mark-clause-frames g c = rw (c.in-StartMark.is) c.in-Err-start_mark.ensures.full

pub returns-in-Err-start_send-clause-any_moment : goal.returns-in-Err-start_send-clause-any_moment
returns-in-Err-start_send-clause-any_moment g c =
    λ none. rw (c.in-StartSend.is) (log_left g.L.LogDevice c.args.self.now.log c.start_send.new.self.log _ c.start_send.ensures.devices.1 g.met.L.LogDevice.only_now (c.shows_kept.ensures.leaves none))

pub returns-in-Err-migrate-clause-any_moment : goal.returns-in-Err-migrate-clause-any_moment
returns-in-Err-migrate-clause-any_moment g c = rw (c.in-Migrate.is) c.migrate.ensures.any_moment

pub returns-in-StartReceive-clause-cause : goal.returns-in-StartReceive-clause-cause
returns-in-StartReceive-clause-cause g c = begun_caused g.P.PageDevice g.L.LogDevice c.args.self.now _ c.start_receive.result _ c.args.event.now c.start_receive.new.self (ap call_of c.in-StartReceive.is) c.start_receive.ensures.answered c.receive_reply.ensures

pub returns-in-StartReceiveFrom-clause-cause : goal.returns-in-StartReceiveFrom-clause-cause
returns-in-StartReceiveFrom-clause-cause g c = begun_caused g.P.PageDevice g.L.LogDevice c.args.self.now _ c.start_receive_from.result _ c.args.event.now c.start_receive_from.new.self (ap call_of c.in-StartReceiveFrom.is) c.start_receive_from.ensures.answered c.receive_reply-in-StartReceiveFrom.ensures

pub returns-in-StartReceive-clause-latched : goal.returns-in-StartReceive-clause-latched
returns-in-StartReceive-clause-latched g c earlier long sound = rw (c.in-StartReceive.is) (λ honest. begun_latched _ _ c.start_receive.result _ (c.start_receive.ensures.latched honest earlier long sound) c.receive_reply.ensures)

pub returns-in-StartReceiveFrom-clause-latched : goal.returns-in-StartReceiveFrom-clause-latched
returns-in-StartReceiveFrom-clause-latched g c earlier long sound = rw (c.in-StartReceiveFrom.is) (λ honest. begun_latched _ _ c.start_receive_from.result _ (c.start_receive_from.ensures.latched honest earlier long sound) c.receive_reply-in-StartReceiveFrom.ensures)

pub returns-in-UndoNext-clause-latched : goal.returns-in-UndoNext-clause-latched
returns-in-UndoNext-clause-latched g c earlier long sound = rw (c.in-UndoNext.is) (λ honest. undo_latched _ _ c.undo_next.result _ (c.undo_next.ensures.latched honest earlier long sound) c.undoing.ensures)
