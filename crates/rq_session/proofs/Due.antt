-- What a session was told asks for what it does.
use Rattle.std.proofs.Common.{◌≡◌, ℕ, Bool, true, false, refl, sym, ap, ◌∙◌, subst, inl, inr}
use Rattle.std.proofs.lemmas.Bool.{false_from_ne_true, false≢true, true≢false}
use Rattle.std.specs.Prelude.{Option, Some, None, if◌then◌else◌}
use Rattle.rq_model.specs.declared.txn.Txn.{Txn}
use Rattle.rq_model.specs.declared.txn.Sub.{Sub}
use Rattle.rq_model.specs.declared.refusal.Refusal.{Refusal}
use Rattle.rq_model.specs.declared.refusal.Refusal.TheVariants.{NoMemory, Failed, Latched, PoolFull}
use Rattle.rq_model.proofs.Lists.{same_self}
use Rattle.rq_wire.specs.declared.answers.Answer.{Answer}
use Rattle.rq_wire.specs.declared.answers.Answer.TheVariants as answers
use Rattle.rq_engine.specs.declared.event.CommitNo.{CommitNo}
use Rattle.rq_engine.specs.declared.event.Event.{Event}
use Rattle.rq_engine.specs.declared.event.Event.TheVariants as events
use Rattle.rq_engine.specs.declared.event.Reply.{Reply}
use Rattle.rq_engine.specs.declared.event.Reply.TheVariants as replies
use Rattle.rq_level.specs.declared.writes.Outcome.TheVariants as outcomes
use Rattle.rq_session.specs.declared.actions.Action.TheVariants.{Do, Await, Answer as Answers, End}
use Rattle.rq_session.specs.declared.stage.OwnTxn.{OwnTxn}
use Rattle.rq_session.specs.declared.stage.OwnTxn.TheVariants.{Free, Open, Left, Aborting, Undoing}
use Rattle.rq_session.specs.declared.stage.Purpose.{Purpose}
use Rattle.rq_session.specs.declared.stage.Purpose.TheVariants as purposes
use Rattle.rq_session.specs.declared.stage.Stage.{Stage}
use Rattle.rq_session.specs.declared.stage.Stage.TheVariants as stages
use Rattle.rq_session.specs.declared.stage.Next.{Next}
use Rattle.rq_session.specs.Stages.{txn_held}
use Rattle.rq_session.specs.Rules.{after_await, after_reply, is_commit, is_commit_of}
use Rattle.rq_session.specs.Laws.{IsAborting, IsReceipt, MayAgain, fits}
use Rattle.rq_session.specs.Tells.{AbortIsOver, AsksFor, EachAnswer, EachAsk, EachEnd, EachStage, EachWait, IsDone, IsEndAbort, IsNoReceipt, IsRefusal, IsStarted, IsUndoStarted, MayEnd, Tells, WaitsFor}
use Rattle.rq_session.proofs.Telling.{TellsAnswer, TellsAsk, TellsEnd, TellsWait, says}
use Rattle.rq_session.proofs.Commits.{commit_is, commit_self}
use Rattle.rq_session.proofs.EachTurn.{none_under_way}

chosen : (b : Bool) (x y : Next) → b ≡ true → (if b then x else y) ≡ x
chosen true x y e = refl
chosen false x y e = absurd (false≢true e)

not_chosen : (b : Bool) (x y : Next) → b ≡ false → (if b then x else y) ≡ y
not_chosen false x y e = refl
not_chosen true x y e = absurd (true≢false e)

-- ---- answers

refusal_due : (s : Stage) (refusal : Refusal) → IsRefusal s refusal
    → (after_reply false s (replies.Refused refusal)).action ≡ Answers (answers.Refused refusal)
refusal_due (stages.Rest h) refusal is = none_under_way is.0
refusal_due stages.Ended refusal is = none_under_way is.0
refusal_due stages.Begin refusal is = refl
refusal_due (stages.LastTag h) refusal is = refl
refusal_due (stages.ClientTag h) refusal is = refl
refusal_due (stages.Start h) refusal is = refl
refusal_due (stages.Commit h) refusal is = refl
refusal_due (stages.Await commit) refusal is = rw is refl
refusal_due (stages.Step sub purpose) NoMemory is = absurd (is.1 tt)
refusal_due (stages.Step sub purposes.Request) refusal is = refl
refusal_due (stages.Step sub purposes.Clearing) refusal is = refl
refusal_due (stages.Step sub purposes.Undoing) refusal is = refl
refusal_due (stages.Finish sub purpose) NoMemory is = absurd (is.1 tt)
refusal_due (stages.Finish sub purposes.Request) refusal is = refl
refusal_due (stages.Finish sub purposes.Clearing) refusal is = refl
refusal_due (stages.Finish sub purposes.Undoing) refusal is = refl
refusal_due (stages.StartAbort txn) NoMemory is = absurd (is.1 tt)
refusal_due (stages.StartAbort txn) refusal is = refl
refusal_due (stages.UndoNext txn) NoMemory is = absurd (is.1 tt)
refusal_due (stages.UndoNext txn) Latched is = absurd (is.1 tt)
refusal_due (stages.UndoNext txn) PoolFull is = absurd (is.1 tt)
refusal_due (stages.UndoNext txn) refusal is = refl
refusal_due (stages.EndAbort txn) NoMemory is = absurd (is.1 tt)
refusal_due (stages.EndAbort txn) refusal is = refl

receipt_due : (s : Stage) (what : Reply) (lsn : ℕ) → IsReceipt s what lsn
    → (after_reply false s what).action ≡ Answers (answers.Committed lsn)
receipt_due (stages.Await commit) (replies.Acknowledged (Some receipt)) lsn is =
    ap (λ (n : Next). n.action) (chosen (is_commit receipt.number commit) _ _ (ap (λ (n : CommitNo). is_commit n commit) is.0 ∙ commit_self commit))
    ∙ ap (λ (l : ℕ). Answers (answers.Committed l)) (sym is.1)
receipt_due _ _ lsn is = absurd is

answer_due : (s : Stage) (what : Reply) (answer : Answer) → Tells s what answer
    → (after_reply false s what).action ≡ Answers answer
answer_due s what (answers.Begun txn) is = rw (is.0, is.1) refl
answer_due s what answers.Sent is = rw (is.0.1, is.1) refl
answer_due s what (answers.Message message) is = rw (is.0.1, is.1) refl
answer_due s what answers.NoMessage is = rw (is.0.1, is.1) refl
answer_due s what answers.Closed is = rw (is.0.1, is.1) refl
answer_due s what answers.Marked is = rw (is.0.1, is.1) refl
answer_due s what (answers.Committed lsn) is = receipt_due s what lsn is
answer_due s what answers.Aborted is = rw (is.0.1, is.1) refl
answer_due s what (answers.LastTag sent tag) is = rw (is.0.1, is.1) refl
answer_due s what (answers.ClientTag count tag) is = rw (is.0.1, is.1) refl
answer_due s what (answers.Refused refusal) is = rw (is.0) (refusal_due s refusal is.1)

pub each_answer : EachAnswer
each_answer s what answer =
    (λ e. subst (TellsAnswer s what) e (says false s what).answer, answer_due s what answer)

-- ---- calls

started_due : (lost : Bool) (s : Stage) (what : Reply) (sub : Sub) → IsStarted s what sub
    → (after_reply lost s what).action ≡ Do (events.Step sub)
started_due lost s what sub is = rw (is.stage, is.reply, is.same, is.holds) refl

undo_started_due : (lost : Bool) (s : Stage) (what : Reply) (sub : Sub) → IsUndoStarted s what sub
    → (after_reply lost s what).action ≡ Do (events.Step sub)
undo_started_due lost s what sub is = rw (is.stage, is.reply, is.same) refl

cleared_due : (lost : Bool) (sub : Sub) (what : Reply) → IsDone what
    → (after_reply lost (stages.Finish sub purposes.Clearing) what).action ≡ Do (events.StartAbort sub.txn)
cleared_due lost sub (replies.Finished outcomes.Sent) is = refl
cleared_due lost sub (replies.Finished (outcomes.Message message)) is = refl
cleared_due lost sub (replies.Finished outcomes.Closed) is = refl
cleared_due lost sub (replies.Finished outcomes.Marked) is = refl
cleared_due lost sub _ is = absurd is

ask_due : (lost : Bool) (s : Stage) (what : Reply) (ask : Event) → AsksFor s what ask
    → (after_reply lost s what).action ≡ Do ask
ask_due lost s what (events.Step sub) (inl is) = started_due lost s what sub is
ask_due lost s what (events.Step sub) (inr (inl is)) = undo_started_due lost s what sub is
ask_due lost s what (events.Step sub) (inr (inr is)) = rw (is.0.1, is.1.1) refl
ask_due lost s what (events.Finish sub) is = rw (is.0.1, is.1) refl
ask_due lost s what (events.StartAbort txn) is = rw (is.stage, is.same) (cleared_due lost is.sub what is.reply)
ask_due lost s what (events.UndoNext txn) (inl is) = rw (is.0, is.1) refl
ask_due lost s what (events.UndoNext txn) (inr is) = rw (is.stage, is.reply, is.same) refl
ask_due lost s what (events.EndAbort txn) is = rw (is.0, is.1) refl
ask_due lost s what _ is = absurd is

pub each_ask : EachAsk
each_ask lost s what ask = (λ e. subst (TellsAsk s what) e (says lost s what).ask, ask_due lost s what ask)

-- ---- waits

own_is : (o : Option Txn) (commit : CommitNo) → o ≡ Some commit.txn → is_commit_of o commit ≡ true
own_is o commit e = rw e (same_self commit.txn)

told_due : (lost : Bool) (h : OwnTxn) (commit : CommitNo) → txn_held h ≡ Some commit.txn
    → (after_reply lost (stages.Commit h) (replies.Committed commit)).action ≡ Await commit
told_due lost h commit e =
    ap (λ (n : Next). n.action) (chosen (is_commit_of (txn_held h) commit) _ _ (own_is (txn_held h) commit e))

no_receipt_due : (commit : CommitNo) (what : Reply) → IsNoReceipt commit what
    → (after_await commit what).action ≡ Await commit
no_receipt_due commit (replies.Acknowledged None) is = refl
no_receipt_due commit (replies.Acknowledged (Some receipt)) is = ap (λ (n : Next). n.action) (not_chosen (is_commit receipt.number commit) _ _ (false_from_ne_true (is_commit receipt.number commit) (λ y. is (commit_is receipt.number commit y))))
no_receipt_due commit (replies.Refused Failed) is = absurd is
no_receipt_due commit (replies.Refused refusal) is = refl
no_receipt_due commit _ is = absurd is

wait_due : (lost : Bool) (s : Stage) (what : Reply) (commit : CommitNo) → WaitsFor s what commit
    → (after_reply lost s what).action ≡ Await commit
wait_due lost s what commit (inl is) = rw (is.stage, is.reply) (told_due lost is.before commit is.same)
wait_due lost s what commit (inr is) = rw (is.0) (no_receipt_due commit what is.1)

pub each_wait : EachWait
each_wait lost s what commit = (λ e. subst (TellsWait s what) e (says lost s what).wait, wait_due lost s what commit)

-- ---- the end

unfit_start : (lost : Bool) (h : OwnTxn) (what : Reply) → fits (stages.Start h) what ≡ false
    → (after_reply lost (stages.Start h) what).action ≡ End
unfit_start lost Free (replies.Started sub) e = refl
unfit_start lost (Open txn) (replies.Started sub) e = absurd (true≢false e)
unfit_start lost (Left own) (replies.Started sub) e = absurd (true≢false e)
unfit_start lost (Aborting txn) (replies.Started sub) e = absurd (true≢false e)
unfit_start lost (Undoing own) (replies.Started sub) e = absurd (true≢false e)
unfit_start lost h replies.NoMessage e = absurd (true≢false e)
unfit_start lost h (replies.Refused refusal) e = absurd (true≢false e)
unfit_start lost h _ e = refl

unfit_finish : (lost : Bool) (sub : Sub) (purpose : Purpose) (what : Reply)
    → fits (stages.Finish sub purpose) what ≡ false
    → (after_reply lost (stages.Finish sub purpose) what).action ≡ End
unfit_finish lost sub purposes.Request (replies.Finished outcomes.Sent) e = absurd (true≢false e)
unfit_finish lost sub purposes.Request (replies.Finished (outcomes.Message message)) e = absurd (true≢false e)
unfit_finish lost sub purposes.Request (replies.Finished outcomes.Closed) e = absurd (true≢false e)
unfit_finish lost sub purposes.Request (replies.Finished outcomes.Marked) e = absurd (true≢false e)
unfit_finish lost sub purposes.Request (replies.Refused refusal) e = absurd (true≢false e)
unfit_finish lost sub purposes.Request _ e = refl
unfit_finish lost sub purposes.Clearing (replies.Finished outcomes.Sent) e = absurd (true≢false e)
unfit_finish lost sub purposes.Clearing (replies.Finished (outcomes.Message message)) e = absurd (true≢false e)
unfit_finish lost sub purposes.Clearing (replies.Finished outcomes.Closed) e = absurd (true≢false e)
unfit_finish lost sub purposes.Clearing (replies.Finished outcomes.Marked) e = absurd (true≢false e)
unfit_finish lost sub purposes.Clearing (replies.Refused refusal) e = absurd (true≢false e)
unfit_finish lost sub purposes.Clearing _ e = refl
unfit_finish lost sub purposes.Undoing (replies.Finished outcomes.Undone) e = absurd (true≢false e)
unfit_finish lost sub purposes.Undoing (replies.Refused refusal) e = absurd (true≢false e)
unfit_finish lost sub purposes.Undoing _ e = refl

unfit_ends : (lost : Bool) (s : Stage) (what : Reply) → fits s what ≡ false → (after_reply lost s what).action ≡ End
unfit_ends lost (stages.Rest h) what e = refl
unfit_ends lost stages.Ended what e = refl
unfit_ends lost stages.Begin (replies.Begun txn) e = absurd (true≢false e)
unfit_ends lost stages.Begin (replies.Refused refusal) e = absurd (true≢false e)
unfit_ends lost stages.Begin _ e = refl
unfit_ends lost (stages.LastTag h) (replies.LastTag last) e = absurd (true≢false e)
unfit_ends lost (stages.LastTag h) (replies.Refused refusal) e = absurd (true≢false e)
unfit_ends lost (stages.LastTag h) _ e = refl
unfit_ends lost (stages.ClientTag h) (replies.ClientTag last) e = absurd (true≢false e)
unfit_ends lost (stages.ClientTag h) (replies.Refused refusal) e = absurd (true≢false e)
unfit_ends lost (stages.ClientTag h) _ e = refl
unfit_ends lost (stages.Start h) what e = unfit_start lost h what e
unfit_ends lost (stages.Step sub purpose) (replies.Stepped did) e = absurd (true≢false e)
unfit_ends lost (stages.Step sub purpose) (replies.Refused refusal) e = absurd (true≢false e)
unfit_ends lost (stages.Step sub purpose) _ e = refl
unfit_ends lost (stages.Finish sub purpose) what e = unfit_finish lost sub purpose what e
unfit_ends lost (stages.Commit h) (replies.Committed commit) e =
    ap (λ (n : Next). n.action) (not_chosen (is_commit_of (txn_held h) commit) _ _ e)
unfit_ends lost (stages.Commit h) (replies.Refused refusal) e = absurd (true≢false e)
unfit_ends lost (stages.Commit h) _ e = refl
unfit_ends lost (stages.Await commit) (replies.Acknowledged given) e = absurd (true≢false e)
unfit_ends lost (stages.Await commit) (replies.Refused refusal) e = absurd (true≢false e)
unfit_ends lost (stages.Await commit) _ e = refl
unfit_ends lost (stages.StartAbort txn) replies.Aborting e = absurd (true≢false e)
unfit_ends lost (stages.StartAbort txn) (replies.Refused refusal) e = absurd (true≢false e)
unfit_ends lost (stages.StartAbort txn) _ e = refl
unfit_ends lost (stages.UndoNext txn) (replies.Started sub) e = absurd (true≢false e)
unfit_ends lost (stages.UndoNext txn) replies.NothingLeft e = absurd (true≢false e)
unfit_ends lost (stages.UndoNext txn) (replies.Refused refusal) e = absurd (true≢false e)
unfit_ends lost (stages.UndoNext txn) _ e = refl
unfit_ends lost (stages.EndAbort txn) replies.Aborted e = absurd (true≢false e)
unfit_ends lost (stages.EndAbort txn) (replies.Refused refusal) e = absurd (true≢false e)
unfit_ends lost (stages.EndAbort txn) _ e = refl

refused_ends : (s : Stage) (refusal : Refusal) → IsAborting s → (MayAgain s refusal → ⊥)
    → (after_reply true s (replies.Refused refusal)).action ≡ End
refused_ends (stages.Step sub purposes.Clearing) NoMemory is not = absurd (not tt)
refused_ends (stages.Step sub purposes.Clearing) refusal is not = refl
refused_ends (stages.Step sub purposes.Undoing) NoMemory is not = absurd (not tt)
refused_ends (stages.Step sub purposes.Undoing) refusal is not = refl
refused_ends (stages.Finish sub purposes.Clearing) NoMemory is not = absurd (not tt)
refused_ends (stages.Finish sub purposes.Clearing) refusal is not = refl
refused_ends (stages.Finish sub purposes.Undoing) NoMemory is not = absurd (not tt)
refused_ends (stages.Finish sub purposes.Undoing) refusal is not = refl
refused_ends (stages.StartAbort txn) NoMemory is not = absurd (not tt)
refused_ends (stages.StartAbort txn) refusal is not = refl
refused_ends (stages.UndoNext txn) NoMemory is not = absurd (not tt)
refused_ends (stages.UndoNext txn) Latched is not = absurd (not tt)
refused_ends (stages.UndoNext txn) PoolFull is not = absurd (not tt)
refused_ends (stages.UndoNext txn) refusal is not = refl
refused_ends (stages.EndAbort txn) NoMemory is not = absurd (not tt)
refused_ends (stages.EndAbort txn) refusal is not = refl
refused_ends stages.Ended refusal is not = refl
refused_ends _ refusal is not = absurd is

aborted_ends : (s : Stage) → IsEndAbort s → (after_reply true s replies.Aborted).action ≡ End
aborted_ends (stages.EndAbort txn) is = refl
aborted_ends _ is = absurd is

over_ends : (s : Stage) (what : Reply) → AbortIsOver s what → (after_reply true s what).action ≡ End
over_ends s replies.Aborted is = aborted_ends s is
over_ends s (replies.Refused refusal) is = refused_ends s refusal is.0 is.1
over_ends s _ is = absurd is

end_due : (lost : Bool) (s : Stage) (what : Reply) → MayEnd lost s what → (after_reply lost s what).action ≡ End
end_due lost s what (inl e) = unfit_ends lost s what e
end_due lost s what (inr is) = rw (is.0) (over_ends s what is.1)

pub each_end : EachEnd
each_end lost s what = (λ e. subst (TellsEnd lost s what) e (says lost s what).over, end_due lost s what)

-- ---- the transaction

pub each_stage : EachStage
each_stage lost s what = (says lost s what).follows
