-- What a session does at a reply tells what it was replies.
use Rattle.std.proofs.Common.{◌≡◌, ℕ, Bool, true, false, cond, refl, inl, inr}
use Rattle.std.specs.Prelude.{Some, None}
use Rattle.rq_model.specs.declared.txn.Txn.{Txn}
use Rattle.rq_model.specs.declared.txn.Sub.{Sub}
use Rattle.rq_model.specs.declared.refusal.Refusal.{Refusal}
use Rattle.rq_model.specs.declared.refusal.Refusal.TheVariants.{NoMemory, Failed, Latched, PoolFull}
use Rattle.rq_wire.specs.declared.answers.Answer.{Answer}
use Rattle.rq_wire.specs.declared.answers.Answer.TheVariants as answers
use Rattle.rq_engine.specs.Says.{call_of}
use Rattle.rq_engine.specs.declared.event.CommitNo.{CommitNo}
use Rattle.rq_engine.specs.declared.event.Event.{Event}
use Rattle.rq_engine.specs.declared.event.Event.TheVariants as events
use Rattle.rq_engine.specs.declared.event.Progress.TheVariants as progress
use Rattle.rq_engine.specs.declared.event.Receipt.{Receipt}
use Rattle.rq_engine.specs.declared.event.Reply.{Reply}
use Rattle.rq_engine.specs.declared.event.Reply.TheVariants as replies
use Rattle.rq_level.specs.declared.writes.Outcome.TheVariants as outcomes
use Rattle.rq_session.specs.declared.actions.Action.{Action}
use Rattle.rq_session.specs.declared.actions.Action.TheVariants.{Do, Again, Await, Answer as Answers, End}
use Rattle.rq_session.specs.declared.stage.OwnTxn.{OwnTxn}
use Rattle.rq_session.specs.declared.stage.OwnTxn.TheVariants.{Free, Open, Left, Aborting, Undoing}
use Rattle.rq_session.specs.declared.stage.Purpose.{Purpose}
use Rattle.rq_session.specs.declared.stage.Purpose.TheVariants as purposes
use Rattle.rq_session.specs.declared.stage.Stage.{Stage}
use Rattle.rq_session.specs.declared.stage.Stage.TheVariants as stages
use Rattle.rq_session.specs.declared.stage.Next.{Next}
use Rattle.rq_session.specs.Stages.{txn_held, held_in, is_undoing, IsStageOf}
use Rattle.rq_session.specs.Rules as rules
use Rattle.rq_session.specs.Rules.{next, answered, ended, is_commit, is_commit_of}
use Rattle.rq_session.proofs.Commits.{commit_is, commit_not}
use Rattle.rq_session.specs.Laws.{IsAborting, MayAgain}
use Rattle.rq_session.specs.Tells.{Tells, AsksFor, WaitsFor, MayEnd, Follows, IsRefusal, held_after, numbered}
use Rattle.rq_session.proofs.EachTurn.{names_its, none_under_way}

-- ---- turns of each kind

abbrev pub TellsAnswer : Stage → Reply → Action → Type 0
TellsAnswer s what (Answers answer) = Tells s what answer
TellsAnswer s what _ = Unit {0}

abbrev pub TellsAsk : Stage → Reply → Action → Type 0
TellsAsk s what (Do ask) = AsksFor s what ask
TellsAsk s what _ = Unit {0}

abbrev pub TellsWait : Stage → Reply → Action → Type 0
TellsWait s what (Await commit) = WaitsFor s what commit
TellsWait s what _ = Unit {0}

abbrev pub TellsEnd : Bool → Stage → Reply → Action → Type 0
TellsEnd lost s what End = MayEnd lost s what
TellsEnd lost s what _ = Unit {0}

pub record Says (lost : Bool) (s : Stage) (what : Reply) (n : Next) : Type 0 where
  pub answer : TellsAnswer s what n.action
  pub ask : TellsAsk s what n.action
  pub wait : TellsWait s what n.action
  pub over : TellsEnd lost s what n.action
  pub follows : Follows s what n

ends : (lost : Bool) (s : Stage) (what : Reply) → MayEnd lost s what → Says lost s what ended
ends lost s what may = record {
  answer = tt;
  ask = tt;
  wait = tt;
  over = may;
  follows = record { stage = refl; txn = inl refl; abort = none_under_way };
}

gives : (lost : Bool) (s : Stage) (what : Reply) (answer : Answer) (h : OwnTxn) → h ≡ held_after s what
    → Tells s what answer
    → Says lost s what (answered answer h)
gives lost s what answer h same tells = record {
  answer = tells;
  ask = tt;
  wait = tt;
  over = tt;
  follows = record { stage = (h, refl); txn = inr same; abort = none_under_way };
}

calls : (lost : Bool) (s : Stage) (what : Reply) (ask : Event) (t : Stage) → IsStageOf (call_of ask) t
    → held_in t ≡ held_after s what
    → is_undoing t ≡ is_undoing s → AsksFor s what ask → Says lost s what (next (Do ask) t)
calls lost s what ask t stage same abort asked = record {
  answer = tt;
  ask = asked;
  wait = tt;
  over = tt;
  follows = record { stage = stage; txn = inr same; abort = λ o. abort };
}

tries : (lost : Bool) (s : Stage) (refusal : Refusal) (ask : Event) → IsStageOf (call_of ask) s
    → Says lost s (replies.Refused refusal) (next (Again ask) s)
tries lost s refusal ask stage = record {
  answer = tt;
  ask = tt;
  wait = tt;
  over = tt;
  follows = record { stage = stage; txn = inr refl; abort = λ o. refl };
}

waits : (lost : Bool) (s : Stage) (what : Reply) (commit : CommitNo) → Free ≡ held_after s what → false ≡ is_undoing s
    → WaitsFor s what commit → Says lost s what (next (Await commit) (stages.Await commit))
waits lost s what commit same abort waited = record {
  answer = tt;
  ask = tt;
  wait = waited;
  over = tt;
  follows = record { stage = refl; txn = inr same; abort = λ o. abort };
}

refuses : (lost : Bool) (s : Stage) (refusal : Refusal) (h : OwnTxn) → h ≡ held_in s → IsRefusal s refusal
    → Says lost s (replies.Refused refusal) (answered (answers.Refused refusal) h)
refuses lost s refusal h same is = gives lost s (replies.Refused refusal) (answers.Refused refusal) h same (refl, is)

stops : (lost : Bool) (s : Stage) (refusal : Refusal) (h : OwnTxn) → h ≡ held_in s → IsRefusal s refusal → IsAborting s
    → (MayAgain s refusal → ⊥) → Says lost s (replies.Refused refusal) (rules.abort_refused lost refusal h)
stops true s refusal h same is undoing not = ends true s (replies.Refused refusal) (inr (refl, (undoing, not)))
stops false s refusal h same is undoing not = refuses false s refusal h same is

-- ---- by stages

begins : (lost : Bool) (what : Reply) → Says lost stages.Begin what (rules.after_begin what)
begins lost (replies.Begun txn) =
    gives lost stages.Begin (replies.Begun txn) (answers.Begun txn) (Open txn) refl (refl, refl)
begins lost (replies.Refused refusal) = refuses lost stages.Begin refusal Free refl (refl, λ m. m)
begins lost what = ends lost stages.Begin what (inl refl)

last_tags : (lost : Bool) (h : OwnTxn) (what : Reply) → Says lost (stages.LastTag h) what (rules.after_last_tag h what)
last_tags lost h (replies.LastTag last) =
    gives lost (stages.LastTag h) (replies.LastTag last) (answers.LastTag last.sent last.tag) h refl ((h, refl), refl)
last_tags lost h (replies.Refused refusal) = refuses lost (stages.LastTag h) refusal h refl (refl, λ m. m)
last_tags lost h what = ends lost (stages.LastTag h) what (inl refl)

client_tags : (lost : Bool) (h : OwnTxn) (what : Reply)
    → Says lost (stages.ClientTag h) what (rules.after_client_tag h what)
client_tags lost h (replies.ClientTag last) =
    gives lost (stages.ClientTag h) (replies.ClientTag last) (answers.ClientTag last.count last.tag) h refl ((h, refl), refl)
client_tags lost h (replies.Refused refusal) = refuses lost (stages.ClientTag h) refusal h refl (refl, λ m. m)
client_tags lost h what = ends lost (stages.ClientTag h) what (inl refl)

start_works : (lost : Bool) (h : OwnTxn) (sub : Sub) (txn : Txn) → txn_held h ≡ Some txn
    → Says lost (stages.Start h) (replies.Started sub) (next (Do (events.Step (numbered txn sub)))
    (stages.Step (numbered txn sub) purposes.Request))
start_works lost h sub txn e =
    calls lost (stages.Start h) (replies.Started sub) (events.Step (numbered txn sub))
    (stages.Step (numbered txn sub) purposes.Request)
    (purposes.Request, refl) (rw e refl) refl
    (inl (record { before = h; txn = txn; known = sub; stage = refl; holds = e; reply = refl; same = refl }))

starts : (lost : Bool) (h : OwnTxn) (what : Reply) → Says lost (stages.Start h) what (rules.after_start h what)
starts lost Free (replies.Started sub) = ends lost (stages.Start Free) (replies.Started sub) (inl refl)
starts lost (Open txn) (replies.Started sub) = start_works lost (Open txn) sub txn refl
starts lost (Left own) (replies.Started sub) = start_works lost (Left own) sub own.txn refl
starts lost (Aborting txn) (replies.Started sub) = start_works lost (Aborting txn) sub txn refl
starts lost (Undoing own) (replies.Started sub) = start_works lost (Undoing own) sub own.txn refl
starts lost h replies.NoMessage = gives lost (stages.Start h) replies.NoMessage answers.NoMessage h refl ((h, refl), refl)
starts lost h (replies.Refused refusal) = refuses lost (stages.Start h) refusal h refl (refl, λ m. m)
starts lost h what = ends lost (stages.Start h) what (inl refl)

step_refused : (lost : Bool) (sub : Sub) (purpose : Purpose) (refusal : Refusal)
    → Says lost (stages.Step sub purpose) (replies.Refused refusal)
    (rules.work_refused lost sub purpose refusal (next (Again
    (events.Step sub)) (stages.Step sub purpose)))
step_refused lost sub purpose NoMemory = tries lost (stages.Step sub purpose) NoMemory (events.Step sub) (purpose, refl)
step_refused lost sub purposes.Request refusal =
    refuses lost (stages.Step sub purposes.Request) refusal (Left sub) refl (refl, λ m. m)
step_refused lost sub purposes.Clearing refusal =
    stops lost (stages.Step sub purposes.Clearing) refusal (Left sub) refl (refl, λ m. m) tt (λ m. m)
step_refused lost sub purposes.Undoing refusal =
    stops lost (stages.Step sub purposes.Undoing) refusal (Undoing sub) refl (refl, λ m. m) tt (λ m. m)

written : (lost : Bool) (sub : Sub) (purpose : Purpose) (lsn : ℕ)
    → Says lost (stages.Step sub purpose) (replies.Stepped (progress.Done lsn)) (next (Do (events.Step sub)) (stages.Step sub purpose))
written lost sub purpose lsn =
    calls lost (stages.Step sub purpose) (replies.Stepped (progress.Done lsn)) (events.Step sub) (stages.Step sub purpose)
    (purpose, refl) refl refl
    (inr (inr ((purpose, refl), (lsn, refl))))

ready : (lost : Bool) (sub : Sub) (purpose : Purpose)
    → held_in (stages.Finish sub purpose) ≡ held_in (stages.Step sub purpose)
    → is_undoing (stages.Finish sub purpose) ≡ is_undoing (stages.Step sub purpose)
    → Says lost (stages.Step sub purpose) (replies.Stepped progress.Ready) (next (Do (events.Finish sub)) (stages.Finish sub purpose))
ready lost sub purpose same abort =
    calls lost (stages.Step sub purpose) (replies.Stepped progress.Ready) (events.Finish sub) (stages.Finish sub purpose)
    (purpose, refl) same abort
    ((purpose, refl), refl)

steps : (lost : Bool) (sub : Sub) (purpose : Purpose) (what : Reply)
    → Says lost (stages.Step sub purpose) what (rules.after_step lost sub purpose what)
steps lost sub purpose (replies.Stepped (progress.Done lsn)) = written lost sub purpose lsn
steps lost sub purposes.Request (replies.Stepped progress.Ready) = ready lost sub purposes.Request refl refl
steps lost sub purposes.Clearing (replies.Stepped progress.Ready) = ready lost sub purposes.Clearing refl refl
steps lost sub purposes.Undoing (replies.Stepped progress.Ready) = ready lost sub purposes.Undoing refl refl
steps lost sub purpose (replies.Refused refusal) = step_refused lost sub purpose refusal
steps lost sub purpose what = ends lost (stages.Step sub purpose) what (inl refl)

finish_refused : (lost : Bool) (sub : Sub) (purpose : Purpose) (refusal : Refusal)
    → Says lost (stages.Finish sub purpose) (replies.Refused refusal)
    (rules.work_refused lost sub purpose refusal (next (Again
    (events.Finish sub)) (stages.Finish sub purpose)))
finish_refused lost sub purpose NoMemory = tries lost (stages.Finish sub purpose) NoMemory (events.Finish sub)
    (purpose, refl)
finish_refused lost sub purposes.Request refusal =
    refuses lost (stages.Finish sub purposes.Request) refusal (Left sub) refl (refl, λ m. m)
finish_refused lost sub purposes.Clearing refusal =
    stops lost (stages.Finish sub purposes.Clearing) refusal (Left sub) refl (refl, λ m. m) tt (λ m. m)
finish_refused lost sub purposes.Undoing refusal =
    stops lost (stages.Finish sub purposes.Undoing) refusal (Undoing sub) refl (refl, λ m. m) tt (λ m. m)

abbrev clearing : Sub → Stage
clearing sub = stages.Finish sub purposes.Clearing

finishes : (lost : Bool) (sub : Sub) (purpose : Purpose) (what : Reply)
    → Says lost (stages.Finish sub purpose) what (rules.after_finish lost sub purpose what)
finishes lost sub purpose (replies.Refused refusal) = finish_refused lost sub purpose refusal
finishes lost sub purposes.Request (replies.Finished outcomes.Sent) = gives lost (stages.Finish sub purposes.Request) (replies.Finished outcomes.Sent) answers.Sent
    (Open sub.txn) refl ((sub, refl), refl)
finishes lost sub purposes.Request (replies.Finished (outcomes.Message message)) = gives lost (stages.Finish sub purposes.Request)
    (replies.Finished (outcomes.Message message)) (answers.Message message) (Open sub.txn) refl ((sub, refl), refl)
finishes lost sub purposes.Request (replies.Finished outcomes.Closed) = gives lost
    (stages.Finish sub purposes.Request) (replies.Finished outcomes.Closed) answers.Closed
    (Open sub.txn) refl ((sub, refl), refl)
finishes lost sub purposes.Request (replies.Finished outcomes.Marked) = gives lost
    (stages.Finish sub purposes.Request) (replies.Finished outcomes.Marked) answers.Marked
    (Open sub.txn) refl ((sub, refl), refl)
finishes lost sub purposes.Clearing (replies.Finished outcomes.Sent) = calls lost (clearing sub) (replies.Finished outcomes.Sent) (events.StartAbort sub.txn)
    (stages.StartAbort sub.txn) refl refl refl (record { sub = sub; stage = refl; reply = tt; same = refl })
finishes lost sub purposes.Clearing (replies.Finished (outcomes.Message message)) = calls lost (clearing sub) (replies.Finished (outcomes.Message message))
    (events.StartAbort sub.txn) (stages.StartAbort sub.txn) refl refl refl
    (record { sub = sub; stage = refl; reply = tt; same = refl })
finishes lost sub purposes.Clearing (replies.Finished outcomes.Closed) = calls lost (clearing sub) (replies.Finished outcomes.Closed) (events.StartAbort sub.txn)
    (stages.StartAbort sub.txn) refl refl refl (record { sub = sub; stage = refl; reply = tt; same = refl })
finishes lost sub purposes.Clearing (replies.Finished outcomes.Marked) = calls lost (clearing sub) (replies.Finished outcomes.Marked) (events.StartAbort sub.txn)
    (stages.StartAbort sub.txn) refl refl refl (record { sub = sub; stage = refl; reply = tt; same = refl })
finishes lost sub purposes.Undoing (replies.Finished outcomes.Undone) = calls lost (stages.Finish sub purposes.Undoing) (replies.Finished outcomes.Undone)
    (events.UndoNext sub.txn) (stages.UndoNext sub.txn) refl refl refl
    (inr (record { sub = sub; stage = refl; reply = refl; same = refl }))
finishes lost sub purposes.Request what = ends lost (stages.Finish sub purposes.Request) what (inl refl)
finishes lost sub purposes.Clearing what = ends lost (clearing sub) what (inl refl)
finishes lost sub purposes.Undoing what = ends lost (stages.Finish sub purposes.Undoing) what (inl refl)

own_commits : (lost : Bool) (h : OwnTxn) (commit : CommitNo) (mine : Bool) → is_commit_of (txn_held h) commit ≡ mine
    → Says lost (stages.Commit h) (replies.Committed commit) (cond mine (next (Await commit) (stages.Await commit)) ended)
own_commits lost h commit true e = waits lost (stages.Commit h) (replies.Committed commit) commit refl refl
    (inl (record { before = h; stage = refl; reply = refl; same = names_its (txn_held h) commit e }))
own_commits lost h commit false e = ends lost (stages.Commit h) (replies.Committed commit) (inl e)

commits : (lost : Bool) (h : OwnTxn) (what : Reply) → Says lost (stages.Commit h) what (rules.after_commit h what)
commits lost h (replies.Committed commit) = own_commits lost h commit (is_commit_of (txn_held h) commit) refl
commits lost h (replies.Refused refusal) = refuses lost (stages.Commit h) refusal h refl (refl, λ m. m)
commits lost h what = ends lost (stages.Commit h) what (inl refl)

receipts : (lost : Bool) (commit : CommitNo) (receipt : Receipt) (same : Bool) → is_commit receipt.number commit ≡ same
    → Says lost (stages.Await commit) (replies.Acknowledged (Some receipt))
    (cond same (answered (answers.Committed commit.lsn) Free) (next
    (Await commit) (stages.Await commit)))
receipts lost commit receipt true e =
    gives lost (stages.Await commit) (replies.Acknowledged (Some receipt)) (answers.Committed commit.lsn) Free refl (commit_is receipt.number commit e, refl)
receipts lost commit receipt false e =
    waits lost (stages.Await commit) (replies.Acknowledged (Some receipt)) commit refl refl (inr (refl, commit_not receipt.number commit e))

awaits : (lost : Bool) (commit : CommitNo) (what : Reply)
    → Says lost (stages.Await commit) what (rules.after_await commit what)
awaits lost commit (replies.Acknowledged None) = waits lost (stages.Await commit) (replies.Acknowledged None) commit refl refl (inr (refl, tt))
awaits lost commit (replies.Refused Failed) = refuses lost (stages.Await commit) Failed Free refl refl
awaits lost commit (replies.Refused refusal) =
    waits lost (stages.Await commit) (replies.Refused refusal) commit refl refl (inr (refl, tt))
awaits lost commit (replies.Acknowledged (Some receipt)) = receipts lost commit receipt (is_commit receipt.number commit) refl
awaits lost commit what = ends lost (stages.Await commit) what (inl refl)

abort_starts : (lost : Bool) (txn : Txn) (what : Reply)
    → Says lost (stages.StartAbort txn) what (rules.after_start_abort lost txn what)
abort_starts lost txn replies.Aborting = calls lost (stages.StartAbort txn) replies.Aborting (events.UndoNext txn)
    (stages.UndoNext txn) refl refl refl (inl (refl, refl))
abort_starts lost txn (replies.Refused NoMemory) = tries lost (stages.StartAbort txn) NoMemory (events.StartAbort txn) refl
abort_starts lost txn (replies.Refused refusal) =
    stops lost (stages.StartAbort txn) refusal (Open txn) refl (refl, λ m. m) tt (λ m. m)
abort_starts lost txn what = ends lost (stages.StartAbort txn) what (inl refl)

undo_refused : (lost : Bool) (txn : Txn) (refusal : Refusal)
    → Says lost (stages.UndoNext txn) (replies.Refused refusal) (rules.undo_refused lost txn refusal)
undo_refused lost txn NoMemory = tries lost (stages.UndoNext txn) NoMemory (events.UndoNext txn) refl
undo_refused lost txn Latched = tries lost (stages.UndoNext txn) Latched (events.UndoNext txn) refl
undo_refused lost txn PoolFull = tries lost (stages.UndoNext txn) PoolFull (events.UndoNext txn) refl
undo_refused lost txn refusal =
    stops lost (stages.UndoNext txn) refusal (Aborting txn) refl (refl, λ m. m) tt (λ m. m)

undo_starts : (lost : Bool) (txn : Txn) (what : Reply)
    → Says lost (stages.UndoNext txn) what (rules.after_undo_next lost txn what)
undo_starts lost txn (replies.Started sub) = calls lost (stages.UndoNext txn) (replies.Started sub)
    (events.Step (numbered txn sub))
    (stages.Step (numbered txn sub) purposes.Undoing) (purposes.Undoing, refl) refl refl
    (inr (inl (record { txn = txn; known = sub; stage = refl; reply = refl; same = refl })))
undo_starts lost txn replies.NothingLeft = calls lost (stages.UndoNext txn) replies.NothingLeft (events.EndAbort txn)
    (stages.EndAbort txn)
    refl refl refl (refl, refl)
undo_starts lost txn (replies.Refused refusal) = undo_refused lost txn refusal
undo_starts lost txn what = ends lost (stages.UndoNext txn) what (inl refl)

abort_ends : (lost : Bool) (txn : Txn) (what : Reply)
    → Says lost (stages.EndAbort txn) what (rules.after_end_abort lost txn what)
abort_ends true txn replies.Aborted = ends true (stages.EndAbort txn) replies.Aborted (inr (refl, tt))
abort_ends false txn replies.Aborted = gives false (stages.EndAbort txn) replies.Aborted answers.Aborted Free refl
    ((txn, refl), refl)
abort_ends lost txn (replies.Refused NoMemory) = tries lost (stages.EndAbort txn) NoMemory (events.EndAbort txn) refl
abort_ends lost txn (replies.Refused refusal) =
    stops lost (stages.EndAbort txn) refusal (Aborting txn) refl (refl, λ m. m) tt (λ m. m)
abort_ends lost txn what = ends lost (stages.EndAbort txn) what (inl refl)

pub says : (lost : Bool) (s : Stage) (what : Reply) → Says lost s what (rules.after_reply lost s what)
says lost (stages.Rest h) what = ends lost (stages.Rest h) what (inl refl)
says lost stages.Begin what = begins lost what
says lost (stages.LastTag h) what = last_tags lost h what
says lost (stages.ClientTag h) what = client_tags lost h what
says lost (stages.Start h) what = starts lost h what
says lost (stages.Step sub purpose) what = steps lost sub purpose what
says lost (stages.Finish sub purpose) what = finishes lost sub purpose what
says lost (stages.Commit h) what = commits lost h what
says lost (stages.Await commit) what = awaits lost commit what
says lost (stages.StartAbort txn) what = abort_starts lost txn what
says lost (stages.UndoNext txn) what = undo_starts lost txn what
says lost (stages.EndAbort txn) what = abort_ends lost txn what
says lost stages.Ended what = ends lost stages.Ended what (inl refl)
