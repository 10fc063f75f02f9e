-- Each turn of a session keeps its laws.
use Rattle.std.proofs.Common.{zero-add, ◌≡◌, ℕ, Bool, true, false, cond, refl, sym, ◌∙◌, ap, inl, inr, arith}
use Rattle.std.proofs.lemmas.Bool.{false≢true}
use Rattle.std.specs.Prelude.{Option, Some, None}
use Rattle.rq_model.specs.History.{Call}
use Rattle.rq_model.specs.declared.txn.Txn.{Txn}
use Rattle.rq_model.specs.declared.txn.Sub.{Sub}
use Rattle.rq_model.specs.declared.refusal.Refusal.{Refusal}
use Rattle.rq_model.specs.declared.refusal.Refusal.TheVariants.{NoMemory, Failed, UnknownTransaction, Latched, PoolFull, TooManyTransactions}
use Rattle.rq_wire.specs.declared.request.Request.{Request}
use Rattle.rq_wire.specs.declared.request.Request.TheVariants as requests
use Rattle.rq_wire.specs.declared.answers.Answer.{Answer}
use Rattle.rq_wire.specs.declared.answers.Answer.TheVariants as answers
use Rattle.rq_engine.specs.Says.{call_of}
use Rattle.rq_engine.specs.declared.event.CommitNo.{CommitNo}
use Rattle.rq_engine.specs.declared.event.Event.{Event}
use Rattle.rq_engine.specs.declared.event.Event.TheVariants as events
use Rattle.rq_engine.specs.declared.event.Progress.TheVariants as progress
use Rattle.rq_engine.specs.declared.event.Receipt.{Receipt}
use Rattle.rq_engine.specs.declared.event.Reply.{Reply}
use Rattle.rq_engine.specs.declared.event.Reply.TheVariants as replies
use Rattle.rq_level.specs.declared.writes.Outcome.TheVariants as outcomes
use Rattle.rq_session.specs.declared.actions.Action.TheVariants.{Do, Again, Await, Answer as Answers}
use Rattle.rq_session.specs.declared.stage.OwnTxn.{OwnTxn}
use Rattle.rq_session.specs.declared.stage.OwnTxn.TheVariants.{Free, Open, Left, Aborting, Undoing}
use Rattle.rq_session.specs.declared.stage.Purpose.{Purpose}
use Rattle.rq_session.specs.declared.stage.Purpose.TheVariants as purposes
use Rattle.rq_session.specs.declared.stage.Stage.{Stage}
use Rattle.rq_session.specs.declared.stage.Stage.TheVariants as stages
use Rattle.rq_session.specs.declared.stage.Next.{Next}
use Rattle.rq_session.specs.Stages.{txn_held, own, held_in, is_undoing, IsStageOf}
use Rattle.rq_session.specs.Rules as rules
use Rattle.rq_model.proofs.Lists.{same_is}
use Rattle.rq_session.specs.Rules.{next, answered, ended, is_commit, is_commit_of}
use Rattle.rq_session.proofs.Commits.{commit_is}
use Rattle.rq_session.specs.Laws.{NotTaken, IsFirst, IsOwn, AwaitsOwn, abort_call, is_abort, loss_call, awaited, Turn, Takes, Lost, CommitFits, MayAgain, MayAgainAfter, IsAgain, IsAborting, asked_last, owed, given}

pub none_under_way : {P : Type 0} → ◌≡◌ {A = ℕ} 0 1 → P
none_under_way e = absurd (omega (arith, e))

-- ---- turns of each kind

ends : (s : Stage) (what : Reply) → Turn s what ended
ends s what = record {
  own_call = tt;
  own_commit = tt;
  own_txn = inr (inl (tt, refl));
  once = inl refl;
  again = tt;
  receipt = tt;
}

-- an answer of the request under way, which keeps the transaction
gives : (s : Stage) (what : Reply) (answer : Answer) (h : OwnTxn) → txn_held h ≡ own s → owed s ≡ 1
    → CommitFits s what (Answers answer) → Turn s what (answered answer h)
gives s what answer h same one fits = record {
  own_call = tt;
  own_commit = tt;
  own_txn = inl same;
  once = inr (sym one);
  again =
      tt;
  receipt = fits;
}

refuses : (s : Stage) (what : Reply) (refusal : Refusal) (h : OwnTxn) → txn_held h ≡ own s → owed s ≡ 1
    → Turn s what (answered (answers.Refused refusal) h)
refuses s what refusal h same one = gives s what (answers.Refused refusal) h same one tt

calls : (s : Stage) (what : Reply) (ask : Event) (t : Stage) → IsOwn (own t) (call_of ask) → own t ≡ own s → owed s ≡ 1
    → owed t ≡ 1 → AwaitsOwn s what (awaited t) → Turn s what (next (Do ask) t)
calls s what ask t is same one still none = record {
  own_call = is;
  own_commit = none;
  own_txn = inl same;
  once = inr (zero-add (owed t)
      ∙ still ∙ sym one);
  again = tt;
  receipt = tt;
}

tries : (s : Stage) (what : Reply) (ask : Event) → IsOwn (own s) (call_of ask) → MayAgainAfter s what → asked_last s ≡ Some ask
    → AwaitsOwn s what (awaited s) → Turn s what (next (Again ask) s)
tries s what ask is may last none = record {
  own_call = is;
  own_commit = none;
  own_txn = inl refl;
  once = inr (zero-add (owed s));
  again =
      (may, last, refl);
  receipt = tt;
}

aborts : (s : Stage) (what : Reply) (h : OwnTxn) → txn_held h ≡ own s → owed s ≡ 1 → Turn s what (rules.abort h)
aborts s what Free same one = ends s what
aborts s what (Open txn) same one = calls s what (events.StartAbort txn) (stages.StartAbort txn) refl same one refl tt
aborts s what (Left sub) same one = calls s what (events.Step sub)
    (stages.Step sub purposes.Clearing) refl same one refl tt
aborts s what (Aborting txn) same one = calls s what (events.UndoNext txn) (stages.UndoNext txn) refl same one refl tt
aborts s what (Undoing sub) same one = calls s what (events.Step sub) (stages.Step sub purposes.Undoing) refl same one
    refl tt

stops : (lost : Bool) (s : Stage) (what : Reply) (refusal : Refusal) (h : OwnTxn) → txn_held h ≡ own s → owed s ≡ 1
    → Turn s what (rules.abort_refused lost refusal h)
stops true s what refusal h same one = ends s what
stops false s what refusal h same one = refuses s what refusal h same one

-- ---- by stages

begins : (what : Reply) → Turn stages.Begin what (rules.after_begin what)
begins (replies.Begun txn) = record {
  own_call = tt;
  own_commit = tt;
  own_txn = inr (inr refl);
  once = inr refl;
  again = tt;
  receipt = tt;
}
begins (replies.Refused refusal) = refuses stages.Begin (replies.Refused refusal) refusal Free refl refl
begins what = ends stages.Begin what

last_tags : (h : OwnTxn) (what : Reply) → Turn (stages.LastTag h) what (rules.after_last_tag h what)
last_tags h (replies.LastTag last) = gives (stages.LastTag h) (replies.LastTag last) (answers.LastTag last.sent last.tag) h
    refl refl tt
last_tags h (replies.Refused refusal) = refuses (stages.LastTag h) (replies.Refused refusal) refusal h refl refl
last_tags h what = ends (stages.LastTag h) what

client_tags : (h : OwnTxn) (what : Reply) → Turn (stages.ClientTag h) what (rules.after_client_tag h what)
client_tags h (replies.ClientTag last) = gives (stages.ClientTag h) (replies.ClientTag last) (answers.ClientTag last.count last.tag) h
    refl refl tt
client_tags h (replies.Refused refusal) = refuses (stages.ClientTag h) (replies.Refused refusal) refusal h refl refl
client_tags h what = ends (stages.ClientTag h) what

first_steps : (s : Stage) (what : Reply) (o : Option Txn) (number : ℕ) (purpose : Purpose) → o ≡ own s → owed s ≡ 1
    → Turn s what (rules.started o number purpose)
first_steps s what None number purpose same one = ends s what
first_steps s what (Some txn) number purpose same one =
    calls s what (events.Step (record { txn = txn; number = number })) (stages.Step (record {
      txn = txn;
      number =
          number;
    }) purpose) refl same one refl tt

starts : (h : OwnTxn) (what : Reply) → Turn (stages.Start h) what (rules.after_start h what)
starts h (replies.Started sub) = first_steps (stages.Start h) (replies.Started sub) (txn_held h) sub.number
    purposes.Request refl refl
starts h replies.NoMessage = gives (stages.Start h) replies.NoMessage answers.NoMessage h refl refl tt
starts h (replies.Refused refusal) = refuses (stages.Start h) (replies.Refused refusal) refusal h refl refl
starts h what = ends (stages.Start h) what

work_stops : (lost : Bool) (s : Stage) (sub : Sub) (purpose : Purpose) (refusal : Refusal) (n : Next)
    → own s ≡ Some sub.txn → owed s ≡ 1 → (refusal ≡ NoMemory → Turn s (replies.Refused refusal) n)
    → Turn s (replies.Refused refusal) (rules.work_refused lost sub purpose refusal n)
work_stops lost s sub purpose NoMemory n same one again = again refl
work_stops lost s sub purposes.Request refusal n same one again =
    refuses s (replies.Refused refusal) refusal (Left sub) (sym same) one
work_stops lost s sub purposes.Clearing refusal n same one again =
    stops lost s (replies.Refused refusal) refusal (Left sub) (sym same) one
work_stops lost s sub purposes.Undoing refusal n same one again =
    stops lost s (replies.Refused refusal) refusal (Undoing sub) (sym same) one

steps : (lost : Bool) (sub : Sub) (purpose : Purpose) (what : Reply)
    → Turn (stages.Step sub purpose) what (rules.after_step lost sub purpose what)
steps lost sub purpose (replies.Stepped (progress.Done lsn)) = calls (stages.Step sub purpose) (replies.Stepped (progress.Done lsn)) (events.Step sub) (stages.Step sub
    purpose) refl refl refl refl tt
steps lost sub purpose (replies.Stepped progress.Ready) = calls (stages.Step sub purpose) (replies.Stepped progress.Ready) (events.Finish sub) (stages.Finish sub
    purpose) refl refl refl refl tt
steps lost sub purpose (replies.Refused refusal) =
    work_stops lost (stages.Step sub purpose) sub purpose refusal (next (Again (events.Step sub)) (stages.Step sub
    purpose)) refl refl
    (λ e. tries (stages.Step sub purpose) (replies.Refused refusal) (events.Step sub) refl (rw e tt) refl tt)
steps lost sub purpose what = ends (stages.Step sub purpose) what

dones : (sub : Sub) (purpose : Purpose) (what : Reply) (answer : Answer)
    → CommitFits (stages.Finish sub purpose) what (Answers answer)
    → Turn (stages.Finish sub purpose) what (rules.done sub purpose answer)
dones sub purposes.Request what answer fits = gives (stages.Finish sub purposes.Request) what answer (Open sub.txn)
    refl refl fits
dones sub purposes.Clearing what answer fits = aborts (stages.Finish sub purposes.Clearing) what (Open sub.txn) refl
    refl
dones sub purposes.Undoing what answer fits = ends (stages.Finish sub purposes.Undoing) what

undones : (sub : Sub) (purpose : Purpose) → Turn (stages.Finish sub purpose) (replies.Finished outcomes.Undone) (rules.undone sub purpose)
undones sub purposes.Undoing = aborts (stages.Finish sub purposes.Undoing) (replies.Finished outcomes.Undone) (Aborting sub.txn) refl refl
undones sub purposes.Request = ends (stages.Finish sub purposes.Request) (replies.Finished outcomes.Undone)
undones sub purposes.Clearing = ends (stages.Finish sub purposes.Clearing) (replies.Finished outcomes.Undone)

finishes : (lost : Bool) (sub : Sub) (purpose : Purpose) (what : Reply)
    → Turn (stages.Finish sub purpose) what (rules.after_finish lost sub purpose what)
finishes lost sub purpose (replies.Finished outcomes.Sent) = dones sub purpose (replies.Finished outcomes.Sent) answers.Sent tt
finishes lost sub purpose (replies.Finished (outcomes.Message message)) = dones sub purpose (replies.Finished (outcomes.Message message)) (answers.Message message) tt
finishes lost sub purpose (replies.Finished outcomes.Closed) = dones sub purpose (replies.Finished outcomes.Closed) answers.Closed tt
finishes lost sub purpose (replies.Finished outcomes.Marked) = dones sub purpose (replies.Finished outcomes.Marked) answers.Marked tt
finishes lost sub purpose (replies.Finished outcomes.Undone) = undones sub purpose
finishes lost sub purpose (replies.Refused refusal) =
    work_stops lost (stages.Finish sub purpose) sub purpose refusal (next (Again (events.Finish sub)) (stages.Finish
    sub purpose)) refl refl
    (λ e. tries (stages.Finish sub purpose) (replies.Refused refusal) (events.Finish sub) refl (rw e tt) refl tt)
finishes lost sub purpose what = ends (stages.Finish sub purpose) what

pub names_its : (o : Option Txn) (commit : CommitNo) → is_commit_of o commit ≡ true → o ≡ Some commit.txn
names_its None commit e = absurd (false≢true e)
names_its (Some txn) commit e = ap Some (same_is txn commit.txn e)

own_commits : (h : OwnTxn) (commit : CommitNo) (mine : Bool) → is_commit_of (txn_held h) commit ≡ mine
    → Turn (stages.Commit h) (replies.Committed commit) (cond mine (next (Await commit) (stages.Await commit)) ended)
own_commits h commit true e = record {
  own_call = refl;
  own_commit = (names_its (txn_held h) commit e, refl);
  own_txn = inr (inl ((names_its (txn_held h) commit e, refl), refl));
  once = inr refl;
  again = tt;
  receipt = tt;
}
own_commits h commit false e = ends (stages.Commit h) (replies.Committed commit)

commits : (h : OwnTxn) (what : Reply) → Turn (stages.Commit h) what (rules.after_commit h what)
commits h (replies.Committed commit) = own_commits h commit (is_commit_of (txn_held h) commit) refl
commits h (replies.Refused refusal) = refuses (stages.Commit h) (replies.Refused refusal) refusal h refl refl
commits h what = ends (stages.Commit h) what

waits : (commit : CommitNo) (what : Reply) → Turn (stages.Await commit) what (next (Await commit) (stages.Await commit))
waits commit what = record {
  own_call = refl;
  own_commit = refl;
  own_txn = inl refl;
  once = inr refl;
  again = tt;
  receipt = tt;
}

receipts : (commit : CommitNo) (receipt : Receipt) (same : Bool) → is_commit receipt.number commit ≡ same
    → Turn (stages.Await commit) (replies.Acknowledged (Some receipt)) (cond same (answered (answers.Committed commit.lsn) Free) (next
    (Await commit) (stages.Await commit)))
receipts commit receipt true e = gives (stages.Await commit) (replies.Acknowledged (Some receipt)) (answers.Committed commit.lsn) Free
    refl refl (commit_is receipt.number commit e, refl)
receipts commit receipt false e = waits commit (replies.Acknowledged (Some receipt))

awaits : (commit : CommitNo) (what : Reply) → Turn (stages.Await commit) what (rules.after_await commit what)
awaits commit (replies.Acknowledged None) = waits commit (replies.Acknowledged None)
awaits commit (replies.Refused Failed) = refuses (stages.Await commit) (replies.Refused Failed) Failed Free refl refl
awaits commit (replies.Refused refusal) = waits commit (replies.Refused refusal)
awaits commit (replies.Acknowledged (Some receipt)) = receipts commit receipt (is_commit receipt.number commit) refl
awaits commit what = ends (stages.Await commit) what

abort_starts : (lost : Bool) (txn : Txn) (what : Reply) → Turn (stages.StartAbort txn) what (rules.after_start_abort
    lost txn what)
abort_starts lost txn replies.Aborting = aborts (stages.StartAbort txn) replies.Aborting (Aborting txn) refl refl
abort_starts lost txn (replies.Refused NoMemory) = tries (stages.StartAbort txn) (replies.Refused NoMemory)
    (events.StartAbort txn) refl tt refl tt
abort_starts lost txn (replies.Refused refusal) = stops lost (stages.StartAbort txn) (replies.Refused refusal) refusal
    (Open txn) refl refl
abort_starts lost txn what = ends (stages.StartAbort txn) what

undo_stops : (lost : Bool) (txn : Txn) (refusal : Refusal) → Turn (stages.UndoNext txn) (replies.Refused refusal)
    (rules.undo_refused lost txn refusal)
undo_stops lost txn NoMemory = tries (stages.UndoNext txn) (replies.Refused NoMemory) (events.UndoNext txn) refl tt refl tt
undo_stops lost txn Latched = tries (stages.UndoNext txn) (replies.Refused Latched) (events.UndoNext txn) refl tt refl tt
undo_stops lost txn PoolFull = tries (stages.UndoNext txn) (replies.Refused PoolFull) (events.UndoNext txn) refl tt refl tt
undo_stops lost txn refusal = stops lost (stages.UndoNext txn) (replies.Refused refusal) refusal (Aborting txn) refl refl

undo_starts : (lost : Bool) (txn : Txn) (what : Reply) → Turn (stages.UndoNext txn) what (rules.after_undo_next lost
    txn what)
undo_starts lost txn (replies.Started sub) = first_steps (stages.UndoNext txn) (replies.Started sub) (Some txn) sub.number
    purposes.Undoing refl refl
undo_starts lost txn replies.NothingLeft = calls (stages.UndoNext txn) replies.NothingLeft (events.EndAbort txn) (stages.EndAbort
    txn) refl refl refl refl tt
undo_starts lost txn (replies.Refused refusal) = undo_stops lost txn refusal
undo_starts lost txn what = ends (stages.UndoNext txn) what

abort_ends : (lost : Bool) (txn : Txn) (what : Reply) → Turn (stages.EndAbort txn) what (rules.after_end_abort lost
    txn what)
abort_ends true txn replies.Aborted = ends (stages.EndAbort txn) replies.Aborted
abort_ends false txn replies.Aborted = record {
  own_call = tt;
  own_commit = tt;
  own_txn = inr (inl (tt, refl));
  once = inr refl;
  again =
      tt;
  receipt = tt;
}
abort_ends lost txn (replies.Refused NoMemory) = tries (stages.EndAbort txn) (replies.Refused NoMemory) (events.EndAbort txn)
    refl tt refl tt
abort_ends lost txn (replies.Refused refusal) = stops lost (stages.EndAbort txn) (replies.Refused refusal) refusal
    (Aborting txn) refl refl
abort_ends lost txn what = ends (stages.EndAbort txn) what

pub each_reply : (lost : Bool) (s : Stage) (what : Reply) → Turn s what (rules.after_reply lost s what)
each_reply lost (stages.Rest h) what = ends (stages.Rest h) what
each_reply lost stages.Begin what = begins what
each_reply lost (stages.LastTag h) what = last_tags h what
each_reply lost (stages.ClientTag h) what = client_tags h what
each_reply lost (stages.Start h) what = starts h what
each_reply lost (stages.Step sub purpose) what = steps lost sub purpose what
each_reply lost (stages.Finish sub purpose) what = finishes lost sub purpose what
each_reply lost (stages.Commit h) what = commits h what
each_reply lost (stages.Await commit) what = awaits commit what
each_reply lost (stages.StartAbort txn) what = abort_starts lost txn what
each_reply lost (stages.UndoNext txn) what = undo_starts lost txn what
each_reply lost (stages.EndAbort txn) what = abort_ends lost txn what
each_reply lost stages.Ended what = ends stages.Ended what

-- ---- where a call may be made again, it is

pub each_may_again : (lost : Bool) (s : Stage) (refusal : Refusal) → MayAgain s refusal
    → IsAgain (rules.after_reply lost s (replies.Refused refusal)).action
each_may_again lost (stages.Step sub purpose) NoMemory may = tt
each_may_again lost (stages.Finish sub purpose) NoMemory may = tt
each_may_again lost (stages.StartAbort txn) NoMemory may = tt
each_may_again lost (stages.UndoNext txn) NoMemory may = tt
each_may_again lost (stages.UndoNext txn) Latched may = tt
each_may_again lost (stages.UndoNext txn) PoolFull may = tt
each_may_again lost (stages.EndAbort txn) NoMemory may = tt
each_may_again lost _ _ may = absurd may

-- ---- requests

-- a call for the transaction as it is
asks_first : (h : OwnTxn) (request : Request) (call : Call) (t : Stage)
    → IsFirst h request (record { call = Some call; answer = None; stage = t }) → IsStageOf call t → held_in t ≡ h
    → is_undoing t ≡ is_abort request → IsOwn (own t) call → awaited t ≡ None → own t ≡ txn_held h → owed t ≡ 1
    → Takes h request (record { call = Some call; answer = None; stage = t })
asks_first h request call t is stage same abort mine none txn still = record {
  first = is;
  stage = stage;
  same = same;
  abort = λ o. abort;
  own_call = mine;
  own_commit = none;
  own_txn = txn;
  once = zero-add (owed t) ∙ still;
}

refuses_first : (h : OwnTxn) (request : Request) (refusal : Refusal)
    → IsFirst h request (rules.first_of (answered (answers.Refused refusal) h))
    → Takes h request (rules.first_of (answered (answers.Refused refusal) h))
refuses_first h request refusal is = record {
  first = is;
  stage = (h, refl);
  same = refl;
  abort = none_under_way;
  own_call = tt;
  own_commit = refl;
  own_txn = refl;
  once = refl;
}

pub each_request : (h : OwnTxn) (request : Request) → Takes h request (rules.after_request h request)
each_request Free requests.Begin = asks_first Free requests.Begin _ stages.Begin (refl, refl) refl refl refl refl refl refl refl
each_request h (requests.LastTag sender) =
    asks_first h (requests.LastTag sender) _ (stages.LastTag h) (refl, refl) (h, refl) refl refl tt refl refl refl
each_request h (requests.ClientTag client) =
    asks_first h (requests.ClientTag client) _ (stages.ClientTag h) (refl, refl) (h, refl) refl refl tt refl refl refl
each_request Free request = refuses_first Free request UnknownTransaction (refl, refl)
each_request h requests.Begin = refuses_first h requests.Begin TooManyTransactions (refl, refl)
each_request (Open txn) requests.Abort =
    asks_first (Open txn) requests.Abort _ (stages.StartAbort txn) (refl, refl) refl refl refl refl refl refl refl
each_request (Left sub) requests.Abort =
    asks_first (Left sub) requests.Abort _ (stages.Step sub purposes.Clearing) (refl, refl) (purposes.Clearing, refl) refl refl
    refl refl refl refl
each_request (Aborting txn) requests.Abort =
    asks_first (Aborting txn) requests.Abort _ (stages.UndoNext txn) (refl, refl) refl refl refl refl refl refl refl
each_request (Undoing sub) requests.Abort =
    asks_first (Undoing sub) requests.Abort _ (stages.Step sub purposes.Undoing) (refl, refl) (purposes.Undoing, refl) refl refl
    refl refl refl refl
each_request h requests.Commit =
    asks_first h requests.Commit _ (stages.Commit h) (refl, refl) (h, refl, refl) refl refl refl refl refl refl
each_request h request = asks_first h request _ (stages.Start h) (refl, refl) (h, refl, refl) refl refl refl refl refl refl

pub not_taken : NotTaken
not_taken (stages.Rest h) request e = none_under_way (sym e)
not_taken _ request e = refl

-- ---- losses

-- a call for the transaction as it is
loses : (s : Stage) (ask : Event) (t : Stage) → Some ask ≡ loss_call (asked_last s) (held_in s) → IsStageOf (call_of ask) t
    → held_in t ≡ held_in s → IsOwn (own t) (call_of ask) → awaited t ≡ None → own t ≡ own s → IsAborting t
    → Lost s (next (Do ask) t)
loses s ask t is stage same mine none txn aborts = record {
  call = is;
  stage = stage;
  same = same;
  own_call = mine;
  own_commit = none;
  own_txn = txn;
  aborts = aborts;
  silent = refl;
}

loses_none : (s : Stage) → None ≡ loss_call (asked_last s) (held_in s) → Free ≡ held_in s → None ≡ own s → Lost s ended
loses_none s none same txn = record {
  call = none;
  stage = refl;
  same = same;
  own_call = tt;
  own_commit = refl;
  own_txn = txn;
  aborts = tt;
  silent = refl;
}

lost_aborts : (s : Stage) (h : OwnTxn) → abort_call h ≡ loss_call (asked_last s) (held_in s) → h ≡ held_in s
    → txn_held h ≡ own s
    → Lost s (rules.abort h)
lost_aborts s Free call same txn = loses_none s call same txn
lost_aborts s (Open t) call same txn = loses s (events.StartAbort t) (stages.StartAbort t) call refl same refl refl txn tt
lost_aborts s (Left sub) call same txn =
    loses s (events.Step sub) (stages.Step sub purposes.Clearing) call (purposes.Clearing, refl) same refl refl txn tt
lost_aborts s (Aborting t) call same txn = loses s (events.UndoNext t) (stages.UndoNext t) call refl same refl refl txn tt
lost_aborts s (Undoing sub) call same txn =
    loses s (events.Step sub) (stages.Step sub purposes.Undoing) call (purposes.Undoing, refl) same refl refl txn tt

pub each_loss : (s : Stage) → Lost s (rules.after_loss s)
each_loss (stages.Rest h) = lost_aborts (stages.Rest h) h refl refl refl
each_loss (stages.LastTag h) = lost_aborts (stages.LastTag h) h refl refl refl
each_loss (stages.ClientTag h) = lost_aborts (stages.ClientTag h) h refl refl refl
each_loss (stages.Start h) = lost_aborts (stages.Start h) h refl refl refl
each_loss (stages.Commit h) = lost_aborts (stages.Commit h) h refl refl refl
each_loss stages.Begin = loses_none stages.Begin refl refl refl
each_loss (stages.Await commit) = loses_none (stages.Await commit) refl refl refl
each_loss stages.Ended = loses_none stages.Ended refl refl refl
each_loss (stages.Step sub purposes.Request) = loses (stages.Step sub purposes.Request) (events.Step sub)
    (stages.Step sub purposes.Clearing) refl (purposes.Clearing, refl) refl refl refl refl tt
each_loss (stages.Step sub purpose) =
    loses (stages.Step sub purpose) (events.Step sub) (stages.Step sub purpose) refl
    (purpose, refl) refl refl refl refl tt
each_loss (stages.Finish sub purposes.Request) = loses (stages.Finish sub purposes.Request) (events.Finish sub)
    (stages.Finish sub purposes.Clearing) refl (purposes.Clearing, refl) refl refl refl refl tt
each_loss (stages.Finish sub purpose) =
    loses (stages.Finish sub purpose) (events.Finish sub) (stages.Finish sub purpose) refl
    (purpose, refl) refl refl refl refl tt
each_loss (stages.StartAbort txn) = loses (stages.StartAbort txn) (events.StartAbort txn)
    (stages.StartAbort txn) refl refl
    refl refl refl refl tt
each_loss (stages.UndoNext txn) = loses (stages.UndoNext txn) (events.UndoNext txn)
    (stages.UndoNext txn) refl refl refl refl
    refl refl tt
each_loss (stages.EndAbort txn) = loses (stages.EndAbort txn) (events.EndAbort txn)
    (stages.EndAbort txn) refl refl refl refl
    refl refl tt

-- ---- a lost session is silent

pub lost_answers_nothing : (s : Stage) (what : Reply) → IsAborting s
    → IsAborting (rules.after_reply true s what).stage × (given (rules.after_reply true s what).action ≡ 0)
lost_answers_nothing (stages.Step sub purposes.Clearing) (replies.Refused NoMemory) is = (tt, refl)
lost_answers_nothing (stages.Step sub purposes.Clearing) (replies.Stepped progress.Ready) is = (tt, refl)
lost_answers_nothing (stages.Step sub purposes.Clearing) what is = (tt, refl)
lost_answers_nothing (stages.Step sub purposes.Undoing) (replies.Refused NoMemory) is = (tt, refl)
lost_answers_nothing (stages.Step sub purposes.Undoing) (replies.Stepped progress.Ready) is = (tt, refl)
lost_answers_nothing (stages.Step sub purposes.Undoing) what is = (tt, refl)
lost_answers_nothing (stages.Finish sub purposes.Clearing) (replies.Refused NoMemory) is = (tt, refl)
lost_answers_nothing (stages.Finish sub purposes.Clearing) (replies.Finished outcomes.Undone) is = (tt, refl)
lost_answers_nothing (stages.Finish sub purposes.Clearing) what is = (tt, refl)
lost_answers_nothing (stages.Finish sub purposes.Undoing) (replies.Refused NoMemory) is = (tt, refl)
lost_answers_nothing (stages.Finish sub purposes.Undoing) (replies.Finished outcomes.Undone) is = (tt, refl)
lost_answers_nothing (stages.Finish sub purposes.Undoing) what is = (tt, refl)
lost_answers_nothing (stages.StartAbort txn) (replies.Refused NoMemory) is = (tt, refl)
lost_answers_nothing (stages.StartAbort txn) what is = (tt, refl)
lost_answers_nothing (stages.UndoNext txn) (replies.Refused NoMemory) is = (tt, refl)
lost_answers_nothing (stages.UndoNext txn) what is = (tt, refl)
lost_answers_nothing (stages.EndAbort txn) (replies.Refused NoMemory) is = (tt, refl)
lost_answers_nothing (stages.EndAbort txn) what is = (tt, refl)
lost_answers_nothing stages.Ended what is = (tt, refl)
lost_answers_nothing _ what is = absurd is
