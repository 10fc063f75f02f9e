-- The laws of sessions leave one session.
use Rattle.std.proofs.Common.{◌≡◌, Bool, true, false, refl, sym, ap, ◌∙◌, subst, inl, inr}
use Rattle.std.proofs.lemmas.Bool.{false≢true, true≢false}
use Rattle.std.specs.Prelude.{Option, Some, None}
use Rattle.rq_model.specs.History.{Call}
use Rattle.rq_model.specs.History.Call.{Begin, Start_send, Start_receive, Start_receive_from, Start_close, Start_mark, Step, Finish, Commit, Start_abort, Undo_next, End_abort, Last_tag, Client_tag}
use Rattle.rq_engine.specs.Says.{call_of}
use Rattle.rq_wire.specs.declared.request.Request.{Request}
use Rattle.rq_wire.specs.declared.request.Request.TheVariants as requests
use Rattle.rq_model.specs.declared.txn.Txn.{Txn}
use Rattle.rq_model.specs.declared.txn.Sub.{Sub}
use Rattle.rq_model.specs.declared.refusal.Refusal.{Refusal}
use Rattle.rq_engine.specs.declared.event.Event.{Event}
use Rattle.rq_engine.specs.declared.event.Reply.{Reply}
use Rattle.rq_session.specs.declared.actions.Action.{Action}
use Rattle.rq_session.specs.declared.actions.Action.TheVariants.{Do, Again, Await, Answer as Answers, End}
use Rattle.rq_session.specs.declared.stage.OwnTxn.{OwnTxn}
use Rattle.rq_session.specs.declared.stage.OwnTxn.TheVariants.{Free, Open, Left, Aborting, Undoing}
use Rattle.rq_session.specs.declared.stage.Purpose.{Purpose}
use Rattle.rq_session.specs.declared.stage.Purpose.TheVariants as purposes
use Rattle.rq_session.specs.declared.stage.Stage.{Stage}
use Rattle.rq_session.specs.declared.stage.Stage.TheVariants as stages
use Rattle.rq_session.specs.declared.stage.Next.{Next}
use Rattle.rq_session.specs.Stages.{txn_held, held_in, is_undoing, IsFirstStage, IsStart, IsStageAt, IsStageOf}
use Rattle.rq_session.specs.Rules.{First, after_loss, after_request, after_reply, call_in}
use Rattle.rq_session.specs.Laws.{AgainFitsIn, Asks, IsAbort, IsAborting, IsBegin, IsFirst, IsFor, Lost, Refuses, abort_call, asked_last, given, loss_call, owed}
use Rattle.rq_session.specs.Tells.{EachKeeps, Follows, IsSame, KeepsLaws, OneFirst, OneLoss, OneReply}
use Rattle.rq_session.proofs.EachTurn.{each_loss, each_reply, each_request, lost_answers_nothing, none_under_way}
use Rattle.rq_session.proofs.Due.{each_answer, each_ask, each_end, each_stage, each_wait}

-- ---- one stage

abbrev is_left : OwnTxn → Bool
is_left (Left sub) = true
is_left _ = false

one_purpose : (sub : Sub) (p q : Purpose) → held_in (stages.Step sub p) ≡ held_in (stages.Step sub q)
    → is_undoing (stages.Step sub p) ≡ is_undoing (stages.Step sub q) → p ≡ q
one_purpose sub purposes.Request purposes.Request h u = refl
one_purpose sub purposes.Clearing purposes.Clearing h u = refl
one_purpose sub purposes.Undoing purposes.Undoing h u = refl
one_purpose sub purposes.Request _ h u = absurd (false≢true u)
one_purpose sub _ purposes.Request h u = absurd (true≢false u)
one_purpose sub purposes.Clearing purposes.Undoing h u = let e = ap is_left h in absurd (true≢false e)
one_purpose sub purposes.Undoing purposes.Clearing h u = let e = ap is_left h in absurd (false≢true e)

one_finish : (sub : Sub) (p q : Purpose) → held_in (stages.Finish sub p) ≡ held_in (stages.Finish sub q)
    → is_undoing (stages.Finish sub p) ≡ is_undoing (stages.Finish sub q) → p ≡ q
one_finish sub purposes.Request purposes.Request h u = refl
one_finish sub purposes.Clearing purposes.Clearing h u = refl
one_finish sub purposes.Undoing purposes.Undoing h u = refl
one_finish sub purposes.Request _ h u = absurd (false≢true u)
one_finish sub _ purposes.Request h u = absurd (true≢false u)
one_finish sub purposes.Clearing purposes.Undoing h u = let e = ap is_left h in absurd (true≢false e)
one_finish sub purposes.Undoing purposes.Clearing h u = let e = ap is_left h in absurd (false≢true e)

-- what two stages of one call have in common
record Alike (x y : Stage) : Type 0 where
  held : held_in x ≡ held_in y
  undoing : owed x ≡ 1 → owed y ≡ 1 → is_undoing x ≡ is_undoing y

of_held : (f : OwnTxn → Stage) (x y : Stage) (h k : OwnTxn) → ((l : OwnTxn) → held_in (f l) ≡ l) → x ≡ f h → y ≡ f k
    → Alike x y → x ≡ y
of_held f x y h k back e g a = e ∙ ap f (sym (back h) ∙ ap held_in (sym e) ∙ a.held ∙ ap held_in g ∙ back k) ∙ sym g

one_step : (x y : Stage) (sub : Sub) (p q : Purpose) → x ≡ stages.Step sub p → y ≡ stages.Step sub q → Alike x y → x ≡ y
one_step x y sub p q e g a =
    let held = ap held_in (sym e) ∙ a.held ∙ ap held_in g in
    let undoing = ap is_undoing (sym e) ∙ a.undoing (ap owed e) (ap owed g) ∙ ap is_undoing g in
    e ∙ ap (λ (r : Purpose). stages.Step sub r) (one_purpose sub p q held undoing) ∙ sym g

one_end : (x y : Stage) (sub : Sub) (p q : Purpose) → x ≡ stages.Finish sub p → y ≡ stages.Finish sub q → Alike x y
    → x ≡ y
one_end x y sub p q e g a =
    let held = ap held_in (sym e) ∙ a.held ∙ ap held_in g in
    let undoing = ap is_undoing (sym e) ∙ a.undoing (ap owed e) (ap owed g) ∙ ap is_undoing g in
    e ∙ ap (λ (r : Purpose). stages.Finish sub r) (one_finish sub p q held undoing) ∙ sym g

starts_held : (h : OwnTxn) → held_in (stages.Start h) ≡ h
starts_held h = refl

one_call : (call : Call) (x y : Stage) → IsStageOf call x → IsStageOf call y → Alike x y → x ≡ y
one_call Begin x y e g a = e ∙ sym g
one_call (Start_send txn message) x y e g a = of_held stages.Start x y e.0 g.0 starts_held e.1 g.1 a
one_call (Start_receive txn) x y e g a = of_held stages.Start x y e.0 g.0 starts_held e.1 g.1 a
one_call (Start_receive_from txn sender) x y e g a = of_held stages.Start x y e.0 g.0 starts_held e.1 g.1 a
one_call (Start_close txn sender) x y e g a = of_held stages.Start x y e.0 g.0 starts_held e.1 g.1 a
one_call (Start_mark txn client tag) x y e g a = of_held stages.Start x y e.0 g.0 starts_held e.1 g.1 a
one_call (Step txn number) x y e g a = one_step x y (record { txn = txn; number = number }) e.0 g.0 e.1 g.1 a
one_call (Finish txn number) x y e g a = one_end x y (record { txn = txn; number = number }) e.0 g.0 e.1 g.1 a
one_call (Commit txn) x y e g a = of_held stages.Commit x y e.0 g.0 (λ h. refl) e.1 g.1 a
one_call (Start_abort txn) x y e g a = e ∙ sym g
one_call (Undo_next txn) x y e g a = e ∙ sym g
one_call (End_abort txn) x y e g a = e ∙ sym g
one_call (Last_tag sender) x y e g a = of_held stages.LastTag x y e.0 g.0 (λ h. refl) e.1 g.1 a
one_call (Client_tag client) x y e g a = of_held stages.ClientTag x y e.0 g.0 (λ h. refl) e.1 g.1 a
one_call _ x y e g a = absurd e

one_stage : (action : Action) (x y : Stage) → IsStageAt action x → IsStageAt action y → Alike x y → x ≡ y
one_stage (Do event) x y e g a = one_call (call_of event) x y e g a
one_stage (Again event) x y e g a = one_call (call_of event) x y e g a
one_stage (Await commit) x y e g a = e ∙ sym g
one_stage (Answers answer) x y e g a = of_held stages.Rest x y e.0 g.0 (λ h. refl) e.1 g.1 a
one_stage End x y e g a = e ∙ sym g

one_first_stage : (call : Option Call) (x y : Stage) → IsFirstStage call x → IsFirstStage call y → Alike x y → x ≡ y
one_first_stage None x y e g a = of_held stages.Rest x y e.0 g.0 (λ h. refl) e.1 g.1 a
one_first_stage (Some call) x y e g a = one_call call x y e g a

same_next : (n m : Next) → n.action ≡ m.action → IsStageAt n.action n.stage → IsStageAt m.action m.stage
    → Alike n.stage m.stage → IsSame n m
same_next n m e x y a =
    (e, one_stage m.action n.stage m.stage (subst (λ (b : Action). IsStageAt b n.stage) e x) y a)

-- ---- requests

-- they ask for the same call, or have the same answer
abbrev Agree : First → First → Type 0
Agree n m = (n.call ≡ m.call) × (n.answer ≡ m.answer)

one_asked : (call : Call) (n m : First) → Asks call n → Asks call m → Agree n m
one_asked call n m e g = (e.0 ∙ sym g.0, e.1 ∙ sym g.1)

one_refused : (refusal : Refusal) (n m : First) → Refuses refusal n → Refuses refusal m → Agree n m
one_refused refusal n m e g = (e.0 ∙ sym g.0, e.1 ∙ sym g.1)

one_for : (o : Option Txn) (call : Txn → Call) (n m : First) → IsFor o call n → IsFor o call m → Agree n m
one_for None call n m e g = one_refused _ n m e g
one_for (Some txn) call n m e g = one_asked (call txn) n m e g

one_begin : (o : Option Txn) (n m : First) → IsBegin o n → IsBegin o m → Agree n m
one_begin None n m e g = one_asked _ n m e g
one_begin (Some txn) n m e g = one_refused _ n m e g

one_abort : (o : Option Event) (n m : First) → IsAbort o n → IsAbort o m → Agree n m
one_abort None n m e g = one_refused _ n m e g
one_abort (Some event) n m e g = one_asked (call_of event) n m e g

agree : (h : OwnTxn) (request : Request) (n m : First) → IsFirst h request n → IsFirst h request m → Agree n m
agree h requests.Begin n m e g = one_begin (txn_held h) n m e g
agree h (requests.Send sender tag body) n m e g = one_for (txn_held h) _ n m e g
agree h requests.Receive n m e g = one_for (txn_held h) _ n m e g
agree h (requests.ReceiveFrom sender) n m e g = one_for (txn_held h) _ n m e g
agree h (requests.Close sender) n m e g = one_for (txn_held h) _ n m e g
agree h requests.Commit n m e g = one_for (txn_held h) _ n m e g
agree h requests.Abort n m e g = one_abort (abort_call h) n m e g
agree h (requests.LastTag sender) n m e g = one_asked _ n m e g
agree h (requests.Mark client tag) n m e g = one_for (txn_held h) _ n m e g
agree h (requests.ClientTag client) n m e g = one_asked _ n m e g

pub one_first : OneFirst
one_first h request n t =
    let m = each_request h request in
    let same = agree h request n (after_request h request) t.first m.first in (
      same.0,
      same.1,
      one_first_stage (after_request h request).call n.stage (after_request h request).stage
          (subst (λ (c : Option Call). IsFirstStage c n.stage) same.0 t.stage) m.stage
          (record { held = t.same ∙ sym m.same; undoing = λ x y. t.abort x ∙ sym (m.abort y) }),
    )

-- ---- replies

abbrev is_do : Action → Bool
is_do (Do ask) = true
is_do _ = false

abbrev is_await : Action → Bool
is_await (Await commit) = true
is_await _ = false

abbrev is_end : Action → Bool
is_end End = true
is_end _ = false

abbrev ask_or : Event → Option Event → Event
ask_or d None = d
ask_or d (Some ask) = ask

-- where the session makes a call again, so does a turn that keeps the laws
again_too : (lost : Bool) (s : Stage) (what : Reply) (n : Next) (ask : Event) (a : Action) → (lost ≡ true → IsAborting s)
    → KeepsLaws lost s what n → (after_reply lost s what).action ≡ Again ask → n.action ≡ a → n.action ≡ Again ask
again_too true s what n ask (Answers answer) may k e g = none_under_way (sym (k.silent refl) ∙ ap given g)
again_too false s what n ask (Answers answer) may k e g =
    let m = (each_answer s what answer).1 ((k.answer refl answer).0 g) in
    let z = ap given (sym e ∙ m) in none_under_way z
again_too lost s what n ask (Do other) may k e g =
    let m = (each_ask lost s what other).1 ((k.ask other).0 g) in
    let z = ap is_do (sym e ∙ m) in absurd (false≢true z)
again_too lost s what n ask (Await commit) may k e g =
    let m = (each_wait lost s what commit).1 ((k.wait commit).0 g) in
    let z = ap is_await (sym e ∙ m) in absurd (false≢true z)
again_too lost s what n ask End may k e g =
    let m = (each_end lost s what).1 (k.over.0 g) in
    let z = ap is_end (sym e ∙ m) in absurd (false≢true z)
again_too lost s what n ask (Again other) may k e g =
    let mine = subst (λ (b : Action). AgainFitsIn s what b n.stage) g k.again in
    let its = subst (λ (b : Action). AgainFitsIn s what b (after_reply lost s what).stage) e
    (each_reply lost s what).again in
    g ∙ ap Again (ap (ask_or other) (sym mine.1 ∙ its.1))

does_too : (lost : Bool) (s : Stage) (what : Reply) (n : Next) (a : Action) → (lost ≡ true → IsAborting s)
    → KeepsLaws lost s what n → (after_reply lost s what).action ≡ a → n.action ≡ a
does_too true s what n (Answers answer) may k e =
    let none = (lost_answers_nothing s what (may refl)).1 in none_under_way (sym none ∙ ap given e)
does_too false s what n (Answers answer) may k e = (k.answer refl answer).1 ((each_answer s what answer).0 e)
does_too lost s what n (Do ask) may k e = (k.ask ask).1 ((each_ask lost s what ask).0 e)
does_too lost s what n (Await commit) may k e = (k.wait commit).1 ((each_wait lost s what commit).0 e)
does_too lost s what n End may k e = k.over.1 ((each_end lost s what).0 e)
does_too lost s what n (Again ask) may k e = again_too lost s what n ask n.action may k e refl

-- two turns that follow what was told, of one action
follow_alike : (s : Stage) (what : Reply) (n m : Next) (a : Action) → n.action ≡ a → m.action ≡ a
    → Follows s what n → Follows s what m → IsSame n m
follow_alike s what n m End e g f k = (
  e ∙ sym g,
  subst (λ (b : Action). IsStageAt b n.stage) e f.stage
      ∙ sym (subst (λ (b : Action). IsStageAt b m.stage) g k.stage),
)
follow_alike s what n m a e g f k = elim f.txn [
  | inl over ↦ let z = ap is_end (sym e ∙ ap (λ (x : Next). x.action) over) in absurd (false≢true z)
  | inr mine ↦ elim k.txn [
    | inl over ↦ let z = ap is_end (sym g ∙ ap (λ (x : Next). x.action) over) in absurd (false≢true z)
    | inr its ↦ same_next n m (e ∙ sym g) f.stage k.stage
        (record { held = mine ∙ sym its; undoing = λ x y. f.abort x ∙ sym (k.abort y) })
  ]
]

pub one_reply : OneReply
one_reply lost s what n may k =
    let m = after_reply lost s what in
    follow_alike s what n m m.action (does_too lost s what n m.action may k refl) refl k.follows
    (each_stage lost s what)

-- ---- losses

abbrev is_free : OwnTxn → Bool
is_free Free = true
is_free _ = false

-- an abort under way has a transaction
has_txn : (t : Stage) → IsAborting t → held_in t ≡ Free → t ≡ stages.Ended
has_txn stages.Ended is e = refl
has_txn (stages.Step sub purposes.Clearing) is e = let z = ap is_free e in absurd (false≢true z)
has_txn (stages.Step sub purposes.Undoing) is e = let z = ap is_free e in absurd (false≢true z)
has_txn (stages.Finish sub purposes.Clearing) is e = let z = ap is_free e in absurd (false≢true z)
has_txn (stages.Finish sub purposes.Undoing) is e = let z = ap is_free e in absurd (false≢true z)
has_txn (stages.StartAbort txn) is e = let z = ap is_free e in absurd (false≢true z)
has_txn (stages.UndoNext txn) is e = let z = ap is_free e in absurd (false≢true z)
has_txn (stages.EndAbort txn) is e = let z = ap is_free e in absurd (false≢true z)
has_txn _ is e = absurd is

abbrev is_ended : Stage → Bool
is_ended stages.Ended = true
is_ended _ = false

no_start : (txn : Txn) → IsStart txn stages.Ended → ⊥
no_start txn e = let z = ap is_ended e.1 in true≢false z

no_call : (call : Call) → IsStageOf call stages.Ended → ⊥
no_call Begin e = let z = ap is_ended e in true≢false z
no_call (Start_send txn message) e = no_start txn e
no_call (Start_receive txn) e = no_start txn e
no_call (Start_receive_from txn sender) e = no_start txn e
no_call (Start_close txn sender) e = no_start txn e
no_call (Start_mark txn client tag) e = no_start txn e
no_call (Step txn number) e = let z = ap is_ended e.1 in true≢false z
no_call (Finish txn number) e = let z = ap is_ended e.1 in true≢false z
no_call (Commit txn) e = let z = ap is_ended e.1 in true≢false z
no_call (Start_abort txn) e = let z = ap is_ended e in true≢false z
no_call (Undo_next txn) e = let z = ap is_ended e in true≢false z
no_call (End_abort txn) e = let z = ap is_ended e in true≢false z
no_call (Last_tag sender) e = let z = ap is_ended e.1 in true≢false z
no_call (Client_tag client) e = let z = ap is_ended e.1 in true≢false z
no_call _ e = e

abbrev is_call : Option Event → Bool
is_call None = false
is_call (Some ask) = true

free_of : (o : Option Event) (h : OwnTxn) → loss_call o h ≡ None → h ≡ Free
free_of (Some ask) h e = let z = ap is_call e in absurd (true≢false z)
free_of None Free e = refl
free_of None (Open txn) e = let z = ap is_call e in absurd (true≢false z)
free_of None (Left sub) e = let z = ap is_call e in absurd (true≢false z)
free_of None (Aborting txn) e = let z = ap is_call e in absurd (true≢false z)
free_of None (Undoing sub) e = let z = ap is_call e in absurd (true≢false z)

abbrev action_of : Option Event → Action
action_of None = End
action_of (Some ask) = Do ask

loss_action : (s : Stage) (n : Next) → Lost s n → (a : Action) → n.action ≡ a → (c : Option Event)
    → loss_call (asked_last s) (held_in s) ≡ c → a ≡ action_of c
loss_action s n l (Do x) e None g =
    let z = ap is_call (sym (ap call_in e) ∙ l.call ∙ g) in absurd (true≢false z)
loss_action s n l (Do x) e (Some ask) g = ap (λ (o : Option Event). Do (ask_or x o)) (sym (ap call_in e) ∙ l.call ∙ g)
loss_action s n l (Answers answer) e c g = none_under_way (sym l.silent ∙ ap given e)
loss_action s n l (Await commit) e c g =
    let stage = subst (λ (b : Action). IsStageAt b n.stage) e l.stage in
    let none = subst IsAborting stage l.aborts in absurd none
loss_action s n l (Again x) e (Some ask) g =
    let z = ap is_call (sym (ap call_in e) ∙ l.call ∙ g) in absurd (false≢true z)
loss_action s n l (Again x) e None g =
    let over = has_txn n.stage l.aborts (l.same ∙ free_of (asked_last s) (held_in s) g) in
    let stage = subst (λ (b : Action). IsStageAt b n.stage) e l.stage in
    absurd (no_call (call_of x) (subst (IsStageOf (call_of x)) over stage))
loss_action s n l End e None g = refl
loss_action s n l End e (Some ask) g =
    let z = ap is_call (sym (ap call_in e) ∙ l.call ∙ g) in absurd (false≢true z)

undoes : (t : Stage) → IsAborting t → owed t ≡ 1 → is_undoing t ≡ true
undoes stages.Ended is o = none_under_way o
undoes (stages.Step sub purposes.Clearing) is o = refl
undoes (stages.Step sub purposes.Undoing) is o = refl
undoes (stages.Finish sub purposes.Clearing) is o = refl
undoes (stages.Finish sub purposes.Undoing) is o = refl
undoes (stages.StartAbort txn) is o = refl
undoes (stages.UndoNext txn) is o = refl
undoes (stages.EndAbort txn) is o = refl
undoes _ is o = absurd is

pub one_loss : OneLoss
one_loss s n l =
    let m = each_loss s in
    let mine = loss_action s n l n.action refl (loss_call (asked_last s) (held_in s)) refl in
    let its = loss_action s (after_loss s) m (after_loss s).action refl (loss_call (asked_last s) (held_in s)) refl in
    same_next n (after_loss s) (mine ∙ sym its) l.stage m.stage
    (record {
      held = l.same ∙ sym m.same;
      undoing = λ x y. undoes n.stage l.aborts x ∙ sym (undoes (after_loss s).stage m.aborts y);
    })

-- the session keeps the laws
pub each_keeps : EachKeeps
each_keeps false s what may = record {
  answer = λ e. each_answer s what;
  silent = λ e. absurd (false≢true e);
  ask = each_ask false s what;
  wait = each_wait false s what;
  over = each_end false s what;
  again = (each_reply false s what).again;
  follows = each_stage false s what;
}
each_keeps true s what may = record {
  answer = λ e. absurd (true≢false e);
  silent = λ e. (lost_answers_nothing s what (may refl)).1;
  ask = each_ask true s what;
  wait = each_wait true s what;
  over = each_end true s what;
  again = (each_reply true s what).again;
  follows = each_stage true s what;
}
