-- The call that is held, as a reply or the loss of the connection leaves it.
use Rattle.std.proofs.Common.{◌≡◌, ℕ, Bool, false, refl, sym, ap, List, ◌∙◌, subst}
use Rattle.std.proofs.lemmas.Bool.{false≢true}
use Rattle.std.proofs.lemmas.Option.{none-some}
use Rattle.std.specs.Prelude.{Option, Some, None, IfNone}
use Rattle.std.specs.Option.{is_some}
use Rattle.rq_engine.specs.declared.event.Event.{Event}
use Rattle.rq_engine.specs.declared.event.Reply.{Reply}
use Rattle.rq_session.specs.declared.actions.Action.{Action}
use Rattle.rq_session.specs.declared.actions.Action.TheVariants.{Again}
use Rattle.rq_session.specs.declared.session.Session.{Session}
use Rattle.rq_session.specs.declared.stage.Stage.{Stage}
use Rattle.rq_session.specs.declared.stage.Stage.TheVariants as stages
use Rattle.rq_session.specs.Rules.{after_reply, taken}
use Rattle.rq_session.specs.Laws.{AgainFitsIn, asked_last}
use Rattle.rq_session.proofs.EachTurn.{each_reply}
use Rattle.rq_wire.specs.declared.request.Request.{Request}
use Rattle.rq_shared.specs.declared.kept.Stamped.{Stamped}
use Rattle.rq_serving.specs.Carried.{CarriesOrHolds, IsCarried}
use Rattle.rq_serving.specs.Held.{IsHeldAt}
use Rattle.rq_serving.specs.declared.asking.Asking.{Asking}
use Rattle.rq_serving.specs.declared.serving.Served.{Served}
use Rattle.rq_serving.specs.declared.serving.ServedSession.{ServedSession}

-- what is to be made again was asked for last
pub told_again : (lost : Bool) (s : Stage) (what : Reply) (next : Action) (event : Event) (to : Stage)
    → next ≡ (after_reply lost s what).action → to ≡ (after_reply lost s what).stage → next ≡ Again event
    → asked_last to ≡ Some event
told_again lost s what next event to does at is =
    let n = after_reply lost s what in
    let fits = subst (λ (a : Action). AgainFitsIn s what a n.stage) (sym does ∙ is) (each_reply lost s what).again in
    ap asked_last (at ∙ fits.2) ∙ fits.1

-- a request leaves the call that is held as it is
pub stays_held : (s : Stage) (request : Request) (held : Option Event) → IsHeldAt s held → IsHeldAt (taken s request).stage held
stays_held s request None is = tt
stays_held (stages.Rest h) request (Some event) is = absurd (none-some event is)
stays_held s request (Some event) is = is

pub none_held : (held : Option Event) → is_some held ≡ false → held ≡ None
none_held None is = refl
none_held (Some event) is = absurd (false≢true (sym is))

-- no call was held
pub carries_lost : {G S : Type 0} (answers_by : G → List (ℕ × Bool)) (made_by handed_to : S → List Stamped)
    (gate asked_gate : Asking G) (old new : S) (before : Session) (was_held : Option Event) (did first : Action) (after : Session)
    (held : Option Event) (c : Served) → was_held ≡ None → did ≡ first
    → IsCarried answers_by made_by handed_to gate asked_gate old new before did after held c
    → CarriesOrHolds answers_by made_by handed_to gate asked_gate old new before was_held first after held c
carries_lost answers_by made_by handed_to gate asked_gate old new before was_held did first after held c none is carried =
    subst (λ (o : Option Event). CarriesOrHolds answers_by made_by handed_to gate asked_gate old new before o first after held c)
    (sym none) (subst (λ (a : Action). IsCarried answers_by made_by handed_to gate asked_gate old new before a after held c) is carried)

-- two sessions of which nothing is held are the same where the rest is
pub same_empty : {G : Type 0} {g : _} (gate : Asking G) (session : Session) (a b : Option Event)
    (i : IsHeldAt session.stage a) (j : IsHeldAt session.stage b) → a ≡ None → b ≡ None
    → ◌≡◌ {A = ServedSession G g} (record { gate = gate; session = session; held = a; held_at = i }) (record { gate = gate; session = session; held = b; held_at = j })
same_empty gate session None None i j x y = refl
same_empty gate session None (Some event) i j x y = absurd (none-some event (sym y))
same_empty gate session (Some event) b i j x y = absurd (none-some event (sym x))

pub where_none : {A : Type 0} (o : Option A) (P : Type 0) → o ≡ None → P → IfNone o P
where_none o P none p = subst (λ (x : Option _). IfNone x P) (sym none) p
