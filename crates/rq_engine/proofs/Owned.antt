-- With the earlier records that stand in it, a store is itself: what is said for all of them is so of the store.
use Rattle.std.proofs.Common.{◌≡◌, List, Ok, Err, refl, sym, ap, subst}
use Rattle.rq_disk.specs.declared.device.LogDevice as log_device
use Rattle.rq_disk.specs.declared.device.PageDevice as page_device
use Rattle.rq_model.specs.declared.record.Record.{Record}
use Rattle.rq_model.specs.declared.refusal.Refusal.{Refusal}
use Rattle.rq_model.specs.History.{Call}
use Rattle.rq_model.specs.Replay.{Reply as Gave}
use Rattle.rq_model.specs.Replay.Reply.{Gave_refusal}
use Rattle.rq_store.specs.State.{State}
use Rattle.rq_sound.specs.Sound.{IsSound}
use Rattle.rq_sound.specs.ModelSteps.{IsModelStep}
use Rattle.rq_engine.specs.declared.event.Event.{Event}
use Rattle.rq_engine.specs.declared.event.Reply.{Reply}
use Rattle.rq_engine.specs.Answers.{AnswersLegally, IsCausedIn}
use Rattle.rq_engine.specs.Applied.{Applied}
use Rattle.rq_engine.specs.Earlier.{IsEarlier, on, over, unknown}
use Rattle.rq_engine.specs.Opened.{OpenStore, AreHonest}
use Rattle.rq_engine.specs.Says.{call_of, gave}
use Rattle.rq_engine.proofs.Earlier.{own}

own_state : (s : State) → on (unknown s.records) s ≡ s
own_state s = ap (λ (l : List Record). record s { records = l }) (own s.records)

own_store : {P L : Type 0} (s : OpenStore P L) → over (unknown s.state.records) s ≡ s
own_store s = ap (λ (x : State). record s { state = x }) (own_state s.state)

own_sound : (s : State) → IsSound s → IsSound (on (unknown s.records) s)
own_sound s k = subst IsSound (sym (own_state s)) k

-- what is so of the store with any earlier records
pub of_own : (P : State → Type 0) (s : State) → ((e : List Record) → IsEarlier e s → IsSound (on e s) → P (on e s)) → IsSound s → P s
of_own P s f k = subst P (own_state s) (f (unknown s.records) refl (own_sound s k))

-- what a call answered is the entry that it says, of some store after it
pub ok_own : {P L X : Type 0} (p : page_device.Ghosts P) (l : log_device.Ghosts L) (old new : OpenStore P L) (c : Call) (gives : X → Gave) (x : X)
    → AnswersLegally p l old c gives (Ok x) new → AreHonest p l new → IsSound old.state → (s : State) × IsModelStep old.state c (gives x) s
ok_own p l old new c gives x a h k =
    let e = unknown old.state.records in
    (on e new.state, subst (λ (s : State). IsModelStep s c (gives x) (on e new.state)) (own_state old.state) (a h e refl (own_sound old.state k)))

pub err_own : {P L X : Type 0} (p : page_device.Ghosts P) (l : log_device.Ghosts L) (old new : OpenStore P L) (c : Call) (gives : X → Gave) (r : Refusal)
    → AnswersLegally p l old c gives (Err r) new → AreHonest p l new → IsSound old.state → (s : State) × (IsModelStep old.state c (Gave_refusal r) s × IsCausedIn old.state c r)
err_own p l old new c gives r a h k =
    let e = unknown old.state.records in
    (on e new.state, subst (λ (s : State). IsModelStep s c (Gave_refusal r) (on e new.state) × IsCausedIn s c r) (own_state old.state) (a h e refl (own_sound old.state k)))

module _ {P L : Type 0} (p : page_device.Ghosts P) (l : log_device.Ghosts L) where
  module _ (old new : OpenStore P L) (e : Event) (r : Reply) (a : Applied p l old e r new) where
    new_is : over (unknown old.state.records) new ≡ new
    new_is = subst (λ (x : List Record). over x new ≡ new) a.unknown (own_store new)

    pub steps_own : AreHonest p l new → IsSound old.state → IsModelStep old.state (call_of e) (gave r) new.state
    steps_own h k =
        subst (λ (x : State). IsModelStep x (call_of e) (gave r) new.state) (own_state old.state)
        (subst (λ (x : OpenStore P L). IsModelStep (on (unknown old.state.records) old.state) (call_of e) (gave r) x.state) new_is (a.steps h (unknown old.state.records) refl (own_sound old.state k)))
