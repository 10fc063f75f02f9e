-- How acts lead on in an operation.
use Rattle.std.proofs.Common.{◌≡◌, Bool, true, false, List, [], ◌∷◌, ◌++◌, refl, sym, ap, ◌∙◌, subst, ⊎_elim}
use Rattle.std.proofs.lemmas.List.{append_assoc}
use Rattle.std.proofs.lemmas.Bool.{false≢true}
use Rattle.std.specs.declared.snapshot.Snapshot.{Snapshot}
use Rattle.rq_model.specs.declared.refusal.Refusal.TheVariants.{NoMemory, Latched}
use Rattle.rq_model.specs.declared.txn.Sub.{Sub}
use Rattle.rq_model.specs.History.{Call}
use Rattle.rq_engine.specs.Says.{call_of, has_body}
use Rattle.rq_shared.specs.declared.kept.Stamped.{Stamped}
use Rattle.rq_workers.specs.declared.acts.Act.{Act}
use Rattle.rq_workers.specs.declared.acts.Act.TheVariants.{Asked, Lacked, Made}
use Rattle.rq_workers.specs.declared.acts.Heard.{Heard}
use Rattle.rq_workers.specs.declared.acts.Heard.TheVariants as heard
use Rattle.rq_workers.specs.declared.acts.Part.{Part}
use Rattle.rq_workers.specs.declared.acts.Part.TheVariants as part
use Rattle.rq_workers.specs.declared.acts.AfterStep.TheVariants as turn
use Rattle.rq_workers.specs.Hearing.{heard_of, may_try_again, wants_memory, operation_of, turn_of, part_event}
use Rattle.rq_workers.specs.Acts.{Work, DidOne, IsCalled, may_call}
use Rattle.rq_workers.specs.Operations.{Stage, Lead, LeadsOn, Carries, IsTried, after_start, after_asking, after_part, once_started, once_answered, started_stage}
use Rattle.rq_workers.specs.Operations.Stage.{Starting, Refused_start, Due, Due_again, Between, Over}

-- what each answer makes of the stage
again_start : (h : Heard) → may_try_again h ≡ true → after_start h ≡ Refused_start h
again_start (heard.Refused NoMemory) e = refl
again_start (heard.Refused Latched) e = refl
again_start h e = absurd (false≢true e)

for_good : (h : Heard) → may_try_again h ≡ false → after_start h ≡ once_started h
for_good (heard.Refused NoMemory) e = absurd (false≢true (sym e))
for_good (heard.Refused Latched) e = absurd (false≢true (sym e))
for_good h e = refl

pub started_is : (h : Heard) → started_stage (operation_of h) ≡ once_started h
started_is (heard.Started sub) = refl
started_is h = refl

again_part : (p : Part) (sub : Sub) (h : Heard) → wants_memory h ≡ true → after_part p sub h ≡ Due_again p sub
again_part p sub (heard.Refused NoMemory) e = refl
again_part p sub h e = absurd (false≢true e)

part_for_good : (p : Part) (sub : Sub) (h : Heard) → wants_memory h ≡ false → after_part p sub h ≡ once_answered p sub h
part_for_good p sub (heard.Refused NoMemory) e = absurd (false≢true (sym e))
part_for_good p sub h e = refl

pub turns_again : (sub : Sub) (h : Heard) → turn_of h ≡ turn.Again → once_answered part.Step sub h ≡ Between sub
turns_again sub (heard.Done lsn) e = refl
turns_again sub h e = absurd (cc)

pub turns_ready : (sub : Sub) (h : Heard) → turn_of h ≡ turn.Ready → once_answered part.Step sub h ≡ Due part.Finish sub
turns_ready sub heard.Ready e = refl
turns_ready sub h e = absurd (cc)

pub turns_last : (sub : Sub) (h l : Heard) → turn_of h ≡ turn.Last l → once_answered part.Step sub h ≡ Over l
turns_last sub (heard.Done lsn) l e = absurd (cc)
turns_last sub heard.Ready l e = absurd (cc)
turns_last sub h l e = let same : h ≡ l = cc in ap Over same

-- a part of an operation may be called at any time
pub part_may : (acts : List Act) (p : Part) (sub : Sub) → may_call acts (call_of (part_event p sub)) ≡ true
part_may acts part.Step sub = refl
part_may acts part.Finish sub = refl

lead_on : (c : Call) (from mid to : Stage) (older newer : List Act) → Lead c from older mid → Lead c mid newer to → Lead c from (newer ++ older) to
lead_on c from mid to older [] l m = subst (λ s. Lead c from older s) (sym m) l
lead_on c from mid to older (a ∷ newer) l m = (m.0, lead_on c from mid m.0 older newer l m.1, m.2)

module _ {S : Type 0} (c : Call) where
  pub carries_on : (r s t : Stage) (v w x : Work S) → Carries c r v s w → Carries c s w t x → Carries c r v t x
  carries_on r s t v w x h k =
      (k.0 ++ h.0, k.1 ∙ ap (λ l. k.0 ++ l) h.1 ∙ sym (append_assoc k.0 h.0 v.done), k.2 ∙ h.2, lead_on c r s t h.0 k.0 h.3 k.3)

  pub one_act : (a : Act) (s t : Stage) (w x : Work S) → DidOne a w x → LeadsOn c s a t → Carries c s w t x
  one_act a s t w x d l = (a ∷ [], d.0, d.1, (s, refl, l))

  pub act_on : (a : Act) (r s t : Stage) (v w x : Work S) → Carries c r v s w → DidOne a w x → LeadsOn c s a t → Carries c r v t x
  act_on a r s t v w x h d l = carries_on r s t v w x h (one_act a s t w x d l)

  -- the same, at a stage by another name
  pub arrives : (r s t : Stage) (v w : Work S) → Carries c r v s w → s ≡ t → Carries c r v t w
  arrives r s t v w h e = subst (λ u. Carries c r v u w) e h

  -- the start was tried and answered for good
  pub start_answered : (h : Heard) (r : Stage) (v w x : Work S) → Carries c r v Starting w → IsTried c w h x → may_try_again h ≡ false → Carries c r v (once_started h) x
  start_answered h r v w x k d e =
      ⊎_elim
      (λ (m : (s : Snapshot Stamped) × DidOne (Made s) w x × (call_of s.value.event ≡ c) × (heard_of s.value.reply ≡ h)).
      act_on (Made m.0) r Starting (once_started h) v w x k m.1 (m.2, sym (ap after_start m.3 ∙ for_good h e)))
      (λ (n : DidOne Lacked w x × (h ≡ heard.Refused NoMemory) × (has_body c ≡ true)).
      absurd (false≢true (sym e ∙ ap may_try_again n.1)))
      d

  -- it was refused, and the gate asked whether to try again
  pub start_refused : (h : Heard) (b : Bool) (r : Stage) (v w x y : Work S) → Carries c r v Starting w → IsTried c w h x → may_try_again h ≡ true → DidOne (Asked 4 b) x y → Carries c r v (after_asking h b) y
  start_refused h b r v w x y k d e a =
      ⊎_elim
      (λ (m : (s : Snapshot Stamped) × DidOne (Made s) w x × (call_of s.value.event ≡ c) × (heard_of s.value.reply ≡ h)).
      act_on (Asked 4 b) r (Refused_start h) (after_asking h b) v x y
      (act_on (Made m.0) r Starting (Refused_start h) v w x k m.1 (m.2, sym (ap after_start m.3 ∙ again_start h e)))
      a (refl, refl))
      (λ (n : DidOne Lacked w x × (h ≡ heard.Refused NoMemory) × (has_body c ≡ true)).
      act_on (Asked 4 b) r (Refused_start h) (after_asking h b) v x y
      (act_on Lacked r Starting (Refused_start h) v w x k n.0 (n.2, ap Refused_start n.1))
      a (refl, refl))
      d

  -- a part was called and answered for good
  pub part_answered : (p : Part) (sub : Sub) (h : Heard) (r : Stage) (v w x : Work S) → Carries c r v (Due p sub) w → IsCalled w (part_event p sub) h x → wants_memory h ≡ false → Carries c r v (once_answered p sub h) x
  part_answered p sub h r v w x k m e =
      act_on (Made m.0) r (Due p sub) (once_answered p sub h) v w x k m.1 (m.2, sym (ap (after_part p sub) m.3 ∙ part_for_good p sub h e))

  -- it was refused for memory, and the gate asked
  pub part_refused : (p : Part) (sub : Sub) (h : Heard) (b : Bool) (r : Stage) (v w x y : Work S) → Carries c r v (Due p sub) w → IsCalled w (part_event p sub) h x → wants_memory h ≡ true → DidOne (Asked 4 b) x y → Carries c r v (Due p sub) y
  part_refused p sub h b r v w x y k m e a =
      act_on (Asked 4 b) r (Due_again p sub) (Due p sub) v x y
      (act_on (Made m.0) r (Due p sub) (Due_again p sub) v w x k m.1 (m.2, sym (ap (after_part p sub) m.3 ∙ again_part p sub h e)))
      a (refl, refl)

  -- between two steps the gate was asked
  pub between_asked : (sub : Sub) (b : Bool) (r : Stage) (v w x : Work S) → Carries c r v (Between sub) w → DidOne (Asked 3 b) w x → Carries c r v (Due part.Step sub) x
  between_asked sub b r v w x k a = act_on (Asked 3 b) r (Between sub) (Due part.Step sub) v w x k a (refl, refl)
