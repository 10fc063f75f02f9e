-- A gate that was asked once.
use Rattle.std.proofs.Common.{◌≡◌, ◌||◌, ℕ, Bool, true, false, not, List, [], ◌∷◌, refl, sym, ◌∙◌, subst}
use Rattle.rq_serving.specs.Asking.{Asks, IsAskedAt}
use Rattle.rq_serving.specs.declared.asking.Asking.{Asking}

one_no : (passed b : Bool) → (not passed || b) ≡ ((not passed || false) || b)
one_no true b = refl
one_no false b = refl

pub asked_once : {G : Type 0} (answers_by : G → List (ℕ × Bool)) (old new : Asking G) (due : Bool) (point : ℕ) (passed : Bool)
    → due ≡ true → answers_by new.gate ≡ (point, passed) ∷ answers_by old.gate → new.stopped ≡ (not passed || old.stopped)
    → Asks answers_by old new due point
asked_once answers_by old new due point passed is answers stopped = record {
  said = (point, passed) ∷ [];
  at = subst (λ d. IsAskedAt d point ((point, passed) ∷ [])) (sym is) (passed, refl);
  says = record { answers = answers; stopped = stopped ∙ one_no passed old.stopped };
}
