-- What stands at a place of a log is one.
use Rattle.std.proofs.Common.{◌≡◌, ℕ, ◌^◌, ◌<◌, List, [], ◌∷◌, ◌++◌, length, refl, sym, ◌∙◌, ap, subst, Option, Result, Ok, Err}
use Rattle.std.specs.Prelude.{IfOk}
use Rattle.rq_model.specs.declared.record.Record.{Record}
use Rattle.rq_model.specs.declared.refusal.Refusal.{Refusal}
use Rattle.rq_model.specs.Bases.{standing}
use Rattle.rq_log.specs.Places.{IsPlace, IsPlaceAmong, StandsAmong, StandsAt}
use Rattle.rq_log.specs.Spelled.{spelled, spelled_all}

-- some records end with one of them
ends_with : (a : Record) (newer older : List Record) → (rest : List Record) × (r : Record) × ((a ∷ newer) ++ older ≡ rest ++ (r ∷ older))
ends_with a [] older = ([], a, refl)
ends_with a (b ∷ newer) older = let p = ends_with b newer older in (a ∷ p.0, p.1, ap (λ l. a ∷ l) p.2)

one_stands : (rs : List Record) (place : ℕ) (a b : Option (Record × ℕ)) → IsPlaceAmong rs place → StandsAmong rs place a → StandsAmong rs place b → a ≡ b
one_stands rs place a b ([], older, e, at) s t = let end = at ∙ ap (λ l. length (spelled_all l)) (sym e) in s.none.1 end ∙ sym (t.none.1 end)
one_stands rs place a b (x ∷ newer, older, e, at) s t = let p = ends_with x newer older in s.next p.0 older p.1 (e ∙ p.2) at ∙ sym (t.next p.0 older p.1 (e ∙ p.2) at)

pub tells_same : (P Q : Type 0) (r s : Result (Option (Record × ℕ)) Refusal) (rs again : List Record) (place : ℕ) → rs ≡ again → length (spelled rs) < 2 ^ 64 → IsPlace rs place
    → IfOk r (λ a. P → length (spelled rs) < 2 ^ 64 → StandsAt rs place a) → IfOk s (λ b. Q → length (spelled again) < 2 ^ 64 → StandsAt again place b) → IfOk r (λ a. IfOk s (λ b. P → Q → a ≡ b))
tells_same P Q (Ok a) (Ok b) rs again place same few is f h =
    λ p q. one_stands (standing rs) place a b is (f p few) (subst (λ l. StandsAt l place b) (sym same) (h q (subst (λ l. length (spelled l) < 2 ^ 64) same few)))
tells_same P Q (Ok a) (Err e) rs again place same few is f h = tt
tells_same P Q (Err e) s rs again place same few is f h = tt
