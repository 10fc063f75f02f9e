-- One call more joins a list of calls.
use Rattle.std.proofs.Common.{◌≡◌, inl, inr, ℕ, ◌+◌, ◌≤◌, List, [], ◌∷◌, ◌++◌, length, take, sym, subst, arith, length-append}
use Rattle.std.proofs.lemmas.Bool.{cases_eq}
use Rattle.std.proofs.lemmas.List.{take-append-le, take_all}
use Rattle.rq_disk.specs.Device.{Elapses}

module _ {K C : Type 0} (at : List K → C → Type 0) where
  abbrev Since : List K → ℕ → C → Type 0
  Since calls t c = (k : ℕ) × (t ≤ k) × (k ≤ length calls) × at (take k calls) c

  elapses_push : (calls : List K) (call : K) → Elapses (length calls) (length (calls ++ call ∷ [])) (Since calls) (Since (calls ++ call ∷ [])) (at (calls ++ call ∷ []))
  elapses_push calls call =
      let long : length (calls ++ call ∷ []) ≡ length calls + 1 = length-append calls (call ∷ []) in
      record {
        later = omega (arith, long);
        nothing_else = λ t c le s. elim (cases_eq s.0 (length calls + 1)) [
          | inl last ↦ inr (subst (λ (l : List K). at l c) (take_all s.0 (calls ++ call ∷ []) (omega (arith, long, last))) s.3)
          | inr other ↦ (let le2 : s.0 ≤ length calls = omega (arith, s.2, long, other) in inl (s.0, s.1, le2, subst (λ (l : List K). at l c) (take-append-le s.0 calls (call ∷ []) le2) s.3))
        ];
        keeps = λ t c le s. (s.0, s.1, omega (arith, s.2, long), subst (λ (l : List K). at l c) (sym (take-append-le s.0 calls (call ∷ []) s.2)) s.3);
      }

  -- what a crash may have left since a moment, one call later
  pub elapses_to : (calls later : List K) (call : K) → later ≡ calls ++ call ∷ [] → Elapses (length calls) (length later) (Since calls) (Since later) (at later)
  elapses_to calls later call is = subst (λ (l : List K). Elapses (length calls) (length l) (Since calls) (Since l) (at l)) (sym is) (elapses_push calls call)

  -- no call more
  pub elapses_same : (calls later : List K) → later ≡ calls → Elapses (length calls) (length later) (Since calls) (Since later) (at later)
  elapses_same calls later is =
      subst (λ (l : List K). Elapses (length calls) (length l) (Since calls) (Since l) (at l)) (sym is)
      (record { later = omega arith; nothing_else = λ t c le s. inl s; keeps = λ t c le s. s })
