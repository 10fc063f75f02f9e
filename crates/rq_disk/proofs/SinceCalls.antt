-- One call more in front of a list of calls.
use Rattle.std.proofs.Common.{◌≡◌, ◌⊎◌, inl, inr, ℕ, zero, suc, ◌+◌, ◌≤◌, List, ◌∷◌, length, drop, sym, subst, arith}
use Rattle.rq_disk.specs.Device.{Elapses}

module _ {K C : Type 0} (at : List K → C → Type 0) where
  abbrev Since : List K → ℕ → C → Type 0
  Since calls t c = (k : ℕ) × (k + t ≤ length calls) × at (drop k calls) c

  before : (calls : List K) (call : K) (t : ℕ) (c : C) → Since (call ∷ calls) t c → Since calls t c ⊎ at (call ∷ calls) c
  before calls call t c (zero, le, now) = inr now
  before calls call t c (suc k, le, then) = inl (k, omega (arith, le), then)

  one_more : (calls : List K) (call : K) → Elapses (length calls) (length (call ∷ calls)) (Since calls) (Since (call ∷ calls)) (at (call ∷ calls))
  one_more calls call = record {
    later = omega arith;
    nothing_else = λ t c le since. before calls call t c since;
    keeps = λ t c le since. (suc since.0, omega (arith, since.1), since.2);
  }

  -- what a crash may have left since a moment, one call later
  pub goes_on : (calls later : List K) (call : K) → later ≡ call ∷ calls → Elapses (length calls) (length later) (Since calls) (Since later) (at later)
  goes_on calls later call is = subst (λ (l : List K). Elapses (length calls) (length l) (Since calls) (Since l) (at l)) (sym is) (one_more calls call)
