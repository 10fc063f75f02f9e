-- What a crash may have left at some moment of a list of calls, the newest first.
use Rattle.std.specs.Prelude.{◌≡◌, ℕ, ◌+◌, ◌≤◌, List, length, drop}
use Rattle.std.proofs.Common.{arith, subst}

module _ {K C : Type 0} (at : List K → C → Type 0) (calls : List K) where
  pub since_counts_now : (t : ℕ) (c : C) → t ≤ length calls → at calls c
      → (k : ℕ) × (k + t ≤ length calls) × at (drop k calls) c
  since_counts_now t c le now = (0, omega (arith, le), now)

  pub since_only_now : (c : C) → (k : ℕ) × (k + length calls ≤ length calls) × at (drop k calls) c → at calls c
  since_only_now c since =
      let none : since.0 ≡ 0 = omega (arith, since.1) in
      subst (λ (k : ℕ). at (drop k calls) c) none since.2
