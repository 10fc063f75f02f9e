-- A set of numbers, kept in runs: each from a first number to a last, by the first.
use Rattle.std.specs.Prelude.{◌≡◌, ◌≢◌, ◌⊎◌, ◌≤◌, ◌<◌, ℕ, zero, suc, ◌+◌, ◌-◌, ◌^◌, Bool, List, [], ◌∷◌, None, Some, IsSome}
use Rattle.std.specs.BTreeMap.{BTreeMap, get}
use Rattle.std.specs.FinSet as set
use Rattle.std.specs.Ordering.{nat_cmp}

abbrev pub Counts : Type 0
Counts = set.FinSet nat_cmp

-- the number is one of them
abbrev pub has_count : ℕ → Counts → Bool
has_count n c = set.contains c n

-- with so many numbers more, from this one on
abbrev pub with_counts : ℕ → ℕ → Counts → Counts
with_counts first zero c = c
with_counts first (suc k) c = set.insert (with_counts first k c) (first + k)

-- those in the runs
abbrev pub counts_in : List (ℕ × ℕ) → Counts
counts_in [] = set.empty
counts_in (e ∷ es) = with_counts e.0 (e.1 + 1 - e.0) (counts_in es)

-- no run is empty, and between one and the next stands a number that is in none
pub record AreApart (m : BTreeMap ℕ ℕ) : Type 0 where
  pub some : (f l : ℕ) → get nat_cmp m f ≡ Some l → f ≤ l
  pub fits : (f l : ℕ) → get nat_cmp m f ≡ Some l → l < 2 ^ 64
  pub apart : (f l g k : ℕ) → get nat_cmp m f ≡ Some l → get nat_cmp m g ≡ Some k → f < g → l + 1 < g

-- the run from f to l is the last that begins at the number or before it
pub record IsLastUpTo (m : BTreeMap ℕ ℕ) (n f l : ℕ) : Type 0 where
  pub there : get nat_cmp m f ≡ Some l
  pub begins : f ≤ n
  pub last : (g : ℕ) → g ≤ n → IsSome (get nat_cmp m g) → g ≤ f

-- the number is in one of the runs
pub record IsIn (m : BTreeMap ℕ ℕ) (n : ℕ) : Type 0 where
  pub first : ℕ
  pub last : ℕ
  pub there : get nat_cmp m first ≡ Some last
  pub low : first ≤ n
  pub high : n ≤ last

-- no run has the number
abbrev pub IsFree : BTreeMap ℕ ℕ → ℕ → Type 0
IsFree m n = (f l : ℕ) → get nat_cmp m f ≡ Some l → f ≤ n → l < n

-- the run that ends just before the number begins there, or none does, and it is the number
abbrev pub BeginsFor : BTreeMap ℕ ℕ → ℕ → ℕ → Type 0
BeginsFor m n f = ((f ≡ n) × ((g l : ℕ) → get nat_cmp m g ≡ Some l → l + 1 ≢ n))
    ⊎ ((l : ℕ) × (get nat_cmp m f ≡ Some l) × (l + 1 ≡ n))

-- the run that begins just behind the number ends there, or none does, and it is the number
abbrev pub EndsFor : BTreeMap ℕ ℕ → ℕ → ℕ → Type 0
EndsFor m n l = ((l ≡ n) × (get nat_cmp m (n + 1) ≡ None)) ⊎ (get nat_cmp m (n + 1) ≡ Some l)
