-- Some of a number of places, marked by their flags.
use Rattle.std.specs.Prelude.{◌≡◌, ◌≤◌, ◌<◌, ℕ, suc, zero, nat_eq, length, Bool, true, false, List, [], ◌∷◌, Option, None, Some, slice_index_or}
use Rattle.rq_bitset.specs.Flags.{flag_at}

-- of so many places from one on, whether each is marked
unfoldable pub bits_from : List ℕ → ℕ → ℕ → List Bool
bits_from words from zero = []
bits_from words from (suc count) = nat_eq (flag_at words from) 1 ∷ bits_from words (suc from) count

-- whether a place is marked; none is beyond the last
abbrev pub is_set : List Bool → ℕ → Bool
is_set marks place = slice_index_or marks place false

-- the lowest place that is marked, from one on
abbrev pub IsNextBit : List Bool → ℕ → Option ℕ → Type 0
IsNextBit marks from None = (k : ℕ) → from ≤ k → is_set marks k ≡ false
IsNextBit marks from (Some place) = (from ≤ place) × (place < length marks) × (is_set marks place ≡ true)
    × ((k : ℕ) → from ≤ k → k < place → is_set marks k ≡ false)
