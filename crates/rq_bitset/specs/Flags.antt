-- A flag for each place, 64 to a word, the lowest bit first.
use Rattle.std.specs.Prelude.{◌≡◌, ◌≢◌, ℕ, ◌*◌, ◌/◌, ◌%◌, ◌^◌, ◌<◌, ◌≤◌, min, List, Option, Some, None, length, slice_index}
use Rattle.std.specs.Int.{bit_at}

-- the flag at a place: 1 where it is set, 0 where it is not and beyond the end
unfoldable pub flag_at : List ℕ → ℕ → ℕ
flag_at words k = bit_at (slice_index words (k / 64)) (k % 64)

-- a flag is set exactly where the number at its place is not 0
abbrev pub AreFlags : List ℕ → List ℕ → Type 0
AreFlags words numbers = (k : ℕ) → flag_at words k ≡ min 1 (slice_index numbers k)

-- words of flags, and a flag for each of them that has one
pub record IsSummed (words flags : List ℕ) : Type 0 where
  pub room : length flags ≤ 64 * length words
  pub few : length flags < 2 ^ 32
  pub few_words : length words < 2 ^ 32
  pub summed : AreFlags words flags

-- the least flag that is set at or after this place
abbrev pub IsNextFlag : List ℕ → ℕ → Option ℕ → Type 0
IsNextFlag words from None = (k : ℕ) → from ≤ k → flag_at words k ≡ 0
IsNextFlag words from (Some place) = (from ≤ place) × (flag_at words place ≡ 1)
    × ((k : ℕ) → from ≤ k → k < place → flag_at words k ≡ 0)

-- the same, in the word of this place alone
abbrev pub IsNextInWord : List ℕ → ℕ → Option ℕ → Type 0
IsNextInWord words from None = (k : ℕ) → from ≤ k → k / 64 ≡ from / 64 → flag_at words k ≡ 0
IsNextInWord words from (Some place) = IsNextFlag words from (Some place)

-- the least flag at or after this place that is set in the one and not in the other
abbrev pub IsNextApart : List ℕ → List ℕ → ℕ → Option ℕ → Type 0
IsNextApart words others from None = (k : ℕ) → from ≤ k → flag_at others k ≡ 0 → flag_at words k ≡ 0
IsNextApart words others from (Some place) = (from ≤ place) × (flag_at words place ≡ 1) × (flag_at others place ≡ 0)
    × ((k : ℕ) → from ≤ k → k < place → flag_at others k ≡ 0 → flag_at words k ≡ 0)

-- the same, in the word of this place alone
abbrev pub IsNextApartInWord : List ℕ → List ℕ → ℕ → Option ℕ → Type 0
IsNextApartInWord words others from None =
    (k : ℕ) → from ≤ k → k / 64 ≡ from / 64 → flag_at others k ≡ 0 → flag_at words k ≡ 0
IsNextApartInWord words others from (Some place) = IsNextApart words others from (Some place)

-- of all flags but this one each is as before
abbrev pub OthersStay : ℕ → List ℕ → List ℕ → Type 0
OthersStay place old new = (k : ℕ) → k ≢ place → flag_at new k ≡ flag_at old k
