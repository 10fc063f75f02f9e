-- Numbers that stand in a list of bytes, the highest byte first.
use Rattle.std.specs.Prelude.{◌≡◌, ℕ, ◌+◌, ◌^◌, ◌<◌, ◌≤◌, ◌⊎◌, List, ◌++◌, length, take, drop, slice_index}
use Rattle.byteorder.specs.Endian.{big_bytes, big_number}

-- a number in that many bytes, the highest first
unfoldable pub number : ℕ → ℕ → List ℕ
number size n = big_bytes size n

-- each is a byte
abbrev pub AreBytes : List ℕ → Type 0
AreBytes bytes = (i : ℕ) → slice_index bytes i < 256

-- these bytes with others written over them from a place on
abbrev pub overlaid : ℕ → List ℕ → List ℕ → List ℕ
overlaid at written bytes = take at bytes ++ (written ++ drop (at + length written) bytes)

-- the number in the width bytes from a place on
abbrev pub number_at : ℕ → ℕ → List ℕ → ℕ
number_at width at bytes = big_number width (drop at bytes)

-- these bytes with a number written over the width bytes from a place on
abbrev pub with_number : ℕ → ℕ → ℕ → List ℕ → List ℕ
with_number width at n bytes = take at bytes ++ (big_bytes width n ++ drop (at + width) bytes)

-- a number that was written is read back
abbrev pub WrittenIsRead : Type 0
WrittenIsRead =
    (width at n : ℕ) (bytes : List ℕ) → n < 256 ^ width → at + width ≤ length bytes
    → number_at width at (with_number width at n bytes) ≡ n

-- what lies wholly before or after a number reads as it did before that number was written
abbrev pub OthersReadAsBefore : Type 0
OthersReadAsBefore =
    (width at n : ℕ) (bytes : List ℕ) (other place : ℕ) → at + width ≤ length bytes
    → ((place + other ≤ at) ⊎ (at + width ≤ place))
    → number_at other place (with_number width at n bytes) ≡ number_at other place bytes

-- a number that was written takes the room of what stood there
abbrev pub LengthStays : Type 0
LengthStays =
    (width at n : ℕ) (bytes : List ℕ) → at + width ≤ length bytes
    → length (with_number width at n bytes) ≡ length bytes

-- the width bytes from a place on
abbrev pub bytes_at : ℕ → ℕ → List ℕ → List ℕ
bytes_at width at bytes = take width (drop at bytes)
