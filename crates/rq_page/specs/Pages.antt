-- A page of 4,096 bytes: a header and fifteen slots.
use Rattle.std.specs.Prelude.{◌≡◌, ◌≢◌, ℕ, ◌*◌, ◌≤◌, List, [], ◌∷◌, ◌++◌, replicate}
use Rattle.byteorder.specs.Endian.{big_bytes}
use Rattle.rq_bytes.specs.Number.{number_at, bytes_at}

-- the LSN of the last record that was applied to the page
unfoldable pub lsn_of : List ℕ → ℕ
lsn_of page = number_at 8 0 page

-- the header
unfoldable pub header_of : List ℕ → List ℕ
header_of page = bytes_at 256 0 page

-- the header behind the LSN: number, kind and zeros
unfoldable pub rest_of_header : List ℕ → List ℕ
rest_of_header page = bytes_at 248 8 page

-- the slot with this number, from 1
unfoldable pub slot_of : ℕ → List ℕ → List ℕ
slot_of n page = bytes_at 256 (256 * n) page

-- the header's bytes that are not zeros: LSN, page number and kind
unfoldable pub header_front : ℕ → ℕ → ℕ → List ℕ
header_front lsn number kind = big_bytes 8 lsn ++ (big_bytes 4 number ++ kind ∷ [])

-- the one spelling of a header
unfoldable pub header_bytes : ℕ → ℕ → ℕ → List ℕ
header_bytes lsn number kind = header_front lsn number kind ++ replicate 243 0

-- a slot was written, with the LSN of the record that says so, and nothing else
pub record IsWritten (old new : List ℕ) (n : ℕ) (image : List ℕ) (stamp : ℕ) : Type 0 where
  pub lsn : lsn_of new ≡ stamp
  pub header : rest_of_header new ≡ rest_of_header old
  pub slot : slot_of n new ≡ image
  pub others : (k : ℕ) → 1 ≤ k → k ≤ 15 → k ≢ n → slot_of k new ≡ slot_of k old
