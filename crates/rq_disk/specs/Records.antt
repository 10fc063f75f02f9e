-- Records as they stand in a log: a big-endian u32 length of what follows, and that many bytes.
use Rattle.std.specs.Prelude.{◌≡◌, ◌⊎◌, ℕ, zero, suc, ◌+◌, ◌-◌, ◌≤◌, min, List, [], ◌++◌, length, take, drop}
use Rattle.std.proofs.Common.{refl, ap, arith}
use Rattle.std.specs.Coded.{×_prop, le_prop, Coded-set, coded_list, coded_ℕ}
use Rattle.std.proofs.Math.Path.{Σ_path, to_path_p}
use Rattle.byteorder.specs.Endian.{big_number}

-- the bytes that the first record takes, by its length field and with it
abbrev pub record_size : List ℕ → ℕ
record_size bytes = 4 + big_number 4 bytes

-- a whole record stands at the front
abbrev pub HasRecord : List ℕ → Type 0
HasRecord bytes = (4 ≤ length bytes) × (record_size bytes ≤ length bytes)

-- these bytes are n whole records
abbrev pub AreRecords : ℕ → List ℕ → Type 0
AreRecords zero bytes = bytes ≡ []
AreRecords (suc n) bytes = HasRecord bytes × AreRecords n (drop (record_size bytes) bytes)

-- the first `keep` records of bytes, and of the one behind them the first `torn` bytes, at most all but one
abbrev pub torn_records : (keep torn : ℕ) → List ℕ → List ℕ
torn_records zero torn bytes = take (min torn (record_size bytes - 1)) bytes
torn_records (suc keep) torn bytes =
    take (record_size bytes) bytes ++ torn_records keep torn (drop (record_size bytes) bytes)

-- so many bytes of the record at the front, where one stands there: at most `torn`, and at most all but one
abbrev pub IsTorn : (torn tail : ℕ) → List ℕ → Type 0
IsTorn torn tail rest = (HasRecord rest × (tail ≡ min torn (record_size rest - 1))) ⊎ (HasRecord rest → ⊥)

-- bytes begin with n whole records, and no whole record comes behind them
pub record HoldsRecords (bytes : List ℕ) (n : ℕ) : Type 0 where
  pub end : ℕ
  pub within : end ≤ length bytes
  pub whole : AreRecords n (take end bytes)
  pub last : HasRecord (drop end bytes) → ⊥

-- bytes are whole records in one way at most
pub AreRecords-prop : (n : ℕ) (bytes : List ℕ) → IsProp (AreRecords n bytes)
AreRecords-prop zero bytes = Coded-set (coded_list coded_ℕ) bytes []
AreRecords-prop (suc n) bytes = ×_prop (×_prop le_prop le_prop) (AreRecords-prop n (drop (record_size bytes) bytes))

pub records_count : (m n : ℕ) (bytes : List ℕ) → AreRecords m bytes → AreRecords n bytes → m ≡ n
records_count zero zero bytes is are = refl
records_count zero (suc n) bytes is are = absurd (omega (arith, ap length is, are.0.0))
records_count (suc m) zero bytes is are = absurd (omega (arith, ap length are, is.0.0))
records_count (suc m) (suc n) bytes is are = ap suc (records_count m n (drop (record_size bytes) bytes) is.1 are.1)

pub some_records-prop : (bytes : List ℕ) → IsProp ((n : ℕ) × AreRecords n bytes)
some_records-prop bytes a b = Σ_path (records_count a.0 b.0 bytes a.1 b.1)
    (to_path_p (λ i. AreRecords (records_count a.0 b.0 bytes a.1 b.1 i) bytes) (AreRecords-prop b.0 bytes _ b.1))
