-- The requests of a connection's bytes.
use Rattle.std.specs.Prelude.{◌≡◌, ◌≤◌, ◌+◌, ◌↔◌, ℕ, Bool, List, [], ◌∷◌, ◌++◌, length, drop, if◌then◌else◌}
use Rattle.rq_bytes.specs.Number.{number_at, AreBytes}
use Rattle.rq_wire.specs.declared.request.Request.{Request}
use Rattle.rq_wire.specs.declared.look.Prefix.{Prefix}
use Rattle.rq_wire.specs.declared.look.Prefix.TheVariants.{Frame, Fault, More}
use Rattle.rq_wire.specs.Looks.{looks}
use Rattle.rq_wire.specs.Spelling.{IsRequest, AreRequested, frame, spelled, spelled_all}

-- the bytes begin with whole good frames of these requests, and this is behind them
abbrev pub Begins : List Request → List ℕ → List ℕ → Type 0
Begins [] bytes rest = bytes ≡ rest
Begins (r ∷ rs) bytes rest = (n : ℕ) × (looks bytes ≡ Frame r n) × Begins rs (drop n bytes) rest

abbrev pub stop : Bool → Prefix
stop fault = if fault then Fault else More

-- the requests of the longest list of whole good frames at the front, and whether a fault stands behind them
abbrev pub AreRequests : List ℕ → List Request → Bool → Type 0
AreRequests bytes requests fault = (rest : List ℕ) × Begins requests bytes rest × (looks rest ≡ stop fault)

-- ---- laws

-- the frame of a request is read as that request
abbrev pub SpelledIsRead : Type 0
SpelledIsRead = (r : Request) (rest : List ℕ) → IsRequest r → looks (spelled r ++ rest) ≡ Frame r (length (spelled r))

-- what is read as a request is its frame
abbrev pub ReadIsSpelled : Type 0
ReadIsSpelled =
    (bytes : List ℕ) (r : Request) (n : ℕ) → AreBytes bytes → looks bytes ≡ Frame r n
    → IsRequest r × (bytes ≡ spelled r ++ drop n bytes)

-- requests stand at the front exactly where their frames do
abbrev pub FrontsAreSpelled : Type 0
FrontsAreSpelled =
    (rs : List Request) (bytes rest : List ℕ) → AreBytes bytes
    → Begins rs bytes rest ↔ (AreRequested rs × (bytes ≡ spelled_all rs ++ rest))

-- bytes have one answer
abbrev pub OneAnswer : Type 0
OneAnswer =
    (bytes : List ℕ) (rs qs : List Request) (fault other : Bool)
    → AreRequests bytes rs fault → AreRequests bytes qs other → (rs ≡ qs) × (fault ≡ other)

-- no frame begins another
abbrev pub NoneBeginsAnother : Type 0
NoneBeginsAnother =
    (kind other : ℕ) (fields others x y : List ℕ) → length fields ≤ 511 → length others ≤ 511
    → frame kind fields ++ x ≡ frame other others ++ y → (kind ≡ other) × (fields ≡ others) × (x ≡ y)

-- the first two bytes of a frame, as a number, count the bytes after them
abbrev pub FramesCount : Type 0
FramesCount =
    (kind : ℕ) (fields : List ℕ) → length fields ≤ 511
    → 2 + number_at 2 0 (frame kind fields) ≡ length (frame kind fields)
