-- Faults at the front of some bytes, in a client's words, and what else may stand there.
use Rattle.std.specs.Prelude.{◌≡◌, ◌≢◌, ◌⊎◌, ◌↔◌, ℕ, ◌+◌, ◌<◌, ◌≤◌, List, ◌++◌, length, slice_index}
use Rattle.rq_bytes.specs.Number.{AreBytes, number_at}
use Rattle.rq_wire.specs.declared.request.Request.{Request}
use Rattle.rq_wire.specs.declared.look.Prefix.TheVariants.{Fault, More}
use Rattle.rq_wire.specs.Looks.{looks}
use Rattle.rq_wire.specs.Spelling.{IsRequest, spelled}

-- a length of 0 or over 512, as soon as its two bytes are there
abbrev pub HasBadLength : List ℕ → Type 0
HasBadLength bytes = (2 ≤ length bytes) × ((number_at 2 0 bytes ≡ 0) ⊎ (512 < number_at 2 0 bytes))

-- a kind that is no request's, as soon as its byte is there
abbrev pub HasBadKind : List ℕ → Type 0
HasBadKind bytes = (3 ≤ length bytes) × ((slice_index bytes 2 ≡ 0) ⊎ (10 < slice_index bytes 2))

-- no request's frame stands at the front
abbrev pub IsNoRequest : List ℕ → Type 0
IsNoRequest bytes = (r : Request) (rest : List ℕ) → IsRequest r → bytes ≢ spelled r ++ rest

-- all that the length counts is there, and it is no request
abbrev pub HasBadFields : List ℕ → Type 0
HasBadFields bytes = (2 + number_at 2 0 bytes ≤ length bytes) × IsNoRequest bytes

abbrev pub IsFault : List ℕ → Type 0
IsFault bytes = HasBadLength bytes ⊎ (HasBadKind bytes ⊎ HasBadFields bytes)

-- a fault is told exactly where there is one
abbrev pub FaultsAreTold : Type 0
FaultsAreTold = (bytes : List ℕ) → AreBytes bytes → (looks bytes ≡ Fault) ↔ IsFault bytes

-- more bytes are waited for exactly where there is no fault, and no request's frame
abbrev pub MoreIsAwaited : Type 0
MoreIsAwaited = (bytes : List ℕ) → AreBytes bytes → (looks bytes ≡ More) ↔ ((IsFault bytes → ⊥) × IsNoRequest bytes)
