-- How a client's count and tag stand in a slot of 256 bytes.
use Rattle.std.specs.Prelude.{ℕ, ◌<◌, ◌^◌, List, ◌∷◌, ◌++◌, replicate}
use Rattle.byteorder.specs.Endian.{big_bytes}
use Rattle.rq_bytes.specs.Number.{number_at}
use Rattle.rq_page.specs.declared.client.ClientSlot.{ClientSlot}

-- the 24 bytes before the zeros: state, the client, its count and its tag
unfoldable pub client_front : ClientSlot → List ℕ
client_front x = 1 ∷ 0 ∷ 0 ∷ 0 ∷ (big_bytes 4 x.client ++ (big_bytes 8 x.count ++ big_bytes 8 x.tag))

-- the one spelling of what a client's slot holds
unfoldable pub client_bytes : ClientSlot → List ℕ
client_bytes x = client_front x ++ replicate 232 0

-- the numbers that a client's slot may hold
pub record IsClientSlot (x : ClientSlot) : Type 0 where
  pub client : x.client < 2 ^ 32
  pub count : x.count < 2 ^ 64
  pub tag : x.tag < 2 ^ 64

-- what a client's slot with these bytes holds, where it holds anything
unfoldable pub client_in : List ℕ → ClientSlot
client_in bytes = record { client = number_at 4 4 bytes; count = number_at 8 8 bytes; tag = number_at 8 16 bytes }

-- a client that marked nothing
abbrev pub new_client : ℕ → ClientSlot
new_client client = record { client = client; count = 0; tag = 0 }
