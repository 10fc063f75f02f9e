-- A client's slot: how it is put together, and how its fields are read back.
use Rattle.std.proofs.Common.{◌≡◌, ℕ, ◌+◌, List, ◌++◌, length, drop, replicate, refl, ap}
use Rattle.rq_bytes.specs.Number.{number_at, overlaid}
use Rattle.rq_page.specs.declared.client.ClientSlot.{ClientSlot}
use Rattle.rq_page.specs.Clients.{client_front, client_bytes, client_in, IsClientSlot}
use Rattle.rq_page.proofs.CellBytes.{reads}

-- the front laid over zeros is followed by zeros
pub overlaid_front : (front : List ℕ) → length front ≡ 24
    → overlaid 0 front (replicate 256 0) ≡ front ++ replicate 232 0
overlaid_front front f = ap (λ k. front ++ drop (0 + k) (replicate 256 0)) f

pub length-client_front : (x : ClientSlot) → length (client_front x) ≡ 24
unfolding client_front
length-client_front x = refl

-- what a client's slot holds is read back
pub client_in-client_bytes : (x : ClientSlot) → IsClientSlot x → client_in (client_bytes x) ≡ x
unfolding client_in client_bytes client_front
client_in-client_bytes x is =
    let bytes : List ℕ = client_bytes x in
    let client : number_at 4 4 bytes ≡ x.client = reads 4 x.client (drop 8 bytes) is.client in
    let count : number_at 8 8 bytes ≡ x.count = reads 8 x.count (drop 16 bytes) is.count in
    let tag : number_at 8 16 bytes ≡ x.tag = reads 8 x.tag (drop 24 bytes) is.tag in
    ap (λ (k : ℕ × ℕ × ℕ). let made : ClientSlot = record { client = k.0; count = k.1; tag = k.2 } in made)
    (let same : (number_at 4 4 bytes, number_at 8 8 bytes, number_at 8 16 bytes) ≡ (x.client, x.count, x.tag) = cc in same)
