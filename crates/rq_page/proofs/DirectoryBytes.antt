-- A directory slot: how it is put together, and how its fields are read back.
use Rattle.std.proofs.Common.{◌≡◌, ℕ, ◌+◌, ◌^◌, ◌<◌, List, ◌++◌, length, drop, replicate, slice_index, ◌==◌, Bool, true, false, if◌then◌else◌, refl, ap, arith}
use Rattle.rq_bytes.specs.Number.{number_at, overlaid}
use Rattle.rq_page.specs.declared.directory.Directory.{Directory}
use Rattle.rq_page.specs.declared.directory.DirectorySlot.{DirectorySlot}
use Rattle.rq_page.specs.Directories.{directory_front, directory_bytes, directory_in, IsDirectorySlot}
use Rattle.rq_page.proofs.CellBytes.{reads}

-- the front laid over zeros is followed by zeros
pub overlaid_once : (front : List ℕ) → length front ≡ 48
    → overlaid 0 front (replicate 256 0) ≡ front ++ replicate 208 0
overlaid_once front f = ap (λ k. front ++ drop (0 + k) (replicate 256 0)) f

pub length-directory_front : (x : DirectorySlot) → length (directory_front x) ≡ 48
unfolding directory_front
length-directory_front x = refl

pub length-directory_bytes : (x : DirectorySlot) → length (directory_bytes x) ≡ 256
unfolding directory_bytes directory_front
length-directory_bytes x = refl

-- the state is read back
closed_read : (closed : Bool) → ((if closed then 2 else 1) == 2) ≡ closed
closed_read true = refl
closed_read false = refl

state : (x : DirectorySlot) → (slice_index (directory_bytes x) 0 == 2) ≡ x.directory.closed
unfolding directory_bytes directory_front
state x = closed_read x.directory.closed

-- what a directory slot holds is read back
pub directory_in-directory_bytes : (x : DirectorySlot) → IsDirectorySlot x → directory_in (directory_bytes x) ≡ x
unfolding directory_in directory_bytes directory_front
directory_in-directory_bytes x is =
    let bytes : List ℕ = directory_bytes x in
    let d : Directory = x.directory in
    let below : d.received < 2 ^ 64 = omega (arith, is.received, is.sent) in
    let sender : number_at 4 4 bytes ≡ x.sender = reads 4 x.sender (drop 8 bytes) is.sender in
    let closed : (slice_index bytes 0 == 2) ≡ d.closed = state x in
    let sent : number_at 8 8 bytes ≡ d.sent = reads 8 d.sent (drop 16 bytes) is.sent in
    let received : number_at 8 16 bytes ≡ d.received = reads 8 d.received (drop 24 bytes) below in
    let last_tag : number_at 8 24 bytes ≡ d.last_tag = reads 8 d.last_tag (drop 32 bytes) is.last_tag in
    let head : number_at 8 32 bytes ≡ d.head = reads 8 d.head (drop 40 bytes) is.head in
    let tail : number_at 8 40 bytes ≡ d.tail = reads 8 d.tail (drop 48 bytes) is.tail in
    ap (λ (k : ℕ × Bool × ℕ × ℕ × ℕ × ℕ × ℕ). let made : DirectorySlot = record { sender = k.0; directory = record { closed = k.1; sent = k.2; received = k.3; last_tag = k.4; head = k.5; tail = k.6 } } in made)
    (let same : (number_at 4 4 bytes, (slice_index bytes 0 == 2), number_at 8 8 bytes, number_at 8 16 bytes, number_at 8 24 bytes, number_at 8 32 bytes, number_at 8 40 bytes) ≡ (x.sender, d.closed, d.sent, d.received, d.last_tag, d.head, d.tail) = cc in same)
