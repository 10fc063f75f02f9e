-- What stands in a page that is spelled part by part.
use Rattle.std.proofs.Common.{◌≡◌, ◌≢◌, ℕ, zero, suc, ◌+◌, ◌*◌, ◌^◌, ◌<◌, ◌≤◌, ◌==◌, if◌then◌else◌, Bool, true, false, List, [], ◌∷◌, ◌++◌, length, take, drop, replicate, refl, sym, ap, ◌∙◌, arith, append_assoc}
use Rattle.std.proofs.Math.Seq.{take-append_seam, drop-append-add}
use Rattle.byteorder.specs.Endian.{big_bytes, big_number}
use Rattle.byteorder.specs.Numbers.{big_number-reads_back}
use Rattle.rq_bytes.specs.Number.{bytes_at}
use Rattle.rq_disk.specs.Memory.{if_no}
use Rattle.rq_page.specs.declared.client.ClientSlot.{ClientSlot}
use Rattle.rq_page.specs.Cells.{free_bytes}
use Rattle.rq_page.specs.Clients.{client_bytes, client_front}
use Rattle.rq_page.specs.Formatted.{superblock_bytes, superblock_front}
use Rattle.rq_page.specs.Pages.{header_bytes, header_front, header_of, lsn_of, rest_of_header, slot_of, IsWritten}
use Rattle.rq_page.specs.Sizes.{Sizes}
use Rattle.rq_page.proofs.PageParts.{length-header_bytes, lsn_of_header, rest_of_header_of}
use Rattle.rq_cases.specs.Store.{joined, page_image, part, written}

-- each part is found again
part_at : (parts : ℕ → List ℕ) → ((j : ℕ) → length (parts j) ≡ 256) → (n k i : ℕ) → i < n
    → bytes_at 256 (256 * i) (joined parts k n) ≡ parts (k + i)
part_at parts each zero k i lt = absurd (omega (arith, lt))
part_at parts each (suc n) k zero lt =
    ap (λ m. take m (parts k ++ joined parts (k + 1) n)) (sym (each k))
    ∙ take-append_seam (parts k) (joined parts (k + 1) n)
    ∙ ap parts (let e : k ≡ k + 0 = omega arith in e)
part_at parts each (suc n) k (suc i) lt =
    let size = each k in
    let there : 256 * suc i ≡ length (parts k) + 256 * i = omega (arith, size) in
    ap (λ m. take 256 (drop m (parts k ++ joined parts (k + 1) n))) there
    ∙ ap (take 256) (drop-append-add (parts k) (joined parts (k + 1) n) (256 * i))
    ∙ part_at parts each n (k + 1) i (omega (arith, lt))
    ∙ ap parts (let e : k + 1 + i ≡ k + suc i = omega arith in e)

header_lsn : (lsn page kind : ℕ) → lsn < 2 ^ 64 → big_number 8 (header_bytes lsn page kind) ≡ lsn
unfolding header_bytes header_front
header_lsn lsn page kind fits =
    ap (big_number 8) (append_assoc (big_bytes 8 lsn) (big_bytes 4 page ++ kind ∷ []) (replicate 243 0))
    ∙ big_number-reads_back 8 lsn ((big_bytes 4 page ++ kind ∷ []) ++ replicate 243 0) fits

rest_same : (a b page kind : ℕ) → drop 8 (header_bytes a page kind) ≡ drop 8 (header_bytes b page kind)
unfolding header_bytes header_front
rest_same a b page kind = refl

pub part_long : (lsn page kind : ℕ) (slots : ℕ → List ℕ) → ((n : ℕ) → length (slots n) ≡ 256) → (j : ℕ)
    → length (part lsn page kind slots j) ≡ 256
part_long lsn page kind slots each zero = length-header_bytes lsn page kind
part_long lsn page kind slots each (suc n) = each (suc n)

pub header_is : (lsn page kind : ℕ) (slots : ℕ → List ℕ) → ((n : ℕ) → length (slots n) ≡ 256)
    → header_of (page_image lsn page kind slots) ≡ header_bytes lsn page kind
unfolding header_of
header_is lsn page kind slots each =
    part_at (part lsn page kind slots) (part_long lsn page kind slots each) 16 0 0 (omega arith)

pub slot_is : (lsn page kind : ℕ) (slots : ℕ → List ℕ) → ((n : ℕ) → length (slots n) ≡ 256) → (n : ℕ) → 1 ≤ n → n ≤ 15
    → slot_of n (page_image lsn page kind slots) ≡ slots n
unfolding slot_of
slot_is lsn page kind slots each zero low high = absurd (omega (arith, low))
slot_is lsn page kind slots each (suc n) low high =
    part_at (part lsn page kind slots) (part_long lsn page kind slots each) 16 0 (suc n) (omega (arith, high))
    ∙ ap (part lsn page kind slots) (let e : 0 + suc n ≡ suc n = omega arith in e)

pub lsn_is : (lsn page kind : ℕ) (slots : ℕ → List ℕ) → ((n : ℕ) → length (slots n) ≡ 256) → lsn < 2 ^ 64
    → lsn_of (page_image lsn page kind slots) ≡ lsn
lsn_is lsn page kind slots each fits =
    lsn_of_header (page_image lsn page kind slots)
    ∙ ap (big_number 8) (header_is lsn page kind slots each)
    ∙ header_lsn lsn page kind fits

rest_is : (lsn page kind : ℕ) (slots : ℕ → List ℕ) → ((n : ℕ) → length (slots n) ≡ 256)
    → rest_of_header (page_image lsn page kind slots) ≡ drop 8 (header_bytes lsn page kind)
rest_is lsn page kind slots each =
    rest_of_header_of (page_image lsn page kind slots) ∙ ap (drop 8) (header_is lsn page kind slots each)

-- the slots with one written: the others stay
pub written_other : (n : ℕ) (bytes : List ℕ) (slots : ℕ → List ℕ) (k : ℕ) → k ≢ n → written n bytes slots k ≡ slots k
written_other n bytes slots k other = if_no k n bytes (slots k) other

pub either_long : (b : Bool) (x y : List ℕ) → length x ≡ 256 → length y ≡ 256 → length (if b then x else y) ≡ 256
either_long true x y a c = a
either_long false x y a c = c

pub written_long : (n : ℕ) (bytes : List ℕ) (slots : ℕ → List ℕ) → length bytes ≡ 256
    → ((k : ℕ) → length (slots k) ≡ 256) → (k : ℕ) → length (written n bytes slots k) ≡ 256
written_long n bytes slots here each k = either_long (k == n) bytes (slots k) here (each k)

-- the first slot is written, with the LSN of the record that says so
pub first_written : (was stamp page kind : ℕ) (bytes : List ℕ) (slots : ℕ → List ℕ) → length bytes ≡ 256
    → ((k : ℕ) → length (slots k) ≡ 256) → stamp < 2 ^ 64
    → IsWritten (page_image was page kind slots) (page_image stamp page kind (written 1 bytes slots)) 1 bytes stamp
first_written was stamp page kind bytes slots here each fits =
    let now : (k : ℕ) → length (written 1 bytes slots k) ≡ 256 = written_long 1 bytes slots here each in
    record {
      lsn = lsn_is stamp page kind (written 1 bytes slots) now fits;
      header =
          rest_is stamp page kind (written 1 bytes slots) now
          ∙ rest_same stamp was page kind
          ∙ sym (rest_is was page kind slots each);
      slot = slot_is stamp page kind (written 1 bytes slots) now 1 (omega arith) (omega arith);
      others = λ k low high other.
          slot_is stamp page kind (written 1 bytes slots) now k low high
          ∙ written_other 1 bytes slots k other
          ∙ sym (slot_is was page kind slots each k low high);
    }

pub length-free : length free_bytes ≡ 256
unfolding free_bytes
length-free = refl

pub length-superblock : (z : Sizes) → length (superblock_bytes z) ≡ 256
unfolding superblock_bytes superblock_front
length-superblock z = refl

pub length-client : (x : ClientSlot) → length (client_bytes x) ≡ 256
unfolding client_bytes client_front
length-client x = refl
