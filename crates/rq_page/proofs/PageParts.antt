-- The parts of a page, and what a write leaves of them.
use Rattle.std.proofs.Common.{◌≡◌, ◌≢◌, ℕ, ◌*◌, ◌^◌, ◌<◌, ◌≤◌, List, ◌++◌, length, drop, replicate, Option, Some, None, refl, sym, ap, ◌∙◌, arith, inl, inr}
use Rattle.std.proofs.lemmas.List.{drop-take}
use Rattle.std.proofs.lemmas.Bool.{cases_lt}
use Rattle.byteorder.specs.Endian.{big_bytes, big_number}
use Rattle.byteorder.specs.Numbers.{big_number-reads_back, big_from-take}
use Rattle.rq_bytes.specs.Number.{bytes_at, overlaid}
use Rattle.rq_bytes.proofs.Overlaid.{bytes_at-overlaid, bytes_at-overlaid_before, bytes_at-overlaid_behind}
use Rattle.rq_page.specs.Pages.{lsn_of, header_of, rest_of_header, slot_of, header_front, header_bytes}
use Rattle.rq_page.specs.Sizes.{Sizes}
use Rattle.rq_page.specs.Kinds.{kind_byte, kind_of}
use Rattle.rq_page.specs.Formatted.{IsHeaderFor, IsHeaderOf}
use Rattle.rq_page.specs.declared.layout.PageKind.{PageKind}

-- what the header tells
pub lsn_of_header : (p : List ℕ) → lsn_of p ≡ big_number 8 (header_of p)
unfolding lsn_of header_of
lsn_of_header p = sym (big_from-take 0 8 256 p (omega arith))

pub rest_of_header_of : (p : List ℕ) → rest_of_header p ≡ drop 8 (header_of p)
unfolding rest_of_header header_of
rest_of_header_of p = sym (drop-take 8 248 p)

-- what a slot written over a page leaves
pub header-put : (n : ℕ) (image p : List ℕ) → 1 ≤ n → n ≤ 15 → length image ≡ 256 → length p ≡ 4096
    → header_of (overlaid (n * 256) image p) ≡ header_of p
unfolding header_of
header-put n image p low high i l = bytes_at-overlaid_before (n * 256) image p 0 256 (omega arith) (omega arith)

pub slot-put : (n : ℕ) (image p : List ℕ) → 1 ≤ n → n ≤ 15 → length image ≡ 256 → length p ≡ 4096
    → slot_of n (overlaid (n * 256) image p) ≡ image
unfolding slot_of
slot-put n image p low high i l =
    let there : 256 * n ≡ n * 256 = omega arith in
    ap (λ at. bytes_at 256 at (overlaid (n * 256) image p)) there
    ∙ ap (λ k. bytes_at k (n * 256) (overlaid (n * 256) image p)) (sym i)
    ∙ bytes_at-overlaid (n * 256) image p (omega arith)

pub others-put : (n : ℕ) (image p : List ℕ) → 1 ≤ n → n ≤ 15 → length image ≡ 256 → length p ≡ 4096
    → (k : ℕ) → 1 ≤ k → k ≤ 15 → k ≢ n → slot_of k (overlaid (n * 256) image p) ≡ slot_of k p
unfolding slot_of
others-put n image p low high i l k k_low k_high other =
    elim (cases_lt k n) [
      | inl below ↦ bytes_at-overlaid_before (n * 256) image p (256 * k) 256 (omega arith) (omega arith)
      | inr above ↦ bytes_at-overlaid_behind (n * 256) image p (256 * k) 256 (omega arith) (omega arith)
    ]

-- what a header written over a page leaves
pub header-set : (header p : List ℕ) → length header ≡ 256 → length p ≡ 4096 → header_of (overlaid 0 header p) ≡ header
unfolding header_of
header-set header p h l =
    ap (λ k. bytes_at k 0 (overlaid 0 header p)) (sym h) ∙ bytes_at-overlaid 0 header p (omega arith)

pub slots-set : (header p : List ℕ) → length header ≤ 256 → length p ≡ 4096
    → (k : ℕ) → 1 ≤ k → k ≤ 15 → slot_of k (overlaid 0 header p) ≡ slot_of k p
unfolding slot_of
slots-set header p h l k low high = bytes_at-overlaid_behind 0 header p (256 * k) 256 (omega arith) (omega arith)

-- what an LSN written over a page leaves
pub lsn-set : (lsn : ℕ) (p : List ℕ) → lsn < 2 ^ 64 → lsn_of (big_bytes 8 lsn ++ drop 8 p) ≡ lsn
unfolding lsn_of
lsn-set lsn p fits = big_number-reads_back 8 lsn (drop 8 p) fits

pub rest-set : (lsn : ℕ) (p : List ℕ) → rest_of_header (big_bytes 8 lsn ++ drop 8 p) ≡ rest_of_header p
unfolding rest_of_header
rest-set lsn p = refl

pub header-lsn_set : (lsn : ℕ) (p : List ℕ) → header_of (big_bytes 8 lsn ++ drop 8 p) ≡ big_bytes 8 lsn ++ rest_of_header p
unfolding header_of rest_of_header
header-lsn_set lsn p = refl

pub slots-lsn_set : (lsn : ℕ) (p : List ℕ) → length p ≡ 4096
    → (k : ℕ) → 1 ≤ k → k ≤ 15 → slot_of k (big_bytes 8 lsn ++ drop 8 p) ≡ slot_of k p
slots-lsn_set lsn p l k low high = slots-set (big_bytes 8 lsn) p (omega arith) l k low high

-- the header is laid over zeros
pub header_made : (lsn number kind : ℕ) → overlaid 0 (header_front lsn number kind) (replicate 256 0) ≡ header_bytes lsn number kind
unfolding header_front header_bytes
header_made lsn number kind = refl

pub length-header_bytes : (lsn number kind : ℕ) → length (header_bytes lsn number kind) ≡ 256
unfolding header_front header_bytes
length-header_bytes lsn number kind = refl

-- a header in which the LSN alone is another
header_again : (lsn stamp number kind : ℕ) → big_bytes 8 stamp ++ drop 8 (header_bytes lsn number kind) ≡ header_bytes stamp number kind
unfolding header_front header_bytes
header_again lsn stamp number kind = refl

stamped_for : (k : Option PageKind) (page stamp : ℕ) (old new : List ℕ) → lsn_of new ≡ stamp → header_of new ≡ big_bytes 8 stamp ++ rest_of_header old
    → IsHeaderFor k page (lsn_of old) old → IsHeaderFor k page (lsn_of new) new
stamped_for None page stamp old new lsn header is = absurd is
stamped_for (Some k) page stamp old new lsn header is =
    header
    ∙ ap (λ (r : List ℕ). big_bytes 8 stamp ++ r) (rest_of_header_of old ∙ ap (drop 8) is)
    ∙ header_again (lsn_of old) stamp page (kind_byte k)
    ∙ ap (λ (l : ℕ). header_bytes l page (kind_byte k)) (sym lsn)

-- the header of a place stays the header of that place where its LSN alone is written
pub header-stamped : (z : Sizes) (page stamp : ℕ) (old new : List ℕ) → lsn_of new ≡ stamp → header_of new ≡ big_bytes 8 stamp ++ rest_of_header old
    → IsHeaderOf z page old → IsHeaderOf z page new
header-stamped z page stamp old new lsn header is = stamped_for (kind_of z page) page stamp old new lsn header is
