-- Headers and slots of formatted pages.
use Rattle.std.proofs.Common.{◌≡◌, ℕ, ◌+◌, ◌<◌, ◌≤◌, ◌++◌, drop, ap, List, Option, Some, None, ◌∙◌, arith, subst, inl, inr}
use Rattle.std.proofs.lemmas.Bool.{cases_lt}
use Rattle.rq_page.specs.Pages.{header_of, slot_of}
use Rattle.byteorder.specs.Endian.{big_bytes, big_number}
use Rattle.byteorder.specs.Numbers.{big_number-reads_back}
use Rattle.rq_bytes.specs.Number.{number_at}
use Rattle.rq_page.specs.Sizes.{Sizes, IsInRange}
use Rattle.rq_page.specs.Formatted.{IsHeaderFor, IsFormatted, superblock_bytes, superblock_front}
use Rattle.rq_page.specs.declared.layout.PageKind.{PageKind}

-- a header that is the same says the same
pub header_kept : (k : Option PageKind) (page lsn : ℕ) (p q : List ℕ) → header_of q ≡ header_of p → IsHeaderFor k page lsn p → IsHeaderFor k page lsn q
header_kept None page lsn p q same is = absurd is
header_kept (Some k) page lsn p q same is = same ∙ is

-- what holds of each slot below n, and of n, holds of each up to n
pub one_more : (P : ℕ → Type 0) (n : ℕ) → ((k : ℕ) → 1 ≤ k → k < n → P k) → P n → (k : ℕ) → 1 ≤ k → k < n + 1 → P k
one_more P n below here k low high =
    elim (cases_lt k n) [
      | inl less ↦ below k low less
      | inr more ↦ let same : n ≡ k = omega arith in subst P same here
    ]

-- the sizes that a superblock tells
pub told_sizes : (l : Sizes) (image : List ℕ) → IsInRange l → IsFormatted l 0 image
    → (number_at 4 12 (slot_of 1 image) ≡ l.directory) × (number_at 4 16 (slot_of 1 image) ≡ l.cells) × (number_at 4 20 (slot_of 1 image) ≡ l.tags)
unfolding superblock_bytes superblock_front
told_sizes l image range is =
    let first : slot_of 1 image ≡ superblock_bytes l = is.slots 1 (omega arith) (omega arith) in
    let directory : big_number 4 (big_bytes 4 l.directory ++ drop 16 (superblock_bytes l)) ≡ l.directory =
    big_number-reads_back 4 l.directory (drop 16 (superblock_bytes l)) (omega (arith, range.directory_high)) in
    let cells : big_number 4 (big_bytes 4 l.cells ++ drop 20 (superblock_bytes l)) ≡ l.cells =
    big_number-reads_back 4 l.cells (drop 20 (superblock_bytes l)) (omega (arith, range.cells_high)) in
    let tags : big_number 4 (big_bytes 4 l.tags ++ drop 24 (superblock_bytes l)) ≡ l.tags =
    big_number-reads_back 4 l.tags (drop 24 (superblock_bytes l)) (omega (arith, range.tags_high)) in
    (ap (number_at 4 12) first ∙ directory, ap (number_at 4 16) first ∙ cells, ap (number_at 4 20) first ∙ tags)
