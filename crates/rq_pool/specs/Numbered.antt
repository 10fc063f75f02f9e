-- The number of each page: the greatest of its LSN and of what its slots count.
use Rattle.std.specs.Prelude.{◌↔◌, ℕ, ◌<◌, ◌≤◌, List, [], ◌∷◌, cond, max, nat_eq}
use Rattle.rq_page.specs.Sizes.{Sizes, page_count}
use Rattle.rq_page.specs.Pages.{lsn_of, slot_of}
use Rattle.rq_page.specs.Formatted.{count_in}
use Rattle.rq_pool.specs.declared.ahead.Ahead.{Ahead}
use Rattle.rq_pool.specs.Pooled.{image_at}

-- neither the LSN of a page nor what one of its slots counts is beyond so many
pub record IsWithin (z : Sizes) (count page : ℕ) (image : List ℕ) : Type 0 where
  pub lsn : lsn_of image ≤ count
  pub slots : (n : ℕ) → 1 ≤ n → n ≤ 15 → count_in z page (slot_of n image) ≤ count

-- the number is within so many exactly where these are
abbrev pub IsNumberOf : Sizes → ℕ → List ℕ → ℕ → Type 0
IsNumberOf z page image number = (count : ℕ) → (number ≤ count) ↔ IsWithin z count page image

-- the greatest number that is told of a page, or 0
abbrev pub number_in : List Ahead → ℕ → ℕ
number_in [] page = 0
number_in (a ∷ more) page = max (cond (nat_eq a.page page) a.number 0) (number_in more page)

-- the greater of that and of its LSN
abbrev pub number_on : List Ahead → ℕ → List ℕ → ℕ
number_on ahead page image = max (lsn_of image) (number_in ahead page)

-- that is the number of each page but the superblock
abbrev pub AreNumbered : Sizes → List (List ℕ) → List Ahead → Type 0
AreNumbered z images ahead =
    (p : ℕ) → 1 ≤ p → p < page_count z → IsNumberOf z p (image_at images p) (number_on ahead p (image_at images p))
