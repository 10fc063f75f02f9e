-- The numbers of pages as they were read.
use Rattle.std.specs.Prelude.{◌↔◌, ℕ, ◌<◌, ◌≤◌, List}
use Rattle.rq_disk.specs.Device.{Images}
use Rattle.rq_model.specs.declared.refusal.Refusal.{Refusal}
use Rattle.rq_model.specs.declared.refusal.Refusal.TheVariants as why
use Rattle.rq_model.specs.declared.refusal.Damage.TheVariants as damage
use Rattle.rq_page.specs.Sizes.{Sizes, page_count}
use Rattle.rq_pool.specs.declared.ahead.Ahead.{Ahead}
use Rattle.rq_pool.specs.Numbered.{number_on}
use Rattle.rq_store.specs.Opening.{IsCounted}
use Rattle.rq_restart.specs.Repeating.{IsFirstUncounted}

-- Of each page but the superblock its LSN, and what is told beside it, are within so many records exactly where all numbers in it are.
abbrev pub AreNumbersOf : Sizes → Images → List Ahead → Type 0
AreNumbersOf z pages ahead =
    (p count : ℕ) → 1 ≤ p → p < page_count z → (number_on ahead p (pages p) ≤ count) ↔ IsCounted z count p (pages p)

-- none of those of the pages before this one is beyond so many records
abbrev pub NoneBeyond : ℕ → List Ahead → Images → ℕ → Type 0
NoneBeyond records ahead pages page = (p : ℕ) → 1 ≤ p → p < page → number_on ahead p (pages p) ≤ records

-- the first page, but for the superblock, with a number beyond so many records
pub record IsFirstBeyond (z : Sizes) (records : ℕ) (ahead : List Ahead) (pages : Images) (page : ℕ) : Type 0 where
  pub low : 1 ≤ page
  pub high : page < page_count z
  pub beyond : records < number_on ahead page (pages page)
  pub first : NoneBeyond records ahead pages page

-- the refusal names the first page with a number beyond so many records
abbrev pub NamesFirst : Sizes → ℕ → Images → Refusal → Type 0
NamesFirst z records first (why.Damaged (damage.Page page)) = IsFirstUncounted z records first page
NamesFirst z records first _ = ⊥
