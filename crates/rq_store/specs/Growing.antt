-- A store that gets tag pages, and which pages count.
use Rattle.std.specs.Prelude.{◌≡◌, ℕ, ◌<◌, ◌≤◌, List}
use Rattle.rq_model.specs.declared.record.Record.{Record}
use Rattle.rq_page.specs.Sizes.{Sizes, IsInRange, page_count, with_tags}
use Rattle.rq_page.specs.Formatted.{IsFormatted}
use Rattle.rq_store.specs.Opening.{IsLeft}

-- The pages of a store that got so many tag pages. Its first page tells them, they stand behind the others as they are
-- formatted, and the others are as they were.
pub record IsGrown (z : Sizes) (n : ℕ) (old new : ℕ → List ℕ) : Type 0 where
  pub superblock : IsFormatted (with_tags n z) 0 (new 0)
  pub others : (p : ℕ) → 1 ≤ p → p < page_count z → new p ≡ old p
  pub added : (p : ℕ) → page_count z ≤ p → p < page_count (with_tags n z) → IsFormatted (with_tags n z) p (new p)

-- what was left of a store without tag pages is one that was left, with them, over the same log
abbrev pub StoresGrow : Type 0
StoresGrow =
    (z : Sizes) (n : ℕ) (log : List Record) (old new : ℕ → List ℕ) → IsInRange z → z.tags ≡ 0 → n ≤ 1024
    → IsLeft z old log → IsGrown z n old new → IsLeft (with_tags n z) new log

-- pages that agree where the store has pages are left alike
abbrev pub LeftByItsPages : Type 0
LeftByItsPages = (z : Sizes) (log : List Record) (old new : ℕ → List ℕ) → ((p : ℕ) → p < page_count z → new p ≡ old p)
    → IsLeft z old log → IsLeft z new log
