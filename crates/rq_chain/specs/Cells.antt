-- Which cells may be taken, and what an index by pages and runs of pages keeps of that.
use Rattle.std.specs.Prelude.{◌≡◌, ℕ, ◌/◌, ◌<◌, ◌≤◌, ◌&&◌, not, Bool, true, false, List, length, slice_set}
use Rattle.rq_page.specs.Sizes.{Sizes, cell_at}
use Rattle.rq_level.specs.Given.{has_page}
use Rattle.rq_level.specs.LevelState.{flag_at}

-- by their places, whether cells are free, and whether plans have chosen them
pub record Flags : Type 0 where
  pub free : List Bool
  pub reserved : List Bool

-- the cell is free, and no plan has chosen it
abbrev pub is_open : Flags → ℕ → Bool
is_open f i = flag_at f.free i && not (flag_at f.reserved i)

abbrev pub noted_flags : Flags → ℕ → Bool → Flags
noted_flags f i free = record { free = slice_set f.free i free; reserved = slice_set f.reserved i false }

abbrev pub reserved_flags : Flags → ℕ → Flags
reserved_flags f i = record { free = f.free; reserved = slice_set f.reserved i true }

-- no cell of this page may be taken
abbrev pub NoneInPage : Flags → ℕ → Type 0
NoneInPage f page = (i : ℕ) → i / 15 ≡ page → is_open f i ≡ false

-- The index: a page that is not marked has no cell to take. One that is marked may have none either.
pub record IsIndexed (f : Flags) (pages : List Bool) : Type 0 where
  pub cells : length f.free ≡ 983040
  pub reserved : length f.reserved ≡ 983040
  pub page_count : length pages ≡ 65536
  pub paged : (i : ℕ) → is_open f i ≡ true → flag_at pages (i / 15) ≡ true

-- the cell may be taken, and its page is not latched
abbrev pub takes : Sizes → Flags → List ℕ → ℕ → Bool
takes z f latched i = flag_at f.free i && (not (flag_at f.reserved i) && not (has_page (cell_at z i / 16) latched))

-- the lowest such cell of these pages, from one on and below another
pub record IsLowestIn (z : Sizes) (f : Flags) (latched : List ℕ) (from to i : ℕ) : Type 0 where
  pub low : from ≤ i / 15
  pub high : i / 15 < to
  pub takes_it : takes z f latched i ≡ true
  pub others : (j : ℕ) → from ≤ j / 15 → j < i → takes z f latched j ≡ false

abbrev pub NoneToTakeIn : Sizes → Flags → List ℕ → (from to : ℕ) → Type 0
NoneToTakeIn z f latched from to = (i : ℕ) → from ≤ i / 15 → i / 15 < to → takes z f latched i ≡ false
