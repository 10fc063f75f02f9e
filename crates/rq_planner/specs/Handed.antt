-- Levels that are handed in for a store.
use Rattle.std.specs.Prelude.{◌≡◌, ℕ, ◌<◌, ◌≤◌, List, Some, length}
use Rattle.std.specs.Coded.{le_prop}
use Rattle.rq_page.specs.Sizes.{Sizes, IsInRange}
use Rattle.rq_level.specs.LevelState.{LevelState, told_sizes}
use Rattle.rq_level.specs.Meaning.{kept_at, level_count, meaning_of}
use Rattle.rq_level.specs.Ready.{ready-prop}

-- there is one of each number, and each is ready for a store, whatever its sizes, once it is told them
pub record AreForStores (levels : List LevelState) : Type 0 where
  pub all : level_count ≤ length levels
  pub ready : (i : ℕ) (z : Sizes) (bytes : List ℕ) → i < length levels → IsInRange z → told_sizes bytes ≡ Some z
      → (meaning_of i).ready z ((meaning_of i).note (kept_at levels i) 1 bytes)

pub AreForStores-prop : (levels : List LevelState) → IsProp (AreForStores levels)
AreForStores-prop levels a b i = record {
  all = le_prop a.all b.all i;
  ready = λ n z bytes lt range told. ready-prop n z _ (a.ready n z bytes lt range told) (b.ready n z bytes lt range told) i;
}
