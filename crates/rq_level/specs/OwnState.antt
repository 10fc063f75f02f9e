-- What a level keeps of a store's slots, beside what it would keep of them read anew.
use Rattle.std.specs.Prelude.{◌≡◌, ◌≢◌, ◌==◌, if◌then◌else◌, nat_eq, not, ℕ, List, ◌++◌, All}
use Rattle.std.specs.List.{filter}
use Rattle.rq_model.specs.Vocabulary.{In}
use Rattle.rq_level.specs.Asked.{noted_each, written_at}
use Rattle.rq_level.specs.LevelState.{LevelState}
use Rattle.rq_level.specs.Meaning.{Meaning, OfPlans, OfBacks}

-- the slots, one of them with other bytes
abbrev pub with_bytes : (ℕ → List ℕ) → ℕ → List ℕ → ℕ → List ℕ
with_bytes q a x b = if b == a then x else q b

abbrev pub without : ℕ → List ℕ → List ℕ
without a places = filter (λ b. not (nat_eq b a)) places

-- Note the slots that are left. The level then keeps what it would, had each slot been noted once since the opening, as
-- it is.
abbrev pub IsAnew : Meaning → LevelState → List ℕ → LevelState → (ℕ → List ℕ) → List ℕ → Type 0
IsAnew m opened all k q left = noted_each m q left k ≡ noted_each m q all opened

abbrev pub AreAmong : List ℕ → List ℕ → Type 0
AreAmong all places = All (λ a. In a all) places

-- A plan leaves its slots to be noted, and nothing else. A slot that is written and noted is not left any more. So with
-- none left a level keeps what the slots, read anew, would give. The slot that tells the sizes is not among them.
pub record KeepsAnew (m : Meaning) (opened : LevelState) (all : List ℕ) : Type 0 where
  pub plans : (q : ℕ → List ℕ) (left : List ℕ) → OfPlans m (λ k job given latched p after. AreAmong all left
      → AreAmong all (written_at p) → IsAnew m opened all k q left → IsAnew m opened all after q (written_at p ++ left))
  pub undoes : (q : ℕ → List ℕ) (left : List ℕ) → OfBacks m (λ k told given latched p after. AreAmong all left
      → AreAmong all (written_at p) → IsAnew m opened all k q left → IsAnew m opened all after q (written_at p ++ left))
  pub notes : (k : LevelState) (q : ℕ → List ℕ) (left : List ℕ) (a : ℕ) (x : List ℕ) → AreAmong all left → In a all
      → IsAnew m opened all k q left → IsAnew m opened all (m.note k a x) (with_bytes q a x) (without a left)

abbrev pub OwnStateIsAnew : Meaning → Type 0
OwnStateIsAnew m = (opened : LevelState) (all : List ℕ) → All (λ a. a ≢ 1) all → KeepsAnew m opened all
