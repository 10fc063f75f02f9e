-- Which cells a level knows as chosen while a plan has not started, and how it comes to know a store's cells.
use Rattle.std.specs.Prelude.{◌≡◌, ◌⊎◌, ℕ, ◌/◌, ◌+◌, ◌<◌, ◌≤◌, true, false, not, List, [], ◌∷◌, length, Some, Ok, Err}
use Rattle.rq_model.specs.declared.refusal.Refusal.{Refusal}
use Rattle.rq_model.specs.declared.record.Record.{Record}
use Rattle.rq_model.specs.Vocabulary.{has_number}
use Rattle.rq_page.specs.Sizes.{Sizes, cell_at, cell_count}
use Rattle.rq_page.specs.Slots.{held_in}
use Rattle.rq_views.specs.Log.{Slots}
use Rattle.rq_views.specs.Stored.{IsStoreSlot, is_used}
use Rattle.rq_level.specs.ChainPlans.{chain_plans, chain_undoes}
use Rattle.rq_level.specs.declared.slots.Given.{Given}
use Rattle.rq_level.specs.declared.writes.Plan.{Plan}
use Rattle.rq_level.specs.declared.writes.SlotWrite.{SlotWrite}
use Rattle.rq_level.specs.LevelState.{LevelState, flag_at, noted}
use Rattle.rq_level.specs.Ops.{Job}
use Rattle.rq_groups.specs.Ends.{HeldEnds}
use Rattle.rq_txn.specs.Rows.{AreDistinct, Row, Under}
use Rattle.rq_store.specs.State.{State}
use Rattle.rq_sound.specs.Calls.{IsIdle, started}
use Rattle.rq_sound.specs.Groups.{slots_now}
use Rattle.rq_sound.specs.Levels.{KeepsCells, to_write}

-- where the first write of a plan goes: a cell that it takes
abbrev pub first_place : List SlotWrite → List ℕ
first_place [] = []
first_place (w ∷ ws) = w.at ∷ []

-- The level knows the cells, but that those at these addresses may be chosen too: a plan is to write there that has not
-- started.
pub record KeepsBeside (s : State) (k : LevelState) (planned : List ℕ) : Type 0 where
  pub sizes : k.sizes ≡ Some s.sizes
  pub free_count : cell_count s.sizes ≤ length k.free
  pub chosen_count : cell_count s.sizes ≤ length k.reserved
  pub free : (i : ℕ) → i < cell_count s.sizes
      → flag_at k.free i ≡ not (is_used (slots_now s (cell_at s.sizes i)))
  pub chosen : (i : ℕ) → i < cell_count s.sizes → flag_at k.reserved i ≡ true
      → (to_write s.rows (cell_at s.sizes i) ≡ true) ⊎ (has_number (cell_at s.sizes i) planned ≡ true)

-- A plan, or its refusal, leaves the level knowing the cells, but for the one that the plan chose. Where the plan starts,
-- that one is to be written. Where it does not, its slot is noted as it is, and the level knows the cells again.
pub record PlannedCellsAreKept : Type 0 where
  pub plans : (s : State) (k : LevelState) (job : Job) (given : List Given) (latched : List ℕ) (p : Plan) (after : LevelState)
      → KeepsCells s k → chain_plans k job given latched (Ok p) after → KeepsBeside s after (first_place p.writes.items)
  pub refuses : (s : State) (k : LevelState) (job : Job) (given : List Given) (latched : List ℕ) (r : Refusal) (after : LevelState)
      → KeepsCells s k → chain_plans k job given latched (Err r) after → KeepsCells s after
  pub undoes : (s : State) (k : LevelState) (told : Record) (given : List Given) (latched : List ℕ) (p : Plan) (after : LevelState)
      → KeepsCells s k → chain_undoes k told given latched (Ok p) after → KeepsBeside s after (first_place p.writes.items)
  pub refuses_undo : (s : State) (k : LevelState) (told : Record) (given : List Given) (latched : List ℕ) (r : Refusal)
      (after : LevelState) → KeepsCells s k → chain_undoes k told given latched (Err r) after → KeepsCells s after
  pub starts : (s : State) (r : Row) (u : Under) (ends : HeldEnds) (k : LevelState) → AreDistinct s.rows → IsIdle s r
      → u.made ≡ 0 → KeepsBeside s k (first_place u.writes) → KeepsCells (started s r u ends) k
  pub notes : (s : State) (k : LevelState) (a : ℕ) (bytes : List ℕ) (planned : List ℕ) → IsStoreSlot s.sizes a
      → slots_now s a ≡ held_in s.sizes (a / 16) bytes → KeepsBeside s k (a ∷ planned)
      → KeepsBeside s (noted k a bytes) planned
  pub given_back : (s : State) (k : LevelState) → KeepsBeside s k [] → KeepsCells s k

-- The level was told the sizes, and knows of the first cells what the slots say; it has chosen none of them.
pub record KnowsFirst (z : Sizes) (q : Slots) (k : LevelState) (count : ℕ) : Type 0 where
  pub sizes : k.sizes ≡ Some z
  pub free_count : cell_count z ≤ length k.free
  pub chosen_count : cell_count z ≤ length k.reserved
  pub free : (i : ℕ) → i < count → i < cell_count z → flag_at k.free i ≡ not (is_used (q (cell_at z i)))
  pub chosen : (i : ℕ) → i < count → i < cell_count z → flag_at k.reserved i ≡ false

-- A level that is told the sizes, and then each slot as it is, knows the cells of a store with nothing under way.
pub record NotedCellsAreKnown : Type 0 where
  pub told : (z : Sizes) (q : Slots) (k : LevelState) → k.sizes ≡ Some z → cell_count z ≤ length k.free
      → cell_count z ≤ length k.reserved → KnowsFirst z q k 0
  pub notes : (z : Sizes) (q : Slots) (k : LevelState) (count a : ℕ) (bytes : List ℕ) → IsStoreSlot z a
      → q a ≡ held_in z (a / 16) bytes → KnowsFirst z q k count → KnowsFirst z q (noted k a bytes) count
  pub notes_next : (z : Sizes) (q : Slots) (k : LevelState) (count : ℕ) (bytes : List ℕ) → count < cell_count z
      → q (cell_at z count) ≡ held_in z (cell_at z count / 16) bytes → KnowsFirst z q k count
      → KnowsFirst z q (noted k (cell_at z count) bytes) (count + 1)
  pub all : (s : State) (k : LevelState) → KnowsFirst s.sizes (slots_now s) k (cell_count s.sizes) → KeepsCells s k
