-- Pages that operations under way have fixed in their frames.
use Rattle.std.specs.Prelude.{◌≡◌, ℕ, ◌/◌, ◌≤◌, true, List, map, Result, Ok, Err}
use Rattle.rq_model.specs.declared.refusal.Refusal.{Refusal}
use Rattle.rq_model.specs.declared.refusal.Refusal.TheVariants as why
use Rattle.rq_level.specs.declared.writes.SlotWrite.{SlotWrite}
use Rattle.rq_txn.specs.Rows.{Row, latched_in}
use Rattle.rq_pool.specs.Held.{Held, IsFixed}
use Rattle.rq_pool.specs.Pooled.{Pooled}
use Rattle.rq_pool.specs.Want.{AreFramed, OutnumberFrames}
use Rattle.rq_sound.specs.Standing.{AreApart}

-- Each page behind the superblock is fixed in a frame exactly where an operation under way has latched it, and no two have latched
-- the same one.
pub record AreFixedAsLatched (rows : List Row) (frames : List Held) : Type 0 where
  pub fixed : (q : ℕ) → 1 ≤ q → latched_in rows q ≡ true → IsFixed frames q
  pub latched : (q : ℕ) → 1 ≤ q → IsFixed frames q → latched_in rows q ≡ true
  pub apart : AreApart rows

-- the pages of slot writes
abbrev pub pages_of : List SlotWrite → List ℕ
pages_of ws = map (λ w. w.at / 16) ws

-- Frames for these pages could be had where something began; where it was refused for them, they could not. Where a page was not
-- written out, one of these stood in no frame.
abbrev pub IsForFrames : {P X : Type 0} → Pooled P → ℕ → List ℕ → Result X Refusal → Type 0
IsForFrames pages forced ps (Ok x) = OutnumberFrames pages forced ps → ⊥
IsForFrames pages forced ps (Err why.PoolFull) = OutnumberFrames pages forced ps
IsForFrames pages forced ps (Err why.DiskWrite) = AreFramed pages.frames ps → ⊥
IsForFrames pages forced ps (Err _) = Unit {0}

-- Why what was planned does not begin: memory or frames are wanting, or a device failed. One that is honest gives no damage.
abbrev pub NotBegun : (honest : Type 0) → Refusal → Type 0
NotBegun honest why.NoMemory = Unit {0}
NotBegun honest why.PoolFull = Unit {0}
NotBegun honest why.DiskRead = Unit {0}
NotBegun honest why.DiskWrite = Unit {0}
NotBegun honest (why.Damaged d) = honest → ⊥
NotBegun honest _ = ⊥
