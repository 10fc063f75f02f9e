-- Whether frames can be had for the pages of what starts.
use Rattle.std.specs.Prelude.{◌≡◌, List, Option, None, Some, Result, Ok, Err}
use Rattle.rq_model.specs.declared.refusal.Refusal.{Refusal}
use Rattle.rq_model.specs.declared.refusal.Refusal.TheVariants as why
use Rattle.rq_model.specs.declared.txn.Sub.{Sub}
use Rattle.rq_level.specs.declared.writes.SlotWrite.{SlotWrite}
use Rattle.rq_txn.specs.Rows.{Under}
use Rattle.rq_pool.specs.Want.{AreFramed, OutnumberFrames}
use Rattle.rq_store.specs.State.{State}
use Rattle.rq_sound.specs.Plans.{AreUnlatched}
use Rattle.rq_engine.specs.Answers.{IsUnderWay}
use Rattle.rq_engine.specs.Frames.{pages_of}
use Rattle.rq_engine.specs.Opened.{OpenStore, pooled}

-- Frames for the pages of these writes cannot be had: they, and those that have to stay in frames, are more than the frames. What
-- has to stay is fixed there, or has an LSN that is not forced. The superblock and its frame are counted, too.
abbrev pub LacksFrames : {P L : Type 0} → OpenStore P L → List SlotWrite → Type 0
LacksFrames s ws = OutnumberFrames (pooled s) s.state.forced (pages_of ws)

-- the operation is under way, and frames for its pages could be had
abbrev pub HadFrames : {P L : Type 0} → OpenStore P L → Sub → State → Type 0
HadFrames old sub new = IsUnderWay new sub (λ r u. LacksFrames old u.writes → ⊥)

-- they cannot be had for some writes that may be planned
abbrev pub HasNoFrames : {P L : Type 0} → (MayBePlanned : List SlotWrite → Type 0) → OpenStore P L → Type 0
HasNoFrames MayBePlanned old = (ws : List SlotWrite) × LacksFrames old ws × MayBePlanned ws

-- one of the pages of some writes that may be planned stands in no frame
abbrev pub HasOneOutside : {P L : Type 0} → (MayBePlanned : List SlotWrite → Type 0) → OpenStore P L → Type 0
HasOneOutside MayBePlanned old = (ws : List SlotWrite) × (AreFramed old.frames (pages_of ws) → ⊥) × MayBePlanned ws

-- why a call was refused: as it says for want of frames, and as it says where a page could not be written out for others
abbrev pub OnFrames : Type 0 → Type 0 → Refusal → Type 0
OnFrames full outside why.PoolFull = full
OnFrames full outside why.DiskWrite = outside
OnFrames full outside _ = Unit {0}

abbrev pub RefusedForFrames : {P L : Type 0} → (MayBePlanned : List SlotWrite → Type 0) → OpenStore P L → Refusal → Type 0
RefusedForFrames MayBePlanned old r = OnFrames (HasNoFrames MayBePlanned old) (HasOneOutside MayBePlanned old) r

-- what the answer to a start tells of frames
abbrev pub StartHasFrames : {P L X : Type 0} → (MayBePlanned : List SlotWrite → Type 0) → OpenStore P L → Sub → Result X Refusal
    → State → Type 0
StartHasFrames MayBePlanned old sub (Ok x) new = HadFrames old sub new
StartHasFrames MayBePlanned old sub (Err r) new = RefusedForFrames MayBePlanned old r

-- and that to a start of a receive, or of an inverse
abbrev pub TakeHasFrames : {P L : Type 0} → (MayBePlanned : List SlotWrite → Type 0) → OpenStore P L → Result (Option Sub) Refusal
    → State → Type 0
TakeHasFrames MayBePlanned old (Ok None) new = Unit {0}
TakeHasFrames MayBePlanned old (Ok (Some sub)) new = HadFrames old sub new
TakeHasFrames MayBePlanned old (Err r) new = RefusedForFrames MayBePlanned old r

-- the writes of some operation that this is so of, on pages that nobody has latched
abbrev pub AreWritesOf : State → (IsPlan : Under → Type 0) → List SlotWrite → Type 0
AreWritesOf s IsPlan ws = (u : Under) × (u.writes ≡ ws) × AreUnlatched s ws × IsPlan u
