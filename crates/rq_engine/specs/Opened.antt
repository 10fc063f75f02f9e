-- What contracts see of an engine.
use Rattle.std.specs.Prelude.{◌≡◌, ℕ, ◌+◌, ◌%◌, ◌^◌, ◌<◌, Bool, true, false, List, length, Option, Result, Ok, Err}
use Rattle.rq_model.specs.declared.refusal.Refusal.{Refusal}
use Rattle.rq_model.specs.declared.refusal.Refusal.TheVariants as why
use Rattle.rq_model.specs.declared.refusal.Damage.TheVariants as damage
use Rattle.rq_disk.specs.declared.device.LogDevice as log_device
use Rattle.rq_disk.specs.declared.device.PageDevice as page_device
use Rattle.rq_log.specs.Places.{IsPlace}
use Rattle.rq_pool.specs.declared.Written.{Written}
use Rattle.rq_pool.specs.Held.{Held}
use Rattle.rq_pool.specs.Pooled.{Pooled}
use Rattle.rq_pool.specs.Writing.{AnswersWhen}
use Rattle.rq_store.specs.State.{State}

-- An open store: its lists, its devices, of each page whether it was changed since it was read or written, and which pages stand
-- in frames. It also has whether a checkpoint has failed as it replaced the log. Where one has, a crash leaves the log as it was,
-- or as it was to be.
pub record OpenStore (P L : Type 0) : Type 0 where
  pub state : State
  -- the device of the pages
  pub pages : P
  -- the device of the log
  pub log : L
  pub changed : List Bool
  -- which page stands in each frame, and which one apart
  pub frames : List Held
  pub apart : Option ℕ
  pub replacing : Bool

-- both devices have been honest
abbrev pub AreHonest : {P L : Type 0} → page_device.Ghosts P → log_device.Ghosts L → OpenStore P L → Type 0
AreHonest p l s = p.honest s.pages × l.honest s.log

-- A call that needs no device leaves them alone, and which pages count as changed. The store keeps its number of frames.
abbrev pub LeavesDevices : {P L : Type 0} → OpenStore P L → OpenStore P L → Type 0
LeavesDevices old new = (new.pages ≡ old.pages) × (new.log ≡ old.log) × (new.changed ≡ old.changed)
    × (new.replacing ≡ old.replacing) × (length new.frames ≡ length old.frames)

-- its pages
abbrev pub pooled : {P L : Type 0} → OpenStore P L → Pooled P
pooled s = record {
  device = s.pages;
  sizes = s.state.sizes;
  images = s.state.images;
  changed = s.changed;
  frames = s.frames;
  apart = s.apart;
}

-- Why nothing was handed over or forced. The store had failed before, and nothing changes. Or the device of the log failed now,
-- as its count of failures tells.
abbrev pub NotWritten : {P L : Type 0} → log_device.Ghosts L → OpenStore P L → OpenStore P L → Refusal → Type 0
NotWritten g old new why.Failed = (old.state.failed ≡ true) × (new ≡ old)
NotWritten g old new why.DiskWrite = (old.state.failed ≡ false) × (g.faults new.log ≡ (g.faults old.log + 1) % 2 ^ 64)
NotWritten g old new _ = ⊥

-- Why no record was told of a place of the log. The store had failed, and nothing changes. Or the log's device failed now,
-- which was handed what stands there. Or it gave other bytes than that, or the place is none of the log's. Damage has no
-- number.
abbrev pub NotTold : {P L : Type 0} → log_device.Ghosts L → OpenStore P L → ℕ → OpenStore P L → Refusal → Type 0
NotTold g old place new why.Failed = (old.state.failed ≡ true) × (new ≡ old)
NotTold g old place new why.DiskRead = (old.state.failed ≡ false) × (g.faults new.log ≡ (g.faults old.log + 1) % 2 ^ 64)
    × (g.honest new.log → place < length (g.seen old.log))
NotTold g old place new (why.Damaged (damage.Record lsn)) = (old.state.failed ≡ false) × (lsn ≡ 0)
    × (g.faults new.log ≡ g.faults old.log) × (g.honest new.log → IsPlace old.state.records place → ⊥)
NotTold g old place new _ = ⊥

-- When a page that is to be written out is answered so. The store had failed before. Or the page has no change that was not
-- written. Or it has one, and the record of its last change is forced, or is not.
abbrev pub WritesWhen : {P L : Type 0} → OpenStore P L → ℕ → Result Written Refusal → Type 0
WritesWhen s page (Err why.Failed) = s.state.failed ≡ true
WritesWhen s page (Err r) = (s.state.failed ≡ false) × AnswersWhen (pooled s) page s.state.forced (Err r)
WritesWhen s page (Ok w) = (s.state.failed ≡ false) × AnswersWhen (pooled s) page s.state.forced (Ok w)

-- what it makes of the store: a device that failed stops it, and nothing else changes its lists
abbrev pub state_after : State → Result Written Refusal → State
state_after s (Err why.DiskWrite) = record s { failed = true }
state_after s _ = s
