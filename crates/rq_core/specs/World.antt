-- What is so of a store between two happenings.
use Rattle.std.specs.Prelude.{◌≡◌, ◌⊎◌, false, true, ℕ, List, [], length, Option, None, Some}
use Rattle.rq_model.specs.declared.record.Record.{Record}
use Rattle.rq_model.specs.History.{Entry}
use Rattle.rq_model.specs.Incarnations.{Extends, Ties}
use Rattle.rq_model.specs.Growth.{Growth, IsGrownBy, IsOfMigration, MayStand, growth}
use Rattle.rq_model.specs.Growth.Growth.{Grows, Stays}
use Rattle.rq_model.specs.Ledger.{Ledger, ledger}
use Rattle.rq_model.specs.Ledger.Phase.{Shut}
use Rattle.rq_model.specs.Legal.{IsLegal}
use Rattle.rq_disk.specs.Device.{Images}
use Rattle.rq_disk.specs.declared.device.LogDevice as log_device
use Rattle.rq_disk.specs.declared.device.PageDevice as page_device
use Rattle.rq_page.specs.Sizes.{Sizes, IsInRange}
use Rattle.rq_store.specs.State.{State, ledger_of, size_of}
use Rattle.rq_sound.specs.Calls.{checkpointed}
use Rattle.rq_sound.specs.Sound.{IsSound}
use Rattle.rq_engine.specs.Crash.{AreFit, IsCut}
use Rattle.rq_engine.specs.Migration.{IsCutGrown, MayGetTags}
use Rattle.rq_engine.specs.Devices.{EachPair}
use Rattle.rq_engine.specs.Earlier.{IsEarlier, on, over}
use Rattle.rq_engine.specs.Opened.{OpenStore}
use Rattle.rq_restart.specs.Underway.{IsStore}
use Rattle.rq_core.specs.Headline.{LeavesStores, LeftLast, sizes_at}
use Rattle.rq_core.specs.Happenings.{Happening, Course, Tells, EndsWithoutCrash, MayCrashIt, growth_in}

-- a store is shut, with both devices as it was left, or open
pub data World (P L : Type 0) : Type 0 where
  Is_shut : (pages : P) (log : L) → World P L
  Is_open : (engine : OpenStore P L) → World P L

-- the records that were left, with what a restart that was stopped has added behind
abbrev pub IsOver : Sizes → List Record → Images → List ℕ → Type 0
IsOver z older images bytes = (now : List Record) × Extends older now × IsStore z now images bytes

-- With tag pages one record for all is left. That of a migration which was answered is among the store's.
abbrev pub IsCutTagged : Growth → ℕ → State → Images → List ℕ → Type 0
IsCutTagged (Grows pages) n s images bytes = (s.forced ≡ length s.records) × IsCutGrown n s images bytes
IsCutTagged _ n s images bytes = IsCutGrown n (checkpointed s) images bytes

-- What a crash leaves of a store, by whether tag pages are left that it had not: a cut of it. Or of one record for all, where it may
-- stand. Or with the tag pages, which it could get.
abbrev pub IsCutBy : Growth → Ledger → Option ℕ → State → Images → List ℕ → Type 0
IsCutBy g l None s images bytes = IsCut s images bytes ⊎ (MayStand g l × IsCut (checkpointed s) images bytes)
IsCutBy g l (Some n) s images bytes = (s.rows ≡ []) × MayGetTags n s × IsCutTagged g n s images bytes

-- A crash behind a history with this ledger may be told, without tag pages, or with those of a migration.
abbrev pub MayBeTold : Option ℕ → Growth → Ledger → Type 0
MayBeTold None g l = IsGrownBy g None
MayBeTold (Some n) g l = IsOfMigration g l n

module _ {P L : Type 0} (p : page_device.Ghosts P) (l : log_device.Ghosts L) where
  abbrev pub LeftBehind : List Entry → Growth → State → P → L → Type 0
  LeftBehind h g s pages log = EachPair p l pages log (λ images bytes. (tags : Option ℕ) × IsGrownBy g tags
      × MayBeTold tags (growth h) (ledger h) × IsCutBy (growth h) (ledger h) tags s images bytes)

module _ {P L : Type 0} (p : page_device.Ghosts P) (l : log_device.Ghosts L) (z : Sizes) where
  -- whatever a crash leaves of a store that is shut is a store, over the log that the history tells
  pub record IsShut (h : List Entry) (pages : P) (log : L) : Type 0 where
    pub range : IsInRange (sizes_at z h)
    pub phase : (ledger h).phase ≡ Shut
    -- the whole log, with what stood before its Base
    pub older : List Record
    pub ties : Ties (ledger h) older
    pub left : EachPair p l pages log (IsOver (sizes_at z h) older)

  -- Its pages fit what is forced. No checkpoint or migration has failed for a device, and none was answered that a crash is to tell.
  pub record IsWritten (h : List Entry) (past : List Record) (engine : OpenStore P L) : Type 0 where
    pub untried : engine.replacing ≡ false
    pub stays : growth h ≡ Stays
    pub fit : AreFit p (over past engine)

  -- A checkpoint or a migration has failed for a device, which stopped the store, or a migration has stopped it. Whatever a crash
  -- leaves is a cut of it, or of what that was to make.
  pub record IsHalfMade (h : List Entry) (past : List Record) (engine : OpenStore P L) : Type 0 where
    pub failed : engine.state.failed ≡ true
    pub none_open : engine.state.rows ≡ []
    pub leaves : LeftBehind p l h (growth h) (on past engine.state) engine.pages engine.log

  -- an open store, with the records that stood before its Base, goes back to a legal log, and stands where the history ends
  pub record IsOpen (h : List Entry) (engine : OpenStore P L) : Type 0 where
    pub sizes : engine.state.sizes ≡ sizes_at z h
    pub past : List Record
    pub long : IsEarlier past engine.state
    pub ledger : ledger_of (on past engine.state) ≡ ledger h
    pub sound : IsSound (on past engine.state)
    pub devices : IsWritten h past engine ⊎ IsHalfMade h past engine

  abbrev pub Stands : List Entry → World P L → Type 0
  Stands h (Is_shut pages log) = IsShut h pages log
  Stands h (Is_open engine) = IsOpen h engine

  -- where the last happening was a crash, its records are those that are left; and no store is open then
  abbrev pub IsCounted : List Entry → Course → World P L → Type 0
  IsCounted h course (Is_shut pages log) = LeftLast p l z h course pages log
  IsCounted h course (Is_open engine) = EndsWithoutCrash course

  -- For some choice of the groups that were picked the course tells a legal history, and the world stands where it
  -- ends.
  pub record Ran (course : Course) (world : World P L) : Type 0 where
    pub history : List Entry
    pub tells : Tells course history
    pub legal : IsLegal (size_of z) history
    pub stands : Stands history world
    pub counted : IsCounted history course world

  -- The course tells a legal history, which this happening may end with a crash of both devices, whatever that leaves.
  pub record CanCrash (course : Course) (x : Happening) (pages : P) (log : L) : Type 0 where
    pub history : List Entry
    pub tells : Tells course history
    pub legal : IsLegal (size_of z) history
    pub range : IsInRange (sizes_at z history)
    pub may : MayCrashIt x (ledger history).phase
    pub leaves : LeavesStores p l z (growth_in x (growth history)) history pages log
