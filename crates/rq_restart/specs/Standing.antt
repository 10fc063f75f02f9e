-- A restart of a store on its way: what stands on both devices, and what pages and log are by then.
use Rattle.std.specs.Prelude.{◌≡◌, ℕ, ◌≤◌, List}
use Rattle.rq_model.specs.declared.record.Record.{Record}
use Rattle.rq_model.specs.Bases.{earlier}
use Rattle.rq_model.specs.Incarnations.{Extends}
use Rattle.rq_disk.specs.Device.{Images}
use Rattle.rq_disk.specs.declared.device.LogDevice as log_device
use Rattle.rq_disk.specs.declared.device.PageDevice as page_device
use Rattle.rq_log.specs.Logged.{Logged}
use Rattle.rq_log.specs.Reading.{LogRead}
use Rattle.rq_log.specs.Spelled.{EndsWith}
use Rattle.rq_page.specs.Sizes.{Sizes}
use Rattle.rq_pool.specs.Held.{Held, IsFixed}
use Rattle.rq_pool.specs.Pooled.{Pooled}
use Rattle.rq_store.specs.Opening.{IsLeft}
use Rattle.rq_store.specs.State.{State}
use Rattle.rq_sound.specs.Sound.{IsSound}
use Rattle.rq_analysis.specs.Recovered.{IsRecovering}
use Rattle.rq_engine.specs.Devices.{Path}
use Rattle.rq_engine.specs.Earlier.{rebased}
use Rattle.rq_restart.specs.Aborting.{IsOnItsWay}
use Rattle.rq_restart.specs.Past.{IsPast}
use Rattle.rq_restart.specs.Repeating.{Repeats, paged}
use Rattle.rq_restart.specs.Underway.{IsLeftOrGoesOn, IsOnWay}

-- no page behind the superblock is fixed in a frame
abbrev pub NoneHeld : List Held → Type 0
NoneHeld frames = (page : ℕ) → 1 ≤ page → IsFixed frames page → ⊥

-- a store as a restart found it: both devices, the sizes, the log, and the images of the pages
pub record Found (P L : Type 0) : Type 0 where
  pub pages : P
  pub log : L
  pub sizes : Sizes
  pub read : List Record
  pub images : Images

module _ {P L : Type 0} (p : page_device.Ghosts P) (l : log_device.Ghosts L) (f : Found P L) where
  -- what stood before the Base of its log
  abbrev pub before : List Record
  before = earlier f.read

  -- at each moment so far, each pair that a crash left is a store of it
  abbrev pub KeepsStore : P → L → Type 0
  KeepsStore pages log = Path p l (IsLeftOrGoesOn l f.log f.sizes f.read) f.pages f.log pages log

  -- The pages are as the log leaves them, which is that of the store with plain records behind. Whatever a crash leaves of both
  -- devices now is such a store.
  pub record Stands (pages : Pooled P) (log : Logged L) : Type 0 where
    pub sizes : pages.sizes ≡ f.sizes
    pub left : IsLeft f.sizes f.images f.read
    pub kept : List Record
    pub on : IsOnWay p l f.pages f.log f.sizes f.read kept pages.device log.device
    pub front : Extends kept (rebased before log.records)
    pub past : IsPast before log.records
    pub repeated : Repeats f.sizes log.records f.images (paged pages)

  -- and lost transactions are being undone, so that some store is shown on its way
  pub record StandsOver (shown : List Record → State → Type 0) (pages : Pooled P) (log : Logged L) : Type 0 where
    pub stands : Stands pages log
    pub base : State
    pub sound : IsSound base
    pub same : base.sizes ≡ f.sizes
    pub is : shown before base
    pub ways : (last : List Record) → IsOnItsWay base last → IsRecovering f.sizes f.read last

  -- the same while the log is read: what was read of it is repeated on the pages. What a crash leaves of them fits the whole log.
  pub record StandsRead (pages : Pooled P) (reader : LogRead L) : Type 0 where
    pub sizes : pages.sizes ≡ f.sizes
    pub left : IsLeft f.sizes f.images f.read
    pub on : IsOnWay p l f.pages f.log f.sizes f.read f.read pages.device reader.device
    pub reads : EndsWith f.read (l.seen reader.first)
    pub repeated : Repeats f.sizes reader.records f.images (paged pages)
