-- The headline: what a course tells, and what a crash at its end leaves.
use Rattle.std.specs.Prelude.{◌≡◌, ℕ, List, [], ◌∷◌, ◌++◌, length, true, Option}
use Rattle.rq_model.specs.declared.record.Record.{Record}
use Rattle.rq_model.specs.declared.txn.Txn.{Txn}
use Rattle.rq_model.specs.Vocabulary.{In}
use Rattle.rq_model.specs.History.{Entry, commits}
use Rattle.rq_model.specs.History.Entry.{Acknowledged, Committed}
use Rattle.rq_model.specs.Growth.{Growth, IsGrownBy, growth}
use Rattle.rq_model.specs.Legal.{IsLegal}
use Rattle.rq_model.specs.Tests.{grown_at}
use Rattle.rq_model.specs.Promises.{FifoThroughout, EndsBy, crash_with}
use Rattle.rq_disk.specs.Device.{Images}
use Rattle.rq_disk.specs.declared.device.LogDevice as log_device
use Rattle.rq_disk.specs.declared.device.PageDevice as page_device
use Rattle.rq_page.specs.Sizes.{Sizes, with_tags}
use Rattle.rq_store.specs.State.{size_of}
use Rattle.rq_engine.specs.Devices.{EachPair}
use Rattle.rq_restart.specs.Underway.{IsStore}
use Rattle.rq_core.specs.Happenings.{Answer, Course, Tells}
use Rattle.rq_core.specs.Happenings.Answer.{Crashed}

-- each commit that was acknowledged by a receipt anywhere in the history is among its commits
abbrev pub AcknowledgedAreKept : List Entry → Type 0
AcknowledgedAreKept h = (newer older : List Entry) (t : Txn) (lsn : ℕ) → newer ++ (Acknowledged t lsn true ∷ older) ≡ h
    → In (Committed t lsn) older → In t (commits h)

-- the sizes of a store behind a history, which was formatted with these: a migration gave it tag pages
abbrev pub sizes_at : Sizes → List Entry → Sizes
sizes_at z h = grown_at with_tags z h

module _ {P L : Type 0} (p : page_device.Ghosts P) (l : log_device.Ghosts L) (z : Sizes) where
  -- These are the pages and the log of a store, for some records that stood before its Base. The crash that leaves them may end the
  -- history, with the tag pages that a migration has given the store.
  pub record EndsHistory (g : Growth) (h : List Entry) (images : Images) (bytes : List ℕ) : Type 0 where
    pub tags : Option ℕ
    pub left : IsGrownBy g tags
    pub now : List Record
    pub store : IsStore (sizes_at z (crash_with tags (length now) h ∷ h)) now images bytes
    pub ends : EndsBy tags (size_of z) h now

  -- Whatever a crash now leaves of both devices is such a store. Its content is that of the commits that it keeps.
  abbrev pub LeavesStores : Growth → List Entry → P → L → Type 0
  LeavesStores g h pages log = EachPair p l pages log (EndsHistory g h)

  -- and each commit that was acknowledged is among those that it keeps
  abbrev pub LeavesAcknowledged : List Entry → P → L → Type 0
  LeavesAcknowledged h pages log = EachPair p l pages log (λ images bytes. (e : EndsHistory (growth h) h images bytes)
      × AcknowledgedAreKept (crash_with e.tags (length e.now) h ∷ h))

  -- after a crash that left so many records, whatever a crash now leaves are exactly so many, with those before the Base
  abbrev pub LeftBy : List Entry → Answer → P → L → Type 0
  LeftBy h (Crashed n) pages log = EachPair p l pages log (λ images bytes. (now : List Record)
      × IsStore (sizes_at z h) now images bytes × (length now ≡ n))
  LeftBy h _ pages log = Unit {0}

  abbrev pub LeftLast : List Entry → Course → P → L → Type 0
  LeftLast h [] pages log = Unit {0}
  LeftLast h (a ∷ course) pages log = LeftBy h a.1 pages log

  -- What is so of every course, with both devices as they are at its end. Its answers tell a history, for some choice of the groups
  -- that were picked, and of which migrations came through that were cut off or refused by a device. In it each reply is legal, each
  -- crash keeps what it must, and each restart opens what was left. At every place of it what committed transactions took from a
  -- sender is a beginning of what they sent for it; an acknowledged commit stays.
  pub record IsHeadline (course : Course) (pages : P) (log : L) : Type 0 where
    pub history : List Entry
    pub tells : Tells course history
    pub legal : IsLegal (size_of z) history
    pub order : FifoThroughout history
    pub acknowledged : AcknowledgedAreKept history
    pub leaves : LeavesAcknowledged history pages log
    pub left : LeftLast history course pages log
