-- A restart that is under way: what a crash at each moment leaves of both devices, whichever of them its next call
-- changes.
use Rattle.std.specs.Prelude.{◌≡◌, ◌⊎◌, ℕ, List, Result, Ok, Err}
use Rattle.rq_model.specs.declared.record.Record.{Record}
use Rattle.rq_model.specs.Bases.{earlier}
use Rattle.rq_model.specs.Incarnations.{Extends}
use Rattle.rq_disk.specs.Device.{Images}
use Rattle.rq_disk.specs.declared.device.LogDevice as log_device
use Rattle.rq_disk.specs.declared.device.PageDevice as page_device
use Rattle.rq_log.specs.Spelled.{spelled, AreSpelled, EndsWith, GoOnTo}
use Rattle.rq_page.specs.Sizes.{Sizes, IsInRange}
use Rattle.rq_store.specs.Fitting.{AllFit}
use Rattle.rq_store.specs.Opening.{IsLeft}
use Rattle.rq_store.specs.Whole.{IsWhole}
use Rattle.rq_engine.specs.Opened.{OpenStore}
use Rattle.rq_engine.specs.Devices.{EachPair, Path}
use Rattle.rq_restart.specs.declared.restart.Report.{Report}
use Rattle.rq_restart.specs.declared.restart.Stopped.{Stopped}

-- these are the pages and the log of a store: a legal log, with a torn end perhaps, and pages that fit it
pub record IsStore (z : Sizes) (log : List Record) (images : Images) (bytes : List ℕ) : Type 0 where
  pub range : IsInRange z
  pub are_spelled : AreSpelled log
  pub is : EndsWith log bytes
  pub left : IsLeft z images log

-- of a log before whose Base these records stood
abbrev pub IsSomeStore : Sizes → List Record → Images → List ℕ → Type 0
IsSomeStore z e images bytes = (log : List Record) × IsStore z log images bytes × (earlier log ≡ e)

-- These bytes tell the log that was read with the first of plain records behind it. They are the first of all that these
-- spell or, as long as the end that was read is not cut off, of what was read.
pub record IsGoneOnWith (read : List Record) (seen : List ℕ) (now : List Record) (bytes : List ℕ) : Type 0 where
  pub more : Extends read now
  pub first : GoOnTo bytes seen ⊎ ((all : List Record) × AreSpelled all × Extends read all × GoOnTo bytes (spelled all))

-- a store, whose log a crash might have left before, or is what was read with plain records behind; the same records stood
-- before its Base
abbrev pub IsLeftOrGoesOn : {L : Type 0} → log_device.Ghosts L → L → Sizes → List Record → Images → List ℕ → Type 0
IsLeftOrGoesOn l log z read images bytes = (now : List Record) × IsStore z now images bytes × (earlier now ≡ earlier read)
    × (l.may_leave log bytes ⊎ IsGoneOnWith read (l.seen log) now bytes)

-- A restart on its way over honest devices. At each moment so far each pair that a crash left is such a store. Whatever one leaves of
-- the pages now fits these records. They are those that were read, with plain records behind, all on the log's device.
pub record IsOnWay {P L : Type 0} (p : page_device.Ghosts P) (l : log_device.Ghosts L) (pages : P) (log : L) (z : Sizes)
    (read kept : List Record) (now_pages : P) (now_log : L) : Type 0 where
  pub path : Path p l (IsLeftOrGoesOn l log z read) pages log now_pages now_log
  pub fit : AllFit (p.may_be now_pages) z kept
  pub range : IsInRange z
  pub whole : IsWhole z kept
  pub extends : Extends read kept
  pub told : AreSpelled kept
  pub reads : EndsWith kept (l.seen now_log)
  pub seen : (l.seen now_log ≡ l.seen log) ⊎ (l.seen now_log ≡ spelled kept)

-- where each pair that a crash might have left before is a store, over the same earlier records as the log of which this
-- was read, then so says Q
abbrev pub OfStores : {P L : Type 0} → page_device.Ghosts P → log_device.Ghosts L → P → L → P → L
    → (Sizes → List Record → Type 0) → Type 0
OfStores p l pages log new_pages new_log Q =
    p.honest new_pages → l.honest new_log → (z : Sizes) (read : List Record) → AreSpelled read → EndsWith read (l.seen log)
    → EachPair p l pages log (IsSomeStore z (earlier read)) → Q z read

-- both devices as a restart leaves them
abbrev pub pages_left : {P L : Type 0} → Result (OpenStore P L × Report) (Stopped P L) → P
pages_left (Ok opened) = opened.0.pages
pages_left (Err stopped) = stopped.pages

abbrev pub log_left : {P L : Type 0} → Result (OpenStore P L × Report) (Stopped P L) → L
log_left (Ok opened) = opened.0.log
log_left (Err stopped) = stopped.log
