-- What a crash leaves of an open store.
use Rattle.std.specs.Prelude.{◌≡◌, false, ℕ, ◌+◌, ◌≤◌, List, length, take, drop}
use Rattle.rq_disk.specs.Device.{Images}
use Rattle.rq_disk.specs.declared.device.LogDevice as log_device
use Rattle.rq_disk.specs.declared.device.PageDevice as page_device
use Rattle.rq_log.specs.Spelled.{spelled, AreSpelled, EndsWith, GoOnTo}
use Rattle.rq_model.specs.declared.record.Record.{Record}
use Rattle.rq_model.specs.Content.{content}
use Rattle.rq_model.specs.Commits.{committed_of}
use Rattle.rq_model.specs.Incarnations.{incarnation_of}
use Rattle.rq_model.specs.Ledger.{group_in, kept_in}
use Rattle.rq_store.specs.State.{State, ledger_of}
use Rattle.rq_store.specs.Fitting.{oldest, AllFit}
use Rattle.rq_store.specs.Opening.{IsLeft}
use Rattle.rq_engine.specs.Devices.{EachPair, Path}
use Rattle.rq_sound.specs.Sound.{IsSound}
use Rattle.rq_engine.specs.Opened.{AreHonest, OpenStore}
use Rattle.rq_engine.specs.Earlier.{IsEarlier, on, over}

-- whatever images a crash now may leave of the pages, they fit the forced records
abbrev pub AreFit : {P L : Type 0} → page_device.Ghosts P → OpenStore P L → Type 0
AreFit p s = AllFit (p.may_be s.pages) s.state.sizes (oldest s.state.forced s.state.records)

-- how many commits stand in what is left of a log that loses its newest records
abbrev pub commits_left : List Record → ℕ → ℕ
commits_left log lost = kept_in (length (drop lost log)) (committed_of log)

-- These are the pages and the log of a store that was left so. The log is the first bytes of the store's records. They are its
-- first records, with a torn end perhaps, of the next. All that are forced are among them, and the one that began the
-- incarnation. The pages of the store fit them. Its content is that of the first commits, with all that no crash may take.
pub record IsCut (s : State) (images : Images) (bytes : List ℕ) : Type 0 where
  pub lost : ℕ
  pub forced : lost + s.forced ≤ length s.records
  pub incarnation : s.incarnation ≤ incarnation_of (drop lost s.records)
  pub told : AreSpelled (drop lost s.records)
  pub spells : EndsWith (drop lost s.records) bytes
  pub begins : GoOnTo bytes (spelled s.records)
  pub store : IsLeft s.sizes images (drop lost s.records)
  pub durable : (ledger_of s).durable ≤ commits_left s.records lost
  pub content : (g : ℕ) → content (drop lost s.records) g
      ≡ group_in (take (commits_left s.records lost) (committed_of s.records)) g

-- whatever a crash now leaves of both devices
abbrev pub LeavesCut : {P L : Type 0} → page_device.Ghosts P → log_device.Ghosts L → OpenStore P L → Type 0
LeavesCut p l s = EachPair p l s.pages s.log (IsCut s.state)

-- whatever a crash at any moment from the older store to the newer leaves of them: of the older one's records
abbrev pub RunsThroughCuts : {P L : Type 0} → page_device.Ghosts P → log_device.Ghosts L → OpenStore P L
    → OpenStore P L → Type 0
RunsThroughCuts p l old new = Path p l (IsCut old.state) old.pages old.log new.pages new.log

-- Of a sound store over honest devices whose pages fit, whatever the earlier records were. No failed call may have replaced its log.
-- The pages fit after the call, and a crash at any moment of it leaves such a cut.
pub record StaysFit {P L : Type 0} (p : page_device.Ghosts P) (l : log_device.Ghosts L) (old new : OpenStore P L) : Type 0 where
  pub fit : AreFit p new
  pub crash : RunsThroughCuts p l old new

abbrev pub KeepsFit : {P L : Type 0} → page_device.Ghosts P → log_device.Ghosts L → OpenStore P L → OpenStore P L → Type 0
KeepsFit p l old new = old.replacing ≡ false → AreHonest p l new → (e : List Record) → IsEarlier e old.state → IsSound (on e old.state)
    → AreFit p (over e old) → StaysFit p l (over e old) (over e new)
