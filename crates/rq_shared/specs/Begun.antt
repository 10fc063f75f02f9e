-- What a sharing began with, and how the calls whose entries were taken led on from there.
use Rattle.std.specs.Prelude.{◌≡◌, ℕ, List, length}
use Rattle.rq_model.specs.declared.record.Record.{Record}
use Rattle.rq_store.specs.State.{State}
use Rattle.rq_sound.specs.Sound.{IsSound}
use Rattle.rq_disk.specs.declared.device.LogDevice as log_device
use Rattle.rq_disk.specs.declared.device.PageDevice as page_device
use Rattle.rq_engine.specs.Earlier.{IsEarlier, IsSoundOver, on, unknown}
use Rattle.rq_engine.specs.Opened.{AreHonest}
use Rattle.rq_shared.specs.Entries.{Audited, LeadsOver, Noted}

-- From this store so many calls led to that one, whatever the earlier records were with which the first was sound.
pub record IsLedFrom (first : State) (calls : ℕ) (s : State) : Type 0 where
  pub before : List Noted
  pub count : length before ≡ calls
  pub sizes : s.sizes ≡ first.sizes
  pub unknown : unknown s.records ≡ unknown first.records
  pub leads : (earlier : List Record) → IsEarlier earlier first → IsSound (on earlier first)
      → LeadsOver earlier first before s

-- Over devices that have been honest since, calls led from this store to the engine with which the audit begins. They are as
-- many as entries were taken. Under this premise the store was sound, with some earlier records.
abbrev pub BeginsFrom : {P L : Type 0} → page_device.Ghosts P → log_device.Ghosts L → Type 0 → State → Audited P L → Type 0
BeginsFrom p l premise first k =
    AreHonest p l k.engine → IsLedFrom first k.taken k.base.state × (premise → IsSoundOver first)
