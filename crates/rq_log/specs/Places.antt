-- Places of a log: a place is how many bytes stand before it.
use Rattle.std.specs.Prelude.{◌≡◌, ◌↔◌, ℕ, ◌+◌, ◌%◌, ◌^◌, ◌<◌, List, ◌∷◌, ◌++◌, drop, length, Option, Some, None}
use Rattle.rq_model.specs.declared.record.Record.{Record}
use Rattle.rq_model.specs.declared.refusal.Refusal.{Refusal}
use Rattle.rq_model.specs.declared.refusal.Refusal.TheVariants as why
use Rattle.rq_model.specs.declared.refusal.Damage.TheVariants as damage
use Rattle.rq_disk.specs.declared.device.LogDevice.{Ghosts}
use Rattle.rq_record.specs.Spelling.{HoldsRecord}
use Rattle.rq_model.specs.Bases.{standing}
use Rattle.rq_log.specs.Spelled.{spelled, spelled_all}

-- the first of these records end there
abbrev pub IsPlaceAmong : List Record → ℕ → Type 0
IsPlaceAmong records place = (newer : List Record) × (older : List Record) × (records ≡ newer ++ older)
    × (place ≡ length (spelled_all older))

-- It is what stands at a place. Behind the records that end there it is the next one, with the place where that ends. It is
-- none exactly at the end of all.
pub record StandsAmong (records : List Record) (place : ℕ) (found : Option (Record × ℕ)) : Type 0 where
  pub next : (newer older : List Record) (r : Record) → records ≡ newer ++ (r ∷ older) → place ≡ length (spelled_all older)
      → found ≡ Some (r, length (spelled_all (r ∷ older)))
  pub none : (found ≡ None) ↔ (place ≡ length (spelled_all records))

-- the same of what stands of a log on a device
abbrev pub IsPlace : List Record → ℕ → Type 0
IsPlace log place = IsPlaceAmong (standing log) place

abbrev pub StandsAt : List Record → ℕ → Option (Record × ℕ) → Type 0
StandsAt log place found = StandsAmong (standing log) place found

-- the record stands there, behind the older ones that end there
abbrev pub IsAt : List Record → ℕ → Record → Type 0
IsAt log place r = (newer : List Record) × (older : List Record) × (standing log ≡ newer ++ (r ∷ older))
    × (place ≡ length (spelled_all older))

module _ {L : Type 0} (g : Ghosts L) where
  -- why no record was read at the front of bytes
  abbrev pub NoneReadFor : Refusal → List ℕ → L → L → Type 0
  NoneReadFor why.DiskRead bytes old new = g.faults new ≡ (g.faults old + 1) % 2 ^ 64
  NoneReadFor (why.Damaged (damage.Record lsn)) bytes old new = (lsn ≡ 0) × (g.faults new ≡ g.faults old)
      × (g.honest new → HoldsRecord bytes → ⊥)
  NoneReadFor _ bytes old new = ⊥

  -- why none was read at the front of bytes that no device was asked for
  abbrev pub NoneHeldFor : Refusal → List ℕ → L → L → Type 0
  NoneHeldFor (why.Damaged (damage.Record lsn)) bytes old new = (lsn ≡ 0) × (g.faults new ≡ g.faults old)
      × (g.honest new → HoldsRecord bytes → ⊥)
  NoneHeldFor _ bytes old new = ⊥

  -- Why it was not told what stands at a place. The device failed, which was handed what stands there. Or it gave other bytes
  -- than it was handed. Or the place is none of the log's. Damage has no number.
  abbrev pub NotToldFor : Refusal → List Record → ℕ → L → L → Type 0
  NotToldFor why.DiskRead records place old new = (g.faults new ≡ (g.faults old + 1) % 2 ^ 64)
      × (g.honest new → length (spelled records) < 2 ^ 64 → place < length (g.seen old))
  NotToldFor (why.Damaged (damage.Record lsn)) records place old new = (lsn ≡ 0) × (g.faults new ≡ g.faults old)
      × (g.honest new → length (spelled records) < 2 ^ 64 → IsPlace records place → ⊥)
  NotToldFor _ records place old new = ⊥

  -- why no record was read again at a place: the device failed, or no record stands there
  abbrev pub NotReadAgainFor : Refusal → List Record → ℕ → L → L → Type 0
  NotReadAgainFor why.DiskRead records place old new = g.faults new ≡ (g.faults old + 1) % 2 ^ 64
  NotReadAgainFor (why.Damaged (damage.Record lsn)) records place old new = (lsn ≡ 0) × (g.faults new ≡ g.faults old)
      × (g.honest new → (r : Record) → IsAt records place r → ⊥) × (g.honest new → HoldsRecord (drop place (g.seen old)) → ⊥)
  NotReadAgainFor _ records place old new = ⊥
