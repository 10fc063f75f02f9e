-- A log that a Base begins: it stands for what was there before it, which stands nowhere any more.
use Rattle.std.specs.Prelude.{◌≡◌, ℕ, ◌+◌, Bool, true, false, List, [], ◌∷◌, length, replicate}
use Rattle.rq_model.specs.declared.record.Record.{Record}
use Rattle.rq_model.specs.declared.record.Record.TheVariants.{Base, Restart}

abbrev pub is_base : Record → Bool
is_base (Base many i) = true
is_base _ = false

-- none of the records is one
abbrev pub HasNoBase : List Record → Type 0
HasNoBase [] = Unit {0}
HasNoBase (r ∷ log) = (is_base r ≡ false) × HasNoBase log

abbrev pub standing_one : Record → List Record → List Record
standing_one (Base many i) newer = Base many i ∷ []
standing_one r newer = r ∷ newer

-- what of a log stands on a device: the newest Base, and what is behind it
abbrev pub standing : List Record → List Record
standing [] = []
standing (r ∷ log) = standing_one r (standing log)

abbrev pub gone_one : Record → List Record → ℕ → ℕ
gone_one (Base many i) older newer = length older
gone_one r older newer = newer

-- how many records the newest Base stands for
abbrev pub gone : List Record → ℕ
gone [] = 0
gone (r ∷ log) = gone_one r log (gone log)

abbrev pub base_lsn_one : Record → List Record → ℕ → ℕ
base_lsn_one (Base many i) older newer = length older + 1
base_lsn_one r older newer = newer

-- the newest Base's LSN, 0 where there is none
abbrev pub base_lsn : List Record → ℕ
base_lsn [] = 0
base_lsn (r ∷ log) = base_lsn_one r log (base_lsn log)

-- so many records of which nothing is known: marks in their place, which no log has
abbrev pub marks : ℕ → List Record
marks n = replicate n (Restart 0)

-- The records with the next that was read. A Base, which comes first, stands for as many as it tells.
abbrev pub with_next : Record → List Record → List Record
with_next (Base many i) log = Base many i ∷ marks many
with_next r log = r ∷ log

-- a log as it is read: its newest Base, marks for those that this stands for, and the records behind it
abbrev pub marked : List Record → List Record
marked [] = []
marked (r ∷ log) = with_next r (marked log)

abbrev pub earlier_one : Record → List Record → List Record → List Record
earlier_one (Base many i) older newer = older
earlier_one r older newer = newer

-- what stood before the newest Base
abbrev pub earlier : List Record → List Record
earlier [] = []
earlier (r ∷ log) = earlier_one r log (earlier log)

abbrev pub IsMarkedBelow : Record → List Record → Type 0 → Type 0
IsMarkedBelow (Base many i) log rest = log ≡ marks many
IsMarkedBelow r log rest = rest

-- nothing is known of what stood before the newest Base
abbrev pub IsMarked : List Record → Type 0
IsMarked [] = Unit {0}
IsMarked (r ∷ log) = IsMarkedBelow r log (IsMarked log)

-- all records, with the Base of this incarnation that stands for them
abbrev pub based : ℕ → List Record → List Record
based i log = Base (length log) i ∷ log
