-- What the operations under way come to: how many there are, and how many of them have latched each page.
use Rattle.std.specs.Prelude.{◌≡◌, ℕ, ◌+◌, ◌/◌, ◌^◌, ◌<◌, ◌≤◌, Bool, cond, nat_eq, List, Option, map, length, slice_index_or, All}
use Rattle.rq_model.specs.Vocabulary.{is_some}
use Rattle.rq_level.specs.declared.writes.SlotWrite.{SlotWrite}
use Rattle.rq_level.specs.Given.{has_page}
use Rattle.rq_txn.specs.declared.tally.Tally.{Tally}
use Rattle.rq_txn.specs.Rows.{Under, latched_under}

-- 1 where it is so
abbrev pub one_if : Bool → ℕ
one_if b = cond b 1 0

abbrev pub pages_of : List SlotWrite → List ℕ
pages_of writes = map (λ w. w.at / 16) writes

-- how many have latched the page
abbrev pub latches_at : Tally → ℕ → ℕ
latches_at t p = slice_index_or t.latched.counts.items p 0

-- there is a count for the page of each
abbrev pub AreWithin : ℕ → List SlotWrite → Type 0
AreWithin pages writes = All (λ w. w.at / 16 < pages) writes

-- one more may be counted
abbrev pub HasRoom : Tally → Type 0
HasRoom t = (t.operations + 1 < 2 ^ 64) × ((p : ℕ) → latches_at t p + 1 < 2 ^ 64)

-- so many pages more have room in the set of those that are latched
abbrev pub HasPlaces : ℕ → Tally → Type 0
HasPlaces count t = length t.latched.pages.pages + count ≤ t.latched.pages.room

-- one page at most came into that set, in its room
abbrev pub TakesPlace : Tally → Tally → Type 0
TakesPlace old new = (length new.latched.pages.pages ≤ length old.latched.pages.pages + 1) × (old.latched.pages.room ≤ new.latched.pages.room)

-- one more has latched this page
abbrev pub IsRaised : ℕ → Tally → Tally → Type 0
IsRaised page old new =
    (new.operations ≡ old.operations)
    × (length new.latched.counts.items ≡ length old.latched.counts.items)
    × ((p : ℕ) → latches_at new p ≡ latches_at old p + one_if (nat_eq page p))

-- one more has latched these pages
abbrev pub Latches : List ℕ → Tally → Tally → Type 0
Latches pages old new =
    (new.operations ≡ old.operations)
    × ((p : ℕ) → latches_at new p ≡ latches_at old p + one_if (has_page p pages))

-- one more is under way, and has latched these pages
abbrev pub IsMore : List ℕ → Tally → Tally → Type 0
IsMore pages old new =
    (new.operations ≡ old.operations + 1)
    × ((p : ℕ) → latches_at new p ≡ latches_at old p + one_if (has_page p pages))

-- the operation is among those that are counted, where there is one
abbrev pub IsCounted : Option Under → Tally → Type 0
IsCounted o t =
    (one_if (is_some o) ≤ t.operations)
    × ((p : ℕ) → one_if (latched_under o p) ≤ latches_at t p)

-- the first is no longer under way, and the second is
abbrev pub Moves : Option Under → Option Under → Tally → Tally → Type 0
Moves before after old new =
    (new.operations + one_if (is_some before) ≡ old.operations + one_if (is_some after))
    × ((p : ℕ) → latches_at new p + one_if (latched_under before p) ≡ latches_at old p + one_if (latched_under after p))
