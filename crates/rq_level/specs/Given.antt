-- Slots that a level was given, and the pages that operations have latched.
use Rattle.std.specs.Prelude.{◌≡◌, ℕ, ◌/◌, ◌%◌, ◌||◌, nat_eq, cond, Bool, false, List, [], ◌∷◌, Option, None, Some, All}
use Rattle.rq_page.specs.Sizes.{Sizes}
use Rattle.rq_page.specs.Slots.{Slot, held_in, IsSlotOf}
use Rattle.rq_views.specs.Stored.{IsStoreSlot}
use Rattle.rq_level.specs.declared.slots.Given.{Given}

-- the bytes that were given of the slot at an address
abbrev pub given_at : ℕ → List Given → Option (List ℕ)
given_at a [] = None
given_at a (g ∷ gs) = cond (nat_eq g.at a) (Some g.bytes) (given_at a gs)

-- they hold this
abbrev pub HoldsBytes : Sizes → ℕ → Slot → Option (List ℕ) → Type 0
HoldsBytes z a x None = ⊥
HoldsBytes z a x (Some bytes) = held_in z (a / 16) bytes ≡ x

-- the slot at the address was given, and holds this
abbrev pub GivenHolds : Sizes → List Given → ℕ → Slot → Type 0
GivenHolds z given a x = HoldsBytes z a x (given_at a given)

-- what was given is of slots of the store
pub record IsGiven (z : Sizes) (g : Given) : Type 0 where
  pub place : IsStoreSlot z g.at
  pub bytes : IsSlotOf z (g.at / 16) (g.at % 16) g.bytes

abbrev pub AreGiven : Sizes → List Given → Type 0
AreGiven z given = All (IsGiven z) given

-- the page is one of these
abbrev pub has_page : ℕ → List ℕ → Bool
has_page p [] = false
has_page p (q ∷ qs) = nat_eq q p || has_page p qs

-- a set of pages, and for how many it has room
pub record Pages : Type 0 where
  pub pages : List ℕ
  pub room : ℕ
