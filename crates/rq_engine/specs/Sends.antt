-- An operation as one that is under way, the room that it takes, and which pages are latched.
use Rattle.std.specs.Prelude.{◌≡◌, ◌⊎◌, ℕ, ◌+◌, ◌≤◌, ◌^◌, Bool, List, true, length}
use Rattle.rq_page.specs.Sizes.{Sizes}
use Rattle.rq_views.specs.InStore.{IsDeedOf}
use Rattle.rq_level.specs.declared.writes.SlotWrite.{SlotWrite}
use Rattle.rq_level.specs.Writes.{AreSlotWrites}
use Rattle.rq_txn.specs.Rows.{Under, deed_of}
use Rattle.rq_store.specs.State.{State, owed_by}
use Rattle.rq_sound.specs.Groups.{slots_now}
use Rattle.rq_sound.specs.Latching.{AllFreeLatched, any_latched, at_tail, behind_head}
use Rattle.rq_sound.specs.Lowest.{FirstIsLowest}
use Rattle.rq_engine.specs.Invariant.{EndFits}

-- the log has room for the records of so many writes, and an end, behind those that are owed
abbrev pub HasRoom : State → List SlotWrite → Type 0
HasRoom s ws = length s.records + owed_by s.rows + (length ws + 1) ≤ 2 ^ 50

-- the first of the writes is of the lowest free cell on a page that nobody has latched
abbrev pub TakesLowest : State → List SlotWrite → Type 0
TakesLowest s ws = FirstIsLowest s.sizes (slots_now s) s.rows ws

-- a send for the group needs a latched page, or a cell of which none is free on another
abbrev pub SendIsLatched : State → ℕ → Type 0
SendIsLatched s g = (any_latched s.rows (at_tail (slots_now s) g) ≡ true) ⊎ AllFreeLatched s

-- a receive of the group needs a latched page
abbrev pub take_latched : State → ℕ → Bool
take_latched s g = any_latched s.rows (behind_head (slots_now s) g)

-- the operation writes slots of the store, three at most, and nothing of it is made
pub record FitsUnder (z : Sizes) (u : Under) : Type 0 where
  pub made : u.made ≡ 0
  pub few : length u.writes ≤ 3
  pub slots : AreSlotWrites z u.writes
  pub sender : IsDeedOf z (deed_of u.aim)
  pub fits : EndFits u.aim
