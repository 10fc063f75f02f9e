-- When two levels that were given the same answer the same to what is to be planned.
use Rattle.std.specs.Prelude.{◌≡◌, ℕ, zero, suc, List, [], ◌∷◌, Option, Some, None, Result, Ok, Err, reverse}
use Rattle.rq_model.specs.declared.refusal.Refusal.{Refusal}
use Rattle.rq_model.specs.declared.refusal.Refusal.TheVariants as why
use Rattle.rq_page.specs.Sizes.{Sizes}
use Rattle.rq_level.specs.Writes.{writes_of}
use Rattle.rq_level.specs.declared.writes.Plan.{Plan}
use Rattle.rq_level.specs.declared.writes.SlotWrite.{SlotWrite}

-- two plans write the same over what the slots hold, and tell and answer the same at their end
pub record PlansAlike (z : Sizes) (p q : Plan) : Type 0 where
  pub writes : reverse (writes_of z p.writes.items) ≡ reverse (writes_of z q.writes.items)
  pub deed : p.deed ≡ q.deed
  pub reply : p.reply ≡ q.reply

-- memory was wanting
abbrev pub IsMemory : Refusal → Type 0
IsMemory why.NoMemory = Unit {0}
IsMemory _ = ⊥

-- both are planned alike; where one is planned, the other is refused for want of memory alone. A level that was told of
-- no store plans nothing
abbrev pub PlannedAlike : Option Sizes → Result Plan Refusal → Result Plan Refusal → Type 0
PlannedAlike (Some z) (Ok p) (Ok q) = PlansAlike z p q
PlannedAlike (Some z) (Ok p) (Err r) = IsMemory r
PlannedAlike (Some z) (Err r) (Ok q) = IsMemory r
PlannedAlike (Some z) (Err r) (Err s) = Unit {0}
PlannedAlike None (Ok p) q = ⊥
PlannedAlike None (Err r) (Ok q) = ⊥
PlannedAlike None (Err r) (Err s) = Unit {0}

-- they write the same slots, from the same bytes to the same
abbrev pub WritesAlike : List SlotWrite → List SlotWrite → Type 0
WritesAlike [] [] = Unit {0}
WritesAlike (w ∷ ws) (v ∷ vs) = (w.at ≡ v.at) × (w.before ≡ v.before) × (w.after ≡ v.after) × WritesAlike ws vs
WritesAlike _ _ = ⊥

-- two plans write the same slots alike, and tell and answer the same at their end
pub record SlotsAlike (p q : Plan) : Type 0 where
  pub writes : WritesAlike p.writes.items q.writes.items
  pub deed : p.deed ≡ q.deed
  pub reply : p.reply ≡ q.reply

-- the same of the level of single slots, which was told of no store
abbrev pub PutBackAlike : Result Plan Refusal → Result Plan Refusal → Type 0
PutBackAlike (Ok p) (Ok q) = SlotsAlike p q
PutBackAlike (Ok p) (Err r) = IsMemory r
PutBackAlike (Err r) (Ok q) = IsMemory r
PutBackAlike (Err r) (Err s) = Unit {0}

-- what levels of this number plan to take something back
abbrev pub BackAlike : (level : ℕ) → Option Sizes → Result Plan Refusal → Result Plan Refusal → Type 0
BackAlike zero zs p q = PutBackAlike p q
BackAlike (suc n) zs p q = PlannedAlike zs p q
