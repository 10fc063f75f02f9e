-- Slot writes of a plan, as writes over what the slots hold, and what a deed's end answers.
use Rattle.std.specs.Prelude.{◌≡◌, ℕ, ◌/◌, ◌%◌, List, [], ◌∷◌, map, All, Result, Ok, Err}
use Rattle.rq_model.specs.declared.record.Deed.{Deed}
use Rattle.rq_model.specs.declared.record.Deed.TheVariants.{Append, UnlinkHead, Close, Mark}
use Rattle.rq_model.specs.declared.refusal.Refusal.{Refusal}
use Rattle.rq_page.specs.Sizes.{Sizes}
use Rattle.rq_page.specs.Slots.{held_in, IsSlotOf}
use Rattle.rq_views.specs.Log.{Write}
use Rattle.rq_views.specs.Stored.{IsStoreSlot}
use Rattle.rq_level.specs.declared.writes.Outcome.{Outcome}
use Rattle.rq_level.specs.declared.writes.Outcome.TheVariants as gives
use Rattle.rq_level.specs.declared.writes.Plan.{Plan}
use Rattle.rq_level.specs.declared.writes.SlotWrite.{SlotWrite}

-- the write, over what the slot holds
abbrev pub write_of : Sizes → SlotWrite → Write
write_of z w = record { at = w.at; before = held_in z (w.at / 16) w.before; after = held_in z (w.at / 16) w.after }

abbrev pub writes_of : Sizes → List SlotWrite → List Write
writes_of z ws = map (write_of z) ws

-- the write is of a slot of a directory, cell or tag page, and has before and after it what may stand there
pub record IsSlotWrite (z : Sizes) (w : SlotWrite) : Type 0 where
  pub place : IsStoreSlot z w.at
  pub before : IsSlotOf z (w.at / 16) (w.at % 16) w.before
  pub after : IsSlotOf z (w.at / 16) (w.at % 16) w.after

abbrev pub AreSlotWrites : Sizes → List SlotWrite → Type 0
AreSlotWrites z ws = All (IsSlotWrite z) ws

-- the first of them is at this address
abbrev pub IsFirstAt : ℕ → List SlotWrite → Type 0
IsFirstAt a [] = ⊥
IsFirstAt a (w ∷ ws) = w.at ≡ a

-- the answer of what puts a plan there
abbrev pub with_plan : {X : Type 0} → Plan → Result X Refusal → Result Plan Refusal
with_plan p (Ok x) = Ok p
with_plan p (Err r) = Err r

-- what the end of an operation answers that did this
abbrev pub answer_of : Deed → Outcome
answer_of (Append s n tag previous body) = gives.Sent
answer_of (UnlinkHead s n tag body) = gives.Message (record { sender = s; tag = tag; body = body })
answer_of (Close s) = gives.Closed
answer_of (Mark c tag previous) = gives.Marked
