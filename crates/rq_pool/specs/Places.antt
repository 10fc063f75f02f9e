-- The frame of a page, and whether it was changed, kept as a number.
use Rattle.std.specs.Prelude.{ℕ, zero, suc, ◌/◌, ◌%◌, nat_eq, Bool, Option, None, Some}

-- the frame before this one, if there is one
abbrev pub frame_before : ℕ → Option ℕ
frame_before zero = None
frame_before (suc n) = Some n

-- where a page stands, and whether it was changed
pub record Placed : Type 0 where
  pub frame : Option ℕ
  pub changed : Bool

-- what a number says: twice that of the frame behind it, and 1 more where the page was changed
abbrev pub placed_by : ℕ → Placed
placed_by code = record { frame = frame_before (code / 2); changed = nat_eq (code % 2) 1 }
