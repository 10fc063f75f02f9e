-- Frames: which page stands in each, and whether an operation has fixed it there.
use Rattle.std.specs.Prelude.{◌≡◌, ℕ, ◌<◌, Bool, true, false, List, length, slice_index_or, slice_set}

pub record Held : Type 0 where
  pub page : ℕ
  pub fixed : Bool

abbrev pub nothing_held : Held
nothing_held = record { page = 0; fixed = false }

-- the page in a frame, and whether it is fixed there
abbrev pub page_at : List Held → ℕ → ℕ
page_at frames i = (slice_index_or frames i nothing_held).page

abbrev pub fixed_at : List Held → ℕ → Bool
fixed_at frames i = (slice_index_or frames i nothing_held).fixed

-- the page stands in a frame
pub record IsFramed (frames : List Held) (page : ℕ) : Type 0 where
  pub at : ℕ
  pub within : at < length frames
  pub is : page_at frames at ≡ page

-- and is fixed there
pub record IsFixed (frames : List Held) (page : ℕ) : Type 0 where
  pub at : ℕ
  pub within : at < length frames
  pub is : page_at frames at ≡ page
  pub fixed : fixed_at frames at ≡ true

-- a page that stands in one frame is fixed there, or is let go
pub record IsSetAt (fixed : Bool) (old : List Held) (page : ℕ) (new : List Held) : Type 0 where
  pub at : ℕ
  pub within : at < length old
  pub is : page_at old at ≡ page
  pub only : (i : ℕ) → i < length old → page_at old i ≡ page → i ≡ at
  pub now : new ≡ slice_set old at (record { page = page; fixed = fixed })

-- each page stands in one frame at most
abbrev pub StandOnce : List Held → Type 0
StandOnce frames = (i j : ℕ) → i < length frames → j < length frames → page_at frames i ≡ page_at frames j → i ≡ j
