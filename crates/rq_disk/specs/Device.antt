-- What the calls of the two devices do, and what a crash may leave.
use Rattle.std.specs.Prelude.{◌≡◌, ◌⊎◌, ℕ, ◌+◌, ◌≤◌, ◌%◌, ◌^◌, ◌++◌, List, take, Result, OnOk, OnErr, if◌then◌else◌, ◌==◌}

-- a store of pages: the image of each
abbrev pub Images : Type 0
Images = ℕ → List ℕ

-- what a device of pages was asked
pub data PageAsk : Type 0 where
  Reads : (page : ℕ) → PageAsk
  Writes : (page : ℕ) (image : List ℕ) → PageAsk
  Syncs : PageAsk

-- what a device of a log was asked
pub data LogAsk : Type 0 where
  Reads : (at : ℕ) → LogAsk
  Appends : (bytes : List ℕ) → LogAsk
  Forces : LogAsk
  Cuts : (len : ℕ) → LogAsk
  Replaces : (bytes : List ℕ) → LogAsk

-- what a crash leaves of all pages, where each page by itself has one of its images
abbrev pub Leaves : (ℕ → List ℕ → Type 0) → Images → Type 0
Leaves may_be images = (page : ℕ) → may_be page (images page)

-- new is old with this image at this page
abbrev pub Holds : Images → ℕ → List ℕ → Images → Type 0
Holds old page image new = (p : ℕ) → new p ≡ (if p == page then image else old p)

-- each image that a page may have is one that it might have had, or the one written
abbrev pub Written : ℕ → List ℕ → (ℕ → List ℕ → Type 0) → (ℕ → List ℕ → Type 0) → Type 0
Written page image old new = (p : ℕ) (c : List ℕ) → new p c → old p c ⊎ ((p ≡ page) × (c ≡ image))

-- each image that a page may have is one that it might have had
abbrev pub NoMore : (ℕ → List ℕ → Type 0) → (ℕ → List ℕ → Type 0) → Type 0
NoMore old new = (p : ℕ) (c : List ℕ) → new p c → old p c

-- a log that may be left is one that might have been, or all that was there and the first of the new bytes
abbrev pub Appended : List ℕ → List ℕ → (List ℕ → Type 0) → (List ℕ → Type 0) → Type 0
Appended seen bytes old new = (c : List ℕ) → new c → old c ⊎ ((n : ℕ) × (c ≡ seen ++ take n bytes))

-- the first bytes of what was there, at least so many
abbrev pub IsCutBetween : List ℕ → ℕ → List ℕ → Type 0
IsCutBetween seen len c = (n : ℕ) × (len ≤ n) × (c ≡ take n seen)

-- a log that may be left is one that might have been, or such
abbrev pub CutOff : List ℕ → ℕ → (List ℕ → Type 0) → (List ℕ → Type 0) → Type 0
CutOff seen len old new = (c : List ℕ) → new c → old c ⊎ IsCutBetween seen len c

-- a log that may be left is one that might have been, or exactly these bytes
abbrev pub Replaced : List ℕ → (List ℕ → Type 0) → (List ℕ → Type 0) → Type 0
Replaced bytes old new = (c : List ℕ) → new c → old c ⊎ (c ≡ bytes)

-- nothing else may be left
abbrev pub Only : List ℕ → (List ℕ → Type 0) → Type 0
Only bytes may_leave = (c : List ℕ) → may_leave c → c ≡ bytes

-- Time goes on: a crash since t may have left what it might have left before, or what it may leave now.
pub record Elapses {C : Type 0} (before now : ℕ) (past since : ℕ → C → Type 0) (may_leave : C → Type 0) : Type 0 where
  pub later : before ≤ now
  pub nothing_else : (t : ℕ) (c : C) → t ≤ before → since t c → past t c ⊎ may_leave c
  pub keeps : (t : ℕ) (c : C) → t ≤ before → past t c → since t c

-- the same where a crash in the midst of it may also have left what is inside
pub record ElapsesThrough {C : Type 0} (before now : ℕ) (past since : ℕ → C → Type 0) (may_leave inside : C → Type 0)
    : Type 0 where
  pub later : before ≤ now
  pub nothing_else : (t : ℕ) (c : C) → t ≤ before → since t c → past t c ⊎ may_leave c ⊎ inside c
  pub keeps : (t : ℕ) (c : C) → t ≤ before → past t c → since t c

-- an error counts one failure, and nothing else does
pub record FailureIsCounted {T E : Type 0} (before now : ℕ) (result : Result T E) : Type 0 where
  pub ok : OnOk result (now ≡ before)
  pub err : OnErr result (now ≡ (before + 1) % 2 ^ 64)

-- a device reads the same as before, and a crash leaves the same of it
pub record Stays {S C : Type 0} (old_seen new_seen : S) (old_may new_may : C → Type 0) : Type 0 where
  pub reads : new_seen ≡ old_seen
  pub left : (c : C) → new_may c → old_may c
  pub still_left : (c : C) → old_may c → new_may c
