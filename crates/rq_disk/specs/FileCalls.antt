-- The calls of a file.
use Rattle.std.specs.Prelude.{◌≡◌, ◌⊎◌, ℕ, List, [], ◌∷◌, Bool, true, false}

pub data FileCall : Type 0 where
  -- it gave these bytes from a place on
  Gave : (at : ℕ) (bytes : List ℕ) → FileCall
  -- it was to give bytes from there on, and failed
  Denied : (at : ℕ) → FileCall
  -- it wrote these bytes to a place and what follows it
  Took : (at : ℕ) (bytes : List ℕ) → FileCall
  -- it was to write these bytes there, and failed: any of them may have been written
  Tried : (at : ℕ) (bytes : List ℕ) → FileCall
  -- it lost what was behind its first bytes, so many
  Cut : (len : ℕ) → FileCall
  -- it was to lose that, and failed: it may have lost it
  Uncut : (len : ℕ) → FileCall
  -- another took its place, which has these bytes alone, all durable
  Replaced : (bytes : List ℕ) → FileCall
  -- another was to take its place, and that failed: it may have
  Unreplaced : (bytes : List ℕ) → FileCall
  -- all that was written is durable
  Synced : FileCall
  -- a sync that failed
  Missed : FileCall

-- whether a call has failed that was no read
abbrev pub has_failed : List FileCall → Bool
has_failed [] = false
has_failed (FileCall.Gave at bytes ∷ calls) = has_failed calls
has_failed (FileCall.Denied at ∷ calls) = has_failed calls
has_failed (FileCall.Took at bytes ∷ calls) = has_failed calls
has_failed (FileCall.Tried at bytes ∷ calls) = true
has_failed (FileCall.Cut len ∷ calls) = has_failed calls
has_failed (FileCall.Uncut len ∷ calls) = true
has_failed (FileCall.Replaced bytes ∷ calls) = has_failed calls
has_failed (FileCall.Unreplaced bytes ∷ calls) = true
has_failed (FileCall.Synced ∷ calls) = has_failed calls
has_failed (FileCall.Missed ∷ calls) = true

-- It asked the file nothing, since such a call has failed before.
abbrev pub IsOver : (old new : List FileCall) → Type 0
IsOver old new = (new ≡ old) × (has_failed old ≡ true)

-- Why a device in a file may err: it is over, or it made this call and no other, which failed.
abbrev pub HasErred : (failed : FileCall) (old new : List FileCall) → Type 0
HasErred failed old new = IsOver old new ⊎ (new ≡ failed ∷ old)

-- A sync leaves what is there now and nothing else, unless a call that was no read had failed before it. Then what was to be
-- written may be lost, though this sync was made. All may be left then that might have been.
abbrev pub after_sync : (had_failed : Bool) (before now : Type 0) → Type 0
after_sync true before now = before
after_sync false before now = now

pub after_sync_now : (had_failed : Bool) (before now : Type 0) → before → now → after_sync had_failed before now
after_sync_now true before now was is = was
after_sync_now false before now was is = is
