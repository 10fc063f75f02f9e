-- How far the log is forced.
use Rattle.std.specs.Prelude.{◌≡◌, ◌<◌, ◌≤◌, ◌⊎◌, ℕ, List}
use Rattle.rq_shared.specs.declared.kept.Stamped.{Stamped}
use Rattle.rq_serving.specs.Carried.{IsForce}

-- the log was seen to be forced as far as this, and nothing was called; or it was not, and a force was made
abbrev pub IsReached : {S : Type 0} → (made_by forced_by told_by : S → List Stamped) → (lsn saw : ℕ) → (old new : S) → Type 0
IsReached made_by forced_by told_by lsn saw old new = ((lsn ≤ saw) × (new ≡ old))
    ⊎ ((saw < lsn) × IsForce made_by forced_by told_by old new)

-- a force was the last that was called
abbrev pub EndsForced : {S : Type 0} → (made_by forced_by told_by : S → List Stamped) → (now : S) → Type 0
EndsForced {S} made_by forced_by told_by now = (before : S) × IsForce made_by forced_by told_by before now
