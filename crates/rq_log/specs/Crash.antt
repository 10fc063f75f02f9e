-- What a crash at any moment of a run of calls leaves of a log's device.
use Rattle.std.specs.Prelude.{◌⊎◌, ℕ, ◌≤◌, List}
use Rattle.rq_disk.specs.declared.device.LogDevice.{Ghosts}

-- A crash at any moment since old leaves what has Q.
pub record LeavesOnly {L : Type 0} (g : Ghosts L) (old new : L) (Q : List ℕ → Type 0) : Type 0 where
  pub later : g.moment old ≤ g.moment new
  pub each : (c : List ℕ) → g.left_since new (g.moment old) c → Q c
  -- for a run that began earlier
  pub before : (t : ℕ) (c : List ℕ) → t ≤ g.moment old → g.left_since new t c → g.left_since old t c ⊎ Q c
  pub keeps : (t : ℕ) (c : List ℕ) → t ≤ g.moment old → g.left_since old t c → g.left_since new t c
