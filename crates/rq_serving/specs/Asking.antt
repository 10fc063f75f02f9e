-- What a gate is asked and says, and what is known of it then. The newest answer is the first of a list.
use Rattle.std.specs.Prelude.{◌≡◌, ◌||◌, ℕ, Bool, true, false, not, List, [], ◌∷◌, ◌++◌}
use Rattle.rq_serving.specs.declared.asking.Asking.{Asking}

-- one of these answers is no
abbrev pub said_no : List (ℕ × Bool) → Bool
said_no [] = false
said_no (a ∷ older) = not a.1 || said_no older

-- it was asked once, at this point, where that was due, and else it was not
abbrev pub IsAskedAt : Bool → ℕ → List (ℕ × Bool) → Type 0
IsAskedAt true point said = (passed : Bool) × (said ≡ (point, passed) ∷ [])
IsAskedAt false point said = said ≡ []

-- This is what it was asked and said, and once one of these is no, it has stopped.
pub record Says {G : Type 0} (answers_by : G → List (ℕ × Bool)) (old new : Asking G) (said : List (ℕ × Bool)) : Type 0 where
  pub answers : answers_by new.gate ≡ said ++ answers_by old.gate
  pub stopped : new.stopped ≡ (said_no said || old.stopped)

-- It was asked at this point where that was due.
pub record Asks {G : Type 0} (answers_by : G → List (ℕ × Bool)) (old new : Asking G) (due : Bool) (point : ℕ) : Type 0 where
  pub said : List (ℕ × Bool)
  pub at : IsAskedAt due point said
  pub says : Says answers_by old new said
