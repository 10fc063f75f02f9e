use Rattle.std.proofs.Common.{ℕ, ◌<◌, ◌≤◌}
use Rattle.rq_level.specs.Meaning.{NotesNothing, meaning_of}
use Rattle.rq_level.proofs.levels.end_of.Given as goal

-- those so far keep nothing from the end on
abbrev pub invariant-loop-number : goal.invariant-loop-number
invariant-loop-number g l = (l.end ≤ l.number) × ((i : ℕ) → l.end ≤ i → i < l.number → NotesNothing (meaning_of i))
