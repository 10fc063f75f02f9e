-- Counts of operations by page: how far the writes of one are counted, and changes that no count tells.
use Rattle.std.proofs.Common.{◌≡◌, ℕ, ◌+◌, ◌-◌, ◌≤◌, List, [], length, drop, Option, ap, arith}
use Rattle.rq_model.specs.Vocabulary.{is_some}
use Rattle.rq_level.specs.declared.writes.SlotWrite.{SlotWrite}
use Rattle.rq_level.specs.Given.{has_page}
use Rattle.rq_txn.specs.declared.tally.Tally.{Tally}
use Rattle.rq_txn.specs.Rows.{Under, latched_under}
use Rattle.rq_txn.specs.Tallies.{one_if, pages_of, latches_at, Latches, Moves}

-- the writes from this place on have room in the set of latched pages
abbrev pub HasPlacesFrom : List SlotWrite → ℕ → Tally → Type 0
HasPlacesFrom writes i t = length t.latched.pages.pages + (length writes - i) ≤ t.latched.pages.room

-- the pages of the writes are latched, but for those that are named from this place on
abbrev pub HasLatched : List SlotWrite → ℕ → Tally → Tally → Type 0
HasLatched writes i old new =
    (new.operations ≡ old.operations)
    × (length new.latched.counts.items ≡ length old.latched.counts.items)
    × ((p : ℕ) → latches_at new p + one_if (has_page p (pages_of (drop i writes))) ≡ latches_at old p + one_if (has_page p (pages_of writes)))

-- memory is taken, and no count changes
pub none_changed : (o : Option Under) (t now : Tally) → Latches [] t now → Moves o o t now
none_changed o t now same = ((let a = same.0 in omega (arith, a)), λ p. let a = same.1 p in omega (arith, a))

pub kept_moved : (a b : Option Under) (t : Tally) → is_some b ≡ is_some a → ((p : ℕ) → latched_under b p ≡ latched_under a p) → Moves a b t t
kept_moved a b t some each = ((let e = ap one_if some in omega (arith, e)), λ p. let e = ap one_if (each p) in omega (arith, e))
