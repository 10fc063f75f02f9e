-- The rows as a table keeps them: in slots, by the counts of their transactions.
use Rattle.std.specs.Prelude.{◌≡◌, ℕ, ◌+◌, ◌<◌, List, [], ◌∷◌, Option, Some, None, map, length, slice_index_or}
use Rattle.slab.specs.Slab.{Slab, get, slab_len}
use Rattle.rq_model.specs.declared.txn.Txn.{Txn}
use Rattle.rq_model.specs.Vocabulary.{In, is_some}
use Rattle.rq_txn.specs.declared.Transaction.{Transaction}
use Rattle.rq_txn.specs.declared.table.Place.{Place}
use Rattle.rq_txn.specs.declared.tally.Tally.{Tally}
use Rattle.rq_txn.specs.Rows.{Row, row_of, fresh_row, found_row, latched_under}
use Rattle.rq_txn.specs.Tallies.{one_if, latches_at}

-- the row of a slot, or d where it is empty
abbrev pub row_or : Row → Option Transaction → Row
row_or d None = d
row_or d (Some t) = row_of t

abbrev pub row_at : Slab Transaction → Place → Row
row_at s p = row_or (fresh_row (record { incarnation = 0; count = p.count })) (get s p.key)

-- the rows, the oldest first
abbrev pub rows_in : Slab Transaction → List Place → List Row
rows_in s places = map (row_at s) places

-- the slot of a place holds a transaction of its count
abbrev pub Stands : Slab Transaction → Place → Type 0
Stands s p = (t : Transaction) × (get s p.key ≡ Some t) × (t.txn.count ≡ p.count)

-- each place is of a greater count than those before
abbrev pub IsRising : List Place → Type 0
IsRising [] = Unit {0}
IsRising (p ∷ places) = ((x : Place) → In x places → p.count < x.count) × IsRising places

abbrev pub under_one : Row → ℕ
under_one r = one_if (is_some r.under)

abbrev pub latched_one : ℕ → Row → ℕ
latched_one p r = one_if (latched_under r.under p)

-- the sum of a number of each row
abbrev pub row_sum : (Row → ℕ) → List Row → ℕ
row_sum one [] = 0
row_sum one (r ∷ rows) = one r + row_sum one rows

-- they count the operations of these rows
pub record IsTallyOf (t : Tally) (rows : List Row) : Type 0 where
  pub busy : t.operations ≡ row_sum under_one rows
  pub latched : (p : ℕ) → latches_at t p ≡ row_sum (latched_one p) rows

-- every slot that holds a transaction has its place
pub record IsTable (s : Slab Transaction) (places : List Place) : Type 0 where
  pub stands : (p : Place) → In p places → Stands s p
  pub rising : IsRising places
  pub held : slab_len s ≡ length places

-- the slots are told by their places, and the operations under way are counted
pub record IsKeptBy (s : Slab Transaction) (places : List Place) (n : Tally) : Type 0 where
  pub table : IsTable s places
  pub tally : IsTallyOf n (rows_in s places)

-- the transaction's slot
abbrev pub IsAt : Slab Transaction → List Place → Txn → Place → Type 0
IsAt s places txn p = In p places × ((t : Transaction) × (get s p.key ≡ Some t) × (t.txn ≡ txn))

-- where the transaction's place stands
abbrev pub PlaceOf : Slab Transaction → List Place → Txn → Option ℕ → Type 0
PlaceOf s places txn None = found_row txn (rows_in s places) ≡ None
PlaceOf s places txn (Some i) = (p : Place) × (i < length places) × ((d : Place) → p ≡ slice_index_or places i d) × IsAt s places txn p

-- the key of the transaction's slot
abbrev pub KeyOf : Slab Transaction → List Place → Txn → Option ℕ → Type 0
KeyOf s places txn None = found_row txn (rows_in s places) ≡ None
KeyOf s places txn (Some key) = (p : Place) × (p.key ≡ key) × IsAt s places txn p
