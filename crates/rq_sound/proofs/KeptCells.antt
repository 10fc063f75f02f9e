-- The level of chains goes on knowing a store's cells.
use Rattle.std.proofs.Common.{set, ◌≡◌, ◌≢◌, ℕ, ◌/◌, ◌%◌, ◌<◌, List, [], ◌∷◌, length, refl, sym, ◌∙◌, ap, Bool, true, false, not, Option, Some, None, inl, inr}
use Rattle.std.proofs.lemmas.Bool.{and_from, cases_Bool, lt-ltb, or_cases, or_left, or_right, true≢false}
use Rattle.std.proofs.lemmas.List.{get_or-set_other, get_or-set_same}
use Rattle.rq_model.specs.declared.txn.Txn.{Txn}
use Rattle.rq_model.specs.Vocabulary.{In, same_txn}
use Rattle.rq_model.proofs.Lists.{same_is}
use Rattle.rq_page.specs.Sizes.{Sizes, IsCellAddress, cell_at, cell_count, tags_from, place_of}
use Rattle.rq_page.specs.Slots.{held_for, held_in}
use Rattle.rq_page.proofs.Addresses.{cells_have_places, kind_cells}
use Rattle.rq_views.specs.Stored.{is_used}
use Rattle.rq_level.specs.LevelState.{LevelState, flag_at, is_cell_address, is_free_slot}
use Rattle.rq_groups.specs.Ends.{HeldEnds}
use Rattle.rq_txn.specs.Rows.{AreDistinct, Row, Under, change_row, change_row_one, found_row, row_started}
use Rattle.rq_store.specs.State.{State}
use Rattle.rq_store.proofs.RowLists.{found_in, unique}
use Rattle.rq_sound.specs.Calls.{IsIdle, started}
use Rattle.rq_sound.specs.Groups.{slots_now}
use Rattle.rq_sound.specs.Levels.{KeepsCells, to_write, to_write_under}

-- rows that change, and rows that are gone, have as much to write
changes_write : (t : Txn) (f : Row → Row) (a : ℕ) (rows : List Row) → ((q : Row) → In q rows → q.txn ≡ t → to_write_under q.under a ≡ true → to_write_under (f q).under a ≡ true) → to_write rows a ≡ true → to_write (change_row t f rows) a ≡ true
changes_write t f a [] h e = e
changes_write t f a (q ∷ rows) h e = elim (or_cases (to_write_under q.under a) (to_write rows a) e) [
  | inl y ↦ or_left (to_write_under (change_row_one t f q).under a) (to_write (change_row t f rows) a) (elim (cases_Bool (same_txn q.txn t)) [
    | inl s ↦ rw s (h q (inl refl) (same_is q.txn t s) y)
    | inr n ↦ rw n y
  ])
  | inr m ↦ or_right (to_write_under (change_row_one t f q).under a) (to_write (change_row t f rows) a) (changes_write t f a rows (λ p i. h p (inr i)) m)
]

-- the row of a transaction is the one that is found
only_row : (s : State) (k : AreDistinct s.rows) (r : Row) → found_row r.txn s.rows ≡ Some r → (q : Row) → In q s.rows → q.txn ≡ r.txn → q ≡ r
only_row s k r e q i same = unique s.rows q r k i (found_in r.txn s.rows r e).0 same

idle_writes_none : (o : Option Under) (a : ℕ) → o ≡ None → to_write_under o a ≡ false
idle_writes_none o a e = ap (λ (x : Option Under). to_write_under x a) e

pub flag_same : (flags : List Bool) (p : ℕ) (b : Bool) → p < length flags → flag_at (set flags p b) p ≡ b
flag_same flags p b lt = get_or-set_same flags p b false lt

pub flag_other : (flags : List Bool) (p i : ℕ) (b : Bool) → i ≢ p → flag_at (set flags p b) i ≡ flag_at flags i
flag_other flags p i b ne = get_or-set_other flags p i b false ne

-- a cell stands at one place
pub place_is : (z : Sizes) (a i : ℕ) → i < cell_count z → cell_at z i ≡ a → i ≡ place_of z a
place_is z a i lt e = sym (cells_have_places z i lt).1 ∙ ap (place_of z) e

pub cell_is : (z : Sizes) (a : ℕ) → IsCellAddress z a → is_cell_address z a ≡ true
cell_is z a c = and_from _ _ (lt-ltb z.directory (a / 16) c.above) (and_from _ _ (lt-ltb (a / 16) (tags_from z) c.below) (lt-ltb 0 (a % 16) c.slot))

-- a slot of a cell page is free by its first byte
pub free_by_byte : (z : Sizes) (a : ℕ) (bytes : List ℕ) → IsCellAddress z a → is_free_slot bytes ≡ not (is_used (held_in z (a / 16) bytes))
free_by_byte z a bytes c = elim (cases_Bool (is_free_slot bytes)) [
  | inl y ↦ y ∙ sym (ap (λ x. not (is_used (held_for x bytes))) (kind_cells z (a / 16) c.above c.below) ∙ (rw y refl))
  | inr n ↦ n ∙ sym (ap (λ x. not (is_used (held_for x bytes))) (kind_cells z (a / 16) c.above c.below) ∙ (rw n refl))
]

module _ (s : State) (k : AreDistinct s.rows) (r : Row) (m : IsIdle s r) (u : Under) (ends : HeldEnds) where
  pub more_started : (a : ℕ) → to_write s.rows a ≡ true → to_write (started s r u ends).rows a ≡ true
  more_started a e = changes_write r.txn (row_started u) a s.rows (λ q i same y. absurd (true≢false (sym y ∙ idle_writes_none q.under a (ap (λ (x : Row). x.under) (only_row s k r m.at_row q i same) ∙ m.idle)))) e

  -- its own cell is to be written
  pub own_write : (a : ℕ) → to_write_under (Some u) a ≡ true → to_write (started s r u ends).rows a ≡ true
  own_write a on = at s.rows m.at_row where
    at : (rows : List Row) → found_row r.txn rows ≡ Some r → to_write (change_row r.txn (row_started u) rows) a ≡ true
    at [] e = cc
    at (q ∷ rows) e = elim (cases_Bool (same_txn q.txn r.txn)) [
      | inl y ↦ or_left (to_write_under (change_row_one r.txn (row_started u) q).under a) (to_write (change_row r.txn (row_started u) rows) a) (rw y on)
      | inr n ↦ or_right (to_write_under (change_row_one r.txn (row_started u) q).under a) (to_write (change_row r.txn (row_started u) rows) a) (at rows (rw n at e))
    ]

-- a chosen cell is given back: its slot is noted as it is
module _ (s : State) (c : LevelState) (a : ℕ) (present : List ℕ) (cell : IsCellAddress s.sizes a) (now : slots_now s a ≡ held_in s.sizes (a / 16) present) (h : KeepsCells s c) where
  abbrev p : ℕ
  p = place_of s.sizes a
