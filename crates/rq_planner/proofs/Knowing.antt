-- Levels that know the slots of a store, whatever is under way there.
use Rattle.std.proofs.Common.{◌≡◌, ◌≢◌, ◌⊎◌, ℕ, zero, suc, ◌+◌, ◌*◌, ◌/◌, ◌%◌, ◌<◌, ◌≤◌, List, length, refl, sym, ◌∙◌, ap, subst, Bool, true, false, cond, not, Option, None, Some, inl, inr, arith}
use Rattle.std.proofs.lemmas.Bool.{cases_Bool, cases_eq, false≢true, ne_eqb}
use Rattle.rq_page.specs.Sizes.{Sizes, IsCellAddress, place_of, address, cell_at, cell_count, client_slot_at, directory_at, sender_count}
use Rattle.rq_page.specs.Pages.{IsWritten, slot_of}
use Rattle.rq_page.proofs.Addresses.{cells_have_places}
use Rattle.rq_pool.specs.Pooled.{image_at}
use Rattle.rq_pool.specs.Indexed.{AreFlaggedAlike}
use Rattle.rq_views.specs.Stored.{IsStoreSlot, is_used, slot_at, slots_in}
use Rattle.rq_level.specs.declared.slots.Given.{Given}
use Rattle.rq_level.specs.LevelState.{LevelState, KnowsStore, flag_at, is_cell_address, is_free_slot, noted, noted_cell, noted_in}
use Rattle.rq_level.specs.Meaning.{AreOf, AreTold, kept_at, level_count, meaning_of}
use Rattle.rq_level.specs.Given.{AreGiven}
use Rattle.rq_level.proofs.Based.{holds_free, noted_there}
use Rattle.rq_level.proofs.Noting.{is_cell, not_first}
use Rattle.rq_level.proofs.EachLevel.{all_lawful}
use Rattle.rq_txn.specs.Rows.{Row}
use Rattle.rq_sound.specs.Levels.{KeepsCells}
use Rattle.rq_sound.proofs.Gathering.{cell_of_store}
use Rattle.rq_sound.proofs.KeptCells.{flag_same, free_by_byte}
use Rattle.rq_planner.specs.Answered.{AreBelow, IsFreeCell, KnowsCells, KnowsThose}
use Rattle.rq_planner.specs.Asked.{known}
use Rattle.rq_planner.proofs.Told.{slot_is}

-- ---- a slot is told

-- All levels are told of a slot as it is, and those that they knew did not change.
pub told_more : (Old New : ℕ → Type 0) (z : Sizes) (images new : List (List ℕ)) (old now : List LevelState) (a : ℕ) (bytes : List ℕ) → AreTold a bytes old now → bytes ≡ slot_at new a → a ≢ 1 → ((b : ℕ) → Old b → b ≢ 1)
    → ((b : ℕ) → New b → (b ≡ a) ⊎ (Old b × (slot_at new b ≡ slot_at images b))) → KnowsThose Old z images old → KnowsThose New z new now
told_more Old New z images new old now a bytes told is first apart more h = record {
  again = again;
  all = (let n = told.count in let many = h.all in omega (arith, n, many));
  ready = λ i lt.
      let inside : i < length old = (let n = told.count in omega (arith, n, lt)) in
      subst ((meaning_of i).ready z) (sym (told.each i inside)) ((all_lawful i).stays (kept_at old i) z a bytes first (h.ready i inside));
} where
  again : (i b : ℕ) → i < length now → New b → (meaning_of i).note (kept_at now i) b (slot_at new b) ≡ kept_at now i
  again i b lt these =
      let inside : i < length old = (let n = told.count in omega (arith, n, lt)) in
      let is_told = told.each i inside in
      let note = (meaning_of i).note in
      ap (λ k. note k b (slot_at new b)) is_told ∙ elim (cases_eq b a) [
        | inl same ↦
            ap (λ n. note (note (kept_at old i) a bytes) n (slot_at new n)) same ∙ ap (λ x. note (note (kept_at old i) a bytes) a x) (sym is)
            ∙ (all_lawful i).last (kept_at old i) a bytes bytes ∙ sym is_told
        | inr ne ↦ elim (more b these) [
          | inl same ↦ absurd (ne same)
          | inr m ↦
              ap (note (note (kept_at old i) a bytes) b) m.1 ∙ (all_lawful i).commutes (kept_at old i) a b bytes (slot_at images b) first (apart b m.0) (λ e. ne (sym e))
              ∙ ap (λ k. note k a bytes) (h.again i b inside m.0) ∙ sym is_told
        ]
      ]

pub not_sizes : (z : Sizes) (a : ℕ) → IsStoreSlot z a → a ≢ 1
not_sizes z a store e = let low = store.page_low in omega (arith, e, low)

-- ---- the same cells are free

-- what a level keeps of a slot but the first is whether its cell is free
pub notes_alike : (n : ℕ) (k : LevelState) (z : Sizes) (a : ℕ) (x y : List ℕ) → (meaning_of n).ready z k → a ≢ 1 → (IsCellAddress z a → is_free_slot x ≡ is_free_slot y) → (meaning_of n).note k a x ≡ (meaning_of n).note k a y
unfolding meaning_of
notes_alike zero k z a x y ready ne alike = refl
notes_alike (suc zero) k z a x y ready ne alike = not_first k a x ne ∙ ap (λ (o : Option Sizes). noted_in o k a x) ready.sizes ∙ in_store ∙ sym (ap (λ (o : Option Sizes). noted_in o k a y) ready.sizes) ∙ sym (not_first k a y ne) where
  in_store : noted_in (Some z) k a x ≡ noted_in (Some z) k a y
  in_store = elim (cases_Bool (is_cell_address z a)) [
    | inl cell ↦ rw cell (ap (noted_cell z k (place_of z a)) (alike (is_cell z a cell)))
    | inr none ↦ rw none refl
  ]
notes_alike (suc (suc zero)) k z a x y ready ne alike = rw (ne_eqb a 1 ne) refl
notes_alike (suc (suc (suc n))) k z a x y ready ne alike = refl

same_use : (b c : Bool) → ◌≡◌ {A = ℕ} (cond b 0 1) (cond c 0 1) → b ≡ c
same_use true true e = refl
same_use true false e = absurd (omega (arith, e))
same_use false true e = absurd (omega (arith, e))
same_use false false e = refl

-- whether a cell is free is told by its first byte
pub free_is_told : (z : Sizes) (images : List (List ℕ)) (a : ℕ) → IsStoreSlot z a → IsCellAddress z a → is_free_slot (slot_at images a) ≡ not (is_used (slots_in z images a))
free_is_told z images a store cell = free_by_byte z a (slot_at images a) cell ∙ ap (λ x. not (is_used x)) (sym (slot_is z images a store))

module _ (z : Sizes) (old new : List (List ℕ)) (alike : AreFlaggedAlike z old new) where
  same_free : (a : ℕ) → is_used (slots_in z new a) ≡ is_used (slots_in z old a)
  same_free a = same_use (is_used (slots_in z new a)) (is_used (slots_in z old a)) (alike a).0

  -- levels that know slots of a store know them where the same cells are free, whatever else the slots hold
  pub those_kept : (Those : ℕ → Type 0) (levels : List LevelState) → ((a : ℕ) → Those a → IsStoreSlot z a) → KnowsThose Those z old levels → KnowsThose Those z new levels
  those_kept Those levels stand h = record {
    again = λ i a lt those.
        let store : IsStoreSlot z a = stand a those in
        notes_alike i (kept_at levels i) z a (slot_at new a) (slot_at old a) (h.ready i lt) (not_sizes z a store) (λ cell.
        free_is_told z new a store cell ∙ ap not (same_free a) ∙ sym (free_is_told z old a store cell)) ∙ h.again i a lt those;
    all = h.all;
    ready = h.ready;
  }

  pub knows_kept : (levels : List LevelState) → KnowsCells z old levels → KnowsCells z new levels
  knows_kept levels h = those_kept (IsStoreSlot z) levels (λ a store. store) h

  pub free_kept : (a : ℕ) → IsFreeCell z old a → IsFreeCell z new a
  free_kept a free =
      let store : IsStoreSlot z a = cell_of_store z a free.0 in
      (free.0, slot_is z new a store ∙ holds_free z a (slot_at new a) free.0 (free_is_told z new a store free.0 ∙ ap not (same_free a ∙ ap is_used free.1)))

-- a slot was written, and no other
pub knows_written : (z : Sizes) (images new : List (List ℕ)) (old now : List LevelState) (a : ℕ) (bytes : List ℕ) → IsStoreSlot z a → bytes ≡ slot_at new a → ((b : ℕ) → IsStoreSlot z b → b ≢ a → slot_at new b ≡ slot_at images b)
    → AreTold a bytes old now → KnowsCells z images old → KnowsCells z new now
knows_written z images new old now a bytes store is others told h =
    told_more (IsStoreSlot z) (IsStoreSlot z) z images new old now a bytes told is (not_sizes z a store) (not_sizes z) (λ b stands. elim (cases_eq b a) [ inl same ↦ inl same | inr ne ↦ inr (stands, others b stands ne) ]) h

-- by a write into its page
pub knows_put : (z : Sizes) (images new : List (List ℕ)) (old now : List LevelState) (a : ℕ) (bytes : List ℕ) (lsn : ℕ) → IsStoreSlot z a → IsWritten (image_at images (a / 16)) (image_at new (a / 16)) (a % 16) bytes lsn → ((p : ℕ) → p ≢ a / 16 → image_at new p ≡ image_at images p)
    → AreTold a bytes old now → KnowsCells z images old → KnowsCells z new now
knows_put z images new old now a bytes lsn store page others = knows_written z images new old now a bytes store (sym page.slot) (λ b stands ne. elim (cases_eq (b / 16) (a / 16)) [
  | inl same ↦
      ap (λ p. slot_of (b % 16) (image_at new p)) same
      ∙ page.others (b % 16) stands.slot (omega arith) (λ e. ne (omega (arith, same, e)))
      ∙ ap (λ p. slot_of (b % 16) (image_at images p)) (sym same)
  | inr off ↦ ap (slot_of (b % 16)) (others (b / 16) off)
])

-- ---- each level

-- a level that there is was handed in
pub is_one : (z : Sizes) (images : List (List ℕ)) (levels : List LevelState) (n : ℕ) → KnowsCells z images levels → n < level_count → n < length levels
is_one z images levels n h lt = (let many = h.all in omega (arith, many, lt))

-- the slots of a store are of the sizes that a level was told
pub of_store : (z : Sizes) (images : List (List ℕ)) (levels : List LevelState) (n : ℕ) (given : List Given) → KnowsCells z images levels → n < length levels → AreGiven z given → AreOf (kept_at levels n).sizes given
of_store z images levels n given h lt are = by (kept_at levels n).sizes refl where
  by : (o : Option Sizes) → (kept_at levels n).sizes ≡ o → AreOf o given
  by None e = tt
  by (Some y) e = subst (λ x. AreGiven x given) (sym ((all_lawful n).no_others (kept_at levels n) z y (h.ready n lt) e)) are

-- ---- the cells

chains_are : (z : Sizes) (images : List (List ℕ)) (levels : List LevelState) → KnowsCells z images levels → 1 < length levels
chains_are z images levels h = is_one z images levels 1 h (omega arith)

pub notes_one : (z : Sizes) (images : List (List ℕ)) (levels : List LevelState) (a : ℕ) → KnowsCells z images levels → IsStoreSlot z a → noted (kept_at levels 1) a (slot_at images a) ≡ kept_at levels 1
unfolding meaning_of
notes_one z images levels a h store = h.again 1 a (chains_are z images levels h) store

chains_ready : (z : Sizes) (images : List (List ℕ)) (levels : List LevelState) → KnowsCells z images levels → KnowsStore z (kept_at levels 1)
unfolding meaning_of
chains_ready z images levels h = h.ready 1 (chains_are z images levels h)

-- the level of chains knows the cells
pub cells_known : (z : Sizes) (images : List (List ℕ)) (levels : List LevelState) (rows : List Row) → KnowsCells z images levels → KeepsCells (known z images rows) (kept_at levels 1)
cells_known z images levels rows h = record {
  sizes = store.sizes;
  free_count = store.free;
  chosen_count = store.reserved;
  free = λ i lt.
      let cell = (cells_have_places z i lt).0 in
      ap (λ (x : LevelState). flag_at x.free i) (sym (stays i lt)) ∙ flag_same k.free i (byte i) (let n = store.free in omega (arith, n, lt))
      ∙ free_by_byte z (cell_at z i) (slot_at images (cell_at z i)) cell ∙ ap (λ x. not (is_used x)) (sym (slot_is z images (cell_at z i) (cell_of_store z (cell_at z i) cell)));
  chosen = λ i lt e. absurd (false≢true (sym (ap (λ (x : LevelState). flag_at x.reserved i) (sym (stays i lt)) ∙ flag_same k.reserved i false (let n = store.reserved in omega (arith, n, lt))) ∙ e));
} where
  k : LevelState
  k = kept_at levels 1

  store : KnowsStore z k
  store = chains_ready z images levels h

  byte : ℕ → Bool
  byte i = is_free_slot (slot_at images (cell_at z i))

  -- its flags are those of its slot
  stays : (i : ℕ) → i < cell_count z → noted_cell z k i (byte i) ≡ k
  stays i lt =
      let p = cells_have_places z i lt in
      ap (λ n. noted_cell z k n (byte i)) (sym p.1) ∙ sym (noted_there z k (cell_at z i) (slot_at images (cell_at z i)) store.sizes p.0) ∙ notes_one z images levels (cell_at z i) h (cell_of_store z (cell_at z i) p.0)

-- ---- all slots of a store, one after the other

module _ (z : Sizes) (images : List (List ℕ)) where
  -- none are below the first
  pub none_below : (levels : List LevelState) → level_count ≤ length levels → ((i : ℕ) → i < length levels → (meaning_of i).ready z (kept_at levels i)) → KnowsThose (AreBelow z (directory_at 0)) z images levels
  none_below levels all ready = record {
    again = λ i a lt b. absurd (let low = b.0.page_low in let high = b.1 in omega (arith, low, high));
    all = all;
    ready = ready;
  }

  -- the next slot is told
  pub next_below : (base n : ℕ) (old now : List LevelState) → let at = address (base + n / 15) (1 + n % 15) in let next = address (base + (n + 1) / 15) (1 + (n + 1) % 15) in
      1 ≤ base → AreTold at (slot_at images at) old now → KnowsThose (AreBelow z at) z images old → KnowsThose (AreBelow z next) z images now
  next_below base n old now low told h =
      told_more _ _ z images images old now (address (base + n / 15) (1 + n % 15)) _ told refl (λ e. omega (arith, e, low)) (λ b below. not_sizes z b below.0) (λ b below. elim (cases_eq b (address (base + n / 15) (1 + n % 15))) [
        | inl same ↦ inl same
        | inr ne ↦ inr ((below.0, (let high = below.1 in let slot = below.0.slot in omega (arith, ne, high, slot))), refl)
      ]) h

  -- all are below the end
  pub all_below : (levels : List LevelState) → KnowsThose (AreBelow z (client_slot_at z (15 * z.tags))) z images levels → KnowsCells z images levels
  all_below levels h = record {
    again = λ i a lt store. h.again i a lt (store, (let high = store.page_high in omega (arith, high)));
    all = h.all;
    ready = h.ready;
  }

  -- the first client is behind the last cell
  pub clients_behind : (levels : List LevelState) → KnowsThose (AreBelow z (cell_at z (cell_count z))) z images levels → KnowsThose (AreBelow z (client_slot_at z 0)) z images levels
  clients_behind levels h = record {
    again = λ i a lt b. h.again i a lt (b.0, (let high = b.1 in omega (arith, high)));
    all = h.all;
    ready = h.ready;
  }

  -- the first cell is behind the last sender
  pub cells_behind : (levels : List LevelState) → KnowsThose (AreBelow z (directory_at (sender_count z))) z images levels → KnowsThose (AreBelow z (cell_at z 0)) z images levels
  cells_behind levels h = record {
    again = λ i a lt b. h.again i a lt (b.0, (let high = b.1 in omega (arith, high)));
    all = h.all;
    ready = h.ready;
  }
