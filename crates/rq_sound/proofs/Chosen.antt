-- Which cells a level knows as chosen while a plan has not started, and how it comes to know a store's cells.
use Rattle.std.proofs.Common.{set, ◌≡◌, ◌≢◌, ◌⊎◌, ℕ, ◌+◌, ◌/◌, ◌<◌, List, [], ◌∷◌, length, map, drop, reverse, refl, sym, ◌∙◌, ap, subst, Bool, true, false, not, nat_eq, Option, Some, None, Ok, Err, inl, inr, arith}
use Rattle.std.proofs.lemmas.Bool.{cases_Bool, cases_eq, eq-eqb, eqb-true, false≢true, false_from_ne_true, or_cases, or_left, true≢false}
use Rattle.std.proofs.lemmas.List.{length-set, reverse-reverse}
use Rattle.rq_model.specs.declared.refusal.Refusal.{Refusal}
use Rattle.rq_model.specs.declared.record.Deed.{Deed}
use Rattle.rq_model.specs.declared.record.Deed.TheVariants.{Append, UnlinkHead, Close as Close_deed, Mark}
use Rattle.rq_model.specs.declared.record.Record.{Record}
use Rattle.rq_model.specs.declared.record.Record.TheVariants.{OpEnd}
use Rattle.rq_model.specs.Deeds.{deed_by}
use Rattle.rq_model.specs.Vocabulary.{has_number}
use Rattle.rq_page.specs.declared.cell.Cell.{Cell}
use Rattle.rq_page.specs.Sizes.{Sizes, IsCellAddress, cell_at, cell_count, place_of}
use Rattle.rq_page.specs.Slots.{held_in}
use Rattle.rq_page.proofs.Addresses.{cells_have_places, places_are_cells}
use Rattle.rq_page.specs.declared.directory.Directory.{Directory}
use Rattle.rq_page.specs.Slots.Slot.{Free, Used}
use Rattle.rq_views.specs.Chain.{directory_appended}
use Rattle.rq_views.specs.Items.{layout_of}
use Rattle.rq_views.specs.Log.{Slots, Write}
use Rattle.rq_views.specs.Plans.{append_writes, directory_put_back, directory_write, put_back_writes, relinked, with_next, with_prev}
use Rattle.rq_views.specs.Stored.{IsStoreSlot, is_used}
use Rattle.rq_level.specs.ChainPlans.{PlansFor, Plans, Undoes, chain_undoes}
use Rattle.rq_level.specs.declared.slots.Given.{Given}
use Rattle.rq_level.specs.declared.writes.Plan.{Plan}
use Rattle.rq_level.specs.declared.writes.SlotWrite.{SlotWrite}
use Rattle.rq_level.specs.LevelState.{LevelState, flag_at, is_cell_address, is_free_slot, noted, noted_cell, noted_in, reserved_at}
use Rattle.rq_level.specs.Ops.{Doing, doing_by}
use Rattle.rq_level.specs.Ops.Doing.{Send, Receive, Close}
use Rattle.rq_level.specs.Writes.{writes_of}
use Rattle.rq_level.proofs.Noting.{is_cell}
use Rattle.rq_groups.specs.Ends.{HeldEnds}
use Rattle.rq_txn.specs.Rows.{AreDistinct, Row, Under}
use Rattle.rq_store.specs.State.{State}
use Rattle.rq_sound.specs.Calls.{IsIdle, started}
use Rattle.rq_sound.specs.Groups.{slots_now}
use Rattle.rq_sound.specs.Levels.{KeepsCells, to_write}
use Rattle.rq_sound.specs.Chosen.{KeepsBeside, KnowsFirst, NotedCellsAreKnown, PlannedCellsAreKept, first_place}
use Rattle.rq_sound.proofs.KeptCells.{cell_is, flag_other, flag_same, free_by_byte, more_started, own_write, place_is}

-- ---- the first write of a plan

abbrev at_first : List Write → ℕ
at_first [] = 0
at_first (w ∷ ws) = w.at

first_is : (z : Sizes) (us : List SlotWrite) (v : Write) (rest : List Write) → writes_of z us ≡ v ∷ rest → has_number v.at (first_place us) ≡ true
first_is z [] v rest e = absurd (cc)
first_is z (u ∷ us) v rest e = or_left (nat_eq u.at v.at) false (eq-eqb u.at v.at (ap at_first e))

-- of a send's plan and of a receive's inverse it is of the cell that they take
new_first : (z : Sizes) (us : List SlotWrite) (w : Write) (at : ℕ) (o : Option Cell) (f : Cell → Cell) (v : Write) → reverse (writes_of z us) ≡ w ∷ relinked at o f (v ∷ [])
    → has_number v.at (first_place us) ≡ true
new_first z us w at None f v e = first_is z us v (w ∷ []) (sym (reverse-reverse (writes_of z us)) ∙ ap reverse e)
new_first z us w at (Some c) f v e = first_is z us v (record { at = at; before = Used c; after = Used (f c) } ∷ w ∷ []) (sym (reverse-reverse (writes_of z us)) ∙ ap reverse e)

sent_first : (z : Sizes) (us : List SlotWrite) (g : ℕ) (d : Directory) (new tag : ℕ) (body : List ℕ) (old : Option Cell) → reverse (writes_of z us) ≡ append_writes (layout_of z) g d new tag body old
    → has_number new (first_place us) ≡ true
sent_first z us g d new tag body old e =
    new_first z us (directory_write (layout_of z) g d (directory_appended d new tag)) d.tail old (with_next new)
    (record { at = new; before = Free; after = Used (record { sender = g; sequence = d.sent + 1; tag = tag; body = body; next = 0; prev = d.tail }) }) e

returned_first : (z : Sizes) (us : List SlotWrite) (g : ℕ) (d : Directory) (new tag : ℕ) (body : List ℕ) (old : Option Cell) → reverse (writes_of z us) ≡ put_back_writes (layout_of z) g d new tag body old
    → has_number new (first_place us) ≡ true
returned_first z us g d new tag body old e =
    new_first z us (directory_write (layout_of z) g d (directory_put_back d new)) d.head old (with_prev new)
    (record { at = new; before = Free; after = Used (record { sender = g; sequence = d.received; tag = tag; body = body; next = d.head; prev = 0 }) }) e

-- it is among them all
first_among : (a : ℕ) (us : List SlotWrite) → has_number a (first_place us) ≡ true → has_number a (map (λ (w : SlotWrite). w.at) us) ≡ true
first_among a [] h = h
first_among a (u ∷ us) h = elim (or_cases (nat_eq u.at a) false h) [
  | inl y ↦ or_left (nat_eq u.at a) (has_number a (map (λ (w : SlotWrite). w.at) us)) y
  | inr f ↦ absurd (false≢true f)
]

-- ---- plans

-- with more that may be chosen
wider : (s : State) (k : LevelState) (planned : List ℕ) → KeepsCells s k → KeepsBeside s k planned
wider s k planned h = record { sizes = h.sizes; free_count = h.free_count; chosen_count = h.chosen_count; free = h.free; chosen = λ i lt e. inl (h.chosen i lt e) }

chosen_beside : (s : State) (k : LevelState) (a : ℕ) (planned : List ℕ) → KeepsCells s k → has_number a planned ≡ true → IsCellAddress s.sizes a → KeepsBeside s (reserved_at s.sizes k a) planned
chosen_beside s k a planned h has cell =
    let p = place_of s.sizes a in
    let place = places_are_cells s.sizes a cell in
    record {
      sizes = h.sizes;
      free_count = h.free_count;
      chosen_count = (let l = length-set k.reserved p true in let n = h.chosen_count in omega (arith, l, n));
      free = h.free;
      chosen = λ i lt e. elim (cases_eq i p) [
        | inl same ↦ inr (subst (λ b. has_number b planned ≡ true) (sym (ap (cell_at s.sizes) same ∙ place.1)) has)
        | inr ne ↦ inl (h.chosen i lt (sym (flag_other k.reserved p i true ne) ∙ e))
      ];
    }

-- the sizes that the level was told are the store's
of_sizes : (s : State) (k : LevelState) (P : Option Sizes → Type 0) → KeepsCells s k → P k.sizes → P (Some s.sizes)
of_sizes s k P h p = subst P h.sizes p

same_kept : (s : State) (k after : LevelState) (planned : List ℕ) → KeepsCells s k → after ≡ k → KeepsBeside s after planned
same_kept s k after planned h e = subst (λ (x : LevelState). KeepsBeside s x planned) (sym e) (wider s k planned h)

lowest_cell : (z : Sizes) (place a : ℕ) → place < cell_count z → a ≡ cell_at z place → IsCellAddress z a
lowest_cell z place a lt e = subst (IsCellAddress z) (sym e) (cells_have_places z place lt).0

module _ (s : State) (k : LevelState) (h : KeepsCells s k) (given : List Given) (latched : List ℕ) where
  does : (d : Option Doing) (p : Plan) (after : LevelState) → Plans (Some s.sizes) d k given latched (Ok p) after → KeepsBeside s after (first_place p.writes.items)
  does None p after m = absurd m
  does (Some (Send g tag body)) p after m =
      subst (λ (x : LevelState). KeepsBeside s x (first_place p.writes.items)) (sym m.kept)
      (chosen_beside s k m.new (first_place p.writes.items) h (sent_first s.sizes p.writes.items g m.can.directory m.new tag body m.can.old m.writes) (lowest_cell s.sizes m.lowest.place m.new m.lowest.below m.lowest.at))
  does (Some (Receive g)) p after m = same_kept s k after _ h m.kept
  does (Some (Close g)) p after m = same_kept s k after _ h m.kept

  does_not : (d : Option Doing) (r : Refusal) (after : LevelState) → Plans (Some s.sizes) d k given latched (Err r) after → after ≡ k
  does_not None r after m = m.1
  does_not (Some (Send g tag body)) r after m = m.1
  does_not (Some (Receive g)) r after m = m.1
  does_not (Some (Close g)) r after m = m.1

  takes_back : (d : Option Deed) (p : Plan) (after : LevelState) → Undoes (Some s.sizes) d k given latched (Ok p) after → KeepsBeside s after (first_place p.writes.items)
  takes_back None p after m = absurd m
  takes_back (Some (Append g n tag previous body)) p after m = same_kept s k after _ h m.kept
  takes_back (Some (UnlinkHead g n tag body)) p after m =
      subst (λ (x : LevelState). KeepsBeside s x (first_place p.writes.items)) (sym m.kept)
      (chosen_beside s k m.new (first_place p.writes.items) h (returned_first s.sizes p.writes.items g m.can.directory m.new tag body m.can.old m.writes) (lowest_cell s.sizes m.lowest.place m.new m.lowest.below m.lowest.at))
  takes_back (Some (Close_deed g)) p after m = same_kept s k after _ h m.kept
  takes_back (Some (Mark c tag previous)) p after m = absurd m

  leaves : (d : Option Deed) (r : Refusal) (after : LevelState) → Undoes (Some s.sizes) d k given latched (Err r) after → after ≡ k
  leaves None r after m = m.1
  leaves (Some (Append g n tag previous body)) r after m = m.1
  leaves (Some (UnlinkHead g n tag body)) r after m = m.1
  leaves (Some (Close_deed g)) r after m = m.1
  leaves (Some (Mark c tag previous)) r after m = m.1

plans_for : (s : State) (k : LevelState) (h : KeepsCells s k) (undo : Bool) (d : Option Doing) (given : List Given) (latched : List ℕ) (p : Plan) (after : LevelState)
    → PlansFor undo k.sizes d k given latched (Ok p) after → KeepsBeside s after (first_place p.writes.items)
plans_for s k h true d given latched p after m = absurd m
plans_for s k h false d given latched p after m = does s k h given latched d p after (of_sizes s k (λ o. Plans o d k given latched (Ok p) after) h m)

refuses_for : (s : State) (k : LevelState) (h : KeepsCells s k) (undo : Bool) (d : Option Doing) (given : List Given) (latched : List ℕ) (r : Refusal) (after : LevelState)
    → PlansFor undo k.sizes d k given latched (Err r) after → after ≡ k
refuses_for s k h true d given latched r after m = m.1
refuses_for s k h false d given latched r after m = does_not s k h given latched d r after (of_sizes s k (λ o. Plans o d k given latched (Err r) after) h m)

-- a record that ends an operation is the one that tells a deed
undone_by : (s : State) (k : LevelState) (h : KeepsCells s k) (told : Record) (given : List Given) (latched : List ℕ) (p : Plan) (after : LevelState)
    → chain_undoes k told given latched (Ok p) after → KeepsBeside s after (first_place p.writes.items)
undone_by s k h (OpEnd t n level deed) given latched p after m = takes_back s k h given latched (deed_by level deed) p after (of_sizes s k (λ o. Undoes o (deed_by level deed) k given latched (Ok p) after) h m)
undone_by s k h told given latched p after m = absurd m

left_by_refusal : (s : State) (k : LevelState) (h : KeepsCells s k) (told : Record) (given : List Given) (latched : List ℕ) (r : Refusal) (after : LevelState)
    → chain_undoes k told given latched (Err r) after → after ≡ k
left_by_refusal s k h (OpEnd t n level deed) given latched r after m = leaves s k h given latched (deed_by level deed) r after (of_sizes s k (λ o. Undoes o (deed_by level deed) k given latched (Err r) after) h m)
left_by_refusal s k h told given latched r after m = m.1

-- ---- slots that are noted as they are

-- a slot of the store is none of the superblock's
not_first : (z : Sizes) (a : ℕ) → IsStoreSlot z a → nat_eq a 1 ≡ false
not_first z a store = false_from_ne_true (nat_eq a 1) (λ y. let e = eqb-true a 1 y in let low = store.page_low in omega (arith, e, low))

noted_as : (z : Sizes) (k : LevelState) (a : ℕ) (bytes : List ℕ) → k.sizes ≡ Some z → IsStoreSlot z a → noted k a bytes ≡ noted_in (Some z) k a bytes
noted_as z k a bytes told store = (let n = not_first z a store in rw n refl) ∙ ap (λ (o : Option Sizes). noted_in o k a bytes) told

other_place : (z : Sizes) (a i : ℕ) → is_cell_address z a ≡ false → i < cell_count z → cell_at z i ≢ a
other_place z a i n lt e = true≢false (sym (cell_is z a (subst (IsCellAddress z) e (cells_have_places z i lt).0)) ∙ n)

dropped : (a b : ℕ) (planned : List ℕ) → b ≢ a → has_number b (a ∷ planned) ≡ true → has_number b planned ≡ true
dropped a b planned ne h = elim (or_cases (nat_eq a b) (has_number b planned) h) [ inl y ↦ absurd (ne (sym (eqb-true a b y))) | inr m ↦ m ]

fewer : (x : Type 0) (a b : ℕ) (planned : List ℕ) → b ≢ a → x ⊎ (has_number b (a ∷ planned) ≡ true) → x ⊎ (has_number b planned ≡ true)
fewer x a b planned ne h = elim h [ inl y ↦ inl y | inr m ↦ inr (dropped a b planned ne m) ]

module _ (s : State) (k : LevelState) (a : ℕ) (bytes : List ℕ) (planned : List ℕ) (store : IsStoreSlot s.sizes a) (now : slots_now s a ≡ held_in s.sizes (a / 16) bytes) (h : KeepsBeside s k (a ∷ planned)) where
  abbrev p : ℕ
  p = place_of s.sizes a

  abbrev free_now : Bool
  free_now = is_free_slot bytes

  of_no_cell : is_cell_address s.sizes a ≡ false → KeepsBeside s k planned
  of_no_cell n = record {
    sizes = h.sizes;
    free_count = h.free_count;
    chosen_count = h.chosen_count;
    free = h.free;
    chosen = λ i lt e. fewer (to_write s.rows (cell_at s.sizes i) ≡ true) a (cell_at s.sizes i) planned (other_place s.sizes a i n lt) (h.chosen i lt e);
  }

  of_cell : is_cell_address s.sizes a ≡ true → KeepsBeside s (noted_cell s.sizes k p free_now) planned
  of_cell y =
      let cell = is_cell s.sizes a y in
      let place = places_are_cells s.sizes a cell in
      let free_lt : p < length k.free = (let n = h.free_count in let lt = place.0 in omega (arith, n, lt)) in
      let chosen_lt : p < length k.reserved = (let n = h.chosen_count in let lt = place.0 in omega (arith, n, lt)) in
      record {
        sizes = h.sizes;
        free_count = (let l = length-set k.free p free_now in let n = h.free_count in omega (arith, l, n));
        chosen_count = (let l = length-set k.reserved p false in let n = h.chosen_count in omega (arith, l, n));
        free = λ i lt. elim (cases_eq i p) [
          | inl same ↦
              let here : cell_at s.sizes i ≡ a = ap (cell_at s.sizes) same ∙ place.1 in
              ap (flag_at (set k.free p free_now)) same ∙ flag_same k.free p free_now free_lt ∙ free_by_byte s.sizes a bytes cell
              ∙ ap (λ x. not (is_used x)) (sym now) ∙ ap (λ b. not (is_used (slots_now s b))) (sym here)
          | inr ne ↦ flag_other k.free p i free_now ne ∙ h.free i lt
        ];
        chosen = λ i lt e. elim (cases_eq i p) [
          | inl same ↦ absurd (false≢true (sym (ap (flag_at (set k.reserved p false)) same ∙ flag_same k.reserved p false chosen_lt) ∙ e))
          | inr ne ↦ fewer (to_write s.rows (cell_at s.sizes i) ≡ true) a (cell_at s.sizes i) planned (λ e. ne (place_is s.sizes a i lt e)) (h.chosen i lt (sym (flag_other k.reserved p i false ne) ∙ e))
        ];
      }

  noted_beside : KeepsBeside s (noted k a bytes) planned
  noted_beside = subst (λ (x : LevelState). KeepsBeside s x planned) (sym (noted_as s.sizes k a bytes h.sizes store)) (elim (cases_Bool (is_cell_address s.sizes a)) [
    | inl y ↦ rw y (of_cell y)
    | inr n ↦ rw n (of_no_cell n)
  ])

nothing_beside : (s : State) (k : LevelState) → KeepsBeside s k [] → KeepsCells s k
nothing_beside s k h = record {
  sizes = h.sizes;
  free_count = h.free_count;
  chosen_count = h.chosen_count;
  free = h.free;
  chosen = λ i lt e. elim (h.chosen i lt e) [ inl y ↦ y | inr m ↦ absurd (false≢true m) ];
}

-- what it is to write is chosen where it starts
started_beside : (s : State) (r : Row) (u : Under) (ends : HeldEnds) (k : LevelState) → AreDistinct s.rows → IsIdle s r → u.made ≡ 0 → KeepsBeside s k (first_place u.writes) → KeepsCells (started s r u ends) k
started_beside s r u ends k d m made h = record {
  sizes = h.sizes;
  free_count = h.free_count;
  chosen_count = h.chosen_count;
  free = h.free;
  chosen = λ i lt e. elim (h.chosen i lt e) [
    | inl y ↦ more_started s d r m u ends (cell_at s.sizes i) y
    | inr has ↦ own_write s d r m u ends (cell_at s.sizes i) (subst (λ n. has_number (cell_at s.sizes i) (map (λ (w : SlotWrite). w.at) (drop n u.writes)) ≡ true) (sym made) (first_among (cell_at s.sizes i) u.writes has))
  ];
}

pub planned_kept : PlannedCellsAreKept
planned_kept = record {
  plans = λ s k job given latched p after h m. plans_for s k h job.undo (doing_by job.level job.bytes) given latched p after m;
  refuses = λ s k job given latched r after h m. subst (KeepsCells s) (sym (refuses_for s k h job.undo (doing_by job.level job.bytes) given latched r after m)) h;
  undoes = λ s k told given latched p after h m. undone_by s k h told given latched p after m;
  refuses_undo = λ s k told given latched r after h m. subst (KeepsCells s) (sym (left_by_refusal s k h told given latched r after m)) h;
  starts = started_beside;
  notes = λ s k a bytes planned store now h. noted_beside s k a bytes planned store now h;
  given_back = nothing_beside;
}

-- ---- an opening

module _ (z : Sizes) (q : Slots) (k : LevelState) (count a : ℕ) (bytes : List ℕ) (store : IsStoreSlot z a) (now : q a ≡ held_in z (a / 16) bytes) (h : KnowsFirst z q k count) where
  -- how many are known then
  known_at : (n : ℕ) → ((i : ℕ) → i < n → i < cell_count z → cell_at z i ≢ a → i < count) → KnowsFirst z q (noted k a bytes) n
  known_at n more = subst (λ (x : LevelState). KnowsFirst z q x n) (sym (noted_as z k a bytes h.sizes store)) (elim (cases_Bool (is_cell_address z a)) [
    | inl y ↦ rw y (of_a_cell y)
    | inr off ↦ rw off (record {
      sizes = h.sizes;
      free_count = h.free_count;
      chosen_count = h.chosen_count;
      free = λ i lt low. h.free i (more i lt low (other_place z a i off low)) low;
      chosen = λ i lt low. h.chosen i (more i lt low (other_place z a i off low)) low;
    })
  ])
    where
      of_a_cell : is_cell_address z a ≡ true → KnowsFirst z q (noted_cell z k (place_of z a) (is_free_slot bytes)) n
      of_a_cell y =
          let cell = is_cell z a y in
          let p = place_of z a in
          let place = places_are_cells z a cell in
          let free_lt : p < length k.free = (let c = h.free_count in let lt = place.0 in omega (arith, c, lt)) in
          let chosen_lt : p < length k.reserved = (let c = h.chosen_count in let lt = place.0 in omega (arith, c, lt)) in
          record {
            sizes = h.sizes;
            free_count = (let l = length-set k.free p (is_free_slot bytes) in let c = h.free_count in omega (arith, l, c));
            chosen_count = (let l = length-set k.reserved p false in let c = h.chosen_count in omega (arith, l, c));
            free = λ i lt low. elim (cases_eq i p) [
              | inl same ↦
                  let here : cell_at z i ≡ a = ap (cell_at z) same ∙ place.1 in
                  ap (flag_at (set k.free p (is_free_slot bytes))) same ∙ flag_same k.free p (is_free_slot bytes) free_lt ∙ free_by_byte z a bytes cell
                  ∙ ap (λ x. not (is_used x)) (sym now) ∙ ap (λ b. not (is_used (q b))) (sym here)
              | inr ne ↦ flag_other k.free p i (is_free_slot bytes) ne ∙ h.free i (more i lt low (λ e. ne (place_is z a i low e))) low
            ];
            chosen = λ i lt low. elim (cases_eq i p) [
              | inl same ↦ ap (flag_at (set k.reserved p false)) same ∙ flag_same k.reserved p false chosen_lt
              | inr ne ↦ flag_other k.reserved p i false ne ∙ h.chosen i (more i lt low (λ e. ne (place_is z a i low e))) low
            ];
          }

pub noted_known : NotedCellsAreKnown
noted_known = record {
  told = λ z q k told free chosen. record {
    sizes = told;
    free_count = free;
    chosen_count = chosen;
    free = λ i lt. absurd (let bad : i < 0 = lt in omega (arith, bad));
    chosen = λ i lt. absurd (let bad : i < 0 = lt in omega (arith, bad));
  };
  notes = λ z q k count a bytes store now h. known_at z q k count a bytes store now h count (λ i lt low ne. lt);
  notes_next = λ z q k count bytes lt now h.
      let cell = (cells_have_places z count lt).0 in
      known_at z q k count (cell_at z count) bytes (record { page_low = (let low = cell.above in omega (arith, low)); page_high = (let high = cell.below in omega (arith, high)); slot = cell.slot }) now h (count + 1)
      (λ i less low ne. elim (cases_eq i count) [ inl same ↦ absurd (ne (ap (cell_at z) same)) | inr other ↦ omega (arith, less, other) ]);
  all = λ s k h. record {
    sizes = h.sizes;
    free_count = h.free_count;
    chosen_count = h.chosen_count;
    free = λ i lt. h.free i lt lt;
    chosen = λ i lt e. absurd (false≢true (sym (h.chosen i lt lt) ∙ e));
  };
}
