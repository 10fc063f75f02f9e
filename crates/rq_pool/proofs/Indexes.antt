-- The indexes of the free cells and of the closed groups are kept.
use Rattle.std.proofs.Common.{◌≡◌, ◌≢◌, ◌↔◌, IsTrue, nat_eq, slice_index, ℕ, ◌*◌, ◌/◌, ◌%◌, ◌<◌, ◌≤◌, Bool, true, false, cond, nat_lt, List, [], ◌∷◌, ◌++◌, ◌+◌, ◌-◌, length, slice_set, refl, sym, ap, ◌∙◌, arith, inl, inr}
use Rattle.std.specs.Prelude.{None, Option, Some}
use Rattle.std.proofs.lemmas.Bool.{cases_eq, cases_lt, false≢true}
use Rattle.std.proofs.lemmas.Bool.Decides.{nat_tests}
use Rattle.std.proofs.lemmas.Nat.Bits.{bit_at-lt}
use Rattle.std.proofs.Math.Bool.{beq}
use Rattle.std.proofs.lemmas.List.{get_or-set_same, get_or-set_other}
use Rattle.rq_bitset.specs.Flags.{flag_at, IsNextFlag}
use Rattle.rq_page.specs.Sizes.{Sizes, IsCellAddress, cell_count, cell_at, directory_at, page_count, place_of, sender_at, sender_count, tags_from}
use Rattle.rq_page.specs.Slots.{Free, held_for, held_in, of_cell_slot}
use Rattle.rq_page.specs.Cells.{cell_slot_in}
use Rattle.rq_page.specs.Kinds.{kind_of}
use Rattle.rq_page.specs.declared.cell.CellSlot.{CellSlot}
use Rattle.rq_page.specs.declared.cell.CellSlot.TheVariants as cells
use Rattle.rq_page.specs.declared.layout.PageKind.{PageKind}
use Rattle.rq_page.specs.declared.layout.PageKind.TheVariants as kind
use Rattle.rq_page.specs.Pages.{slot_of, IsWritten}
use Rattle.rq_page.proofs.Addresses.{cells_have_places, places_are_cells, senders_have_slots}
use Rattle.rq_views.specs.Stored.{slots_in, slot_at, is_used, count_used}
use Rattle.rq_pool.specs.Pooled.{image_at}
use Rattle.rq_pool.specs.Indexed.{AreFlaggedAlike, AreNotedOn, Indexed, IsIndex, IsNoted, IsNotedOn, closed_flag, closed_groups, free_cells, free_flag}
use Rattle.rq_pool.proofs.Counts.{lower_place, one_of, passed, passed_more, passed_run, used_below}
use Rattle.rq_pool.proofs.Readings.{earlier, here}
use Rattle.rq_pool.proofs.Slots.{slots_here}

-- the flags of what stands on the first n pages are noted, and no later one is set
pub record AreNotedTo (x : Indexed) (z : Sizes) (images : List (List ℕ)) (flags : List ℕ) (n : ℕ) : Type 0 where
  pub room : x.count ≤ 64 * length flags
  pub noted : (k : ℕ) → k < x.count → x.at k / 16 < n → IsNoted x z images flags k
  pub later : (k : ℕ) → (k < x.count → n ≤ x.at k / 16) → flag_at flags k ≡ 0

-- the flags of what stands on a page before a slot are noted, and all others are as before
pub record AreNotedOf (x : Indexed) (z : Sizes) (page old flags : List ℕ) (number slot : ℕ) : Type 0 where
  pub noted : (k : ℕ) → k < x.count → x.at k / 16 ≡ number → x.at k % 16 < slot → IsNotedOn x z page flags k
  pub others : (k : ℕ) → (k < x.count → x.at k / 16 ≢ number) → flag_at flags k ≡ flag_at old k
  pub same : length flags ≡ length old

-- all that an index tells of stands in slots of the store
pub record StandsInStore (x : Indexed) (z : Sizes) : Type 0 where
  pub high : (k : ℕ) → k < x.count → x.at k / 16 < page_count z
  pub slot : (k : ℕ) → k < x.count → 1 ≤ x.at k % 16

pub cells_stand : (z : Sizes) → StandsInStore (free_cells z) z
cells_stand z = record {
  high = λ k lt. let a = (cells_have_places z k lt).0.below in omega (arith, a);
  slot = λ k lt. (cells_have_places z k lt).0.slot;
}

pub groups_stand : (z : Sizes) → StandsInStore (closed_groups z) z
groups_stand z = record {
  high = λ k lt. let a = (senders_have_slots z k lt).1 in omega (arith, a);
  slot = λ k lt. (senders_have_slots z k lt).2;
}

-- what stands in a slot that is as it was
pub slot_stays : (z : Sizes) (old new : List (List ℕ)) (a : ℕ) → slot_at new a ≡ slot_at old a → slots_in z new a ≡ slots_in z old a
slot_stays z old new a same = ap (λ (bytes : List ℕ). cond (nat_lt 0 (a % 16)) (held_in z (a / 16) bytes) Free) same

-- slots of other pages, and other slots of a page that was written
page_stays : (old new : List (List ℕ)) (page a : ℕ) → ((p : ℕ) → p ≢ page → image_at new p ≡ image_at old p) → a / 16 ≢ page → slot_at new a ≡ slot_at old a
page_stays old new page a others off = ap (slot_of (a % 16)) (others (a / 16) off)

pub rest_stays : (old new : List (List ℕ)) (at a : ℕ) (image : List ℕ) (lsn : ℕ) → IsWritten (image_at old (at / 16)) (image_at new (at / 16)) (at % 16) image lsn
    → ((p : ℕ) → p ≢ at / 16 → image_at new p ≡ image_at old p) → 1 ≤ a % 16 → a ≢ at → slot_at new a ≡ slot_at old a
rest_stays old new at a image lsn written others low other =
    elim (cases_eq (a / 16) (at / 16)) [
      | inl page ↦
          ap (λ (p : ℕ). slot_of (a % 16) (image_at new p)) page ∙ written.others (a % 16) low (omega arith) (λ same. other (omega (arith, page, same))) ∙ ap (λ (p : ℕ). slot_of (a % 16) (image_at old p)) (sym page)
      | inr another ↦ page_stays old new (at / 16) a others another
    ]

module _ (x : Indexed) (z : Sizes) (stands : StandsInStore x z) where
  -- what is noted of a page with these bytes is of the images, where it has them
  pub noted_here : (images : List (List ℕ)) (page flags : List ℕ) (k : ℕ) → k < x.count → image_at images (x.at k / 16) ≡ page → IsNotedOn x z page flags k → IsNoted x z images flags k
  noted_here images page flags k lt is noted =
      noted ∙ ap x.flag (ap (λ (bytes : List ℕ). held_in z (x.at k / 16) (slot_of (x.at k % 16) bytes)) (sym is) ∙ sym (slots_here z images (x.at k) (stands.slot k lt)))

  -- and the other way round
  pub noted_there : (images : List (List ℕ)) (page flags : List ℕ) (k : ℕ) → k < x.count → image_at images (x.at k / 16) ≡ page → IsNoted x z images flags k → IsNotedOn x z page flags k
  noted_there images page flags k lt is noted =
      noted ∙ ap x.flag (slots_here z images (x.at k) (stands.slot k lt) ∙ ap (λ (bytes : List ℕ). held_in z (x.at k / 16) (slot_of (x.at k % 16) bytes)) is)

  -- a slot was written, and noted
  pub index_written : (old new : List (List ℕ)) (flags now : List ℕ) (at : ℕ) (image page : List ℕ) (lsn : ℕ) → IsIndex x z old flags
      → IsWritten (image_at old (at / 16)) (image_at new (at / 16)) (at % 16) image lsn → ((p : ℕ) → p ≢ at / 16 → image_at new p ≡ image_at old p) → image_at new (at / 16) ≡ page
      → ((k : ℕ) → k < x.count → x.at k ≡ at → IsNotedOn x z page now k) → ((k : ℕ) → (k < x.count → x.at k ≢ at) → flag_at now k ≡ flag_at flags k) → length now ≡ length flags
      → IsIndex x z new now
  index_written old new flags now at image page lsn index written elsewhere is noted others same = record {
    room = let r = index.room in omega (arith, r, same);
    noted = λ k lt. elim (cases_eq (x.at k) at) [
      | inl here ↦ noted_here new page now k lt (ap (λ (a : ℕ). image_at new (a / 16)) here ∙ is) (noted k lt here)
      | inr other ↦
          let slot : slot_at new (x.at k) ≡ slot_at old (x.at k) = rest_stays old new at (x.at k) image lsn written elsewhere (stands.slot k lt) other in
          others k (λ _. other) ∙ index.noted k lt ∙ ap x.flag (sym (slot_stays z old new (x.at k) slot))
    ];
    beyond = λ k past. others k (λ lt e. absurd (omega (arith, lt, past))) ∙ index.beyond k past;
  }

  -- a page was read once more, and the index tells of it
  pub index_read : (images : List (List ℕ)) (flags : List ℕ) (n : ℕ) (page : List ℕ) → n < length images → IsIndex x z images flags → AreNotedOn x z n page flags → IsIndex x z (slice_set images n page) flags
  index_read images flags n page within index noted = record {
    room = index.room;
    noted = λ k lt. elim (cases_eq (x.at k / 16) n) [
      | inl here ↦ noted_here (slice_set images n page) page flags k lt (ap (image_at (slice_set images n page)) here ∙ get_or-set_same images n page [] within) (noted k lt here)
      | inr other ↦
          let slot : slot_at (slice_set images n page) (x.at k) ≡ slot_at images (x.at k) = ap (slot_of (x.at k % 16)) (get_or-set_other images n (x.at k / 16) page [] other) in
          index.noted k lt ∙ ap x.flag (sym (slot_stays z images (slice_set images n page) (x.at k) slot))
    ];
    beyond = index.beyond;
  }

  -- the index tells of each page that has its image
  pub index_tells : (images : List (List ℕ)) (flags : List ℕ) (n : ℕ) (page : List ℕ) → IsIndex x z images flags → image_at images n ≡ page → AreNotedOn x z n page flags
  index_tells images flags n page index is k lt here = noted_there images page flags k lt (ap (image_at images) here ∙ is) (index.noted k lt)

  -- two lists of which it tells have the same flags there
  pub index_alike : (old new : List (List ℕ)) (flags : List ℕ) → IsIndex x z old flags → IsIndex x z new flags → (k : ℕ) → k < x.count → x.flag (slots_in z new (x.at k)) ≡ x.flag (slots_in z old (x.at k))
  index_alike old new flags a b k lt = sym (b.noted k lt) ∙ a.noted k lt

  -- one page more is read, and noted
  pub noted_more : (images new : List (List ℕ)) (flags now : List ℕ) (n : ℕ) (page : List ℕ) → new ≡ images ++ page ∷ [] → length images ≡ n → AreNotedTo x z images flags n
      → AreNotedOn x z n page now → ((k : ℕ) → (k < x.count → x.at k / 16 ≢ n) → flag_at now k ≡ flag_at flags k) → length now ≡ length flags
      → AreNotedTo x z new now (n + 1)
  noted_more images new flags now n page grown count before noted others same = record {
    room = let r = before.room in omega (arith, r, same);
    noted = λ k lt low. elim (cases_eq (x.at k / 16) n) [
      | inl at ↦ noted_here new page now k lt (ap (image_at new) at ∙ here images new n page grown count) (noted k lt at)
      | inr other ↦
          let within : x.at k / 16 < n = omega (arith, low, other) in
          let slot : slot_at new (x.at k) ≡ slot_at images (x.at k) = ap (slot_of (x.at k % 16)) (earlier images new n page grown count (x.at k / 16) within) in
          others k (λ _. other) ∙ before.noted k lt within ∙ ap x.flag (sym (slot_stays z images new (x.at k) slot))
    ];
    later = λ k past. others k (λ lt e. let p = past lt in absurd (omega (arith, e, p))) ∙ before.later k (λ lt. let p = past lt in omega (arith, p));
  }

  -- all pages are
  pub index_whole : (images : List (List ℕ)) (flags : List ℕ) (n : ℕ) → n ≡ page_count z → AreNotedTo x z images flags n → IsIndex x z images flags
  index_whole images flags n all before = record {
    room = before.room;
    noted = λ k lt. before.noted k lt (let h = stands.high k lt in omega (arith, h, all));
    beyond = λ k past. before.later k (λ lt. absurd (omega (arith, lt, past)));
  }

-- ---- what an index tells of one slot

flag_small : (flags : List ℕ) (k : ℕ) → flag_at flags k < 2
unfolding flag_at
flag_small flags k = bit_at-lt (slice_index flags (k / 64)) (k % 64)

-- it tells of a slot what it holds exactly where its flag is set as that slot's would be
pub told_so : (flags : List ℕ) (k flag : ℕ) (has set : Bool) → has ≡ nat_eq (flag_at flags k) 1 → cond set 1 0 ≡ flag → (IsTrue (beq has set) ↔ (flag_at flags k ≡ flag))
told_so flags k flag true true e is = (λ t. (let set : flag_at flags k ≡ 1 = grind (arith, nat_tests) in omega (arith, set, is)), λ t. refl)
told_so flags k flag false false e is =
    (λ t. (let small = flag_small flags k in let clear : flag_at flags k ≢ 1 = grind (arith, nat_tests) in omega (arith, small, clear, is)), λ t. refl)
told_so flags k flag true false e is = (λ t. absurd (false≢true t), λ t. absurd (let set : flag_at flags k ≡ 1 = grind (arith, nat_tests) in omega (arith, set, is, t)))
told_so flags k flag false true e is = (λ t. absurd (false≢true t), λ t. absurd (let clear : flag_at flags k ≢ 1 = grind (arith, nat_tests) in omega (arith, clear, is, t)))

-- ---- two lists of which both indexes tell

closed_cell : (c : CellSlot) → closed_flag (of_cell_slot c) ≡ 0
closed_cell cells.Free = refl
closed_cell (cells.Used c) = refl

free_of : (k : Option PageKind) (b c : List ℕ) → k ≢ Some kind.Cells → free_flag (held_for k b) ≡ free_flag (held_for k c)
free_of None b c ne = refl
free_of (Some kind.Superblock) b c ne = refl
free_of (Some kind.Directory) b c ne = refl
free_of (Some kind.Cells) b c ne = absurd (ne refl)
free_of (Some kind.Tags) b c ne = refl

closed_of : (k : Option PageKind) (b c : List ℕ) → k ≢ Some kind.Directory → closed_flag (held_for k b) ≡ closed_flag (held_for k c)
closed_of None b c ne = refl
closed_of (Some kind.Superblock) b c ne = refl
closed_of (Some kind.Directory) b c ne = absurd (ne refl)
closed_of (Some kind.Cells) b c ne = closed_cell (cell_slot_in b) ∙ sym (closed_cell (cell_slot_in c))
closed_of (Some kind.Tags) b c ne = refl

-- which pages are of cells, and which of directories
only_cells : (z : Sizes) (p : ℕ) → ((z.directory < p) → (p < tags_from z) → ⊥) → kind_of z p ≢ Some kind.Cells
only_cells z p not e = grind (arith, nat_tests)

only_directory : (z : Sizes) (p : ℕ) → ((1 ≤ p) → (p ≤ z.directory) → ⊥) → kind_of z p ≢ Some kind.Directory
only_directory z p not e = grind (arith, nat_tests)

module _ (z : Sizes) (old new : List (List ℕ)) (free closed : List ℕ) (was : IsIndex (free_cells z) z old free) (is : IsIndex (free_cells z) z new free) (was_closed : IsIndex (closed_groups z) z old closed) (is_closed : IsIndex (closed_groups z) z new closed) where
  free_alike : (a : ℕ) → 1 ≤ a % 16 → free_flag (slots_in z new a) ≡ free_flag (slots_in z old a)
  free_alike a low =
      let to : kind_of z (a / 16) ≢ Some kind.Cells → free_flag (slots_in z new a) ≡ free_flag (slots_in z old a) =
      λ ne. ap free_flag (slots_here z new a low) ∙ free_of (kind_of z (a / 16)) (slot_at new a) (slot_at old a) ne ∙ ap free_flag (sym (slots_here z old a low)) in
      elim (cases_lt z.directory (a / 16)) [
        | inl above ↦ elim (cases_lt (a / 16) (tags_from z)) [
          | inl below ↦
              let p = places_are_cells z a (record { above = above; below = below; slot = low }) in
              ap (λ (b : ℕ). free_flag (slots_in z new b)) (sym p.1) ∙ index_alike (free_cells z) z (cells_stand z) old new free was is (place_of z a) p.0 ∙ ap (λ (b : ℕ). free_flag (slots_in z old b)) p.1
          | inr past ↦ to (only_cells z (a / 16) (λ _ b. omega (arith, b, past)))
        ]
        | inr before ↦ to (only_cells z (a / 16) (λ b _. omega (arith, b, before)))
      ]

  closed_alike : (a : ℕ) → 1 ≤ a % 16 → closed_flag (slots_in z new a) ≡ closed_flag (slots_in z old a)
  closed_alike a low =
      let to : kind_of z (a / 16) ≢ Some kind.Directory → closed_flag (slots_in z new a) ≡ closed_flag (slots_in z old a) =
      λ ne. ap closed_flag (slots_here z new a low) ∙ closed_of (kind_of z (a / 16)) (slot_at new a) (slot_at old a) ne ∙ ap closed_flag (sym (slots_here z old a low)) in
      elim (cases_lt 0 (a / 16)) [
        | inl above ↦ elim (cases_lt z.directory (a / 16)) [
          | inl past ↦ to (only_directory z (a / 16) (λ _ b. omega (arith, b, past)))
          | inr below ↦
              let s : ℕ = sender_at (a / 16) (a % 16) in
              let at : directory_at s ≡ a = omega (arith, above, low) in
              let lt : s < sender_count z = omega (arith, above, low, below) in
              ap (λ (b : ℕ). closed_flag (slots_in z new b)) (sym at) ∙ index_alike (closed_groups z) z (groups_stand z) old new closed was_closed is_closed s lt ∙ ap (λ (b : ℕ). closed_flag (slots_in z old b)) at
        ]
        | inr first ↦ to (only_directory z (a / 16) (λ b _. omega (arith, b, first)))
      ]

  -- the same cells are free, and the same groups closed
  pub indexed_alike : AreFlaggedAlike z old new
  indexed_alike a = elim (cases_lt 0 (a % 16)) [
    | inl low ↦ (free_alike a low, closed_alike a low)
    | inr none ↦
        let no : nat_lt 0 (a % 16) ≡ false = grind (arith, nat_tests) in
        let each : (images : List (List ℕ)) → slots_in z images a ≡ Free = λ images. ap (λ (b : Bool). cond b (held_in z (a / 16) (slot_at images a)) Free) no in
        (ap free_flag (each new ∙ sym (each old)), ap closed_flag (each new ∙ sym (each old)))
  ]

-- ---- what the index of the free cells tells

module _ (z : Sizes) (images : List (List ℕ)) (flags : List ℕ) (index : IsIndex (free_cells z) z images flags) where
  by_no_flag : (b : Bool) → ◌≡◌ {A = ℕ} (cond b 0 1) 0 → b ≡ true
  by_no_flag true e = refl
  by_no_flag false e = absurd (omega (arith, e))

  -- a place whose flag is not set is that of a used cell
  pub used_there : (b : ℕ) → IsCellAddress z b → flag_at flags (place_of z b) ≡ 0 → is_used (slots_in z images b) ≡ true
  used_there b is clear =
      let p = places_are_cells z b is in
      ap (λ a. is_used (slots_in z images a)) (sym p.1) ∙ by_no_flag (is_used (slots_in z images (cell_at z (place_of z b)))) (sym (index.noted (place_of z b) p.0) ∙ clear)

  -- cells between a place and the next one in the index are used
  pub used_between : (from place a : ℕ) → a ≡ cell_at z place → IsNextFlag flags from (Some place) → (b : ℕ) → IsCellAddress z b → from ≤ place_of z b → b < a → is_used (slots_in z images b) ≡ true
  used_between from place a here next b is after lt =
      used_there b is (next.2 (place_of z b) after (lower_place z b place is (omega (arith, lt, here))))

  pub used_from : (from : ℕ) → IsNextFlag flags from None → (b : ℕ) → IsCellAddress z b → from ≤ place_of z b → is_used (slots_in z images b) ≡ true
  used_from from none b is after = used_there b is (none (place_of z b) after)

  -- a place whose flag is set is that of a free cell
  pub place_within : (k : ℕ) → flag_at flags k ≡ 1 → k < cell_count z
  place_within k set = elim (cases_lt k (cell_count z)) [
    | inl low ↦ low
    | inr past ↦ let clear = index.beyond k (omega (arith, past)) in absurd (omega (arith, set, clear))
  ]

  by_flag : (b : Bool) → ◌≡◌ {A = ℕ} (cond b 0 1) 1 → one_of b ≡ 0
  by_flag true e = absurd (omega (arith, e))
  by_flag false e = refl

  -- the used cells before the next free one, and up to it
  pub count_more : (from next used : ℕ) → used ≡ used_below z (slots_in z images) from → IsNextFlag flags from (Some next)
      → used + (next - from) ≡ used_below z (slots_in z images) (next + 1)
  count_more from next used so_far is =
      let f : ℕ → Bool = λ i. is_used (slots_in z images (cell_at z i)) in
      let low : next < cell_count z = place_within next is.1 in
      let run : passed f next ≡ passed f from + (next - from) =
      passed_run f from next (next - from) (omega (arith, is.0)) (λ i after to. by_no_flag (f i) (sym (index.noted i (omega (arith, to, low))) ∙ is.2 i after to)) in
      let here : one_of (f next) ≡ 0 = by_flag (f next) (sym (index.noted next low) ∙ is.1) in
      let more : passed f (next + 1) ≡ passed f next + one_of (f next) = passed_more f next in
      omega (arith, so_far, run, here, more)

  -- and those behind the last free one
  pub count_rest : (from used : ℕ) → used ≡ used_below z (slots_in z images) from → from ≤ cell_count z → IsNextFlag flags from None
      → used + (cell_count z - from) ≡ count_used z (slots_in z images)
  count_rest from used so_far within none =
      let f : ℕ → Bool = λ i. is_used (slots_in z images (cell_at z i)) in
      let run : passed f (cell_count z) ≡ passed f from + (cell_count z - from) =
      passed_run f from (cell_count z) (cell_count z - from) (omega (arith, within)) (λ i after to. by_no_flag (f i) (sym (index.noted i to) ∙ none i after)) in
      omega (arith, so_far, run)
