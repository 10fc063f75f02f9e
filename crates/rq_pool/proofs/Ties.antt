-- Table and frames stay tied.
use Rattle.std.proofs.Common.{◌≡◌, ◌≢◌, ℕ, ◌<◌, ◌≤◌, Bool, true, false, List, [], ◌∷◌, length, slice_index_or, slice_set, Option, None, Some, refl, sym, ap, arith, ◌∙◌, inl, inr}
use Rattle.std.specs.Option.{is_some}
use Rattle.std.specs.Prelude.{◌↔◌, IsTrue}
use Rattle.std.proofs.lemmas.Bool.{cases_eq, true≢false}
use Rattle.std.proofs.lemmas.List.{get_or-set_same, get_or-set_other, length-set}
use Rattle.rq_pool.specs.Pooled.{image_at, is_changed}
use Rattle.rq_pool.specs.Held.{Held, IsFramed, StandOnce, fixed_at, nothing_held, page_at}
use Rattle.rq_pool.specs.Frames.{AllStand, AreTied, IsFirstFixed, MayBeApart, bytes_at, place_at}

pub some_eq : {A : Type 0} (a b : A) → Some a ≡ Some b → a ≡ b
some_eq a b e = ap (λ (o : Option _). from a o) e where
  from : {A : Type 0} → A → Option A → A
  from d None = d
  from d (Some x) = x

pub some_none : {A : Type 0} (a : A) → Some a ≡ None → ⊥
some_none a e = cc

module _ (images : List (List ℕ)) (changed : List Bool) (places : List (Option ℕ)) (frames : List Held) (pages : List (List ℕ)) (tied : AreTied images changed places frames pages) where
  -- a page whose entry names a frame stands there, and in no other
  pub framed_there : (p i : ℕ) → place_at places p ≡ Some i → IsFramed frames p
  framed_there p i e = let s = tied.there p i e in record { at = i; within = s.within; is = s.page }

  pub there_framed : (p : ℕ) → place_at places p ≡ None → IsFramed frames p → ⊥
  there_framed p e f =
      let b = tied.back f.at f.within in
      some_none f.at (sym b.back ∙ ap (place_at places) f.is ∙ e)

  pub framed_place : (p i : ℕ) → i < length frames → page_at frames i ≡ p → place_at places p ≡ Some i
  framed_place p i lt is = let b = tied.back i lt in ap (place_at places) (sym is) ∙ b.back

  pub outside_none : (p : ℕ) → (IsFramed frames p → ⊥) → place_at places p ≡ None
  outside_none p out = by (place_at places p) refl where
    by : (o : Option ℕ) → place_at places p ≡ o → place_at places p ≡ None
    by None e = e
    by (Some i) e = absurd (out (framed_there p i e))

  -- whether one is named tells whether it stands in one
  pub stands_in_one : (p : ℕ) → IsTrue (is_some (place_at places p)) ↔ IsFramed frames p
  stands_in_one p = by (place_at places p) refl where
    by : (o : Option ℕ) → place_at places p ≡ o → IsTrue (is_some o) ↔ IsFramed frames p
    by None e = (λ t. absurd (true≢false (sym t)), λ f. absurd (there_framed p e f))
    by (Some i) e = (λ t. framed_there p i e, λ f. refl)

  -- a page that was changed stands in one
  pub changed_framed : (p : ℕ) → is_changed changed p ≡ true → IsFramed frames p
  changed_framed p c = by (place_at places p) refl where
    by : (o : Option ℕ) → place_at places p ≡ o → IsFramed frames p
    by None e = absurd (tied.framed p c e)
    by (Some i) e = framed_there p i e

  -- a page in no frame does not count as changed
  pub outside_clean : (p : ℕ) → place_at places p ≡ None → is_changed changed p ≡ false
  outside_clean p none = by (is_changed changed p) refl where
    by : (b : Bool) → is_changed changed p ≡ b → is_changed changed p ≡ false
    by false e = e
    by true e = absurd (tied.framed p e none)

  -- frames with the same pages
  pub tied_repaged : (new : List Held) → length new ≡ length frames → ((i : ℕ) → page_at new i ≡ page_at frames i) → AreTied images changed places new pages
  tied_repaged new len same = record {
    count = tied.count;
    same = tied.same ∙ sym len;
    few = rw len tied.few;
    there = λ p i e. let s = tied.there p i e in record { within = rw len s.within; page = same i ∙ s.page; bytes = s.bytes };
    back = λ i lt.
        let b = tied.back i (rw (← len) lt) in
        record { high = rw (same i) b.high; back = ap (place_at places) (same i) ∙ b.back };
    framed = tied.framed;
  }

  -- fewer pages count as changed
  pub tied_fewer : (new : List Bool) → ((p : ℕ) → is_changed new p ≡ true → is_changed changed p ≡ true) → AreTied images new places frames pages
  tied_fewer new fewer = record { count = tied.count; same = tied.same; few = tied.few; there = tied.there; back = tied.back; framed = λ p c. tied.framed p (fewer p c) }

  -- a page that stands in no frame was read
  pub tied_read : (n : ℕ) (page : List ℕ) → place_at places n ≡ None → AreTied (slice_set images n page) changed places frames pages
  tied_read n page none = record {
    count = tied.count ∙ sym (length-set images n page);
    same = tied.same;
    few = rw (length-set images n page) tied.few;
    there = λ p i e.
        let s = tied.there p i e in
        let other : p ≢ n = λ is. some_none i (sym e ∙ ap (place_at places) is ∙ none) in
        record { within = s.within; page = s.page; bytes = s.bytes ∙ sym (get_or-set_other images n p page [] other) };
    back = tied.back;
    framed = tied.framed;
  }

  -- and takes the place of another in its frame
  module _ (i n : ℕ) (bytes : List ℕ) (lt : i < length frames) (clean : is_changed changed (page_at frames i) ≡ false) (high : n < length places) (none : place_at places n ≡ None) (is : bytes ≡ image_at images n) where
    abbrev pub v : ℕ
    v = page_at frames i

    placed : place_at places v ≡ Some i
    placed = let b = tied.back i lt in b.back

    below : v < length places
    below = let b = tied.back i lt in b.high

    apart : n ≢ v
    apart e = some_none i (sym placed ∙ ap (place_at places) (sym e) ∙ none)

    abbrev pub mid : List (Option ℕ)
    mid = slice_set places v None

    abbrev pub now : List (Option ℕ)
    now = slice_set mid n (Some i)

    abbrev pub held : Held
    held = record { page = n; fixed = true }

    at_new : place_at now n ≡ Some i
    at_new = get_or-set_same mid n (Some i) None (rw (length-set places v None) high)

    at_old : place_at now v ≡ None
    at_old = get_or-set_other mid n v (Some i) None (λ e. apart (sym e)) ∙ get_or-set_same places v None None below

    at_other : (p : ℕ) → p ≢ n → p ≢ v → place_at now p ≡ place_at places p
    at_other p ne nv = get_or-set_other mid n p (Some i) None ne ∙ get_or-set_other places v p None None nv

    frames_same : (j : ℕ) → j ≢ i → page_at (slice_set frames i held) j ≡ page_at frames j
    frames_same j ne = ap (λ (h : Held). h.page) (get_or-set_other frames i j held nothing_held ne)

    frames_here : page_at (slice_set frames i held) i ≡ n
    frames_here = ap (λ (h : Held). h.page) (get_or-set_same frames i held nothing_held lt)

    pub tied_put : AreTied images changed now (slice_set frames i held) (slice_set pages i bytes)
    tied_put = record {
      count = length-set mid n (Some i) ∙ length-set places v None ∙ tied.count;
      same = length-set pages i bytes ∙ tied.same ∙ sym (length-set frames i held);
      few = rw (length-set frames i held) tied.few;
      there = λ p j e. elim (cases_eq p n) [
        | inl here ↦
            let at : j ≡ i = some_eq j i (sym e ∙ ap (place_at now) here ∙ at_new) in
            record {
              within = rw (length-set frames i held) (omega (arith, at, lt));
              page = ap (page_at (slice_set frames i held)) at ∙ frames_here ∙ sym here;
              bytes = ap (bytes_at (slice_set pages i bytes)) at ∙ get_or-set_same pages i bytes [] (rw tied.same lt) ∙ is ∙ ap (image_at images) (sym here);
            }
        | inr ne ↦ elim (cases_eq p v) [
          | inl gone ↦ absurd (some_none j (sym e ∙ ap (place_at now) gone ∙ at_old))
          | inr nv ↦
              let s = tied.there p j (sym (at_other p ne nv) ∙ e) in
              let other : j ≢ i = λ same. nv (sym s.page ∙ ap (page_at frames) same) in
              record {
                within = rw (length-set frames i held) s.within;
                page = frames_same j other ∙ s.page;
                bytes = get_or-set_other pages i j bytes [] other ∙ s.bytes;
              }
        ]
      ];
      back = λ j within. elim (cases_eq j i) [
        | inl here ↦
            let at : page_at (slice_set frames i held) j ≡ n = ap (page_at (slice_set frames i held)) here ∙ frames_here in
            record {
              high = rw (length-set mid n (Some i) ∙ length-set places v None) (rw at high);
              back = ap (place_at now) at ∙ at_new ∙ ap Some (sym here);
            }
        | inr other ↦
            let b = tied.back j (rw (← length-set frames i held) within) in
            let at = frames_same j other in
            let ne : page_at frames j ≢ n = λ e. some_none j (sym b.back ∙ ap (place_at places) e ∙ none) in
            let nv : page_at frames j ≢ v = λ e. other (some_eq j i (sym b.back ∙ ap (place_at places) e ∙ placed)) in
            record {
              high = rw (length-set mid n (Some i) ∙ length-set places v None) (rw at b.high);
              back = ap (place_at now) at ∙ at_other (page_at frames j) ne nv ∙ b.back;
            }
      ];
      framed = λ p c e. elim (cases_eq p n) [
        | inl here ↦ some_none i (sym at_new ∙ ap (place_at now) (sym here) ∙ e)
        | inr ne ↦ elim (cases_eq p v) [
          | inl gone ↦ true≢false (sym c ∙ ap (is_changed changed) gone ∙ clean)
          | inr nv ↦ tied.framed p c (sym (at_other p ne nv) ∙ e)
        ]
      ];
    }

  -- a slot of a page in its frame was written
  pub tied_set : (i p : ℕ) (bytes : List ℕ) → place_at places p ≡ Some i → p < length images → AreTied (slice_set images p bytes) (slice_set changed p true) places frames (slice_set pages i bytes)
  tied_set i p bytes placed lt =
      let here = tied.there p i placed in
      record {
        count = tied.count ∙ sym (length-set images p bytes);
        same = length-set pages i bytes ∙ tied.same;
        few = rw (length-set images p bytes) tied.few;
        there = λ q j e. elim (cases_eq j i) [
          | inl at ↦
              let s = tied.there q j e in
              let is : q ≡ p = sym s.page ∙ ap (page_at frames) at ∙ here.page in
              record {
                within = s.within;
                page = s.page;
                bytes = ap (bytes_at (slice_set pages i bytes)) at ∙ get_or-set_same pages i bytes [] (rw tied.same here.within) ∙ sym (get_or-set_same images p bytes [] lt) ∙ ap (image_at (slice_set images p bytes)) (sym is);
              }
          | inr other ↦
              let s = tied.there q j e in
              let ne : q ≢ p = λ is. other (some_eq j i (sym e ∙ ap (place_at places) is ∙ placed)) in
              record {
                within = s.within;
                page = s.page;
                bytes = get_or-set_other pages i j bytes [] other ∙ s.bytes ∙ sym (get_or-set_other images p q bytes [] ne);
              }
        ];
        back = tied.back;
        framed = λ q c e. elim (cases_eq q p) [
          | inl is ↦ some_none i (sym placed ∙ ap (place_at places) (sym is) ∙ e)
          | inr ne ↦ tied.framed q (sym (get_or-set_other changed p q true false ne) ∙ c) e
        ];
      }

-- the page in a frame is the same, fixed or not
pub held_page : (frames : List Held) (i j : ℕ) (b : Bool) → i < length frames → page_at (slice_set frames i (record { page = page_at frames i; fixed = b })) j ≡ page_at frames j
held_page frames i j b lt = elim (cases_eq j i) [
  | inl here ↦ ap (page_at (slice_set frames i (record { page = page_at frames i; fixed = b }))) here ∙ ap (λ (h : Held). h.page) (get_or-set_same frames i (record { page = page_at frames i; fixed = b }) nothing_held lt) ∙ ap (page_at frames) (sym here)
  | inr other ↦ ap (λ (h : Held). h.page) (get_or-set_other frames i j (record { page = page_at frames i; fixed = b }) nothing_held other)
]

pub held_tied : (images : List (List ℕ)) (changed : List Bool) (places : List (Option ℕ)) (frames : List Held) (pages : List (List ℕ)) → AreTied images changed places frames pages → (i : ℕ) (b : Bool) → i < length frames
    → AreTied images changed places (slice_set frames i (record { page = page_at frames i; fixed = b })) pages
held_tied images changed places frames pages tied i b lt =
    tied_repaged images changed places frames pages tied (slice_set frames i (record { page = page_at frames i; fixed = b })) (length-set frames i (record { page = page_at frames i; fixed = b })) (λ j. held_page frames i j b lt)

-- the page that stands apart is not the one that is written in its frame
pub apart_kept : (images : List (List ℕ)) (places : List (Option ℕ)) (o : Option ℕ) (bytes : List ℕ) (p i : ℕ) (b : List ℕ) → place_at places p ≡ Some i → MayBeApart images places o bytes → MayBeApart (slice_set images p b) places o bytes
apart_kept images places None bytes p i b placed is = is
apart_kept images places (Some q) bytes p i b placed is = record {
  high = rw (length-set images p b) is.high;
  none = is.none;
  is = is.is ∙ sym (get_or-set_other images p q b [] (λ e. some_none i (sym placed ∙ ap (place_at places) (sym e) ∙ is.none)));
}

-- each page of the store stands in a frame
pub all_framed : (images : List (List ℕ)) (changed : List Bool) (places : List (Option ℕ)) (frames : List Held) (pages : List (List ℕ)) → AreTied images changed places frames pages → AllStand places → (p : ℕ) → p < length images → IsFramed frames p
all_framed images changed places frames pages tied all p lt = by (place_at places p) refl where
  by : (o : Option ℕ) → place_at places p ≡ o → IsFramed frames p
  by None e = absurd (all p (rw tied.count lt) e)
  by (Some i) e = framed_there images changed places frames pages tied p i e

-- no page stands in two
pub stand_once : (images : List (List ℕ)) (changed : List Bool) (places : List (Option ℕ)) (frames : List Held) (pages : List (List ℕ)) → AreTied images changed places frames pages → StandOnce frames
stand_once images changed places frames pages tied i j low high same =
    some_eq i j (sym (framed_place images changed places frames pages tied (page_at frames j) i low same) ∙ framed_place images changed places frames pages tied (page_at frames j) j high refl)

-- the superblock stays fixed in the first frame, where another frame is set
pub first_set : (frames : List Held) (i : ℕ) (h : Held) → IsFirstFixed frames → i ≢ 0 → IsFirstFixed (slice_set frames i h)
first_set frames i h first behind =
    let same : slice_index_or (slice_set frames i h) 0 nothing_held ≡ slice_index_or frames 0 nothing_held = get_or-set_other frames i 0 h nothing_held (λ e. behind (sym e)) in
    record { page = ap (λ (x : Held). x.page) same ∙ first.page; fixed = ap (λ (x : Held). x.fixed) same ∙ first.fixed }

-- as that of any other page
pub first_held : (frames : List Held) (i p : ℕ) (b : Bool) → IsFirstFixed frames → page_at frames i ≡ p → 1 ≤ p → IsFirstFixed (slice_set frames i (record { page = page_at frames i; fixed = b }))
first_held frames i p b first is low =
    first_set frames i (record { page = page_at frames i; fixed = b }) first (λ (zero_at : i ≡ 0). let page = first.page in absurd (omega (arith, low, sym is ∙ ap (page_at frames) zero_at ∙ page)))

-- the superblock stands in the first
pub first_placed : (images : List (List ℕ)) (changed : List Bool) (places : List (Option ℕ)) (frames : List Held) (pages : List (List ℕ)) → AreTied images changed places frames pages → IsFirstFixed frames → place_at places 0 ≡ Some 0
first_placed images changed places frames pages tied first = framed_place images changed places frames pages tied 0 0 (some_frame frames first.fixed) first.page where
  some_frame : (fs : List Held) → fixed_at fs 0 ≡ true → 0 < length fs
  some_frame [] e = absurd (true≢false (sym e))
  some_frame (f ∷ fs) e = omega arith

-- a page that stands in a frame counts as changed
pub tied_marked : (images : List (List ℕ)) (changed : List Bool) (places : List (Option ℕ)) (frames : List Held) (pages : List (List ℕ)) (p i : ℕ) → AreTied images changed places frames pages → place_at places p ≡ Some i → AreTied images (slice_set changed p true) places frames pages
tied_marked images changed places frames pages p i tied placed = record {
  count = tied.count;
  same = tied.same;
  few = tied.few;
  there = tied.there;
  back = tied.back;
  framed = λ q c none. elim (cases_eq q p) [
    | inl here ↦ some_none i (sym placed ∙ ap (place_at places) (sym here) ∙ none)
    | inr other ↦ tied.framed q (sym (get_or-set_other changed p q true false other) ∙ c) none
  ];
}
