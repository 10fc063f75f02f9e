-- Pages that were read in order, each into the next frame as far as these go.
use Rattle.std.proofs.Common.{◌≡◌, ℕ, zero, suc, ◌+◌, ◌<◌, ◌≤◌, Bool, true, false, cond, List, [], ◌∷◌, ◌++◌, nat_eq, nat_lt, length, min, replicate, slice_index_or, Option, None, Some, refl, sym, ap, arith, ◌∙◌, inl, inr, subst, length-append}
use Rattle.std.proofs.lemmas.Bool.{cases_eq, cases_lt, true≢false}
use Rattle.std.proofs.lemmas.Bool.Decides.{nat_tests}
use Rattle.std.proofs.lemmas.List.{append-nil}
use Rattle.std.proofs.Math.ListN.{get_or-append}
use Rattle.std.proofs.Math.Seq.{get_or-append_seam}
use Rattle.rq_pool.specs.Pooled.{image_at, is_changed}
use Rattle.rq_pool.specs.Held.{Held, IsFixed, nothing_held, page_at}
use Rattle.rq_pool.specs.Frames.{AllStand, AreTied, IsFirstFixed, bytes_at, first_frame, first_page, first_place, place_at}
use Rattle.rq_pool.proofs.Ties.{some_eq, some_none}

abbrev held_first : ℕ → Held
held_first i = record { page = i; fixed = nat_eq i 0 }

-- of the first n pages so many stand in a frame, each in that of its number
pub record AreFirst (most n : ℕ) (images : List (List ℕ)) (places : List (Option ℕ)) (frames : List Held) (pages : List (List ℕ)) : Type 0 where
  pub places_are : length places ≡ n
  pub placed : (p : ℕ) → p < n → p < most → place_at places p ≡ Some p
  pub unplaced : (p : ℕ) → p < n → most ≤ p → place_at places p ≡ None
  pub frames_are : length frames ≡ min n most
  pub held : (i : ℕ) → i < n → i < most → slice_index_or frames i nothing_held ≡ held_first i
  pub pages_are : length pages ≡ min n most
  pub paged : (i : ℕ) → i < n → i < most → bytes_at pages i ≡ image_at images i

pub none_first : (most : ℕ) → AreFirst most 0 [] [] [] []
none_first most = record {
  places_are = refl;
  placed = λ p lt low. absurd (omega (arith, lt));
  unplaced = λ p lt high. absurd (omega (arith, lt));
  frames_are = omega arith;
  held = λ i lt low. absurd (omega (arith, lt));
  pages_are = omega arith;
  paged = λ i lt low. absurd (omega (arith, lt));
}

-- the last of a list with one more
at_end : {A : Type 0} (xs : List A) (x d : A) (n i : ℕ) → length xs ≡ n → i ≡ n → slice_index_or (xs ++ x ∷ []) i d ≡ x
at_end xs x d n i size is = ap (λ (k : ℕ). slice_index_or (xs ++ x ∷ []) k d) (is ∙ sym size) ∙ get_or-append_seam xs x [] d

-- one page more
module _ (most n : ℕ) (images : List (List ℕ)) (page : List ℕ) (places : List (Option ℕ)) (frames : List Held) (pages : List (List ℕ)) (count : length images ≡ n) (so : AreFirst most n images places frames pages) where
  one_image : (i : ℕ) → i < n → image_at (images ++ page ∷ []) i ≡ image_at images i
  one_image i lt = get_or-append images (page ∷ []) [] i (omega (arith, lt, count))

  one_place : (p : ℕ) → p < n → place_at (places ++ first_place most n ∷ []) p ≡ place_at places p
  one_place p lt = get_or-append places (first_place most n ∷ []) None p (let are = so.places_are in omega (arith, lt, are))

  unplaced_more : (p : ℕ) → p < n + 1 → most ≤ p → place_at (places ++ first_place most n ∷ []) p ≡ None
  unplaced_more p lt high = elim (cases_eq p n) [
    | inl last ↦
        let no : nat_lt n most ≡ false = grind (arith, nat_tests, last, high) in
        at_end places (first_place most n) None n p so.places_are last ∙ ap (λ (b : Bool). cond b (Some n) None) no
    | inr other ↦ (let low : p < n = omega (arith, lt, other) in one_place p low ∙ so.unplaced p low high)
  ]

  placed_more : (p : ℕ) → p < n + 1 → p < most → place_at (places ++ first_place most n ∷ []) p ≡ Some p
  placed_more p lt low = elim (cases_eq p n) [
    | inl last ↦
        let yes : nat_lt n most ≡ true = grind (arith, nat_tests, last, low) in
        at_end places (first_place most n) None n p so.places_are last ∙ ap (λ (b : Bool). cond b (Some n) None) yes ∙ ap Some (sym last)
    | inr other ↦ (let before : p < n = omega (arith, lt, other) in one_place p before ∙ so.placed p before low)
  ]

  places_size : length (places ++ first_place most n ∷ []) ≡ n + 1
  places_size = length-append places (first_place most n ∷ []) ∙ ap (λ (k : ℕ). k + 1) so.places_are

  -- which gets a frame
  framed_more : n < most → AreFirst most (n + 1) (images ++ page ∷ []) (places ++ first_place most n ∷ []) (frames ++ held_first n ∷ []) (pages ++ page ∷ [])
  framed_more low =
      let frames_n : length frames ≡ n = (let are = so.frames_are in omega (arith, are, low)) in
      let pages_n : length pages ≡ n = (let are = so.pages_are in omega (arith, are, low)) in
      record {
        places_are = places_size;
        placed = placed_more;
        unplaced = unplaced_more;
        frames_are = (let size = length-append frames (held_first n ∷ []) in omega (arith, size, frames_n, low));
        held = λ i lt in_frames. elim (cases_eq i n) [
          | inl last ↦ at_end frames (held_first n) nothing_held n i frames_n last ∙ ap held_first (sym last)
          | inr other ↦ (let before : i < n = omega (arith, lt, other) in get_or-append frames (held_first n ∷ []) nothing_held i (omega (arith, before, frames_n)) ∙ so.held i before in_frames)
        ];
        pages_are = (let size = length-append pages (page ∷ []) in omega (arith, size, pages_n, low));
        paged = λ i lt in_frames. elim (cases_eq i n) [
          | inl last ↦ at_end pages page [] n i pages_n last ∙ sym (at_end images page [] n i count last)
          | inr other ↦ (let before : i < n = omega (arith, lt, other) in get_or-append pages (page ∷ []) [] i (omega (arith, before, pages_n)) ∙ so.paged i before in_frames ∙ sym (one_image i before))
        ];
      }

  -- or none
  unframed_more : most ≤ n → AreFirst most (n + 1) (images ++ page ∷ []) (places ++ first_place most n ∷ []) frames pages
  unframed_more high = record {
    places_are = places_size;
    placed = placed_more;
    unplaced = unplaced_more;
    frames_are = (let are = so.frames_are in omega (arith, are, high));
    held = λ i lt low. so.held i (omega (arith, low, high)) low;
    pages_are = (let are = so.pages_are in omega (arith, are, high));
    paged = λ i lt low. (let before : i < n = omega (arith, low, high) in so.paged i before low ∙ sym (one_image i before));
  }

  more_so : AreFirst most (n + 1) (images ++ page ∷ []) (places ++ first_place most n ∷ []) (frames ++ first_frame most n) (pages ++ first_page most n page)
  more_so = elim (cases_lt n most) [
    | inl low ↦
        let yes : true ≡ nat_lt n most = grind (arith, nat_tests, low) in
        subst (λ (b : Bool). AreFirst most (n + 1) (images ++ page ∷ []) (places ++ first_place most n ∷ []) (frames ++ cond b (held_first n ∷ []) []) (pages ++ cond b (page ∷ []) [])) yes (framed_more low)
    | inr high ↦
        let no : false ≡ nat_lt n most = grind (arith, nat_tests, high) in
        subst (λ (b : Bool). AreFirst most (n + 1) (images ++ page ∷ []) (places ++ first_place most n ∷ []) (frames ++ cond b (held_first n ∷ []) []) (pages ++ cond b (page ∷ []) [])) no
        (subst (λ (f : List Held). AreFirst most (n + 1) (images ++ page ∷ []) (places ++ first_place most n ∷ []) f (pages ++ [])) (sym (append-nil frames))
        (subst (λ (f : List (List ℕ)). AreFirst most (n + 1) (images ++ page ∷ []) (places ++ first_place most n ∷ []) frames f) (sym (append-nil pages)) (unframed_more high)))
  ]

  pub first_more : (new : List (List ℕ)) (new_places : List (Option ℕ)) (new_frames : List Held) (new_pages : List (List ℕ)) → new ≡ images ++ page ∷ [] → new_places ≡ places ++ first_place most n ∷ [] → new_frames ≡ frames ++ first_frame most n → new_pages ≡ pages ++ first_page most n page → AreFirst most (n + 1) new new_places new_frames new_pages
  first_more new new_places new_frames new_pages a b c d = rw a (rw b (rw c (rw d more_so)))

-- a page behind them stands in none
place_past : (places : List (Option ℕ)) (p : ℕ) → length places ≤ p → place_at places p ≡ None
place_past [] k le = refl
place_past (x ∷ xs) zero le = absurd (omega (arith, le))
place_past (x ∷ xs) (suc k) le = place_past xs k (omega (arith, le))

same_many : (n p : ℕ) → is_changed (replicate n false) p ≡ false
same_many zero p = refl
same_many (suc n) zero = refl
same_many (suc n) (suc p) = same_many n p

module _ (most n : ℕ) (images : List (List ℕ)) (changed : List Bool) (places : List (Option ℕ)) (frames : List Held) (pages : List (List ℕ)) (count : length images ≡ n) (clean : changed ≡ replicate n false) (so : AreFirst most n images places frames pages) where
  stands_there : (p i : ℕ) → place_at places p ≡ Some i → (p < n) × (p < most) × (i ≡ p)
  stands_there p i e = elim (cases_lt p n) [
    | inr past ↦ absurd (some_none i (sym e ∙ place_past places p (let are = so.places_are in omega (arith, past, are))))
    | inl within ↦ elim (cases_lt p most) [
      | inl low ↦ (within, low, some_eq i p (sym e ∙ so.placed p within low))
      | inr high ↦ absurd (some_none i (sym e ∙ so.unplaced p within high))
    ]
  ]

  in_frames : (i : ℕ) → i < length frames → (i < n) × (i < most)
  in_frames i lt = (let are = so.frames_are in (omega (arith, are, lt), omega (arith, are, lt)))

  -- table and frames agree then
  pub tied_first : AreTied images changed places frames pages
  tied_first = record {
    count = so.places_are ∙ sym count;
    same = so.pages_are ∙ sym so.frames_are;
    few = (let are = so.frames_are in omega (arith, are, count));
    there = λ p i e.
        let at = stands_there p i e in
        let within = at.0 in
        let low = at.1 in
        let same = at.2 in
        let here : i < n = omega (arith, within, same) in
        let there : i < most = omega (arith, low, same) in
        record {
          within = (let are = so.frames_are in omega (arith, are, here, there));
          page = ap (λ (h : Held). h.page) (so.held i here there) ∙ same;
          bytes = so.paged i here there ∙ ap (image_at images) same;
        };
    back = λ i lt.
        let at = in_frames i lt in
        let page : page_at frames i ≡ i = ap (λ (h : Held). h.page) (so.held i at.0 at.1) in
        record {
          high = (let are = so.places_are in let low = at.0 in omega (arith, are, page, low));
          back = ap (place_at places) page ∙ so.placed i at.0 at.1;
        };
    framed = λ p c none. true≢false (sym c ∙ ap (λ (l : List Bool). is_changed l p) clean ∙ same_many n p);
  }

  pub all_stand : n ≤ most → AllStand places
  all_stand enough p lt none =
      let low : p < n = (let are = so.places_are in omega (arith, are, lt)) in
      some_none p (sym (so.placed p low (omega (arith, low, enough))) ∙ none)

  pub first_is_fixed : 1 ≤ n → 1 ≤ most → IsFirstFixed frames
  first_is_fixed some more =
      let h = so.held 0 (omega (arith, some)) (omega (arith, more)) in
      record { page = ap (λ (x : Held). x.page) h; fixed = ap (λ (x : Held). x.fixed) h }

  -- no page behind the superblock is fixed
  pub none_fixed : (q : ℕ) → 1 ≤ q → IsFixed frames q → ⊥
  none_fixed q behind f =
      let low = in_frames f.at f.within in
      let h = so.held f.at low.0 low.1 in
      let at : f.at ≡ q = sym (ap (λ (x : Held). x.page) h) ∙ f.is in
      let no : nat_eq f.at 0 ≡ false = grind (arith, nat_tests, at, behind) in
      true≢false (sym f.fixed ∙ ap (λ (x : Held). x.fixed) h ∙ no)
