-- A page takes the place of another in a frame, and is not fixed there.
use Rattle.std.proofs.Common.{◌≡◌, ⊎_elim, ℕ, ◌-◌, ◌<◌, ◌≤◌, Bool, true, false, List, length, slice_index_or, Option, inl, inr, refl, sym, ◌∙◌, ap, subst, arith}
use Rattle.std.proofs.lemmas.Bool.{cases_eq, true≢false}
use Rattle.std.proofs.lemmas.List.{get_or-set_same, get_or-set_other, length-set}
use Rattle.rq_page.specs.Pages.{lsn_of}
use Rattle.rq_pool.specs.Fixing.{IsBrought, IsLoose, IsSetIn}
use Rattle.rq_pool.specs.Frames.{AreTied, HasPage, IsFirstFixed, bytes_at, place_at}
use Rattle.rq_pool.specs.Held.{Held, IsFixed, IsFramed, IsSetAt, fixed_at, nothing_held, page_at}
use Rattle.rq_pool.proofs.Ties.{first_placed, some_eq}
use Rattle.rq_pool.proofs.Wants.{set_here}

-- it was brought into a frame and let go of there
module _ (images : List (List ℕ)) (forced page : ℕ) (old mid new : List Held) (in_frame : IsBrought images forced old page mid) (set : IsSetIn false mid page new) where
  abbrev fixed : Held
  fixed = record { page = page; fixed = true }

  abbrev free : Held
  free = record { page = page; fixed = false }

  within : in_frame.at < length mid
  within = subst (λ (l : List Held). in_frame.at < length l) (sym in_frame.now) (rw (length-set old in_frame.at fixed) in_frame.loose.within)

  stands : page_at mid in_frame.at ≡ page
  stands = ap (λ (l : List Held). page_at l in_frame.at) in_frame.now ∙ set_here old in_frame.at fixed in_frame.loose.within

  pub exchanged_frame : IsFramed new page
  exchanged_frame = ⊎_elim
      (λ (s : IsSetAt false mid page new). record {
        at = s.at;
        within = subst (λ (l : List Held). s.at < length l) (sym s.now) (rw (length-set mid s.at free) s.within);
        is = ap (λ (l : List Held). page_at l s.at) s.now ∙ set_here mid s.at free s.within;
      })
      (λ (t : (IsFramed mid page → ⊥) × (new ≡ mid)). absurd (t.0 (record { at = in_frame.at; within = within; is = stands }))) set

  pub exchanged_count : length new ≡ length old
  exchanged_count =
      ⊎_elim (λ (s : IsSetAt false mid page new). ap length s.now ∙ length-set mid s.at free) (λ (t : (IsFramed mid page → ⊥) × (new ≡ mid)). ap length t.1) set ∙ ap length in_frame.now ∙ length-set old in_frame.at fixed

  -- no page is fixed that was not
  pub exchanged_loose : (q : ℕ) → IsFixed new q → IsFixed old q
  exchanged_loose q f = ⊎_elim
      (λ (s : IsSetAt false mid page new). elim (cases_eq f.at s.at) [
        | inl here ↦ absurd (true≢false (sym f.fixed ∙ ap (fixed_at new) here ∙ ap (λ (l : List Held). fixed_at l s.at) s.now ∙ ap (λ (h : Held). h.fixed) (get_or-set_same mid s.at free nothing_held s.within)))
        | inr other ↦
            let same : slice_index_or new f.at nothing_held ≡ slice_index_or mid f.at nothing_held = ap (λ (l : List Held). slice_index_or l f.at nothing_held) s.now ∙ get_or-set_other mid s.at f.at free nothing_held other in
            elim (cases_eq f.at in_frame.at) [
              | inl there ↦ absurd (other (there ∙ s.only in_frame.at within stands))
              | inr apart ↦
                  let was : slice_index_or mid f.at nothing_held ≡ slice_index_or old f.at nothing_held = ap (λ (l : List Held). slice_index_or l f.at nothing_held) in_frame.now ∙ get_or-set_other old in_frame.at f.at fixed nothing_held apart in
                  let less = f.within in
                  let n = exchanged_count in
                  record {
                    at = f.at;
                    within = omega (arith, less, n);
                    is = sym (ap (λ (h : Held). h.page) (same ∙ was)) ∙ f.is;
                    fixed = sym (ap (λ (h : Held). h.fixed) (same ∙ was)) ∙ f.fixed;
                  }
            ]
      ])
      (λ (t : (IsFramed mid page → ⊥) × (new ≡ mid)). absurd (t.0 (record { at = in_frame.at; within = within; is = stands }))) set

-- where none behind the superblock is fixed, the page in another frame than its own is not
module _ (images : List (List ℕ)) (changed : List Bool) (places : List (Option ℕ)) (frames : List Held) (pages : List (List ℕ)) (i : ℕ) (tied : AreTied images changed places frames pages) (first : IsFirstFixed frames) (loose : (q : ℕ) → 1 ≤ q → IsFixed frames q → ⊥) (lt : i < length frames) (behind : 1 ≤ i) where
  back : HasPage places frames i
  back = tied.back i lt

  low : 1 ≤ page_at frames i
  low = elim (cases_eq (page_at frames i) 0) [
    | inl none ↦ absurd (let at : i ≡ 0 = some_eq i 0 (sym back.back ∙ ap (place_at places) none ∙ first_placed images changed places frames pages tied first) in omega (arith, at, behind))
    | inr some ↦ omega (arith, some)
  ]

  by : (b : Bool) → fixed_at frames i ≡ b → fixed_at frames i ≡ false
  by false e = e
  by true e = absurd (loose (page_at frames i) low (record { at = i; within = lt; is = refl; fixed = e }))

  unfixed : fixed_at frames i ≡ false
  unfixed = by (fixed_at frames i) refl

-- where no page but the superblock is fixed, each frame but its own has one that may give way behind its own LSN
pub gives_way : (images : List (List ℕ)) (changed : List Bool) (places : List (Option ℕ)) (frames : List Held) (pages : List (List ℕ)) (forced at : ℕ) → AreTied images changed places frames pages → IsFirstFixed frames → ((q : ℕ) → 1 ≤ q → IsFixed frames q → ⊥)
    → at < length frames → 1 ≤ at → forced ≡ lsn_of (bytes_at pages at) → IsLoose images forced frames at
gives_way images changed places frames pages forced at tied first loose within behind is =
    record { within = within; free = unfixed images changed places frames pages at tied first loose within behind; lsn = (let there = (tied.there (page_at frames at) at (tied.back at within).back).bytes in let same = ap lsn_of there in omega (arith, is, same)) }
