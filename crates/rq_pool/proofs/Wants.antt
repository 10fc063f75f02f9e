-- Pages that are wanted at once, and how many frames may give way to them.
use Rattle.std.proofs.Common.{◌≡◌, ◌≢◌, ◌⊎◌, ℕ, ◌+◌, ◌<◌, ◌≤◌, ◌||◌, cond, nat_eq, nat_lt, zero, suc, Bool, true, false, List, [], ◌∷◌, length, slice_index_or, slice_set, refl, sym, ap, arith, ◌∙◌, inl, inr}
use Rattle.std.specs.List.{sum_by}
use Rattle.std.proofs.lemmas.Bool.{cases_eq, true≢false}
use Rattle.std.proofs.lemmas.Bool.Decides.{nat_tests}
use Rattle.std.proofs.lemmas.List.{get_or-set_same, get_or-set_other, length-set}
use Rattle.std.proofs.lemmas.List.Sums.{sum_by-cons, sum_by-set}
use Rattle.rq_page.specs.Pages.{lsn_of}
use Rattle.rq_pool.specs.Pooled.{image_at}
use Rattle.rq_pool.specs.Fixing.{IsLoose}
use Rattle.rq_pool.specs.Held.{Held, IsFramed, nothing_held, page_at}
use Rattle.rq_pool.specs.Want.{among, distinct, framed_in, lack, missing, one_unless, spare_for, spare_one}

same_yes : (p q : ℕ) → p ≡ q → nat_eq p q ≡ true
same_yes p q e = grind (arith, nat_tests)

same_is : (p q : ℕ) → nat_eq p q ≡ true → p ≡ q
same_is p q e = grind (arith, nat_tests)

same_no : (p q : ℕ) → p ≢ q → nat_eq p q ≡ false
same_no p q ne = grind (arith, nat_tests)

or_right : (a b : Bool) → b ≡ true → (a || b) ≡ true
or_right true b e = refl
or_right false b e = e

-- ---- membership

pub among_at : (ps : List ℕ) (j : ℕ) → j < length ps → among ps (slice_index_or ps j 0) ≡ true
among_at [] j lt = absurd (omega (arith, lt))
among_at (p ∷ ps) zero lt = ap (λ (b : Bool). b || among ps p) (same_yes p p refl)
among_at (p ∷ ps) (suc j) lt = or_right (nat_eq p (slice_index_or ps j 0)) (among ps (slice_index_or ps j 0)) (among_at ps j (omega (arith, lt)))

pub record IsOne (ps : List ℕ) (q : ℕ) : Type 0 where
  pub at : ℕ
  pub within : at < length ps
  pub is : slice_index_or ps at 0 ≡ q

pub among_one : (ps : List ℕ) (q : ℕ) → among ps q ≡ true → IsOne ps q
among_one [] q e = absurd (true≢false (sym e))
among_one (p ∷ ps) q e = elim (cases_eq p q) [
  | inl here ↦ record { at = 0; within = omega arith; is = here }
  | inr other ↦
      let one = among_one ps q (sym (ap (λ (b : Bool). b || among ps q) (same_no p q other)) ∙ e) in
      let lt = one.within in
      record { at = suc one.at; within = omega (arith, lt); is = one.is }
]

pub framed_here : (hs : List Held) (i q : ℕ) → i < length hs → page_at hs i ≡ q → framed_in hs q ≡ true
framed_here [] i q lt is = absurd (omega (arith, lt))
framed_here (h ∷ hs) zero q lt is = ap (λ (b : Bool). b || framed_in hs q) (same_yes h.page q is)
framed_here (h ∷ hs) (suc i) q lt is = or_right (nat_eq h.page q) (framed_in hs q) (framed_here hs i q (omega (arith, lt)) is)

pub framed_from : (hs : List Held) (q : ℕ) → framed_in hs q ≡ true → IsFramed hs q
framed_from [] q e = absurd (true≢false (sym e))
framed_from (h ∷ hs) q e = elim (cases_eq h.page q) [
  | inl here ↦ record { at = 0; within = omega arith; is = here }
  | inr other ↦
      let f = framed_from hs q (sym (ap (λ (b : Bool). b || framed_in hs q) (same_no h.page q other)) ∙ e) in
      let lt = f.within in
      record { at = suc f.at; within = omega (arith, lt); is = f.is }
]

pub unframed : (hs : List Held) (q : ℕ) → (IsFramed hs q → ⊥) → framed_in hs q ≡ false
unframed hs q out = by (framed_in hs q) refl where
  by : (b : Bool) → framed_in hs q ≡ b → framed_in hs q ≡ false
  by false e = e
  by true e = absurd (out (framed_from hs q e))

-- two lists in which the same pages stand
same_framed : (old new : List Held) (q : ℕ) → (IsFramed old q → IsFramed new q) → (IsFramed new q → IsFramed old q) → framed_in new q ≡ framed_in old q
same_framed old new q to from = by (framed_in old q) (framed_in new q) refl refl where
  by : (a b : Bool) → framed_in old q ≡ a → framed_in new q ≡ b → framed_in new q ≡ framed_in old q
  by true b e f = let t = to (framed_from old q e) in framed_here new t.at q t.within t.is ∙ sym e
  by false true e f = let t = from (framed_from new q f) in absurd (true≢false (sym (framed_here old t.at q t.within t.is) ∙ e))
  by false false e f = f ∙ sym e

-- ---- sums

-- how many of these stand in no frame, where each is named once
abbrev pub lacking : List Held → List ℕ → ℕ
lacking frames qs = sum_by (lack frames) qs

lacking_more : (frames : List Held) (p : ℕ) (ps : List ℕ) → lacking frames (p ∷ ps) ≡ lack frames p + lacking frames ps
lacking_more frames p ps = sum_by-cons (lack frames) p ps

-- no page is named twice
abbrev pub AreOnce : List ℕ → Type 0
AreOnce [] = Unit {0}
AreOnce (p ∷ ps) = (among ps p ≡ false) × AreOnce ps

among_first : (p : ℕ) (ps : List ℕ) → among (p ∷ ps) p ≡ true
among_first p ps = ap (λ (b : Bool). b || among ps p) (same_yes p p refl)

among_later : (p : ℕ) (ps : List ℕ) (q : ℕ) → among ps q ≡ true → among (p ∷ ps) q ≡ true
among_later p ps q e = or_right (nat_eq p q) (among ps q) e

among_rest : (p : ℕ) (ps : List ℕ) (q : ℕ) → p ≢ q → among (p ∷ ps) q ≡ true → among ps q ≡ true
among_rest p ps q ne e = sym (ap (λ (b : Bool). b || among ps q) (same_no p q ne)) ∙ e

pub lack_same : (old new : List Held) (ps : List ℕ) → ((q : ℕ) → among ps q ≡ true → framed_in new q ≡ framed_in old q) → lacking new ps ≡ lacking old ps
lack_same old new [] same = refl
lack_same old new (p ∷ ps) same =
    let a : lack new p ≡ lack old p = ap one_unless (same p (among_first p ps)) in
    let rest : lacking new ps ≡ lacking old ps = lack_same old new ps (λ q e. same q (among_later p ps q e)) in
    omega (arith, a, rest, lacking_more old p ps, lacking_more new p ps)

-- one of them stands in a frame then, and did not before
pub lack_less : (old new : List Held) (n : ℕ) (ps : List ℕ) → AreOnce ps → among ps n ≡ true → framed_in old n ≡ false → framed_in new n ≡ true
    → ((q : ℕ) → q ≢ n → among ps q ≡ true → framed_in new q ≡ framed_in old q) → lacking new ps + 1 ≡ lacking old ps
lack_less old new n [] apart one was now same = absurd (true≢false (sym one))
lack_less old new n (p ∷ ps) apart one was now same = elim (cases_eq p n) [
  | inl here ↦
      let rest : lacking new ps ≡ lacking old ps = lack_same old new ps (λ q e. same q (λ is. true≢false (sym e ∙ ap (among ps) (is ∙ sym here) ∙ apart.0)) (among_later p ps q e)) in
      let a : lack new p ≡ 0 = ap one_unless (ap (framed_in new) here ∙ now) in
      let b : lack old p ≡ 1 = ap one_unless (ap (framed_in old) here ∙ was) in
      omega (arith, rest, a, b, lacking_more old p ps, lacking_more new p ps)
  | inr other ↦
      let rest : lacking new ps + 1 ≡ lacking old ps = lack_less old new n ps apart.1 (among_rest p ps n other one) was now (λ q ne e. same q ne (among_later p ps q e)) in
      let a : lack new p ≡ lack old p = ap one_unless (same p other (among_first p ps)) in
      omega (arith, rest, a, lacking_more old p ps, lacking_more new p ps)
]

pub lacks_one : (frames : List Held) (n : ℕ) (ps : List ℕ) → among ps n ≡ true → framed_in frames n ≡ false → 1 ≤ lacking frames ps
lacks_one frames n [] one out = absurd (true≢false (sym one))
lacks_one frames n (p ∷ ps) one out = elim (cases_eq p n) [
  | inl here ↦ let a : lack frames p ≡ 1 = ap one_unless (ap (framed_in frames) here ∙ out) in omega (arith, a, lacking_more frames p ps)
  | inr other ↦
      let rest : 1 ≤ lacking frames ps = lacks_one frames n ps (among_rest p ps n other one) out in
      omega (arith, rest, lacking_more frames p ps)
]

pub lacks_none : (frames : List Held) (ps : List ℕ) → ((q : ℕ) → among ps q ≡ true → framed_in frames q ≡ true) → lacking frames ps ≡ 0
lacks_none frames [] all = refl
lacks_none frames (p ∷ ps) all =
    let a : lack frames p ≡ 0 = ap one_unless (all p (among_first p ps)) in
    let rest : lacking frames ps ≡ 0 = lacks_none frames ps (λ q e. all q (among_later p ps q e)) in
    omega (arith, a, rest, lacking_more frames p ps)

-- ---- pages that may be named twice

or_more : (a b c : Bool) → (b ≡ true → c ≡ true) → (a || b) ≡ true → (a || c) ≡ true
or_more true b c more e = refl
or_more false b c more e = more e

among_fewer : (p : ℕ) (ps : List ℕ) (q : ℕ) → (among (distinct ps) q ≡ true → among ps q ≡ true) → (b : Bool) → among (cond b (distinct ps) (p ∷ distinct ps)) q ≡ true → among (p ∷ ps) q ≡ true
among_fewer p ps q rest true e = or_right (nat_eq p q) (among ps q) (rest e)
among_fewer p ps q rest false e = or_more (nat_eq p q) (among (distinct ps) q) (among ps q) rest e

pub from_distinct : (ps : List ℕ) (q : ℕ) → among (distinct ps) q ≡ true → among ps q ≡ true
from_distinct [] q e = e
from_distinct (p ∷ ps) q e = among_fewer p ps q (from_distinct ps q) (among ps p) e

to_more : (p : ℕ) (ps : List ℕ) (q : ℕ) → ((r : ℕ) → among ps r ≡ true → among (distinct ps) r ≡ true) → among (p ∷ ps) q ≡ true → (b : Bool) → among ps p ≡ b → among (cond b (distinct ps) (p ∷ distinct ps)) q ≡ true
to_more p ps q rest e true twice = elim (cases_eq p q) [
  | inl here ↦ rest q (ap (among ps) (sym here) ∙ twice)
  | inr other ↦ rest q (among_rest p ps q other e)
]
to_more p ps q rest e false once = or_more (nat_eq p q) (among ps q) (among (distinct ps) q) (rest q) e

pub to_distinct : (ps : List ℕ) (q : ℕ) → among ps q ≡ true → among (distinct ps) q ≡ true
to_distinct [] q e = e
to_distinct (p ∷ ps) q e = to_more p ps q (to_distinct ps) e (among ps p) refl

away_distinct : (ps : List ℕ) (p : ℕ) → among ps p ≡ false → (b : Bool) → among (distinct ps) p ≡ b → among (distinct ps) p ≡ false
away_distinct ps p once false e = e
away_distinct ps p once true e = absurd (true≢false (sym (from_distinct ps p e) ∙ once))

once_more : (p : ℕ) (ps : List ℕ) → AreOnce (distinct ps) → (b : Bool) → among ps p ≡ b → AreOnce (cond b (distinct ps) (p ∷ distinct ps))
once_more p ps rest true twice = rest
once_more p ps rest false once = (away_distinct ps p once (among (distinct ps) p) refl, rest)

pub once_distinct : (ps : List ℕ) → AreOnce (distinct ps)
once_distinct [] = tt
once_distinct (p ∷ ps) = once_more p ps (once_distinct ps) (among ps p) refl

-- what a frame counts
module _ (images : List (List ℕ)) (forced : ℕ) (ps : List ℕ) where
  over : Held → Bool
  over h = nat_lt forced (lsn_of (image_at images h.page))

  counts_or : (f w l : Bool) → ((f ≡ true) ⊎ ((w ≡ true) ⊎ (l ≡ true))) → one_unless (f || (w || l)) ≡ zero
  counts_or true w l e = refl
  counts_or false true l e = refl
  counts_or false false true e = refl
  counts_or false false false (inl e) = absurd (true≢false (sym e))
  counts_or false false false (inr (inl e)) = absurd (true≢false (sym e))
  counts_or false false false (inr (inr e)) = absurd (true≢false (sym e))

  counts_not : (f w l : Bool) → f ≡ false → w ≡ false → l ≡ false → one_unless (f || (w || l)) ≡ suc zero
  counts_not true w l e f g = absurd (true≢false e)
  counts_not false true l e f g = absurd (true≢false f)
  counts_not false false true e f g = absurd (true≢false g)
  counts_not false false false e f g = refl

  pub wanted_counts : (h : Held) → among ps h.page ≡ true → spare_one images forced ps h ≡ 0
  wanted_counts h e = counts_or h.fixed (among ps h.page) (nat_lt forced (lsn_of (image_at images h.page))) (inr (inl e))

  pub loose_counts : (h : Held) → h.fixed ≡ false → among ps h.page ≡ false → lsn_of (image_at images h.page) ≤ forced → spare_one images forced ps h ≡ 1
  loose_counts h free other le =
      let low : nat_lt forced (lsn_of (image_at images h.page)) ≡ false = grind (arith, nat_tests) in
      counts_not h.fixed (among ps h.page) (nat_lt forced (lsn_of (image_at images h.page))) free other low

  pub spare_more : (h : Held) (hs : List Held) → spare_for images forced ps (h ∷ hs) ≡ spare_one images forced ps h + spare_for images forced ps hs
  spare_more h hs = sum_by-cons (spare_one images forced ps) h hs

  -- none counts where none may give way
  pub none_counts : (frames : List Held) → ((at : ℕ) → IsLoose images forced frames at → ⊥) → spare_for images forced ps frames ≡ 0
  none_counts [] none = refl
  none_counts (h ∷ hs) none =
      let rest : spare_for images forced ps hs ≡ 0 = none_counts hs (λ at l. let lt = l.within in none (suc at) (record { within = omega (arith, lt); free = l.free; lsn = l.lsn })) in
      let a : spare_one images forced ps h ≡ 0 = fixed_or h.fixed (nat_lt forced (lsn_of (image_at images h.page))) refl refl in
      omega (arith, a, rest, spare_more h hs) where
        fixed_or : (f l : Bool) → h.fixed ≡ f → nat_lt forced (lsn_of (image_at images h.page)) ≡ l → spare_one images forced ps h ≡ 0
        fixed_or true l e m = counts_or h.fixed (among ps h.page) (nat_lt forced (lsn_of (image_at images h.page))) (inl e)
        fixed_or false true e m = counts_or h.fixed (among ps h.page) (nat_lt forced (lsn_of (image_at images h.page))) (inr (inr m))
        fixed_or false false e m =
            let le : lsn_of (image_at images h.page) ≤ forced = grind (arith, nat_tests) in
            absurd (none zero (record { within = omega arith; free = e; lsn = le }))

-- images that differ only at wanted pages
pub same_counts : (old new : List (List ℕ)) (forced : ℕ) (ps : List ℕ) (frames : List Held) → ((q : ℕ) → among ps q ≡ false → image_at new q ≡ image_at old q) → spare_for new forced ps frames ≡ spare_for old forced ps frames
same_counts old new forced ps [] same = refl
same_counts old new forced ps (h ∷ hs) same =
    let a : spare_one new forced ps h ≡ spare_one old forced ps h = by (among ps h.page) refl in
    let rest : spare_for new forced ps hs ≡ spare_for old forced ps hs = same_counts old new forced ps hs same in
    omega (arith, a, rest, spare_more old forced ps h hs, spare_more new forced ps h hs) where
      by : (w : Bool) → among ps h.page ≡ w → spare_one new forced ps h ≡ spare_one old forced ps h
      by true e = wanted_counts new forced ps h e ∙ sym (wanted_counts old forced ps h e)
      by false e = ap (λ (b : List ℕ). one_unless (h.fixed || (among ps h.page || nat_lt forced (lsn_of b)))) (same h.page e)

-- ---- one step

-- a frame was set
pub set_page : (frames : List Held) (i : ℕ) (h : Held) (j : ℕ) → j ≢ i → page_at (slice_set frames i h) j ≡ page_at frames j
set_page frames i h j ne = ap (λ (x : Held). x.page) (get_or-set_other frames i j h nothing_held ne)

pub set_here : (frames : List Held) (i : ℕ) (h : Held) → i < length frames → page_at (slice_set frames i h) i ≡ h.page
set_here frames i h lt = ap (λ (x : Held). x.page) (get_or-set_same frames i h nothing_held lt)

-- which pages stand there then, but for the one that gave way
pub stands_to : (frames : List Held) (i : ℕ) (h : Held) (q : ℕ) → i < length frames → q ≢ page_at frames i → IsFramed frames q → IsFramed (slice_set frames i h) q
stands_to frames i h q lt ne f = record {
  at = f.at;
  within = rw (length-set frames i h) f.within;
  is = set_page frames i h f.at (λ e. ne (sym f.is ∙ ap (page_at frames) e)) ∙ f.is;
}

stands_from : (frames : List Held) (i : ℕ) (h : Held) (q : ℕ) → i < length frames → q ≢ h.page → IsFramed (slice_set frames i h) q → IsFramed frames q
stands_from frames i h q lt ne f =
    let other : f.at ≢ i = λ e. ne (sym f.is ∙ ap (page_at (slice_set frames i h)) e ∙ set_here frames i h lt) in
    record { at = f.at; within = rw (← length-set frames i h) f.within; is = sym (set_page frames i h f.at other) ∙ f.is }

module _ (images : List (List ℕ)) (forced : ℕ) (ps : List ℕ) (frames : List Held) (at n : ℕ) (b : Bool) (lt : at < length frames) (one : among ps n ≡ true) where
  abbrev pub seat : Held
  seat = record { page = n; fixed = b }

  abbrev pub after : List Held
  after = slice_set frames at seat

  sum_is : spare_for images forced ps after + spare_one images forced ps (slice_index_or frames at nothing_held) ≡ spare_for images forced ps frames + spare_one images forced ps seat
  sum_is = sum_by-set (spare_one images forced ps) frames at seat nothing_held lt

  framed_now : framed_in after n ≡ true
  framed_now = framed_here after at n (rw (length-set frames at seat) lt) (set_here frames at seat lt)

  -- it stood there before
  pub stood_even : page_at frames at ≡ n → (missing after ps ≡ missing frames ps) × (spare_for images forced ps after ≡ spare_for images forced ps frames)
  stood_even is =
      let a : spare_one images forced ps (slice_index_or frames at nothing_held) ≡ 0 = wanted_counts images forced ps (slice_index_or frames at nothing_held) (ap (among ps) is ∙ one) in
      let z : spare_one images forced ps seat ≡ 0 = wanted_counts images forced ps seat one in (
        lack_same frames after (distinct ps) (λ q e. elim (cases_eq q n) [
          | inl here ↦ ap (framed_in after) here ∙ framed_now ∙ sym (framed_here frames at n lt is) ∙ ap (framed_in frames) (sym here)
          | inr ne ↦ same_framed frames after q (stands_to frames at seat q lt (λ e. ne (e ∙ is))) (stands_from frames at seat q lt ne)
        ]),
        omega (arith, a, z, sum_is),
      )

  -- or another gave way, which was none of them
  pub way_even : (IsFramed frames n → ⊥) → IsLoose images forced frames at → among ps (page_at frames at) ≡ false → (missing after ps + 1 ≡ missing frames ps) × (spare_for images forced ps after + 1 ≡ spare_for images forced ps frames)
  way_even out loose not_wanted =
      let a : spare_one images forced ps (slice_index_or frames at nothing_held) ≡ 1 = loose_counts images forced ps (slice_index_or frames at nothing_held) loose.free not_wanted loose.lsn in
      let z : spare_one images forced ps seat ≡ 0 = wanted_counts images forced ps seat one in (
        lack_less frames after n (distinct ps) (once_distinct ps) (to_distinct ps n one) (unframed frames n out) framed_now
            (λ q ne e. same_framed frames after q (stands_to frames at seat q lt (λ is. true≢false (sym (from_distinct ps q e) ∙ ap (among ps) is ∙ not_wanted))) (stands_from frames at seat q lt ne)),
        omega (arith, a, z, sum_is),
      )
