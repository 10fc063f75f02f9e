-- Pages that cannot be had are more, with those that have to stay in frames, than there are frames.
use Rattle.std.proofs.Common.{◌≡◌, ℕ, zero, suc, ◌+◌, cond, ◌<◌, ◌≤◌, ◌||◌, ◌++◌, nat_eq, nat_lt, Bool, true, false, List, [], ◌∷◌, length, refl, sym, ap, arith, ◌∙◌, inl, inr}
use Rattle.std.specs.Prelude.{◌↔◌}
use Rattle.std.specs.List.{slice_index_or, sum_by}
use Rattle.std.proofs.lemmas.Bool.{cases_Bool, cases_eq, false≢true, true≢false, eqb-true, eq-eqb, or_cases, or_from, or_left, or_right}
use Rattle.std.proofs.lemmas.List.Sums.{sum_by-cons}
use Rattle.rq_page.specs.Pages.{lsn_of}
use Rattle.rq_pool.specs.Held.{Held, StandOnce, nothing_held, page_at}
use Rattle.rq_pool.specs.Pooled.{Pooled, image_at}
use Rattle.rq_pool.specs.Want.{CannotBeHad, OutnumberFrames, among, distinct, framed_in, has_to_stay, lack, missing, one_unless, spare_for, spare_one, staying}
use Rattle.rq_pool.proofs.Wants.{framed_here, lacks_none, lacks_one}

-- 1 where so, else 0
abbrev one_if : Bool → ℕ
one_if true = 1
one_if false = 0

-- ---- which pages are among others

among_append : (xs ys : List ℕ) (q : ℕ) → among (xs ++ ys) q ≡ (among xs q || among ys q)
among_append [] ys q = refl
among_append (x ∷ xs) ys q = ap (λ b. nat_eq x q || b) (among_append xs ys q) ∙ or_once (nat_eq x q) (among xs q) (among ys q) where
  or_once : (a b c : Bool) → (a || (b || c)) ≡ ((a || b) || c)
  or_once true b c = refl
  or_once false b c = refl

-- one more of those that are there changes nothing
more_of : (x q : ℕ) (xs : List ℕ) → among xs x ≡ true → (nat_eq x q || among xs q) ≡ among xs q
more_of x q xs there = elim (cases_Bool (nat_eq x q)) [
  | inl y ↦ ap (λ b. b || among xs q) y ∙ sym (ap (among xs) (sym (eqb-true x q y)) ∙ there)
  | inr n ↦ ap (λ b. b || among xs q) n
]

among_distinct : (xs : List ℕ) (q : ℕ) → among (distinct xs) q ≡ among xs q
among_distinct [] q = refl
among_distinct (x ∷ xs) q = elim (cases_Bool (among xs x)) [
  | inl y ↦ ap (λ b. among (cond b (distinct xs) (x ∷ distinct xs)) q) y ∙ among_distinct xs q ∙ sym (more_of x q xs y)
  | inr n ↦ ap (λ b. among (cond b (distinct xs) (x ∷ distinct xs)) q) n ∙ ap (λ b. nat_eq x q || b) (among_distinct xs q)
]

-- ---- sums

-- of two that are never so together
both_apart : (a b : Bool) → (a ≡ true → b ≡ false) → one_if (a || b) ≡ one_if a + one_if b
both_apart true b apart = (let none : one_if b ≡ 0 = ap one_if (apart refl) in omega (arith, none))
both_apart false b apart = omega arith

same_back : (x q : ℕ) → nat_eq x q ≡ nat_eq q x
same_back x q = elim (cases_Bool (nat_eq x q)) [
  | inl y ↦ y ∙ sym (eq-eqb q x (sym (eqb-true x q y)))
  | inr n ↦ elim (cases_Bool (nat_eq q x)) [
    | inl m ↦ absurd (true≢false (sym (eq-eqb x q (sym (eqb-true q x m))) ∙ n))
    | inr m ↦ n ∙ sym m
  ]
]

-- a page is counted once
count_one : (p : ℕ) (xs : List ℕ) → sum_by (λ d. one_if (nat_eq p d)) (distinct xs) ≡ one_if (among xs p)
count_one p [] = refl
count_one p (x ∷ xs) = elim (cases_Bool (among xs x)) [
  | inl y ↦ ap (λ b. sum_by (λ d. one_if (nat_eq p d)) (cond b (distinct xs) (x ∷ distinct xs))) y ∙ count_one p xs ∙ ap one_if (sym (more_of x p xs y))
  | inr n ↦
      let more = sum_by-cons (λ d. one_if (nat_eq p d)) x (distinct xs) in
      let rest = count_one p xs in
      let two : one_if (nat_eq x p || among xs p) ≡ one_if (nat_eq x p) + one_if (among xs p) = both_apart (nat_eq x p) (among xs p) (λ here. ap (among xs) (sym (eqb-true x p here)) ∙ n) in
      let back : one_if (nat_eq p x) ≡ one_if (nat_eq x p) = ap one_if (same_back p x) in
      ap (λ b. sum_by (λ d. one_if (nat_eq p d)) (cond b (distinct xs) (x ∷ distinct xs))) n ∙ omega (arith, more, rest, two, back)
]

sum_two : (f g h : ℕ → ℕ) → ((d : ℕ) → f d ≡ g d + h d) → (ds : List ℕ) → sum_by f ds ≡ sum_by g ds + sum_by h ds
sum_two f g h each [] = refl
sum_two f g h each (d ∷ ds) =
    let a = sum_by-cons f d ds in
    let b = sum_by-cons g d ds in
    let c = sum_by-cons h d ds in
    let one = each d in
    let rest = sum_two f g h each ds in
    omega (arith, a, b, c, one, rest)

-- ---- frames

-- no page stands in two of them
abbrev Once : List Held → Type 0
Once [] = Unit {0}
Once (h ∷ hs) = (framed_in hs h.page ≡ false) × Once hs

framed_one : (hs : List Held) (q : ℕ) → framed_in hs q ≡ true → (i : ℕ) × (i < length hs) × (page_at hs i ≡ q)
framed_one [] q e = absurd (false≢true e)
framed_one (h ∷ hs) q e = elim (cases_Bool (nat_eq h.page q)) [
  | inl here ↦ (0, omega arith, eqb-true h.page q here)
  | inr other ↦
      let one = framed_one hs q (sym (ap (λ b. b || framed_in hs q) other) ∙ e) in
      let lt = one.1 in
      (suc one.0, omega (arith, lt), one.2)
]

once_by : (hs : List Held) → StandOnce hs → Once hs
once_by [] once = tt
once_by (h ∷ hs) once = (
  elim (cases_Bool (framed_in hs h.page)) [
    | inl there ↦
        let one = framed_one hs h.page there in
        let lt = one.1 in
        let same = once 0 (suc one.0) (omega arith) (omega (arith, lt)) (sym one.2) in
        absurd (omega (arith, same))
    | inr none ↦ none
  ],
  once_by hs (λ i j a b e. let same = once (suc i) (suc j) (omega (arith, a)) (omega (arith, b)) e in omega (arith, same)),
)

-- pages that stand in frames are as many as frames that have them
count_twice : (xs : List ℕ) (hs : List Held) → Once hs → sum_by (λ d. one_if (framed_in hs d)) (distinct xs) ≡ sum_by (λ (h : Held). one_if (among xs h.page)) hs
count_twice xs [] once = none (distinct xs) where
  none : (ds : List ℕ) → sum_by (λ d. 0) ds ≡ 0
  none [] = refl
  none (d ∷ ds) = (let more = sum_by-cons (λ (n : ℕ). 0) d ds in let rest = none ds in omega (arith, more, rest))
count_twice xs (h ∷ hs) once =
    let two = sum_two (λ d. one_if (nat_eq h.page d || framed_in hs d)) (λ d. one_if (nat_eq h.page d)) (λ d. one_if (framed_in hs d)) (λ d. both_apart (nat_eq h.page d) (framed_in hs d) (λ here. ap (framed_in hs) (sym (eqb-true h.page d here)) ∙ once.0)) (distinct xs) in
    let one = count_one h.page xs in
    let rest = count_twice xs hs once.1 in
    let more = sum_by-cons (λ (x : Held). one_if (among xs x.page)) h hs in
    omega (arith, two, one, rest, more)

-- each stands in a frame or in none
framed_or_not : (hs : List Held) (ds : List ℕ) → sum_by (lack hs) ds + sum_by (λ d. one_if (framed_in hs d)) ds ≡ length ds
framed_or_not hs [] = refl
framed_or_not hs (d ∷ ds) =
    let a = sum_by-cons (lack hs) d ds in
    let b = sum_by-cons (λ x. one_if (framed_in hs x)) d ds in
    let one = either (framed_in hs d) in
    let rest = framed_or_not hs ds in
    omega (arith, a, b, one, rest)
  where
    either : (b : Bool) → one_unless b + one_if b ≡ 1
    either true = refl
    either false = refl

-- what is so of each frame
sum_same : (f g : Held → ℕ) (hs : List Held) → ((i : ℕ) → i < length hs → f (slice_index_or hs i nothing_held) ≡ g (slice_index_or hs i nothing_held)) → sum_by f hs ≡ sum_by g hs
sum_same f g [] each = refl
sum_same f g (h ∷ hs) each =
    let a = sum_by-cons f h hs in
    let b = sum_by-cons g h hs in
    let one = each 0 (omega arith) in
    let rest = sum_same f g hs (λ i lt. each (suc i) (omega (arith, lt))) in
    omega (arith, a, b, one, rest)

module _ (images : List (List ℕ)) (forced : ℕ) where
  abbrev stays : List Held → List ℕ
  stays hs = staying images forced hs

  stays_framed : (hs : List Held) (q : ℕ) → among (stays hs) q ≡ true → framed_in hs q ≡ true
  stays_framed [] q e = e
  stays_framed (h ∷ hs) q e = elim (cases_Bool (has_to_stay images forced h)) [
    | inl y ↦ elim (or_cases (nat_eq h.page q) (among (stays hs) q) (sym (ap (λ b. among (cond b (h.page ∷ stays hs) (stays hs)) q) y) ∙ e)) [
      | inl here ↦ or_left (nat_eq h.page q) (framed_in hs q) here
      | inr there ↦ or_right (nat_eq h.page q) (framed_in hs q) (stays_framed hs q there)
    ]
    | inr n ↦ or_right (nat_eq h.page q) (framed_in hs q) (stays_framed hs q (sym (ap (λ b. among (cond b (h.page ∷ stays hs) (stays hs)) q) n) ∙ e))
  ]

  not_among : (hs : List Held) (q : ℕ) → framed_in hs q ≡ false → among (stays hs) q ≡ false
  not_among hs q none = elim (cases_Bool (among (stays hs) q)) [
    | inl there ↦ absurd (true≢false (sym (stays_framed hs q there) ∙ none))
    | inr no_one ↦ no_one
  ]

  -- the page in a frame is among those that stay exactly where it has to
  stays_exactly : (hs : List Held) → Once hs → (i : ℕ) → i < length hs → among (stays hs) (page_at hs i) ≡ has_to_stay images forced (slice_index_or hs i nothing_held)
  stays_exactly [] once i lt = absurd (omega (arith, lt))
  stays_exactly (h ∷ hs) once zero lt = elim (cases_Bool (has_to_stay images forced h)) [
    | inl y ↦ ap (λ b. among (cond b (h.page ∷ stays hs) (stays hs)) h.page) y ∙ or_left (nat_eq h.page h.page) (among (stays hs) h.page) (eq-eqb h.page h.page refl) ∙ sym y
    | inr n ↦ ap (λ b. among (cond b (h.page ∷ stays hs) (stays hs)) h.page) n ∙ not_among hs h.page once.0 ∙ sym n
  ]
  stays_exactly (h ∷ hs) once (suc i) lt =
      let q : ℕ = page_at hs i in
      let below : i < length hs = omega (arith, lt) in
      let rest = stays_exactly hs once.1 i below in
      let other : nat_eq h.page q ≡ false = elim (cases_Bool (nat_eq h.page q)) [
        | inl here ↦ absurd (true≢false (sym (framed_here hs i q below refl) ∙ ap (framed_in hs) (sym (eqb-true h.page q here)) ∙ once.0))
        | inr apart ↦ apart
      ] in
      elim (cases_Bool (has_to_stay images forced h)) [
        | inl y ↦ ap (λ b. among (cond b (h.page ∷ stays hs) (stays hs)) q) y ∙ ap (λ b. b || among (stays hs) q) other ∙ rest
        | inr n ↦ ap (λ b. among (cond b (h.page ∷ stays hs) (stays hs)) q) n ∙ rest
      ]

  -- what stays stands in frames
  lacks_less : (frames : List Held) (ps : List ℕ) → sum_by (lack frames) (distinct (ps ++ stays frames)) ≡ sum_by (lack frames) (distinct ps)
  lacks_less frames [] = lacks_none frames (distinct (stays frames)) (λ q e. stays_framed frames q (sym (among_distinct (stays frames) q) ∙ e))
  lacks_less frames (p ∷ ps) = elim (cases_Bool (among ps p)) [
    | inl y ↦
        ap (λ b. sum_by (lack frames) (cond b (distinct (ps ++ stays frames)) (p ∷ distinct (ps ++ stays frames)))) (among_append ps (stays frames) p ∙ or_left (among ps p) (among (stays frames) p) y)
        ∙ lacks_less frames ps ∙ sym (ap (λ b. sum_by (lack frames) (cond b (distinct ps) (p ∷ distinct ps))) y)
    | inr n ↦ elim (cases_Bool (among (stays frames) p)) [
      | inl m ↦
          let more = sum_by-cons (lack frames) p (distinct ps) in
          let none : lack frames p ≡ 0 = ap one_unless (stays_framed frames p m) in
          let rest = lacks_less frames ps in
          ap (λ b. sum_by (lack frames) (cond b (distinct (ps ++ stays frames)) (p ∷ distinct (ps ++ stays frames)))) (among_append ps (stays frames) p ∙ or_right (among ps p) (among (stays frames) p) m)
          ∙ omega (arith, more, none, rest) ∙ sym (ap (λ b. sum_by (lack frames) (cond b (distinct ps) (p ∷ distinct ps))) n)
      | inr m ↦
          let more = sum_by-cons (lack frames) p (distinct ps) in
          let also = sum_by-cons (lack frames) p (distinct (ps ++ stays frames)) in
          let rest = lacks_less frames ps in
          ap (λ b. sum_by (lack frames) (cond b (distinct (ps ++ stays frames)) (p ∷ distinct (ps ++ stays frames)))) (among_append ps (stays frames) p ∙ or_from (among ps p) (among (stays frames) p) n m)
          ∙ omega (arith, more, also, rest) ∙ sym (ap (λ b. sum_by (lack frames) (cond b (distinct ps) (p ∷ distinct ps))) n)
    ]
  ]

  -- a frame may be had, or its page has to stand in one
  spare_or_not : (ps : List ℕ) (hs : List Held) → spare_for images forced ps hs + sum_by (λ (h : Held). one_if (among ps h.page || has_to_stay images forced h)) hs ≡ length hs
  spare_or_not ps [] = refl
  spare_or_not ps (h ∷ hs) =
      let a = sum_by-cons (spare_one images forced ps) h hs in
      let b = sum_by-cons (λ (x : Held). one_if (among ps x.page || has_to_stay images forced x)) h hs in
      let one = either h.fixed (among ps h.page) (nat_lt forced (lsn_of (image_at images h.page))) in
      let rest = spare_or_not ps hs in
      omega (arith, a, b, one, rest)
    where
      either : (a b c : Bool) → one_unless (a || (b || c)) + one_if (b || (a || c)) ≡ 1
      either true true c = refl
      either true false c = refl
      either false true c = refl
      either false false true = refl
      either false false false = refl

-- they are that many more
outnumber_by : {P : Type 0} (old : Pooled P) (forced : ℕ) (ps : List ℕ) → StandOnce old.frames → length (distinct (ps ++ staying old.images forced old.frames)) + spare_for old.images forced ps old.frames ≡ missing old.frames ps + length old.frames
outnumber_by old forced ps once =
    let hs : List Held = old.frames in
    let m : List ℕ = staying old.images forced hs in
    let o : Once hs = once_by hs once in
    let all = framed_or_not hs (distinct (ps ++ m)) in
    let none = lacks_less old.images forced hs ps in
    let some = count_twice (ps ++ m) hs o in
    let each : sum_by (λ (h : Held). one_if (among (ps ++ m) h.page)) hs ≡ sum_by (λ (h : Held). one_if (among ps h.page || has_to_stay old.images forced h)) hs =
    sum_same (λ (h : Held). one_if (among (ps ++ m) h.page)) (λ (h : Held). one_if (among ps h.page || has_to_stay old.images forced h)) hs
    (λ i lt. ap one_if (among_append ps m (page_at hs i) ∙ ap (λ b. among ps (page_at hs i) || b) (stays_exactly old.images forced hs o i lt))) in
    let spare = spare_or_not old.images forced ps hs in
    omega (arith, all, none, some, each, spare)

pub cannot_is_count : {P : Type 0} (old : Pooled P) (forced : ℕ) (ps : List ℕ) → StandOnce old.frames → CannotBeHad old forced ps ↔ OutnumberFrames old forced ps
cannot_is_count old forced ps once =
    let by = outnumber_by old forced ps once in
    (λ cannot. omega (arith, by, cannot), λ more. omega (arith, by, more))

-- ---- a frame for each page

-- the pages below one
abbrev below : ℕ → List ℕ
below zero = []
below (suc n) = n ∷ below n

is_below : (n q : ℕ) → q < n → among (below n) q ≡ true
is_below zero q lt = absurd (omega (arith, lt))
is_below (suc n) q lt = elim (cases_eq n q) [
  | inl here ↦ ap (λ (b : Bool). b || among (below n) q) (eq-eqb n q here)
  | inr other ↦ or_right (nat_eq n q) (among (below n) q) (is_below n q (omega (arith, lt, other)))
]

not_below : (n q : ℕ) → n ≤ q → among (below n) q ≡ false
not_below zero q le = refl
not_below (suc n) q le = elim (cases_Bool (nat_eq n q)) [
  | inl here ↦ (let same = eqb-true n q here in absurd (omega (arith, le, same)))
  | inr other ↦ ap (λ (b : Bool). b || among (below n) q) other ∙ not_below n q (omega (arith, le))
]

below_distinct : (n : ℕ) → distinct (below n) ≡ below n
below_distinct zero = refl
below_distinct (suc n) = ap (λ (b : Bool). cond b (distinct (below n)) (n ∷ distinct (below n))) (not_below n n (omega arith)) ∙ ap (λ (l : List ℕ). n ∷ l) (below_distinct n)

below_long : (n : ℕ) → length (below n) ≡ n
below_long zero = refl
below_long (suc n) = ap suc (below_long n)

-- frames of which each has one of these pages are as many as there are
each_among : (xs : List ℕ) (hs : List Held) → ((i : ℕ) → i < length hs → among xs (page_at hs i) ≡ true) → sum_by (λ (h : Held). one_if (among xs h.page)) hs ≡ length hs
each_among xs [] each = refl
each_among xs (h ∷ hs) each =
    let more = sum_by-cons (λ (x : Held). one_if (among xs x.page)) h hs in
    let one : one_if (among xs h.page) ≡ 1 = ap one_if (each 0 (omega arith)) in
    let rest = each_among xs hs (λ i lt. each (suc i) (omega (arith, lt))) in
    omega (arith, more, one, rest)

-- so where there are as many frames as pages, each page stands in one
pub all_framed : (n : ℕ) (hs : List Held) → StandOnce hs → ((i : ℕ) → i < length hs → page_at hs i < n) → n ≤ length hs → (q : ℕ) → q < n → framed_in hs q ≡ true
all_framed n hs once high many q lt = elim (cases_Bool (framed_in hs q)) [
  | inl there ↦ there
  | inr out ↦
      let sum : sum_by (λ d. one_if (framed_in hs d)) (below n) ≡ length hs = ap (λ (l : List ℕ). sum_by (λ d. one_if (framed_in hs d)) l) (sym (below_distinct n)) ∙ count_twice (below n) hs (once_by hs once) ∙ each_among (below n) hs (λ i l. is_below n (page_at hs i) (high i l)) in
      let all = framed_or_not hs (below n) in
      let long = below_long n in
      let one : 1 ≤ sum_by (lack hs) (below n) = lacks_one hs q (below n) (is_below n q lt) out in
      absurd (omega (arith, sum, all, long, one, many))
]
