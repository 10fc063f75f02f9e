-- The numbers of pages, by the greatest of each and what is told beside their LSNs.
use Rattle.std.proofs.Common.{◌≡◌, ◌≢◌, ◌↔◌, inl, inr, ℕ, ◌+◌, ◌<◌, ◌≤◌, ◌++◌, ◌∷◌, [], cond, max, nat_eq, List, length, refl, sym, ◌∙◌, subst, arith}
use Rattle.std.proofs.lemmas.Bool.{cases_eq, cond-true, cond-false, eq-eqb, ne_eqb}
use Rattle.rq_page.specs.Sizes.{Sizes}
use Rattle.rq_page.specs.Pages.{lsn_of, slot_of}
use Rattle.rq_page.specs.Formatted.{count_in}
use Rattle.rq_pool.specs.declared.ahead.Ahead.{Ahead}
use Rattle.rq_pool.specs.Numbered.{IsNumberOf, number_in, number_on}
use Rattle.rq_pool.specs.Pooled.{image_at}
use Rattle.rq_pool.proofs.Readings.{earlier, here}

-- ---- the greatest of a page

-- of its LSN and the slots before this one
abbrev pub IsGreatest : Sizes → ℕ → List ℕ → ℕ → ℕ → Type 0
IsGreatest z p image n greatest =
    (count : ℕ) → (greatest ≤ count) ↔ ((lsn_of image ≤ count) × ((j : ℕ) → 1 ≤ j → j < n → count_in z p (slot_of j image) ≤ count))

pub greatest_more : (z : Sizes) (p : ℕ) (image : List ℕ) (n greatest : ℕ) → 1 ≤ n → IsGreatest z p image n greatest → IsGreatest z p image (n + 1) (max greatest (count_in z p (slot_of n image)))
greatest_more z p image n greatest low k count = (
  (λ le.
      let few : greatest ≤ count = omega (arith, le) in
      let here : count_in z p (slot_of n image) ≤ count = omega (arith, le) in
      let so_far = (k count).0 few in (
        so_far.0,
        λ j a b. elim (cases_eq j n) [
          | inl same ↦ subst (λ m. count_in z p (slot_of m image) ≤ count) (sym same) here
          | inr ne ↦ so_far.1 j a (omega (arith, b, ne))
        ],
      )),
  (λ h.
      let few : greatest ≤ count = (k count).1 (h.0, λ j a b. h.1 j a (omega (arith, b))) in
      let here : count_in z p (slot_of n image) ≤ count = h.1 n low (omega arith) in
      omega (arith, few, here)),
)

pub greatest_all : (z : Sizes) (p : ℕ) (image : List ℕ) (greatest : ℕ) → IsGreatest z p image 16 greatest → IsNumberOf z p image greatest
greatest_all z p image greatest k count = (
  (λ le. let all = (k count).0 le in record { lsn = all.0; slots = λ n a b. all.1 n a (omega (arith, b)) }),
  (λ c. (k count).1 (c.lsn, λ j a b. c.slots j a (omega (arith, b)))),
)

-- ---- what is told of each

pub told_more : (ahead : List Ahead) (a : Ahead) (p : ℕ) → number_in (ahead ++ a ∷ []) p ≡ max (number_in ahead p) (cond (nat_eq a.page p) a.number 0)
told_more [] a p = omega arith
told_more (b ∷ ahead) a p = let more = told_more ahead a p in omega (arith, more)

-- nothing was told of the page, and now this is
pub told_here : (ahead : List Ahead) (a : Ahead) → number_in ahead a.page ≡ 0 → number_in (ahead ++ a ∷ []) a.page ≡ a.number
told_here ahead a none = let more = told_more ahead a a.page in let same = cond-true (nat_eq a.page a.page) a.number 0 (eq-eqb a.page a.page refl) in omega (arith, more, same, none)

pub told_other : (ahead : List Ahead) (a : Ahead) (p : ℕ) → p ≢ a.page → number_in (ahead ++ a ∷ []) p ≡ number_in ahead p
told_other ahead a p other = let more = told_more ahead a p in let apart = cond-false (nat_eq a.page p) a.number 0 (ne_eqb a.page p (λ e. other (sym e))) in omega (arith, more, apart)

-- no slot of the page counts more than its LSN
pub number_alone : (z : Sizes) (p : ℕ) (image : List ℕ) (greatest : ℕ) (ahead : List Ahead) → IsNumberOf z p image greatest → greatest ≤ lsn_of image → number_in ahead p ≡ 0 → IsNumberOf z p image (number_on ahead p image)
number_alone z p image greatest ahead is le none =
    let low : lsn_of image ≤ greatest = ((is greatest).0 (omega arith)).lsn in
    subst (IsNumberOf z p image) (let e : greatest ≡ number_on ahead p image = omega (arith, le, low, none) in e) is

pub number_told : (z : Sizes) (p : ℕ) (image : List ℕ) (greatest : ℕ) (ahead : List Ahead) → IsNumberOf z p image greatest → number_in ahead p ≡ greatest → IsNumberOf z p image (number_on ahead p image)
number_told z p image greatest ahead is told =
    let low : lsn_of image ≤ greatest = ((is greatest).0 (omega arith)).lsn in
    subst (IsNumberOf z p image) (let e : greatest ≡ number_on ahead p image = omega (arith, low, told) in e) is

-- ---- of each page

-- those of the first n pages; nothing is told of others
pub record AreNumberedTo (z : Sizes) (images : List (List ℕ)) (n : ℕ) (ahead : List Ahead) : Type 0 where
  pub same : (p : ℕ) → 1 ≤ p → p < n → IsNumberOf z p (image_at images p) (number_on ahead p (image_at images p))
  pub none : (p : ℕ) → n ≤ p → number_in ahead p ≡ 0

-- one page more is read
pub numbered_more : (z : Sizes) (images new : List (List ℕ)) (n : ℕ) (page : List ℕ) (ahead now : List Ahead) → new ≡ images ++ page ∷ [] → length images ≡ n → AreNumberedTo z images n ahead
    → IsNumberOf z n page (number_on now n page) → ((p : ℕ) → p ≢ n → number_in now p ≡ number_in ahead p) → AreNumberedTo z new (n + 1) now
numbered_more z images new n page ahead now grown count k is others = record {
  same = λ p first lt. elim (cases_eq p n) [
    | inl same ↦ subst (λ q. IsNumberOf z q (image_at new q) (number_on now q (image_at new q))) (sym same)
        (subst (λ image. IsNumberOf z n image (number_on now n image)) (sym (here images new n page grown count)) is)
    | inr ne ↦ subst (λ image. IsNumberOf z p image (number_on now p image)) (sym (earlier images new n page grown count p (omega (arith, lt, ne))))
        (subst (λ m. IsNumberOf z p (image_at images p) (max (lsn_of (image_at images p)) m)) (sym (others p ne)) (k.same p first (omega (arith, lt, ne))))
  ];
  none = λ p high. others p (λ e. omega (arith, e, high)) ∙ k.none p (omega (arith, high));
}
