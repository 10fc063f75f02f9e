-- The set of the pages that are counted, where one comes in, and where one goes.
use Rattle.std.proofs.Common.{◌≡◌, ◌≢◌, ℕ, ◌<◌, ◌≤◌, ◌++◌, ◌||◌, not, Bool, true, false, nat_eq, nat_lt, List, [], ◌∷◌, length, slice_index_or, slice_set, refl, sym, ap, ◌∙◌, inl, inr, arith}
use Rattle.std.proofs.lemmas.Bool.{cases_Bool, cases_eq, cases_lt, eqb-true, eq-eqb, false_from_ne_true}
use Rattle.std.proofs.lemmas.List.{get_or-set_same, get_or-set_other, get_or_past}
use Rattle.std.specs.List.{filter}
use Rattle.rq_level.specs.Given.{has_page}

other_page : (x p : ℕ) → p ≢ x → nat_eq x p ≡ false
other_page x p ne = false_from_ne_true (nat_eq x p) (λ y. ne (sym (eqb-true x p y)))

-- a page at the end
in_end : (ps : List ℕ) (x : ℕ) → has_page x (ps ++ x ∷ []) ≡ true
in_end [] x = rw (eq-eqb x x refl) refl
in_end (q ∷ ps) x = elim (cases_Bool (nat_eq q x)) [ inl y ↦ rw y refl | inr n ↦ rw n (in_end ps x) ]

before_end : (ps : List ℕ) (x p : ℕ) → p ≢ x → has_page p (ps ++ x ∷ []) ≡ has_page p ps
before_end [] x p ne = rw (other_page x p ne) refl
before_end (q ∷ ps) x p ne = ap (λ b. nat_eq q p || b) (before_end ps x p ne)

-- a page that is taken out
abbrev pub but : ℕ → ℕ → Bool
but x q = not (nat_eq q x)

gone : (ps : List ℕ) (x : ℕ) → has_page x (filter (but x) ps) ≡ false
gone [] x = refl
gone (q ∷ ps) x = elim (cases_Bool (nat_eq q x)) [ inl y ↦ rw y (gone ps x) | inr n ↦ rw n (rw n (gone ps x)) ]

left : (ps : List ℕ) (x p : ℕ) → p ≢ x → has_page p (filter (but x) ps) ≡ has_page p ps
left [] x p ne = refl
left (q ∷ ps) x p ne = elim (cases_Bool (nat_eq q x)) [
  | inl y ↦ rw y (rw (other_page q p (λ e. ne (e ∙ eqb-true q x y))) (left ps x p ne))
  | inr n ↦ rw n (ap (λ b. nat_eq q p || b) (left ps x p ne))
]

-- what is counted has its place
pub within_some : (cs : List ℕ) (x : ℕ) → 1 ≤ slice_index_or cs x 0 → x < length cs
within_some cs x some = elim (cases_lt x (length cs)) [
  | inl below ↦ below
  | inr past ↦ let none = get_or_past cs x 0 past in absurd (omega (arith, some, none))
]

module _ (ps : List ℕ) (cs : List ℕ) (x : ℕ) (agree : (p : ℕ) → has_page p ps ≡ nat_lt 0 (slice_index_or cs p 0)) (within : x < length cs) where
  pub comes_in : (qs : List ℕ) → qs ≡ ps ++ x ∷ [] → (p : ℕ) → has_page p qs ≡ nat_lt 0 (slice_index_or (slice_set cs x 1) p 0)
  comes_in qs is p = ap (has_page p) is ∙ elim (cases_eq p x) [
    | inl e ↦ rw e (in_end ps x ∙ sym (ap (nat_lt 0) (get_or-set_same cs x 1 0 within)))
    | inr ne ↦ before_end ps x p ne ∙ agree p ∙ sym (ap (nat_lt 0) (get_or-set_other cs x p 1 0 ne))
  ]

  pub goes_out : (qs : List ℕ) → qs ≡ filter (but x) ps → (p : ℕ) → has_page p qs ≡ nat_lt 0 (slice_index_or (slice_set cs x 0) p 0)
  goes_out qs is p = ap (has_page p) is ∙ elim (cases_eq p x) [
    | inl e ↦ rw e (gone ps x ∙ sym (ap (nat_lt 0) (get_or-set_same cs x 0 0 within)))
    | inr ne ↦ left ps x p ne ∙ agree p ∙ sym (ap (nat_lt 0) (get_or-set_other cs x p 0 0 ne))
  ]
