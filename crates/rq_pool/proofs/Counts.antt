-- How many cells are used.
use Rattle.std.proofs.Common.{◌≡◌, ℕ, ◌+◌, ◌<◌, ◌≤◌, Bool, true, false, cond, [], ◌∷◌, length, refl, sym, ap, ◌∙◌, arith, inl, inr, zero, suc, length-append, add-one}
use Rattle.std.proofs.lemmas.Bool.{cases_lt}
use Rattle.std.proofs.lemmas.List.Elements.{filter-append}
use Rattle.std.specs.List.{filter}
use Rattle.rq_model.specs.Tests.{below}
use Rattle.rq_page.specs.Sizes.{Sizes, IsCellAddress, cell_at, place_of}
use Rattle.rq_page.proofs.Addresses.{places_are_cells, cells_rise}
use Rattle.rq_views.specs.Log.{Slots}
use Rattle.rq_views.specs.Stored.{is_used}

-- 1 for a test that is passed
abbrev pub one_of : Bool → ℕ
one_of b = cond b 1 0

-- how many numbers below n pass a test
abbrev pub passed : (ℕ → Bool) → ℕ → ℕ
passed f n = length (filter f (below n))

one_if : (f : ℕ → Bool) (b : Bool) (n : ℕ) → length (cond b (n ∷ []) []) ≡ one_of b
one_if f true n = refl
one_if f false n = refl

pub passed_suc : (f : ℕ → Bool) (n : ℕ) → passed f (suc n) ≡ passed f n + one_of (f n)
passed_suc f n =
    ap length (filter-append f (below n) (n ∷ [])) ∙ length-append (filter f (below n)) (filter f (n ∷ [])) ∙ ap (λ k. passed f n + k) (one_if f (f n) n)

pub passed_more : (f : ℕ → Bool) (n : ℕ) → passed f (n + 1) ≡ passed f n + one_of (f n)
passed_more f n = rw (add-one n) (passed_suc f n)

-- where each between two numbers passes, these are counted
pub passed_run : (f : ℕ → Bool) (n m k : ℕ) → m ≡ n + k → ((i : ℕ) → n ≤ i → i < m → f i ≡ true) → passed f m ≡ passed f n + k
passed_run f n m zero at each =
    let same : m ≡ n = omega (arith, at) in
    ap (passed f) same ∙ omega arith
passed_run f n m (suc k) at each =
    let is : m ≡ suc (n + k) = omega (arith, at) in
    let rest : passed f (n + k) ≡ passed f n + k = passed_run f n (n + k) k refl (λ i from to. each i from (omega (arith, to, is))) in
    let here : one_of (f (n + k)) ≡ 1 = ap one_of (each (n + k) (omega arith) (omega (arith, is))) in
    let more : passed f (suc (n + k)) ≡ passed f (n + k) + one_of (f (n + k)) = passed_suc f (n + k) in
    ap (passed f) is ∙ omega (arith, rest, here, more)

-- how many of the first n cells are used
abbrev pub used_below : Sizes → Slots → ℕ → ℕ
used_below z q n = passed (λ i. is_used (q (cell_at z i))) n

less_not : (b m n : ℕ) → b < m → m < n → n ≡ b → ⊥
less_not b m n low up same = omega arith

less_same : (b m : ℕ) → b < m → b ≡ m → ⊥
less_same b m low same = omega arith

-- cells with addresses below that of a place have lower places
pub lower_place : (z : Sizes) (b place : ℕ) → IsCellAddress z b → b < cell_at z place → place_of z b < place
lower_place z b place is lt =
    let e : cell_at z (place_of z b) ≡ b = (places_are_cells z b is).1 in
    elim (cases_lt (place_of z b) place) [
      | inl less ↦ less
      | inr more ↦ elim (cases_lt place (place_of z b)) [
        | inl above ↦ absurd (let up : cell_at z place < cell_at z (place_of z b) = cells_rise z place (place_of z b) above in less_not b (cell_at z place) (cell_at z (place_of z b)) lt up e)
        | inr also ↦ absurd (let same : place_of z b ≡ place = omega arith in less_same b (cell_at z place) lt (sym e ∙ ap (cell_at z) same))
      ]
    ]
