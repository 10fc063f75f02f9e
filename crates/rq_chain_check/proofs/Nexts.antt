-- The next free cell, and the cells before it.
use Rattle.std.proofs.Common.{◌≡◌, ℕ, ◌+◌, ◌<◌, ◌≤◌, ◌⊎◌, inl, inr, List, true, false, sym, ◌∙◌, ap, subst, arith, Option, Some, None}
use Rattle.std.specs.Prelude.{IfSome, IfNone}
use Rattle.std.proofs.lemmas.Bool.{cases_eq, true≢false}
use Rattle.rq_page.specs.Sizes.{Sizes, IsCellAddress, cell_at, cell_count, place_of}
use Rattle.rq_page.specs.Slots.{Free}
use Rattle.rq_page.proofs.Addresses.{cells_have_places, places_are_cells, cells_rise}
use Rattle.rq_bitset.specs.Flags.{flag_at}
use Rattle.rq_views.specs.Log.{Slots}
use Rattle.rq_views.specs.Stored.{is_used}
use Rattle.rq_chain_check.specs.Follows.{IsNextFree}
use Rattle.rq_chain_check.proofs.Followed.{AreSeen}

-- as the pages tell it
pub next_told : (z : Sizes) (q : Slots) (from : ℕ) (r : Option ℕ) → IfSome r (λ a. IsCellAddress z a) → IfSome r (λ a. q a ≡ Free) → IfSome r (λ a. from ≤ place_of z a)
    → IfSome r (λ a. (b : ℕ) → IsCellAddress z b → from ≤ place_of z b → b < a → is_used (q b) ≡ true)
    → IfNone r ((b : ℕ) → IsCellAddress z b → from ≤ place_of z b → is_used (q b) ≡ true) → IsNextFree z q from r
next_told z q from None cell free low lowest none = none
next_told z q from (Some a) cell free low lowest none = (cell, ap is_used free, low, lowest)

module _ (z : Sizes) (q : Slots) (place : ℕ) (at : ℕ) (is : at ≡ cell_at z place) where
  -- it stands behind this place where it is another one
  behind : (a : ℕ) → (Some a ≡ Some at → ⊥) → IsCellAddress z a → place ≤ place_of z a → place < place_of z a
  behind a ne cell low = elim (cases_eq (place_of z a) place) [
    | inl same ↦ absurd (ne (ap Some (sym ((places_are_cells z a cell).1) ∙ ap (cell_at z) same ∙ sym is)))
    | inr other ↦ omega (arith, low, other)
  ]

  -- and the cell with this place is used
  pub used_before : (free : Option ℕ) → place < cell_count z → (free ≡ Some at → ⊥) → IsNextFree z q place free → is_used (q (cell_at z place)) ≡ true
  used_before None below ne next = let here = cells_have_places z place below in next (cell_at z place) here.0 (let e = here.1 in omega (arith, e))
  used_before (Some a) below ne next =
      let here = cells_have_places z place below in
      let up : cell_at z place < cell_at z (place_of z a) = cells_rise z place (place_of z a) (behind a ne next.0 next.2) in
      let lt : cell_at z place < a = subst (λ (n : ℕ). cell_at z place < n) ((places_are_cells z a next.0).1) up in
      next.3 (cell_at z place) here.0 (let e = here.1 in omega (arith, e)) lt

  -- where it is the next free one, or noted, the used cells are noted up to it
  pub seen_next : (met : List ℕ) (free : Option ℕ) → AreSeen z q met place → IsNextFree z q place free → (free ≡ Some at) ⊎ (flag_at met place ≡ 1) → AreSeen z q met (place + 1)
  seen_next met free seen next or i lt used = elim (cases_eq i place) [
    | inl here ↦ elim or [
      | inl same ↦
          let unused : is_used (q at) ≡ false = (subst (IsNextFree z q place) same next).1 in
          let also : is_used (q at) ≡ true = ap (λ a. is_used (q a)) (is ∙ ap (cell_at z) (sym here)) ∙ used in
          absurd (true≢false (sym also ∙ unused))
      | inr flag ↦ ap (flag_at met) here ∙ flag
    ]
    | inr other ↦ seen i (omega (arith, lt, other)) used
  ]
