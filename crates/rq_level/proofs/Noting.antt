-- Slots that are noted one after the other.
use Rattle.std.proofs.Common.{◌≡◌, ◌≢◌, ℕ, ◌/◌, ◌%◌, nat_lt, ◌&&◌, List, Bool, true, false, Option, None, Some, set, refl, sym, ap, ◌∙◌, subst, inl, inr}
use Rattle.std.proofs.lemmas.Bool.{cases_Bool, ne_eqb, and_parts, ltb-true}
use Rattle.std.proofs.lemmas.List.{get_or-set_other, set_comm}
use Rattle.rq_page.specs.Sizes.{Sizes, IsCellAddress, cell_at, place_of, tags_from}
use Rattle.rq_page.proofs.Addresses.{places_are_cells}
use Rattle.rq_level.specs.Lawful.{IsUntouchedAt}
use Rattle.rq_level.specs.LevelState.{LevelState, noted, noted_in, noted_cell, is_cell_address, is_free_slot}

cells_apart : (z : Sizes) (k : LevelState) (i j : ℕ) (x y : Bool) → i ≢ j → noted_cell z (noted_cell z k i x) j y ≡ noted_cell z (noted_cell z k j y) i x
cells_apart z k i j x y n =
    ap (λ (f : List Bool). record k { free = f; reserved = set (set k.reserved i false) j false }) (set_comm k.free i j x y n)
    ∙ ap (λ (r : List Bool). record k { free = set (set k.free j y) i x; reserved = r }) (set_comm k.reserved i j false false n)

pub is_cell : (z : Sizes) (a : ℕ) → is_cell_address z a ≡ true → IsCellAddress z a
is_cell z a e =
    let first = and_parts (nat_lt z.directory (a / 16)) (nat_lt (a / 16) (tags_from z) && nat_lt 0 (a % 16)) e in
    let rest = and_parts (nat_lt (a / 16) (tags_from z)) (nat_lt 0 (a % 16)) first.1 in
    record { above = ltb-true _ _ first.0; below = ltb-true _ _ rest.0; slot = ltb-true _ _ rest.1 }

-- two cells have two places
places_apart : (z : Sizes) (a b : ℕ) → is_cell_address z a ≡ true → is_cell_address z b ≡ true → a ≢ b → place_of z a ≢ place_of z b
places_apart z a b x y n = λ e. n (sym (places_are_cells z a (is_cell z a x)).1 ∙ ap (cell_at z) e ∙ (places_are_cells z b (is_cell z b y)).1)

slots_apart : (z : Sizes) (k : LevelState) (a b : ℕ) (x y : List ℕ) → a ≢ b → noted_in (Some z) (noted_in (Some z) k a x) b y ≡ noted_in (Some z) (noted_in (Some z) k b y) a x
slots_apart z k a b x y n = elim (cases_Bool (is_cell_address z a)) [
  | inl ca ↦ elim (cases_Bool (is_cell_address z b)) [
    | inl cb ↦ rw (ca, cb) (cells_apart z k (place_of z a) (place_of z b) (is_free_slot x) (is_free_slot y) (places_apart z a b ca cb n))
    | inr nb ↦ rw (ca, nb) refl
  ]
  | inr na ↦ rw na refl
]

sizes_stay : (z : Sizes) (k : LevelState) (a : ℕ) (x : List ℕ) → (noted_in (Some z) k a x).sizes ≡ k.sizes
sizes_stay z k a x = elim (cases_Bool (is_cell_address z a)) [ inl y ↦ rw y refl | inr n ↦ rw n refl ]

one_then : (z : Option Sizes) (k : LevelState) (a b : ℕ) (x y : List ℕ) → k.sizes ≡ z → noted_in (noted_in z k a x).sizes (noted_in z k a x) b y ≡ noted_in z (noted_in z k a x) b y
one_then None k a b x y e = ap (λ (o : Option Sizes). noted_in o k b y) e
one_then (Some z) k a b x y e = ap (λ (o : Option Sizes). noted_in o (noted_in (Some z) k a x) b y) (sizes_stay z k a x ∙ e)

in_any_order : (z : Option Sizes) (k : LevelState) (a b : ℕ) (x y : List ℕ) → a ≢ b → noted_in z (noted_in z k a x) b y ≡ noted_in z (noted_in z k b y) a x
in_any_order None k a b x y n = refl
in_any_order (Some z) k a b x y n = slots_apart z k a b x y n

pub not_first : (k : LevelState) (a : ℕ) (x : List ℕ) → a ≢ 1 → noted k a x ≡ noted_in k.sizes k a x
not_first k a x n = rw (ne_eqb a 1 n) refl

pub any_order : (k : LevelState) (a b : ℕ) (x y : List ℕ) → a ≢ 1 → b ≢ 1 → a ≢ b → noted (noted k a x) b y ≡ noted (noted k b y) a x
any_order k a b x y m n o =
    ap (λ (l : LevelState). noted l b y) (not_first k a x m) ∙ not_first (noted_in k.sizes k a x) b y n ∙ one_then k.sizes k a b x y refl
    ∙ in_any_order k.sizes k a b x y o
    ∙ sym (ap (λ (l : LevelState). noted l a x) (not_first k b y n) ∙ not_first (noted_in k.sizes k b y) a x m ∙ one_then k.sizes k b a y x refl)

-- the flags of other places stay
alone_in : (z : Sizes) (k : LevelState) (a i : ℕ) (x : List ℕ) → (IsCellAddress z a → i ≢ place_of z a) → IsUntouchedAt i (noted_in (Some z) k a x) k
alone_in z k a i x n = elim (cases_Bool (is_cell_address z a)) [
  | inl y ↦
      let off = n (is_cell z a y) in
      rw y (refl, get_or-set_other k.free (place_of z a) i (is_free_slot x) false off, get_or-set_other k.reserved (place_of z a) i false false off)
  | inr not_one ↦ rw not_one (refl, refl, refl)
]

pub alone : (k : LevelState) (z : Sizes) (a i : ℕ) (x : List ℕ) → k.sizes ≡ Some z → a ≢ 1 → (IsCellAddress z a → i ≢ place_of z a) → IsUntouchedAt i (noted k a x) k
alone k z a i x told m n =
    subst (λ (l : LevelState). IsUntouchedAt i l k) (sym (not_first k a x m ∙ ap (λ (o : Option Sizes). noted_in o k a x) told)) (alone_in z k a i x n)
