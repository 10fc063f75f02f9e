-- Which of some slots are on latched pages, and which of some writes; and a search below a number.
use Rattle.std.proofs.Common.{◌≡◌, ◌||◌, ℕ, zero, suc, ◌/◌, ◌<◌, ◌++◌, ◌⊎◌, List, [], ◌∷◌, refl, sym, ◌∙◌, ap, subst, Bool, true, false, nat_eq, Option, Some, None, inl, inr, arith}
use Rattle.std.proofs.lemmas.Bool.{cases_Bool, cases_eq, eq-eqb, eqb-true, false_from_ne_true, or_from, or_parts}
use Rattle.std.proofs.Math.Bool.{or_assoc}
use Rattle.rq_page.specs.declared.cell.Cell.{Cell}
use Rattle.rq_page.specs.Sizes.{Sizes, IsCellAddress}
use Rattle.rq_views.specs.InStore.{IsInPlace, WritesStand}
use Rattle.rq_views.specs.Log.{Slots, Write, HasBefores}
use Rattle.rq_views.specs.Plans.{LinksTo, relinked}
use Rattle.rq_txn.specs.Rows.{Row, latched_in}
use Rattle.rq_store.specs.State.{State}
use Rattle.rq_sound.specs.Plans.{AreOff}
use Rattle.rq_sound.specs.Latching.{any_latched, named}

-- some number below n passes, or none does
pub some_below : (f : ℕ → Bool) (n : ℕ) → ((i : ℕ) × (i < n) × (f i ≡ true)) ⊎ ((i : ℕ) → i < n → f i ≡ false)
some_below f zero = inr (λ i lt. absurd (omega (arith, lt)))
some_below f (suc n) = elim (cases_Bool (f n)) [
  | inl y ↦ inl (n, omega arith, y)
  | inr m ↦ elim (some_below f n) [
    | inl r ↦ inl (let lt = r.1 in (r.0, omega (arith, lt), r.2))
    | inr h ↦ inr (λ i lt. elim (cases_eq i n) [ inl e ↦ ap f e ∙ m | inr ne ↦ h i (omega (arith, lt, ne)) ])
  ]
]

named_is : (a : ℕ) → 0 < a → named a ≡ a ∷ []
named_is a pos = let n : nat_eq a 0 ≡ false = false_from_ne_true (nat_eq a 0) (λ y. let e = eqb-true a 0 y in omega (arith, e, pos)) in rw n refl

named_none : (a : ℕ) → a ≡ 0 → named a ≡ []
named_none a e = let y : nat_eq a 0 ≡ true = eq-eqb a 0 e in rw y refl

pub off_named : (rows : List Row) (a : ℕ) → any_latched rows (named a) ≡ false → 0 < a → latched_in rows (a / 16) ≡ false
off_named rows a h pos = (or_parts (latched_in rows (a / 16)) false (subst (λ l. any_latched rows l ≡ false) (named_is a pos) h)).0

pub named_off : (rows : List Row) (a : ℕ) → (0 < a → latched_in rows (a / 16) ≡ false) → any_latched rows (named a) ≡ false
named_off rows a h = elim (cases_eq a 0) [
  | inl e ↦ ap (any_latched rows) (named_none a e)
  | inr ne ↦ let pos : 0 < a = omega (arith, ne) in ap (any_latched rows) (named_is a pos) ∙ or_from (latched_in rows (a / 16)) false (h pos) refl
]

pub any_append : (rows : List Row) (xs ys : List ℕ) → any_latched rows (xs ++ ys) ≡ (any_latched rows xs || any_latched rows ys)
any_append rows [] ys = refl
any_append rows (x ∷ xs) ys = ap (λ b. latched_in rows (x / 16) || b) (any_append rows xs ys) ∙ sym (or_assoc (latched_in rows (x / 16)) (any_latched rows xs) (any_latched rows ys))

pub any_parts : (rows : List Row) (xs ys : List ℕ) → any_latched rows (xs ++ ys) ≡ false → (any_latched rows xs ≡ false) × (any_latched rows ys ≡ false)
any_parts rows [] ys h = (refl, h)
any_parts rows (x ∷ xs) ys h =
    let p = or_parts (latched_in rows (x / 16)) (any_latched rows (xs ++ ys)) h in
    let q = any_parts rows xs ys p.1 in
    (or_from (latched_in rows (x / 16)) (any_latched rows xs) p.0 q.0, q.1)

pub any_join : (rows : List Row) (xs ys : List ℕ) → any_latched rows xs ≡ false → any_latched rows ys ≡ false → any_latched rows (xs ++ ys) ≡ false
any_join rows [] ys h k = k
any_join rows (x ∷ xs) ys h k =
    let p = or_parts (latched_in rows (x / 16)) (any_latched rows xs) h in
    or_from (latched_in rows (x / 16)) (any_latched rows (xs ++ ys)) p.0 (any_join rows xs ys p.1 k)

-- the writes of a plan: of its directory slot, of a cell that a link names, and of the cell at the end
pub relinked_parts : (s : State) (at : ℕ) (o : Option Cell) (f : Cell → Cell) (ws : List Write) → AreOff s (relinked at o f ws) → ((c : Cell) → o ≡ Some c → latched_in s.rows (at / 16) ≡ false) × AreOff s ws
relinked_parts s at None f ws h = ((λ c e. cc), h)
relinked_parts s at (Some x) f ws h = ((λ c e. h.0), h.1)

pub link_off : (s : State) (g at : ℕ) (o : Option Cell) → LinksTo g at o → ((c : Cell) → o ≡ Some c → latched_in s.rows (at / 16) ≡ false) → 0 < at → latched_in s.rows (at / 16) ≡ false
link_off s g at None e h pos = absurd (let z : at ≡ 0 = e in omega (arith, z, pos))
link_off s g at (Some c) e h pos = h c refl

pub end_before : (q : Slots) (w : Write) (at : ℕ) (o : Option Cell) (f : Cell → Cell) (v : Write) → HasBefores (w ∷ relinked at o f (v ∷ [])) q → v.before ≡ q v.at
end_before q w at None f v h = h.1.0
end_before q w at (Some c) f v h = h.1.1.0

pub end_stands : (z : Sizes) (w : Write) (at : ℕ) (o : Option Cell) (f : Cell → Cell) (v : Write) → WritesStand z (w ∷ relinked at o f (v ∷ [])) → IsInPlace z v.at v.after
end_stands z w at None f v h = h.1.0
end_stands z w at (Some c) f v h = h.1.1.0

pub relinked_stand : (z : Sizes) (at : ℕ) (o : Option Cell) (f : Cell → Cell) (ws : List Write) → ((c : Cell) → o ≡ Some c → IsCellAddress z at) → WritesStand z ws → WritesStand z (relinked at o f ws)
relinked_stand z at None f ws h k = k
relinked_stand z at (Some c) f ws h k = (h c refl, k)
