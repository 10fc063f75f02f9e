-- Cells in chains, counted: where as many are used as stand in chains, each used one stands in one.
use Rattle.std.proofs.Common.{◌≡◌, ◌≢◌, ℕ, zero, suc, ◌+◌, ◌<◌, ◌≤◌, inl, inr, List, [], ◌∷◌, ◌++◌, length, true, false, cond, nat_eq, refl, sym, ◌∙◌, ap, subst, arith, Option, Some, None}
use Rattle.std.specs.List.{sum_by}
use Rattle.std.proofs.lemmas.Bool.{cases_Bool, cases_eq, eq-eqb}
use Rattle.std.proofs.lemmas.List.{length-append, length-map}
use Rattle.std.proofs.lemmas.List.Sums.{length-filter}
use Rattle.rq_model.specs.Tests.{below}
use Rattle.rq_model.specs.Vocabulary.{In, has_number}
use Rattle.rq_model.proofs.Counts.{sum_more, sum_change, sum_none}
use Rattle.rq_model.proofs.Lists.{In-parts}
use Rattle.rq_page.specs.Sizes.{Sizes, IsCellAddress, cell_at, cell_count, place_of, sender_count}
use Rattle.rq_page.specs.Slots.{Slot}
use Rattle.rq_page.specs.Slots.Slot.{Free, Used, Sender, Client}
use Rattle.rq_page.specs.declared.cell.Cell.{Cell}
use Rattle.rq_page.proofs.Addresses.{places_are_cells}
use Rattle.rq_views.specs.Chain.{Node}
use Rattle.rq_views.specs.Log.{Slots, cell_in, cells_of}
use Rattle.rq_views.specs.Stored.{is_used, count_used}
use Rattle.rq_views.proofs.Chains.{no_eq}
use Rattle.rq_views.proofs.Counting.{same_place}
use Rattle.rq_chain_check.specs.Links.{addresses, AreOnce, AreChains, IsMet}
use Rattle.rq_chain_check.proofs.Chains.{linked_in}

once_append : (xs ys : List ℕ) → AreOnce xs → AreOnce ys → ((a : ℕ) → In a xs → In a ys → ⊥) → AreOnce (xs ++ ys)
once_append [] ys h k none = k
once_append (x ∷ xs) ys h k none = (
  (λ i. elim (In-parts xs ys x i) [ inl j ↦ h.0 j | inr j ↦ none x (inl refl) j ]),
  once_append xs ys h.1 k (λ a i j. none a (inr i) j),
)

-- 1 for an address of the list, 0 for another
abbrev pub mark : ℕ → List ℕ → ℕ
mark a l = cond (has_number a l) 1 0

-- what is found in a list stands in it
has_in : (a : ℕ) (l : List ℕ) → has_number a l ≡ true → In a l
has_in a [] e = absurd (let k : false ≡ true = e in cc)
has_in a (x ∷ l) e = elim (cases_eq a x) [
  | inl same ↦ inl same
  | inr ne ↦ let n : nat_eq x a ≡ false = no_eq x a (λ k. ne (sym k)) in inr (has_in a l (rw n at e))
]

mark_on : (a x : ℕ) (l : List ℕ) → a ≡ x → mark a (x ∷ l) ≡ 1
mark_on a x l e = let n : nat_eq x a ≡ true = eq-eqb x a (sym e) in rw n refl

mark_off : (a x : ℕ) (l : List ℕ) → a ≢ x → mark a (x ∷ l) ≡ mark a l
mark_off a x l ne = let n : nat_eq x a ≡ false = no_eq x a (λ k. ne (sym k)) in rw n refl

mark_none : (a : ℕ) (l : List ℕ) → (In a l → ⊥) → mark a l ≡ 0
mark_none a l none = elim (cases_Bool (has_number a l)) [
  | inl y ↦ absurd (none (has_in a l y))
  | inr n ↦ rw n refl
]

mark_in : (a : ℕ) (l : List ℕ) → mark a l ≡ 1 → In a l
mark_in a l e = elim (cases_Bool (has_number a l)) [
  | inl y ↦ has_in a l y
  | inr n ↦ absurd (let k : 0 ≡ 1 = rw n at e in omega (arith, k))
]

-- the cells of a list of cells are as many as it is long
covers : (z : Sizes) (l : List ℕ) → AreOnce l → ((a : ℕ) → In a l → IsCellAddress z a) → sum_by (λ i. mark (cell_at z i) l) (below (cell_count z)) ≡ length l
covers z [] h c = sum_none (cell_count z)
covers z (x ∷ l) h c =
    let p = places_are_cells z x (c x (inl refl)) in
    let k = place_of z x in
    let f : ℕ → ℕ = λ i. mark (cell_at z i) (x ∷ l) in
    let g : ℕ → ℕ = λ i. mark (cell_at z i) l in
    let other : (i : ℕ) → i ≢ k → f i ≡ g i = (λ i ne. mark_off (cell_at z i) x l (λ e. ne (same_place z i k (e ∙ sym p.1)))) in
    let here : f k ≡ 1 = mark_on (cell_at z k) x l p.1 in
    let there : g k ≡ 0 = ap (λ a. mark a l) p.1 ∙ mark_none x l h.0 in
    let s = sum_change f g (cell_count z) k p.0 other in
    let ih : sum_by g (below (cell_count z)) ≡ length l = covers z l h.1 (λ a i. c a (inr i)) in
    omega arith

sum_le : (f g : ℕ → ℕ) (n : ℕ) → ((i : ℕ) → i < n → f i ≤ g i) → sum_by f (below n) ≤ sum_by g (below n)
sum_le f g zero h = omega arith
sum_le f g (suc n) h =
    let a = sum_more f n in
    let b = sum_more g n in
    let ih = sum_le f g n (λ i lt. h i (omega (arith, lt))) in
    let e = h n (omega arith) in
    omega arith

-- numbers that are nowhere greater, and come to the same sum, are the same
sum_meets : (f g : ℕ → ℕ) (n : ℕ) → ((i : ℕ) → i < n → f i ≤ g i) → sum_by f (below n) ≡ sum_by g (below n) → (i : ℕ) → i < n → f i ≡ g i
sum_meets f g zero h e i lt = absurd (omega arith)
sum_meets f g (suc n) h e i lt =
    let a = sum_more f n in
    let b = sum_more g n in
    let le = sum_le f g n (λ j m. h j (omega (arith, m))) in
    let here = h n (omega arith) in
    elim (cases_eq i n) [
      | inl same ↦ ap f same ∙ (let k : f n ≡ g n = omega arith in k) ∙ sym (ap g same)
      | inr ne ↦ sum_meets f g n (λ j m. h j (omega (arith, m))) (omega arith) i (omega (arith, ne, lt))
    ]

-- where the cells of the first n chains stand
abbrev pub joined : (ℕ → List Node) → ℕ → List ℕ
joined cs zero = []
joined cs (suc n) = joined cs n ++ addresses (cs n)

pub met_more : (n k : ℕ) (cs : ℕ → List Node) (a : ℕ) → n ≤ k → IsMet n cs a → IsMet k cs a
met_more n k cs a le m = record { sender = m.sender; below = (let b = m.below in omega arith); met = m.met }

-- each of these is met
joined_met : (cs : ℕ → List Node) (n a : ℕ) → In a (joined cs n) → IsMet n cs a
joined_met cs zero a h = absurd h
joined_met cs (suc n) a h = elim (In-parts (joined cs n) (addresses (cs n)) a h) [
  | inl i ↦ met_more n (suc n) cs a (omega arith) (joined_met cs n a i)
  | inr i ↦ record { sender = n; below = omega arith; met = i }
]

pub chains_fewer : (n k : ℕ) (q : Slots) (cs : ℕ → List Node) → n ≤ k → AreChains k q cs → AreChains n q cs
chains_fewer n k q cs le c = record {
  whole = λ s lt. c.whole s (omega (arith, lt, le));
  once = λ s lt. c.once s (omega (arith, lt, le));
  apart = λ r s a i j. c.apart r s a (omega (arith, i, le)) (omega (arith, j, le));
}

joined_once : (n : ℕ) (q : Slots) (cs : ℕ → List Node) → AreChains n q cs → AreOnce (joined cs n)
joined_once zero q cs c = tt
joined_once (suc n) q cs c =
    once_append (joined cs n) (addresses (cs n)) (joined_once n q cs (chains_fewer n (suc n) q cs (omega arith) c)) (c.once n (omega arith))
    (λ a i j.
    let m = joined_met cs n a i in
    let b = m.below in
    let e = c.apart m.sender n a (omega arith) (omega arith) m.met j in
    omega (arith, b, e))

joined_length : (cs : ℕ → List Node) (n : ℕ) → length (joined cs n) ≡ sum_by (λ s. length (cs s)) (below n)
joined_length cs zero = refl
joined_length cs (suc n) =
    let a = length-append (joined cs n) (addresses (cs n)) in
    let b : length (addresses (cs n)) ≡ length (cs n) = length-map (cs n) (λ x. x.at) in
    let c = sum_more (λ s. length (cs s)) n in
    let ih = joined_length cs n in
    omega arith

cell_used : (x : Slot) (c : Cell) → cell_in x ≡ Some c → is_used x ≡ true
cell_used Free c e = absurd (let k : ◌≡◌ {A = Option Cell} None (Some c) = e in cc)
cell_used (Used d) c e = refl
cell_used (Sender s d) c e = absurd (let k : ◌≡◌ {A = Option Cell} None (Some c) = e in cc)
cell_used (Client k) c e = absurd (let n : ◌≡◌ {A = Option Cell} None (Some c) = e in cc)

-- a cell of a chain is used
pub met_used : (n : ℕ) (q : Slots) (cs : ℕ → List Node) (a : ℕ) → AreChains n q cs → IsMet n cs a → is_used (q a) ≡ true
met_used n q cs a c m =
    let w = c.whole m.sender m.below in
    let k = linked_in (cells_of q) m.sender 0 (w.directory.received + 1) (cs m.sender) 0 a w.linked m.met in
    cell_used (q a) k.cell k.held

-- where as many cells are used as stand in chains, each used one stands in one
pub all_met : (z : Sizes) (q : Slots) (cs : ℕ → List Node) → AreChains (sender_count z) q cs → ((a : ℕ) → is_used (q a) ≡ true → IsCellAddress z a) → count_used z q ≡ sum_by (λ s. length (cs s)) (below (sender_count z))
    → (a : ℕ) → is_used (q a) ≡ true → IsMet (sender_count z) cs a
all_met z q cs c cells count a used =
    let l = joined cs (sender_count z) in
    let p = places_are_cells z a (cells a used) in
    let k = place_of z a in
    let f : ℕ → ℕ = λ i. mark (cell_at z i) l in
    let g : ℕ → ℕ = λ i. cond (is_used (q (cell_at z i))) 1 0 in
    let met : (b : ℕ) → In b l → IsMet (sender_count z) cs b = joined_met cs (sender_count z) in
    let low : (i : ℕ) → i < cell_count z → f i ≤ g i = (λ i lt. elim (cases_Bool (has_number (cell_at z i) l)) [
      | inl y ↦ let u : is_used (q (cell_at z i)) ≡ true = met_used (sender_count z) q cs (cell_at z i) c (met (cell_at z i) (has_in (cell_at z i) l y)) in rw (y, u) (omega arith)
      | inr n ↦ rw n (omega arith)
    ]) in
    let one : sum_by f (below (cell_count z)) ≡ length l = covers z l (joined_once (sender_count z) q cs c) (λ b i. cells b (met_used (sender_count z) q cs b c (met b i))) in
    let two : count_used z q ≡ sum_by g (below (cell_count z)) = length-filter (λ i. is_used (q (cell_at z i))) (below (cell_count z)) in
    let same : sum_by f (below (cell_count z)) ≡ sum_by g (below (cell_count z)) = let long = joined_length cs (sender_count z) in omega (arith, one, long, count, two) in
    let here : f k ≡ g k = sum_meets f g (cell_count z) low same k p.0 in
    let set : g k ≡ 1 = ◌∙◌ {b = cond (is_used (q a)) 1 0} (ap (λ b. cond (is_used (q b)) 1 0) p.1) (ap (λ b. cond b 1 0) used) in
    let i : In (cell_at z k) l = mark_in (cell_at z k) l (here ∙ set) in
    met a (subst (λ b. In b l) p.1 i)
