-- What is looked for as the least is one.
use Rattle.std.proofs.Common.{◌≡◌, ℕ, ◌≤◌, ◌<◌, List, length, refl, sym, ◌∙◌, ap, subst, true, false, Option, Some, None, inl, inr, arith, true≢false}
use Rattle.std.specs.Prelude.{IfSome, IfNone}
use Rattle.std.proofs.lemmas.Bool.{cases_lt}
use Rattle.rq_model.specs.declared.txn.Txn.{Txn}
use Rattle.rq_model.specs.Vocabulary.{is_some}
use Rattle.rq_page.specs.Sizes.{Sizes, IsCellAddress, place_of}
use Rattle.rq_page.specs.Slots.Slot.{Free}
use Rattle.rq_views.specs.Log.{Slots}
use Rattle.rq_views.specs.Stored.{is_used, slots_in}
use Rattle.rq_groups.specs.declared.Held.{Held}
use Rattle.rq_groups.specs.Ends.{HeldEnds, is_free_for, is_held}
use Rattle.rq_groups.specs.Waiting.{waits}
use Rattle.rq_engine.proofs.Free.{IsFree}

-- ---- senders

abbrev NoNext : List ℕ → List Held → ℕ → Type 0
NoNext ws hs from = (t : ℕ) → from ≤ t → is_held t hs ≡ false → waits ws t ≡ 0

next_one : (ws : List ℕ) (hs : List Held) (from : ℕ) (p q : Option ℕ) → IfSome p (IsFree ws hs from) → IfNone p (NoNext ws hs from) → IfSome q (IsFree ws hs from) → IfNone q (NoNext ws hs from) → p ≡ q
next_one ws hs from None None f n g m = refl
next_one ws hs from None (Some b) f n g m = absurd (let z = n b g.0 g.3 in let o = g.2 in omega (arith, z, o))
next_one ws hs from (Some a) None f n g m = absurd (let z = m a f.0 f.3 in let o = f.2 in omega (arith, z, o))
next_one ws hs from (Some a) (Some b) f n g m = elim (cases_lt a b) [
  | inl lt ↦ absurd (let z = g.4 a f.0 lt f.3 in let o = f.2 in omega (arith, z, o))
  | inr ge ↦
      elim (cases_lt b a) [
        | inl lt ↦ absurd (let z = f.4 b g.0 lt g.3 in let o = g.2 in omega (arith, z, o))
        | inr le ↦ (let e : a ≡ b = omega (arith, ge, le) in ap Some e)
      ]
]

-- the next sender that is free is one
pub next_same : (ws vs : List ℕ) (h g : HeldEnds) (from : ℕ) (p q : Option ℕ) → ws ≡ vs → h ≡ g
    → IfSome p (IsFree ws h.receiving from) → IfNone p (NoNext ws h.receiving from) → IfSome q (IsFree vs g.receiving from) → IfNone q (NoNext vs g.receiving from) → p ≡ q
next_same ws vs h g from p q is are f n k m =
    next_one ws h.receiving from p q f n
    (subst (λ (v : List ℕ). IfSome q (IsFree v h.receiving from)) (sym is) (subst (λ (e : HeldEnds). IfSome q (IsFree vs e.receiving from)) (sym are) k))
    (subst (λ (v : List ℕ). IfNone q (NoNext v h.receiving from)) (sym is) (subst (λ (e : HeldEnds). IfNone q (NoNext vs e.receiving from)) (sym are) m))

abbrev Gives : List ℕ → List Held → Txn → ℕ → Type 0
Gives ws hs t s = (s < length ws) × (1 ≤ waits ws s) × (is_free_for t s hs ≡ true)

abbrev NoneGives : List ℕ → List Held → Txn → Type 0
NoneGives ws hs t = (s : ℕ) → s < length ws → is_free_for t s hs ≡ true → waits ws s ≡ 0

some_one : (ws : List ℕ) (hs : List Held) (t : Txn) (p q : Option ℕ) → IfSome p (Gives ws hs t) → IfNone p (NoneGives ws hs t) → IfSome q (Gives ws hs t) → IfNone q (NoneGives ws hs t) → is_some p ≡ is_some q
some_one ws hs t None None f n g m = refl
some_one ws hs t None (Some b) f n g m = absurd (let z = n b g.0 g.2 in let o = g.1 in omega (arith, z, o))
some_one ws hs t (Some a) None f n g m = absurd (let z = m a f.0 f.2 in let o = f.1 in omega (arith, z, o))
some_one ws hs t (Some a) (Some b) f n g m = refl

-- some group gives the transaction a message, or none does
pub some_same : (ws vs : List ℕ) (h g : HeldEnds) (t : Txn) (p q : Option ℕ) → ws ≡ vs → h ≡ g
    → IfSome p (Gives ws h.receiving t) → IfNone p (NoneGives ws h.receiving t) → IfSome q (Gives vs g.receiving t) → IfNone q (NoneGives vs g.receiving t) → is_some p ≡ is_some q
some_same ws vs h g t p q is are f n k m =
    some_one ws h.receiving t p q f n
    (subst (λ (v : List ℕ). IfSome q (Gives v h.receiving t)) (sym is) (subst (λ (e : HeldEnds). IfSome q (Gives vs e.receiving t)) (sym are) k))
    (subst (λ (v : List ℕ). IfNone q (NoneGives v h.receiving t)) (sym is) (subst (λ (e : HeldEnds). IfNone q (NoneGives vs e.receiving t)) (sym are) m))

-- ---- cells

abbrev AllUsed : Sizes → Slots → ℕ → Type 0
AllUsed z q from = (b : ℕ) → IsCellAddress z b → from ≤ place_of z b → is_used (q b) ≡ true

abbrev Before : Sizes → Slots → ℕ → ℕ → Type 0
Before z q from a = (b : ℕ) → IsCellAddress z b → from ≤ place_of z b → b < a → is_used (q b) ≡ true

free_not_used : (z : Sizes) (q : Slots) (a : ℕ) → q a ≡ Free → is_used (q a) ≡ true → ⊥
free_not_used z q a f u = true≢false (sym u ∙ ap is_used f)

cell_one : (z : Sizes) (q : Slots) (from : ℕ) (p r : Option ℕ)
    → IfSome p (IsCellAddress z) → IfSome p (λ a. q a ≡ Free) → IfSome p (λ a. from ≤ place_of z a) → IfSome p (Before z q from) → IfNone p (AllUsed z q from)
    → IfSome r (IsCellAddress z) → IfSome r (λ a. q a ≡ Free) → IfSome r (λ a. from ≤ place_of z a) → IfSome r (Before z q from) → IfNone r (AllUsed z q from) → p ≡ r
cell_one z q from None None c f l b n cc2 ff ll bb nn = refl
cell_one z q from None (Some y) c f l b n cy fy ly by ny = absurd (free_not_used z q y fy (n y cy ly))
cell_one z q from (Some x) None c f l b n cy fy ly by ny = absurd (free_not_used z q x f (ny x c l))
cell_one z q from (Some x) (Some y) c f l b n cy fy ly by ny = elim (cases_lt x y) [
  | inl lt ↦ absurd (free_not_used z q x f (by x c l lt))
  | inr ge ↦
      elim (cases_lt y x) [
        | inl lt ↦ absurd (free_not_used z q y fy (b y cy ly lt))
        | inr le ↦ (let e : x ≡ y = omega (arith, ge, le) in ap Some e)
      ]
]

-- the next free cell is one
pub cell_same : (z y : Sizes) (images others : List (List ℕ)) (from : ℕ) (p r : Option ℕ) → z ≡ y → images ≡ others
    → IfSome p (IsCellAddress z) → IfSome p (λ a. slots_in z images a ≡ Free) → IfSome p (λ a. from ≤ place_of z a) → IfSome p (Before z (slots_in z images) from) → IfNone p (AllUsed z (slots_in z images) from)
    → IfSome r (IsCellAddress y) → IfSome r (λ a. slots_in y others a ≡ Free) → IfSome r (λ a. from ≤ place_of y a) → IfSome r (Before y (slots_in y others) from) → IfNone r (AllUsed y (slots_in y others) from) → p ≡ r
cell_same z y images others from p r is are c f l b n =
    subst
    (λ (v : Sizes). IfSome r (IsCellAddress v) → IfSome r (λ a. slots_in v others a ≡ Free) → IfSome r (λ a. from ≤ place_of v a) → IfSome r (Before v (slots_in v others) from) → IfNone r (AllUsed v (slots_in v others) from) → p ≡ r)
    is
    (subst
    (λ (w : List (List ℕ)). IfSome r (IsCellAddress z) → IfSome r (λ a. slots_in z w a ≡ Free) → IfSome r (λ a. from ≤ place_of z a) → IfSome r (Before z (slots_in z w) from) → IfNone r (AllUsed z (slots_in z w) from) → p ≡ r)
    are
    (cell_one z (slots_in z images) from p r c f l b n))
