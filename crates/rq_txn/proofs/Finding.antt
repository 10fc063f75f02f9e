-- Rows: what is found of a transaction, after a change, without one, and from either side.
use Rattle.std.proofs.Common.{◌≡◌, ℕ, Bool, true, false, cond, not, List, [], ◌∷◌, ◌++◌, reverse, map, Some, None, refl, sym, ◌∙◌, ap, subst, inl, inr, ◌||◌}
use Rattle.std.specs.Option.{option_map}
use Rattle.std.specs.List.{filter}
use Rattle.std.proofs.lemmas.List.{reverse-append, map-append, append-nil}
use Rattle.std.proofs.lemmas.List.Elements.{filter-append}
use Rattle.std.proofs.lemmas.Bool.{cases_Bool}
use Rattle.std.proofs.Math.Bool.{or_assoc, or-false, or_comm}
use Rattle.rq_model.specs.declared.txn.Txn.{Txn}
use Rattle.rq_model.specs.Vocabulary.{same_txn, is_some, In}
use Rattle.rq_model.proofs.Lists.{same_is, same_self, not_same}
use Rattle.rq_txn.specs.Rows.{Row, found_row, change_row, change_row_one, without_row, AreDistinct, any_under, latched_in, latched_under}

-- a change that leaves the numbers of transactions as they are
abbrev pub KeepsTxn : (Row → Row) → Type 0
KeepsTxn f = (r : Row) → (f r).txn ≡ r.txn

pub same_swap : (a b : Txn) → same_txn a b ≡ false → same_txn b a ≡ false
same_swap a b h = elim (cases_Bool (same_txn b a)) [ inl t ↦ absurd (not_same a b h (sym (same_is b a t))) | inr f ↦ f ]

pub same_of : (a b : Txn) → a ≡ b → same_txn a b ≡ true
same_of a b e = ap (λ u. same_txn u b) e ∙ same_self b

-- ---- one row

pub found_first : (t : Txn) (r : Row) (rows : List Row) → same_txn r.txn t ≡ true → found_row t (r ∷ rows) ≡ Some r
found_first t r rows e = rw e refl

pub found_later : (t : Txn) (r : Row) (rows : List Row) → same_txn r.txn t ≡ false → found_row t (r ∷ rows) ≡ found_row t rows
found_later t r rows e = rw e refl

pub change_first : (t : Txn) (f : Row → Row) (r : Row) (rows : List Row) → same_txn r.txn t ≡ true → change_row t f (r ∷ rows) ≡ f r ∷ change_row t f rows
change_first t f r rows e = rw e refl

pub change_later : (t : Txn) (f : Row → Row) (r : Row) (rows : List Row) → same_txn r.txn t ≡ false → change_row t f (r ∷ rows) ≡ r ∷ change_row t f rows
change_later t f r rows e = rw e refl

pub without_first : (t : Txn) (r : Row) (rows : List Row) → same_txn r.txn t ≡ true → without_row t (r ∷ rows) ≡ without_row t rows
without_first t r rows e = rw e refl

pub without_later : (t : Txn) (r : Row) (rows : List Row) → same_txn r.txn t ≡ false → without_row t (r ∷ rows) ≡ r ∷ without_row t rows
without_later t r rows e = rw e refl

none_parts : (t : Txn) (r : Row) (rows : List Row) → found_row t (r ∷ rows) ≡ None → (same_txn r.txn t ≡ false) × (found_row t rows ≡ None)
none_parts t r rows h =
    elim (cases_Bool (same_txn r.txn t)) [
      | inl e ↦ let g : Some r ≡ None = sym (found_first t r rows e) ∙ h in absurd (cc)
      | inr e ↦ (e, sym (found_later t r rows e) ∙ h)
    ]

-- ---- from either side

none_last : (t : Txn) (rows : List Row) (r : Row) → found_row t rows ≡ None → same_txn r.txn t ≡ false → found_row t (rows ++ r ∷ []) ≡ None
none_last t [] r h g = found_later t r [] g
none_last t (x ∷ rows) r h g = let p = none_parts t x rows h in found_later t x (rows ++ r ∷ []) p.0 ∙ none_last t rows r p.1 g

none_reverse : (t : Txn) (rows : List Row) → found_row t rows ≡ None → found_row t (reverse rows) ≡ None
none_reverse t [] h = refl
none_reverse t (x ∷ rows) h =
    let p = none_parts t x rows h in
    ap (found_row t) (reverse-append (x ∷ []) rows) ∙ none_last t (reverse rows) x (none_reverse t rows p.1) p.0

pub distinct_last : (rows : List Row) (r : Row) → AreDistinct rows → found_row r.txn rows ≡ None → AreDistinct (rows ++ r ∷ [])
distinct_last [] r d n = (refl, tt)
distinct_last (x ∷ rows) r d n =
    let p = none_parts r.txn x rows n in
    (none_last x.txn rows r d.0 (same_swap x.txn r.txn p.0), distinct_last rows r d.1 p.1)

pub distinct_reverse : (rows : List Row) → AreDistinct rows → AreDistinct (reverse rows)
distinct_reverse [] d = tt
distinct_reverse (x ∷ rows) d =
    let P : List Row → Type 0 = AreDistinct in
    subst P (sym (reverse-append (x ∷ []) rows)) (distinct_last (reverse rows) x (distinct_reverse rows d.1) (none_reverse x.txn rows d.0))

found_past : (t : Txn) (rows : List Row) (r : Row) → same_txn r.txn t ≡ false → found_row t (rows ++ r ∷ []) ≡ found_row t rows
found_past t [] r g = found_later t r [] g
found_past t (x ∷ rows) r g = ap (cond (same_txn x.txn t) (Some x)) (found_past t rows r g)

found_new : (t : Txn) (rows : List Row) (r : Row) → found_row t rows ≡ None → same_txn r.txn t ≡ true → found_row t (rows ++ r ∷ []) ≡ Some r
found_new t [] r h g = found_first t r [] g
found_new t (x ∷ rows) r h g = let p = none_parts t x rows h in found_later t x (rows ++ r ∷ []) p.0 ∙ found_new t rows r p.1 g

-- where no transaction has two rows, the same row is found from either side
pub found_reverse : (t : Txn) (rows : List Row) → AreDistinct rows → found_row t (reverse rows) ≡ found_row t rows
found_reverse t [] d = refl
found_reverse t (x ∷ rows) d =
    elim (cases_Bool (same_txn x.txn t)) [
      | inl e ↦
          let n : found_row t rows ≡ None = ap (λ u. found_row u rows) (sym (same_is x.txn t e)) ∙ d.0 in
          ap (found_row t) (reverse-append (x ∷ []) rows) ∙ found_new t (reverse rows) x (none_reverse t rows n) e ∙ sym (found_first t x rows e)
      | inr e ↦ ap (found_row t) (reverse-append (x ∷ []) rows) ∙ found_past t (reverse rows) x e ∙ found_reverse t rows d.1 ∙ sym (found_later t x rows e)
    ]

map_reverse : {X Y : Type 0} (f : X → Y) (xs : List X) → map f (reverse xs) ≡ reverse (map f xs)
map_reverse f [] = refl
map_reverse f (x ∷ xs) =
    ap (map f) (reverse-append (x ∷ []) xs) ∙ map-append f (reverse xs) (x ∷ []) ∙ ap (λ l. l ++ f x ∷ []) (map_reverse f xs) ∙ sym (reverse-append (f x ∷ []) (map f xs))

pub change_reverse : (t : Txn) (f : Row → Row) (rows : List Row) → change_row t f (reverse rows) ≡ reverse (change_row t f rows)
change_reverse t f rows = map_reverse (change_row_one t f) rows

filter_last : {X : Type 0} (b : Bool) (x : X) (ys : List X) → reverse ys ++ cond b (x ∷ []) [] ≡ reverse (cond b (x ∷ ys) ys)
filter_last true x ys = sym (reverse-append (x ∷ []) ys)
filter_last false x ys = append-nil (reverse ys)

filter_reverse : {X : Type 0} (p : X → Bool) (xs : List X) → filter p (reverse xs) ≡ reverse (filter p xs)
filter_reverse p [] = refl
filter_reverse p (x ∷ xs) =
    ap (filter p) (reverse-append (x ∷ []) xs) ∙ filter-append p (reverse xs) (x ∷ []) ∙ ap (λ l. l ++ filter p (x ∷ [])) (filter_reverse p xs) ∙ filter_last (p x) x (filter p xs)

pub without_reverse : (t : Txn) (rows : List Row) → without_row t (reverse rows) ≡ reverse (without_row t rows)
without_reverse t rows = filter_reverse (λ (r : Row). not (same_txn r.txn t)) rows

or_last : (a b : Bool) → (a || (b || false)) ≡ (b || a)
or_last a b = ap (λ x. a || x) (or-false b) ∙ or_comm a b

any_append : (rows more : List Row) → any_under (rows ++ more) ≡ (any_under rows || any_under more)
any_append [] more = refl
any_append (x ∷ rows) more = ap (λ b. is_some x.under || b) (any_append rows more) ∙ sym (or_assoc (is_some x.under) (any_under rows) (any_under more))

pub any_reverse : (rows : List Row) → any_under (reverse rows) ≡ any_under rows
any_reverse [] = refl
any_reverse (x ∷ rows) =
    ap any_under (reverse-append (x ∷ []) rows) ∙ any_append (reverse rows) (x ∷ []) ∙ ap (λ b. b || any_under (x ∷ [])) (any_reverse rows) ∙ or_last (any_under rows) (is_some x.under)

latched_append : (p : ℕ) (rows more : List Row) → latched_in (rows ++ more) p ≡ (latched_in rows p || latched_in more p)
latched_append p [] more = refl
latched_append p (x ∷ rows) more = ap (λ b. latched_under x.under p || b) (latched_append p rows more) ∙ sym (or_assoc (latched_under x.under p) (latched_in rows p) (latched_in more p))

pub latched_reverse : (p : ℕ) (rows : List Row) → latched_in (reverse rows) p ≡ latched_in rows p
latched_reverse p [] = refl
latched_reverse p (x ∷ rows) =
    ap (λ l. latched_in l p) (reverse-append (x ∷ []) rows) ∙ latched_append p (reverse rows) (x ∷ []) ∙ ap (λ b. b || latched_in (x ∷ []) p) (latched_reverse p rows) ∙ or_last (latched_in rows p) (latched_under x.under p)

-- ---- after a change

-- a change of a transaction that has no row
pub change_none : (t : Txn) (f : Row → Row) (rows : List Row) → found_row t rows ≡ None → change_row t f rows ≡ rows
change_none t f [] h = refl
change_none t f (x ∷ rows) h = let p = none_parts t x rows h in change_later t f x rows p.0 ∙ ap (λ l. x ∷ l) (change_none t f rows p.1)

pub change_same : (t : Txn) (rows : List Row) → change_row t (λ r. r) rows ≡ rows
change_same t [] = refl
change_same t (x ∷ rows) =
    elim (cases_Bool (same_txn x.txn t)) [
      | inl e ↦ change_first t (λ r. r) x rows e ∙ ap (λ l. x ∷ l) (change_same t rows)
      | inr e ↦ change_later t (λ r. r) x rows e ∙ ap (λ l. x ∷ l) (change_same t rows)
    ]

pub found_change_same : (t : Txn) (f : Row → Row) (rows : List Row) → KeepsTxn f → found_row t (change_row t f rows) ≡ option_map f (found_row t rows)
found_change_same t f [] k = refl
found_change_same t f (x ∷ rows) k =
    elim (cases_Bool (same_txn x.txn t)) [
      | inl e ↦ ap (found_row t) (change_first t f x rows e) ∙ found_first t (f x) (change_row t f rows) (ap (λ u. same_txn u t) (k x) ∙ e) ∙ ap (option_map f) (sym (found_first t x rows e))
      | inr e ↦ ap (found_row t) (change_later t f x rows e) ∙ found_later t x (change_row t f rows) e ∙ found_change_same t f rows k ∙ ap (option_map f) (sym (found_later t x rows e))
    ]

-- ---- without one

-- ---- by place

-- ---- what stands among the rows

none_in : (t : Txn) (rows : List Row) (r : Row) → found_row t rows ≡ None → In r rows → same_txn r.txn t ≡ false
none_in t [] r h i = absurd i
none_in t (x ∷ rows) r h i =
    let p = none_parts t x rows h in
    elim i [ inl e ↦ ap (λ (z : Row). same_txn z.txn t) e ∙ p.0 | inr j ↦ none_in t rows r p.1 j ]

-- where no transaction has two rows, each row is the one that is found of its transaction
pub in_found : (rows : List Row) (r : Row) → AreDistinct rows → In r rows → found_row r.txn rows ≡ Some r
in_found [] r d i = absurd i
in_found (x ∷ rows) r d i =
    elim i [
      | inl e ↦ found_first r.txn x rows (same_of x.txn r.txn (ap (λ (z : Row). z.txn) (sym e))) ∙ ap (λ z. Some z) (sym e)
      | inr j ↦ found_later r.txn x rows (same_swap r.txn x.txn (none_in x.txn rows r d.0 j)) ∙ in_found rows r d.1 j
    ]

-- ---- with one that begins

-- ---- the changes keep the numbers of transactions
