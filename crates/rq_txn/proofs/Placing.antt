-- Rows in the slots of a table: what is found, and what a change of one of them leaves.
use Rattle.std.proofs.Common.{◌≡◌, ◌≢◌, ◌⊎◌, ℕ, ◌-◌, zero, suc, ◌+◌, ◌<◌, ◌≤◌, Bool, true, false, cond, ◌||◌, ◌^◌, ltb, List, [], ◌∷◌, ◌++◌, length, take, drop, Option, Some, None, Result, Ok, Err, get_or, reverse, refl, sym, ◌∙◌, ap, subst, inl, inr, arith}
use Rattle.std.proofs.lemmas.List.{map-append, length_push, length-map, get_or_default, reverse-append, length-reverse}
use Rattle.std.proofs.lemmas.List.Sums.{sum_by-set}
use Rattle.std.specs.List.Sorted.{IsNonDecreasingBy}
use Rattle.std.specs.Prelude.{OnOk, OnErr}
use Rattle.std.specs.Option.{IsSome, is_some as slot_is_some}
use Rattle.std.proofs.lemmas.List.Edits.{length-remove}
use Rattle.std.proofs.lemmas.Bool.Decides.{nat_tests}
use Rattle.std.proofs.lemmas.Bool.{cases_Bool, cases_eq, cases_lt}
use Rattle.std.proofs.lemmas.Option.{same_Some}
use Rattle.slab.specs.Slab.{Slab, get, slab_len, Updates, with_value, ContainsKey}
use Rattle.slab.proofs.SlabLemmas.{ContainsKey-within, Updates-with_value}
use Rattle.rq_model.specs.declared.txn.Txn.{Txn}
use Rattle.rq_model.specs.Vocabulary.{In, same_txn, is_some}
use Rattle.rq_model.proofs.Lists.{same_is, In-to, In-reverse}
use Rattle.rq_txn.specs.declared.Transaction.{Transaction}
use Rattle.rq_txn.specs.declared.table.Place.{Place}
use Rattle.rq_txn.specs.Rows.{Row, Under, row_of, fresh_row, found_row, change_row, without_row, row_started, under_stepped, any_under, latched_in, latched_under, AreDistinct}
use Rattle.rq_txn.specs.Places.{row_or, row_at, rows_in, Stands, IsRising, under_one, latched_one, row_sum, IsTallyOf, IsTable, IsAt, IsKeptBy, KeyOf, PlaceOf}
use Rattle.rq_txn.specs.declared.tally.Tally.{Tally}
use Rattle.rq_txn.specs.Tallies.{one_if, latches_at, HasRoom, IsCounted, Latches, Moves}
use Rattle.rq_txn.proofs.Tallying.{kept_moved, none_changed}
use Rattle.rq_txn.proofs.Finding.{change_same, found_first, found_later, change_first, change_later, without_first, without_later, change_none, change_reverse, without_reverse, any_reverse, latched_reverse, found_reverse, distinct_reverse, in_found, same_of}

pub at_row : (s : Slab Transaction) (p : Place) (t : Transaction) → get s p.key ≡ Some t → row_at s p ≡ row_of t
at_row s p t e = ap (row_or (fresh_row (record { incarnation = 0; count = p.count }))) e

row_same : (s new : Slab Transaction) (p : Place) → get new p.key ≡ get s p.key → row_at new p ≡ row_at s p
row_same s new p e = ap (row_or (fresh_row (record { incarnation = 0; count = p.count }))) e

-- the slot of a place is of the place's count
stands_count : (s : Slab Transaction) (p : Place) (t : Transaction) → Stands s p → get s p.key ≡ Some t → t.txn.count ≡ p.count
stands_count s p t h e =
    let same : t ≡ h.0 = same_Some t h.0 (sym e ∙ h.1) in
    ap (λ (u : Transaction). u.txn.count) same ∙ h.2

row_count : (s : Slab Transaction) (p : Place) → Stands s p → (row_at s p).txn.count ≡ p.count
row_count s p h = ap (λ (r : Row). r.txn.count) (at_row s p h.0 h.1) ∙ h.2

-- no two places are of one count
pub one_place : (places : List Place) (p x : Place) → IsRising places → In p places → In x places → x.count ≡ p.count → x ≡ p
one_place [] p x r i j e = absurd i
one_place (y ∷ places) p x r i j e =
    elim i [
      | inl pe ↦ elim j [
        | inl xe ↦ xe ∙ sym pe
        | inr xj ↦ let above = r.0 x xj in let here = ap (λ (z : Place). z.count) pe in absurd (omega arith)
      ]
      | inr pi ↦ elim j [
        | inl xe ↦ let above = r.0 p pi in let here = ap (λ (z : Place). z.count) xe in absurd (omega arith)
        | inr xj ↦ one_place places p x r.1 pi xj e
      ]
    ]

not_txn : (a b : Txn) → a.count ≢ b.count → same_txn a b ≡ false
not_txn a b n = elim (cases_Bool (same_txn a b)) [ inl e ↦ absurd (n (ap (λ (t : Txn). t.count) (same_is a b e))) | inr e ↦ e ]

-- each place is the transaction's, or has another slot and another transaction
abbrev pub IsOther : Slab Transaction → Txn → Place → Place → Type 0
IsOther s txn p x = (x.key ≢ p.key) × (same_txn (row_at s x).txn txn ≡ false)

pub place_cases : (s : Slab Transaction) (places : List Place) (txn : Txn) (p : Place) → ((x : Place) → In x places → Stands s x) → IsRising places → IsAt s places txn p → (x : Place) → In x places → (x ≡ p) ⊎ IsOther s txn p x
place_cases s places txn p stands rising at x i =
    let t = at.1.0 in
    let count : txn.count ≡ p.count = ap (λ (u : Txn). u.count) (sym at.1.2) ∙ stands_count s p t (stands p at.0) at.1.1 in
    elim (cases_eq x.count p.count) [
      | inl same ↦ inl (one_place places p x rising at.0 i same)
      | inr other ↦
          let key : x.key ≢ p.key =
          λ e.
          let here : get s x.key ≡ Some t = ap (get s) e ∙ at.1.1 in
          let own = stands_count s x t (stands x i) here in
          let mine = stands_count s p t (stands p at.0) at.1.1 in
          other (sym own ∙ mine)
          in
          let row = row_count s x (stands x i) in
          inr (key, not_txn (row_at s x).txn txn (λ e. other (sym row ∙ e ∙ count)))
    ]

-- ---- what is found

none_of_count : (s : Slab Transaction) (places : List Place) (txn : Txn) → ((x : Place) → In x places → Stands s x) → ((x : Place) → In x places → x.count ≢ txn.count) → found_row txn (rows_in s places) ≡ None
none_of_count s [] txn stands other = refl
none_of_count s (x ∷ places) txn stands other =
    let row = row_count s x (stands x (inl refl)) in
    found_later txn (row_at s x) (rows_in s places) (not_txn (row_at s x).txn txn (λ e. other x (inl refl) (sym row ∙ e)))
    ∙ none_of_count s places txn (λ y i. stands y (inr i)) (λ y i. other y (inr i))

pub rows_distinct : (s : Slab Transaction) (places : List Place) → ((x : Place) → In x places → Stands s x) → IsRising places → AreDistinct (rows_in s places)
rows_distinct s [] stands rising = tt
rows_distinct s (x ∷ places) stands rising =
    let row = row_count s x (stands x (inl refl)) in
    (none_of_count s places (row_at s x).txn (λ y i. stands y (inr i)) (λ y i e. let above = rising.0 y i in absurd (omega arith)), rows_distinct s places (λ y i. stands y (inr i)) rising.1)

pub found_at : (s : Slab Transaction) (places : List Place) (txn : Txn) (p : Place) (t : Transaction) → ((x : Place) → In x places → Stands s x) → IsRising places → In p places → get s p.key ≡ Some t → t.txn ≡ txn → found_row txn (rows_in s places) ≡ Some (row_of t)
found_at s places txn p t stands rising i e same =
    let row = at_row s p t e in
    let found = in_found (rows_in s places) (row_at s p) (rows_distinct s places stands rising) (In-to (row_at s) places p i) in
    let number : (row_at s p).txn ≡ txn = ap (λ (r : Row). r.txn) row ∙ same in
    ap (λ u. found_row u (rows_in s places)) (sym number) ∙ found ∙ ap (λ (r : Row). Some r) row

none_but_one : (s : Slab Transaction) (places : List Place) (txn : Txn) → ((x : Place) → In x places → same_txn (row_at s x).txn txn ≡ false) → found_row txn (rows_in s places) ≡ None
none_but_one s [] txn other = refl
none_but_one s (x ∷ places) txn other = found_later txn (row_at s x) (rows_in s places) (other x (inl refl)) ∙ none_but_one s places txn (λ y i. other y (inr i))

-- where no place is of the count there is no row
pub absent_count : (s : Slab Transaction) (places : List Place) (txn : Txn) → IsTable s places → ((x : Place) → In x places → x.count ≢ txn.count) → found_row txn (rows_in s places) ≡ None
absent_count s places txn h other = none_of_count s places txn h.stands other

-- where the place of the count is of another transaction there is no row
pub absent_txn : (s : Slab Transaction) (places : List Place) (txn : Txn) (p : Place) (t : Transaction) → IsTable s places → In p places → get s p.key ≡ Some t → same_txn t.txn txn ≡ false → p.count ≡ txn.count → found_row txn (rows_in s places) ≡ None
absent_txn s places txn p t h i e other count =
    none_but_one s places txn (λ x j. elim (cases_eq x.count p.count) [
      | inl same ↦ ap (λ y. same_txn (row_at s y).txn txn) (one_place places p x h.rising i j same) ∙ ap (λ (r : Row). same_txn r.txn txn) (at_row s p t e) ∙ other
      | inr differs ↦ let row = row_count s x (h.stands x j) in not_txn (row_at s x).txn txn (λ f. differs (sym row ∙ f ∙ sym count))
    ])

-- ---- one of them is changed

rows_change : (s new : Slab Transaction) (txn : Txn) (f : Row → Row) (p : Place) (t r : Transaction) (ys : List Place) → ((x : Place) → In x ys → (x ≡ p) ⊎ IsOther s txn p x) → get s p.key ≡ Some t → t.txn ≡ txn → Updates s new p.key (Some r) → row_of r ≡ f (row_of t) → rows_in new ys ≡ change_row txn f (rows_in s ys)
rows_change s new txn f p t r [] each e same u g = refl
rows_change s new txn f p t r (x ∷ ys) each e same u g =
    let rest = rows_change s new txn f p t r ys (λ y i. each y (inr i)) e same u g in
    elim (each x (inl refl)) [
      | inl here ↦
          let old : row_at s x ≡ row_of t = ap (row_at s) here ∙ at_row s p t e in
          let now : row_at new x ≡ f (row_at s x) = ap (row_at new) here ∙ at_row new p r u.changed ∙ g ∙ ap f (sym old) in
          let mine : same_txn (row_at s x).txn txn ≡ true = ap (λ (q : Row). same_txn q.txn txn) old ∙ same_of t.txn txn same in
          ap (λ q. q ∷ rows_in new ys) now ∙ ap (λ l. f (row_at s x) ∷ l) rest ∙ sym (change_first txn f (row_at s x) (rows_in s ys) mine)
      | inr h ↦
          let now : row_at new x ≡ row_at s x = row_same s new x (u.others x.key h.0) in
          ap (λ q. q ∷ rows_in new ys) now ∙ ap (λ l. row_at s x ∷ l) rest ∙ sym (change_later txn f (row_at s x) (rows_in s ys) h.1)
    ]

pub rows_changed : (s new : Slab Transaction) (places : List Place) (txn : Txn) (f : Row → Row) (p : Place) (t r : Transaction) → IsTable s places → In p places → get s p.key ≡ Some t → t.txn ≡ txn → Updates s new p.key (Some r) → row_of r ≡ f (row_of t) → rows_in new places ≡ change_row txn f (rows_in s places)
rows_changed s new places txn f p t r h i e same u g =
    rows_change s new txn f p t r places (place_cases s places txn p h.stands h.rising (i, (t, e, same))) e same u g

pub stands_changed : (s new : Slab Transaction) (places : List Place) (p : Place) (t r : Transaction) → IsTable s places → In p places → get s p.key ≡ Some t → Updates s new p.key (Some r) → r.txn ≡ t.txn → (x : Place) → In x places → Stands new x
stands_changed s new places p t r h i e u same x j =
    elim (cases_eq x.key p.key) [
      | inl key ↦
          let here : get new x.key ≡ Some r = ap (get new) key ∙ u.changed in
          let old : get s x.key ≡ Some t = ap (get s) key ∙ e in
          (r, here, ap (λ (a : Txn). a.count) same ∙ stands_count s x t (h.stands x j) old)
      | inr other ↦ let own = h.stands x j in (own.0, u.others x.key other ∙ own.1, own.2)
    ]

-- ---- sums over them

pub sum_change : (one : Row → ℕ) (txn : Txn) (f : Row → Row) (rows : List Row) (r : Row) → AreDistinct rows → found_row txn rows ≡ Some r → row_sum one (change_row txn f rows) + one r ≡ row_sum one rows + one (f r)
sum_change one txn f [] r d e = cc
sum_change one txn f (x ∷ rows) r d e =
    elim (cases_Bool (same_txn x.txn txn)) [
      | inl same ↦
          let here : x ≡ r = same_Some x r (sym (found_first txn x rows same) ∙ e) in
          let none : found_row txn rows ≡ None = ap (λ u. found_row u rows) (sym (same_is x.txn txn same)) ∙ d.0 in
          let now : row_sum one (change_row txn f (x ∷ rows)) ≡ one (f x) + row_sum one rows = ap (row_sum one) (change_first txn f x rows same) ∙ ap (λ l. one (f x) + row_sum one l) (change_none txn f rows none) in
          let a : one (f x) ≡ one (f r) = ap (λ q. one (f q)) here in
          let b : one x ≡ one r = ap one here in
          omega (arith, now, a, b)
      | inr other ↦
          let rest = sum_change one txn f rows r d.1 (sym (found_later txn x rows other) ∙ e) in
          let now : row_sum one (change_row txn f (x ∷ rows)) ≡ one x + row_sum one (change_row txn f rows) = ap (row_sum one) (change_later txn f x rows other) in
          omega (arith, now, rest)
    ]

pub without_none : (txn : Txn) (rows : List Row) → found_row txn rows ≡ None → without_row txn rows ≡ rows
without_none txn [] e = refl
without_none txn (x ∷ rows) e =
    elim (cases_Bool (same_txn x.txn txn)) [
      | inl same ↦ let g : Some x ≡ None = sym (found_first txn x rows same) ∙ e in absurd (cc)
      | inr other ↦ without_later txn x rows other ∙ ap (λ l. x ∷ l) (without_none txn rows (sym (found_later txn x rows other) ∙ e))
    ]

pub absent_without : (txn : Txn) (rows : List Row) → found_row txn rows ≡ None → rows ≡ without_row txn rows
absent_without txn rows e = sym (without_none txn rows e)

pub sum_without : (one : Row → ℕ) (txn : Txn) (rows : List Row) (r : Row) → AreDistinct rows → found_row txn rows ≡ Some r → row_sum one (without_row txn rows) + one r ≡ row_sum one rows
sum_without one txn [] r d e = cc
sum_without one txn (x ∷ rows) r d e =
    elim (cases_Bool (same_txn x.txn txn)) [
      | inl same ↦
          let here : x ≡ r = same_Some x r (sym (found_first txn x rows same) ∙ e) in
          let none : found_row txn rows ≡ None = ap (λ u. found_row u rows) (sym (same_is x.txn txn same)) ∙ d.0 in
          let now : row_sum one (without_row txn (x ∷ rows)) ≡ row_sum one rows = ap (row_sum one) (without_first txn x rows same ∙ without_none txn rows none) in
          let b : one x ≡ one r = ap one here in
          omega (arith, now, b)
      | inr other ↦
          let rest = sum_without one txn rows r d.1 (sym (found_later txn x rows other) ∙ e) in
          let now : row_sum one (without_row txn (x ∷ rows)) ≡ one x + row_sum one (without_row txn rows) = ap (row_sum one) (without_later txn x rows other) in
          omega (arith, now, rest)
    ]

pub sum_more : (one : Row → ℕ) (rows : List Row) (r : Row) → row_sum one (rows ++ r ∷ []) ≡ row_sum one rows + one r
sum_more one [] r = omega arith
sum_more one (x ∷ rows) r = omega (arith, sum_more one rows r)

sum_le : (one : Row → ℕ) (rows : List Row) → ((r : Row) → one r ≤ 1) → row_sum one rows ≤ length rows
sum_le one [] most = omega arith
sum_le one (x ∷ rows) most = omega (arith, sum_le one rows most, most x)

one_if_le : (b : Bool) → one_if b ≤ 1
one_if_le true = omega arith
one_if_le false = omega arith

either_counts : (b : Bool) (n : ℕ) → ltb 0 (one_if b + n) ≡ (b || ltb 0 n)
either_counts true n = grind (arith, nat_tests)
either_counts false n = ap (ltb 0) (let z : 0 + n ≡ n = omega arith in z)

-- it is so of some row exactly where the sum is not 0
pub any_sum : (rows : List Row) → ltb 0 (row_sum under_one rows) ≡ any_under rows
any_sum [] = refl
any_sum (x ∷ rows) = either_counts (is_some x.under) (row_sum under_one rows) ∙ ap (λ b. is_some x.under || b) (any_sum rows)

pub latched_sum : (p : ℕ) (rows : List Row) → ltb 0 (row_sum (latched_one p) rows) ≡ latched_in rows p
latched_sum p [] = refl
latched_sum p (x ∷ rows) = either_counts (latched_under x.under p) (row_sum (latched_one p) rows) ∙ ap (λ b. latched_under x.under p || b) (latched_sum p rows)

-- ---- one more

in_push : (places : List Place) (q x : Place) → In x (places ++ q ∷ []) → In x places ⊎ (x ≡ q)
in_push [] q x i = elim i [ inl e ↦ inr e | inr j ↦ absurd j ]
in_push (y ∷ places) q x i =
    elim i [
      | inl e ↦ inl (inl e)
      | inr j ↦ elim (in_push places q x j) [ inl k ↦ inl (inr k) | inr e ↦ inr e ]
    ]

pub rising_more : (places : List Place) (q : Place) → IsRising places → ((x : Place) → In x places → x.count < q.count) → IsRising (places ++ q ∷ [])
rising_more [] q r below = ((λ x i. absurd i), tt)
rising_more (y ∷ places) q r below = (
  λ x i. elim (in_push places q x i) [ inl j ↦ r.0 x j | inr e ↦ let here = below y (inl refl) in let same = ap (λ (z : Place). z.count) e in omega arith ],
  rising_more places q r.1 (λ x i. below x (inr i)),
)

rows_kept : (s new : Slab Transaction) (places : List Place) → ((x : Place) → In x places → get new x.key ≡ get s x.key) → rows_in new places ≡ rows_in s places
rows_kept s new [] same = refl
rows_kept s new (x ∷ places) same =
    ap (λ q. q ∷ rows_in new places) (row_same s new x (same x (inl refl))) ∙ ap (λ l. row_at s x ∷ l) (rows_kept s new places (λ y i. same y (inr i)))

-- a slot that was empty is that of no place
kept_beside : (s new : Slab Transaction) (p : Place) (key : ℕ) (r : Transaction) → Stands s p → get s key ≡ None → Updates s new key (Some r) → get new p.key ≡ get s p.key
kept_beside s new p key r h none u =
    u.others p.key (λ e. let here : Some h.0 ≡ None = sym h.1 ∙ ap (get s) e ∙ none in absurd (cc))

pub rows_begun : (s new : Slab Transaction) (places : List Place) (q : Place) (r : Transaction) → IsTable s places → get s q.key ≡ None → Updates s new q.key (Some r) → rows_in new (places ++ q ∷ []) ≡ rows_in s places ++ row_of r ∷ []
rows_begun s new places q r h none u =
    map-append (row_at new) places (q ∷ []) ∙ ap (λ l. l ++ row_at new q ∷ []) (rows_kept s new places (λ x i. kept_beside s new x q.key r (h.stands x i) none u)) ∙ ap (λ z. rows_in s places ++ z ∷ []) (at_row new q r u.changed)

pub table_begun : (s new : Slab Transaction) (places : List Place) (q : Place) (r : Transaction) → IsTable s places → get s q.key ≡ None → Updates s new q.key (Some r) → slab_len new ≡ slab_len s + 1 → r.txn.count ≡ q.count → ((x : Place) → In x places → x.count < q.count) → IsTable new (places ++ q ∷ [])
table_begun s new places q r h none u len count below = record {
  stands = λ x i. elim (in_push places q x i) [
    | inl j ↦ let own = h.stands x j in (own.0, kept_beside s new x q.key r own none u ∙ own.1, own.2)
    | inr e ↦ (r, ap (λ (z : Place). get new z.key) e ∙ u.changed, count ∙ ap (λ (z : Place). z.count) (sym e))
  ];
  rising = rising_more places q h.rising below;
  held = omega (arith, h.held, len, length_push places q);
}

pub tally_begun : (s new : Slab Transaction) (places : List Place) (n : Tally) (q : Place) (r : Transaction) → IsTable s places → IsTallyOf n (rows_in s places) → get s q.key ≡ None → Updates s new q.key (Some r) → (row_of r).under ≡ None → IsTallyOf n (rows_in new (places ++ q ∷ []))
tally_begun s new places n q r h tally none u idle =
    let rows = rows_begun s new places q r h none u in
    record {
      busy = let c = ap (row_sum under_one) rows in let d = sum_more under_one (rows_in s places) (row_of r) in let e = ap (λ (o : Option Under). one_if (is_some o)) idle in omega (arith, tally.busy, c, d, e);
      latched = λ p. let c = ap (row_sum (latched_one p)) rows in let d = sum_more (latched_one p) (rows_in s places) (row_of r) in let e = ap (λ (o : Option Under). one_if (latched_under o p)) idle in let f = tally.latched p in omega (arith, c, d, e, f);
    }

-- ---- one less

abbrev remove_place : List Place → ℕ → List Place
remove_place places i = take i places ++ drop (suc i) places

pub in_at : (places : List Place) (i : ℕ) (p : Place) → i < length places → ((d : Place) → p ≡ get_or places i d) → In p places
in_at [] i p l e = absurd (omega arith)
in_at (y ∷ places) zero p l e = inl (e y)
in_at (y ∷ places) (suc i) p l e = inr (in_at places i p (omega arith) e)

in_removed : (places : List Place) (i : ℕ) (p x : Place) → IsRising places → i < length places → ((d : Place) → p ≡ get_or places i d) → In x (remove_place places i) → In x places × (x.count ≢ p.count)
in_removed [] i p x r l e j = absurd (omega arith)
in_removed (y ∷ places) zero p x r l e j =
    (inr j, λ c. let above = r.0 x j in let here = ap (λ (z : Place). z.count) (e y) in absurd (omega arith))
in_removed (y ∷ places) (suc i) p x r l e j =
    elim j [
      | inl xe ↦
          let above = r.0 p (in_at places i p (omega arith) e) in
          let here = ap (λ (z : Place). z.count) xe in
          (inl xe, λ c. absurd (omega arith))
      | inr k ↦ let rest = in_removed places i p x r.1 (omega arith) e k in (inr rest.0, rest.1)
    ]

rising_removed : (places : List Place) (i : ℕ) (p : Place) → IsRising places → i < length places → ((d : Place) → p ≡ get_or places i d) → IsRising (remove_place places i)
rising_removed [] i p r l e = absurd (omega arith)
rising_removed (y ∷ places) zero p r l e = r.1
rising_removed (y ∷ places) (suc i) p r l e =
    (λ x j. r.0 x (in_removed places i p x r.1 (omega arith) e j).0, rising_removed places i p r.1 (omega arith) e)

rows_beside : (s new : Slab Transaction) (txn : Txn) (p : Place) (places : List Place) → ((x : Place) → In x places → IsOther s txn p x) → Updates s new p.key None → rows_in new places ≡ without_row txn (rows_in s places)
rows_beside s new txn p [] other u = refl
rows_beside s new txn p (x ∷ places) other u =
    let h = other x (inl refl) in
    ap (λ q. q ∷ rows_in new places) (row_same s new x (u.others x.key h.0)) ∙ ap (λ l. row_at s x ∷ l) (rows_beside s new txn p places (λ y i. other y (inr i)) u)
    ∙ sym (without_later txn (row_at s x) (rows_in s places) h.1)

other_place : (s : Slab Transaction) (txn : Txn) (p x : Place) → x.count ≢ p.count → (x ≡ p) ⊎ IsOther s txn p x → IsOther s txn p x
other_place s txn p x n c = elim c [ inl e ↦ absurd (n (ap (λ (z : Place). z.count) e)) | inr h ↦ h ]

rows_left : (s new : Slab Transaction) (txn : Txn) (p : Place) (t : Transaction) (places : List Place) (i : ℕ) → ((x : Place) → In x places → (x ≡ p) ⊎ IsOther s txn p x) → IsRising places → i < length places → ((d : Place) → p ≡ get_or places i d) → get s p.key ≡ Some t → t.txn ≡ txn → Updates s new p.key None → rows_in new (remove_place places i) ≡ without_row txn (rows_in s places)
rows_left s new txn p t [] i each r l e g same u = absurd (omega arith)
rows_left s new txn p t (y ∷ places) zero each r l e g same u =
    let here : p ≡ y = e y in
    let old : row_at s y ≡ row_of t = ap (row_at s) (sym here) ∙ at_row s p t g in
    let mine : same_txn (row_at s y).txn txn ≡ true = ap (λ (q : Row). same_txn q.txn txn) old ∙ same_of t.txn txn same in
    let count = ap (λ (z : Place). z.count) here in
    rows_beside s new txn p places (λ x j. other_place s txn p x (λ c. let above = r.0 x j in absurd (omega arith)) (each x (inr j))) u
    ∙ sym (without_first txn (row_at s y) (rows_in s places) mine)
rows_left s new txn p t (y ∷ places) (suc i) each r l e g same u =
    let above = r.0 p (in_at places i p (omega arith) e) in
    let h = other_place s txn p y (λ c. absurd (omega arith)) (each y (inl refl)) in
    ap (λ q. q ∷ rows_in new (remove_place places i)) (row_same s new y (u.others y.key h.0)) ∙ ap (λ z. row_at s y ∷ z) (rows_left s new txn p t places i (λ x j. each x (inr j)) r.1 (omega arith) e g same u)
    ∙ sym (without_later txn (row_at s y) (rows_in s places) h.1)

pub rows_removed : (s new : Slab Transaction) (places : List Place) (i : ℕ) (txn : Txn) (p : Place) (t : Transaction) → IsTable s places → i < length places → ((d : Place) → p ≡ get_or places i d) → get s p.key ≡ Some t → t.txn ≡ txn → Updates s new p.key None → rows_in new (remove_place places i) ≡ without_row txn (rows_in s places)
rows_removed s new places i txn p t h l e g same u =
    rows_left s new txn p t places i (place_cases s places txn p h.stands h.rising (in_at places i p l e, (t, g, same))) h.rising l e g same u

pub table_removed : (s new : Slab Transaction) (places : List Place) (i : ℕ) (p : Place) (t : Transaction) → IsTable s places → i < length places → ((d : Place) → p ≡ get_or places i d) → get s p.key ≡ Some t → Updates s new p.key None → slab_len new + 1 ≡ slab_len s → IsTable new (remove_place places i)
table_removed s new places i p t h l e g u len = record {
  stands = λ x j.
      let k = in_removed places i p x h.rising l e j in
      let own = h.stands x k.0 in
      let key : x.key ≢ p.key = λ f.
      let here : get s x.key ≡ Some t = ap (get s) f ∙ g in
      k.1 (sym (stands_count s x t own here) ∙ stands_count s p t (h.stands p (in_at places i p l e)) g)
      in
      (own.0, u.others x.key key ∙ own.1, own.2);
  rising = rising_removed places i p h.rising l e;
  held = let r = length-remove places i l in omega (arith, h.held, r, len);
}

pub tally_removed : (s new : Slab Transaction) (places : List Place) (n m : Tally) (i : ℕ) (txn : Txn) (p : Place) (t : Transaction) → IsTable s places → IsTallyOf n (rows_in s places) → i < length places → ((d : Place) → p ≡ get_or places i d) → get s p.key ≡ Some t → t.txn ≡ txn → Updates s new p.key None → Moves (row_of t).under None n m → IsTallyOf m (rows_in new (remove_place places i))
tally_removed s new places n m i txn p t h tally l e g same u moved =
    let found = found_at s places txn p t h.stands h.rising (in_at places i p l e) g same in
    let distinct = rows_distinct s places h.stands h.rising in
    let rows = rows_removed s new places i txn p t h l e g same u in
    record {
      busy = let c = sum_without under_one txn (rows_in s places) (row_of t) distinct found in let d = ap (row_sum under_one) rows in let f = moved.0 in omega (arith, tally.busy, c, d, f);
      latched = λ a. let c = sum_without (latched_one a) txn (rows_in s places) (row_of t) distinct found in let d = ap (row_sum (latched_one a)) rows in let f = moved.1 a in let b = tally.latched a in omega (arith, b, c, d, f);
    }

-- ---- a table after a change

pub table_changed : (s new : Slab Transaction) (places : List Place) (p : Place) (t r : Transaction) → IsTable s places → In p places → get s p.key ≡ Some t → Updates s new p.key (Some r) → slab_len new ≡ slab_len s → r.txn ≡ t.txn → IsTable new places
table_changed s new places p t r h i e u len keeps = record {
  stands = stands_changed s new places p t r h i e u keeps;
  rising = h.rising;
  held = len ∙ h.held;
}

pub tally_changed : (s new : Slab Transaction) (places : List Place) (n m : Tally) (txn : Txn) (f : Row → Row) (p : Place) (t r : Transaction) → IsTable s places → IsTallyOf n (rows_in s places) → In p places → get s p.key ≡ Some t → t.txn ≡ txn → Updates s new p.key (Some r) → row_of r ≡ f (row_of t) → Moves (row_of t).under (f (row_of t)).under n m → IsTallyOf m (rows_in new places)
tally_changed s new places n m txn f p t r h tally i e same u g moved =
    let found = found_at s places txn p t h.stands h.rising i e same in
    let distinct = rows_distinct s places h.stands h.rising in
    let rows = rows_changed s new places txn f p t r h i e same u g in
    record {
      busy = let c = sum_change under_one txn f (rows_in s places) (row_of t) distinct found in let d = ap (row_sum under_one) rows in let b = moved.0 in omega (arith, tally.busy, c, d, b);
      latched = λ a. let c = sum_change (latched_one a) txn f (rows_in s places) (row_of t) distinct found in let d = ap (row_sum (latched_one a)) rows in let b = moved.1 a in let q = tally.latched a in omega (arith, q, b, c, d);
    }

-- ---- places by their index

rising_at : (places : List Place) (i j : ℕ) (d : Place) → IsRising places → i < j → j < length places → (get_or places i d).count < (get_or places j d).count
rising_at [] i j d r below within = absurd (omega arith)
rising_at (y ∷ places) zero zero d r below within = absurd (omega arith)
rising_at (y ∷ places) zero (suc j) d r below within =
    r.0 (get_or places j d) (in_at places j (get_or places j d) (omega arith) (λ e. get_or_default places j d e (omega arith)))
rising_at (y ∷ places) (suc i) zero d r below within = absurd (omega arith)
rising_at (y ∷ places) (suc i) (suc j) d r below within = rising_at places i j d r.1 (omega arith) (omega arith)

-- no place is of a greater count than the last one
pub before_last : (places : List Place) (k : ℕ) (d e : Place) → IsRising places → k < length places - 1 → (get_or places k d).count < (get_or places (length places - 1) e).count
before_last places k d e r before =
    let last = ap (λ (p : Place). p.count) (get_or_default places (length places - 1) d e (omega arith)) in
    let below = rising_at places k (length places - 1) d r before (omega arith) in
    omega (arith, last, below)

pub below_last : (places : List Place) (k : ℕ) (d e : Place) → IsRising places → k < length places → (get_or places k d).count ≤ (get_or places (length places - 1) e).count
below_last places k d e r within =
    elim (cases_eq k (length places - 1)) [
      | inl same ↦
          let here = ap (λ i. (get_or places i d).count) same in
          let last = ap (λ (p : Place). p.count) (get_or_default places (length places - 1) d e (omega arith)) in
          omega (arith, here, last)
      | inr other ↦ let before = before_last places k d e r (omega arith) in omega arith
    ]

pub rising_by : (places : List Place) → IsRising places → IsNonDecreasingBy (λ (p : Place). p.count) places
rising_by places r i j d le within =
    elim (cases_eq i j) [
      | inl same ↦ let here = ap (λ k. (get_or places k d).count) same in omega arith
      | inr other ↦ let below : i < j = omega arith in let more = rising_at places i j d r below within in omega arith
    ]

index_of : (places : List Place) (x : Place) → In x places → (k : ℕ) × (k < length places) × ((d : Place) → x ≡ get_or places k d)
index_of [] x i = absurd i
index_of (y ∷ places) x i =
    elim i [
      | inl e ↦ (zero, omega arith, λ d. e)
      | inr j ↦ let rest = index_of places x j in (suc rest.0, (let within = rest.1 in omega arith), rest.2)
    ]

-- where the first place from a count on is not of it, no place is
pub no_place : (places : List Place) (i n : ℕ) → IsRising places → ((k : ℕ) (d : Place) → k < i → (get_or places k d).count < n) → ((k : ℕ) (d : Place) → i ≤ k → k < length places → n ≤ (get_or places k d).count) → (i < length places → (d : Place) → (get_or places i d).count ≢ n) → (x : Place) → In x places → x.count ≢ n
no_place places i n r below above other x j e =
    let at = index_of places x j in
    let here = ap (λ (z : Place). z.count) (at.2 x) in
    let within = at.1 in
    elim (cases_lt at.0 i) [
      | inl before ↦ let less = below at.0 x before in absurd (omega arith)
      | inr after ↦ elim (cases_eq i at.0) [
        | inl same ↦ other (omega arith) x (ap (λ k. (get_or places k x).count) same ∙ sym here ∙ e)
        | inr later ↦
            let far = rising_at places i at.0 x r (omega arith) within in
            let near = above i x (omega arith) (omega arith) in
            absurd (omega arith)
      ]
    ]

-- ---- what the calls of a table meet

slab_len-with_value : (s : Slab Transaction) (key : ℕ) (t r : Transaction) → get s key ≡ Some t → slab_len (with_value s key r) ≡ slab_len s
slab_len-with_value s key t r e =
    let has : ContainsKey s key = subst IsSome (sym e) refl in
    let sums = sum_by-set (λ (o : Option Transaction). cond (slot_is_some o) 1 0) s.slots key (Some r) None (ContainsKey-within s key has) in
    let one : ℕ = 1 in
    let old : cond (slot_is_some (get s key)) 1 0 ≡ one = ap (λ (o : Option Transaction). cond (slot_is_some o) 1 0) e in
    omega (arith, sums, old)

updates_at : (s : Slab Transaction) (key : ℕ) (t r : Transaction) → get s key ≡ Some t → Updates s (with_value s key r) key (Some r)
updates_at s key t r e = Updates-with_value s key r (subst IsSome (sym e) refl)

-- the place of a key, in the places themselves
at_key : (s : Slab Transaction) (places now : List Place) (txn : Txn) (key : ℕ) (m : Transaction) → now ≡ places → KeyOf s now txn (Some key) → get s key ≡ Some m → (p : Place) × In p places × (p.key ≡ key) × (m.txn ≡ txn)
at_key s places now txn key m n h e =
    let p = h.0 in
    let t = h.2.1.0 in
    let same : m ≡ t = same_Some m t (sym e ∙ ap (get s) (sym h.1) ∙ h.2.1.1) in
    (p, subst (In p) n h.2.0, h.1, ap (λ (u : Transaction). u.txn) same ∙ h.2.1.2)

counted_row : (s : Slab Transaction) (places : List Place) (n : Tally) (txn : Txn) (p : Place) (t : Transaction) → IsKeptBy s places n → In p places → get s p.key ≡ Some t → t.txn ≡ txn → IsCounted (row_of t).under n
counted_row s places n txn p t k i e same =
    let found = found_at s places txn p t k.table.stands k.table.rising i e same in
    let distinct = rows_distinct s places k.table.stands k.table.rising in
    (let c = sum_without under_one txn (rows_in s places) (row_of t) distinct found in omega (arith, k.tally.busy, c), λ a. let c = sum_without (latched_one a) txn (rows_in s places) (row_of t) distinct found in let d = k.tally.latched a in omega (arith, c, d))

-- one transaction is changed in its slot
pub kept_changed : (s : Slab Transaction) (places now : List Place) (n m : Tally) (txn : Txn) (f : Row → Row) (key : ℕ) (t r : Transaction) → IsKeptBy s places n → now ≡ places → KeyOf s now txn (Some key) → get s key ≡ Some t → row_of r ≡ f (row_of t) → (f (row_of t)).txn ≡ t.txn → Moves (row_of t).under (f (row_of t)).under n m → IsKeptBy (with_value s key r) places m
kept_changed s places now n m txn f key t r k same h e g keeps moved =
    let at = at_key s places now txn key t same h e in
    let p = at.0 in
    let here : get s p.key ≡ Some t = ap (get s) at.2 ∙ e in
    let u : Updates s (with_value s key r) p.key (Some r) = subst (λ i. Updates s (with_value s key r) i (Some r)) (sym at.2) (updates_at s key t r e) in
    record {
      table = table_changed s (with_value s key r) places p t r k.table at.1 here u (slab_len-with_value s key t r e) (ap (λ (q : Row). q.txn) g ∙ keeps);
      tally = tally_changed s (with_value s key r) places n m txn f p t r k.table k.tally at.1 here at.3 u g moved;
    }

pub seen_changed : (s : Slab Transaction) (places now : List Place) (n : Tally) (rows : List Row) (txn : Txn) (f : Row → Row) (key : ℕ) (t r : Transaction) → IsKeptBy s places n → reverse (rows_in s places) ≡ rows → now ≡ places → KeyOf s now txn (Some key) → get s key ≡ Some t → row_of r ≡ f (row_of t) → reverse (rows_in (with_value s key r) places) ≡ change_row txn f rows
seen_changed s places now n rows txn f key t r k v same h e g =
    let at = at_key s places now txn key t same h e in
    let p = at.0 in
    let here : get s p.key ≡ Some t = ap (get s) at.2 ∙ e in
    let u : Updates s (with_value s key r) p.key (Some r) = subst (λ i. Updates s (with_value s key r) i (Some r)) (sym at.2) (updates_at s key t r e) in
    ap reverse (rows_changed s (with_value s key r) places txn f p t r k.table at.1 here at.3 u g) ∙ sym (change_reverse txn f (rows_in s places)) ∙ ap (change_row txn f) v

-- what is found among the rows, from either side
found_seen : (s : Slab Transaction) (places : List Place) (n : Tally) (rows : List Row) (txn : Txn) → IsKeptBy s places n → reverse (rows_in s places) ≡ rows → found_row txn rows ≡ found_row txn (rows_in s places)
found_seen s places n rows txn k v = ap (found_row txn) (sym v) ∙ found_reverse txn (rows_in s places) (rows_distinct s places k.table.stands k.table.rising)

pub distinct_seen : (s : Slab Transaction) (places : List Place) (n : Tally) (rows : List Row) → IsKeptBy s places n → reverse (rows_in s places) ≡ rows → AreDistinct rows
distinct_seen s places n rows k v = let P : List Row → Type 0 = AreDistinct in subst P v (distinct_reverse (rows_in s places) (rows_distinct s places k.table.stands k.table.rising))

pub seen_at : (s : Slab Transaction) (places now : List Place) (n : Tally) (rows : List Row) (txn : Txn) (key : ℕ) (t : Transaction) → IsKeptBy s places n → reverse (rows_in s places) ≡ rows → now ≡ places → KeyOf s now txn (Some key) → get s key ≡ Some t → found_row txn rows ≡ Some (row_of t)
seen_at s places now n rows txn key t k v same h e =
    let at = at_key s places now txn key t same h e in
    found_seen s places n rows txn k v ∙ found_at s places txn at.0 t k.table.stands k.table.rising at.1 (ap (get s) at.2 ∙ e) at.3

pub seen_none : (s : Slab Transaction) (places now : List Place) (n : Tally) (rows : List Row) (txn : Txn) → IsKeptBy s places n → reverse (rows_in s places) ≡ rows → now ≡ places → found_row txn (rows_in s now) ≡ None → found_row txn rows ≡ None
seen_none s places now n rows txn k v same h = found_seen s places n rows txn k v ∙ ap (λ l. found_row txn (rows_in s l)) (sym same) ∙ h

pub seen_absent : (s : Slab Transaction) (places now : List Place) (n : Tally) (rows : List Row) (txn : Txn) (f : Row → Row) → IsKeptBy s places n → reverse (rows_in s places) ≡ rows → now ≡ places → found_row txn (rows_in s now) ≡ None → rows ≡ change_row txn f rows
seen_absent s places now n rows txn f k v same h = sym (change_none txn f rows (seen_none s places now n rows txn k v same h))

-- each is counted
pub counted_at : (s : Slab Transaction) (places now : List Place) (n : Tally) (txn : Txn) (key : ℕ) (t : Transaction) → IsKeptBy s places n → now ≡ places → KeyOf s now txn (Some key) → get s key ≡ Some t → IsCounted (row_of t).under n
counted_at s places now n txn key t k same h e =
    let at = at_key s places now txn key t same h e in
    counted_row s places n txn at.0 t k at.1 (ap (get s) at.2 ∙ e) at.3

-- one more may be counted
pub room_left : (s : Slab Transaction) (places : List Place) (n : Tally) → IsKeptBy s places n → length places + 1 < 2 ^ 64 → HasRoom n
room_left s places n k few =
    let rows = rows_in s places in
    let f = length-map places (row_at s) in
    (let c = sum_le under_one rows (λ r. one_if_le (is_some r.under)) in omega (arith, k.tally.busy, c, f, few), λ p. let c = sum_le (latched_one p) rows (λ r. one_if_le (latched_under r.under p)) in let d = k.tally.latched p in omega (arith, c, d, f, few))

-- ---- memory is taken, and one more is begun

pub kept_reserved : (s new : Slab Transaction) (places now : List Place) (n : Tally) (c : ℕ) → IsKeptBy s places n → new ≡ record s { capacity = c } → now ≡ places → IsKeptBy new now n
kept_reserved s new places now n c k e same =
    let P : Slab Transaction → Type 0 = λ x. IsKeptBy x now n in
    let Q : List Place → Type 0 = λ x. IsKeptBy (record s { capacity = c }) x n in
    subst P (sym e) (subst Q (sym same) (record { table = record { stands = k.table.stands; rising = k.table.rising; held = k.table.held }; tally = k.tally }))

pub seen_reserved : (s new : Slab Transaction) (places now : List Place) (c : ℕ) (rows : List Row) → reverse (rows_in s places) ≡ rows → new ≡ record s { capacity = c } → now ≡ places → reverse (rows_in new now) ≡ rows
seen_reserved s new places now c rows v e same = ap (λ x. reverse (rows_in x now)) e ∙ ap (λ x. reverse (rows_in s x)) same ∙ v

-- every place is of a smaller count than that of a transaction behind all rows
pub places_below : (s : Slab Transaction) (places : List Place) (n : Tally) (count : ℕ) (rows : List Row) → IsKeptBy s places n → reverse (rows_in s places) ≡ rows → ((r : Row) → In r rows → r.txn.count < count) → (x : Place) → In x places → x.count < count
places_below s places n count rows k v below x i =
    let P : List Row → Type 0 = In (row_at s x) in
    let here = below (row_at s x) (subst P v (In-reverse (row_at s x) (rows_in s places) (In-to (row_at s) places x i))) in
    let own = row_count s x (k.table.stands x i) in
    omega (arith, here, own)

pub kept_begun : (s new : Slab Transaction) (places now : List Place) (n : Tally) (count key : ℕ) (rows : List Row) (r : Transaction) → IsKeptBy s places n → reverse (rows_in s places) ≡ rows → ((q : Row) → In q rows → q.txn.count < count) → get s key ≡ None → Updates s new key (Some r) → slab_len new ≡ slab_len s + 1 → r.txn.count ≡ count → (row_of r).under ≡ None → now ≡ places ++ record { count = count; key = key } ∷ [] → IsKeptBy new now n
kept_begun s new places now n count key rows r k v below none u len own idle same =
    let q : Place = record { count = count; key = key } in
    let P : List Place → Type 0 = λ x. IsKeptBy new x n in
    subst P (sym same) (record {
      table = table_begun s new places q r k.table none u len own (places_below s places n count rows k v below);
      tally = tally_begun s new places n q r k.table k.tally none u idle;
    })

pub seen_begun : (s new : Slab Transaction) (places now : List Place) (n : Tally) (count key : ℕ) (rows : List Row) (r : Transaction) → IsKeptBy s places n → reverse (rows_in s places) ≡ rows → get s key ≡ None → Updates s new key (Some r) → now ≡ places ++ record { count = count; key = key } ∷ [] → reverse (rows_in new now) ≡ row_of r ∷ rows
seen_begun s new places now n count key rows r k v none u same =
    let q : Place = record { count = count; key = key } in
    ap (λ x. reverse (rows_in new x)) same ∙ ap reverse (rows_begun s new places q r k.table none u) ∙ reverse-append (rows_in s places) (row_of r ∷ []) ∙ ap (λ l. row_of r ∷ l) v

-- the place, and what its slot holds
at_place : (s : Slab Transaction) (places looked : List Place) (txn : Txn) (i : ℕ) (p : Place) (t : Transaction) → looked ≡ places → PlaceOf s looked txn (Some i) → p ≡ get_or places i p → get s p.key ≡ Some t → (i < length places) × ((d : Place) → p ≡ get_or places i d) × (t.txn ≡ txn)
at_place s places looked txn i p t same h read e =
    let q = h.0 in
    let within : i < length places = let w = h.1 in let l = ap length same in omega (arith, w, l) in
    let place : p ≡ q = read ∙ ap (λ l. get_or l i p) (sym same) ∙ sym (h.2 p) in
    let u = h.3.1.0 in
    let own : t ≡ u = same_Some t u (sym e ∙ ap (λ (x : Place). get s x.key) place ∙ h.3.1.1) in
    (within, λ d. place ∙ h.2 d ∙ ap (λ l. get_or l i d) same, ap (λ (x : Transaction). x.txn) own ∙ h.3.1.2)

-- ---- one ends

pub kept_ended : (s new : Slab Transaction) (places looked now : List Place) (n m : Tally) (i : ℕ) (txn : Txn) (p : Place) (t : Transaction) → IsKeptBy s places n → looked ≡ places → PlaceOf s looked txn (Some i) → p ≡ get_or places i p → get s p.key ≡ Some t → Updates s new p.key None → slab_len new + 1 ≡ slab_len s → now ≡ remove_place places i → Moves (row_of t).under None n m → IsKeptBy new now m
kept_ended s new places looked now n m i txn p t k same h read e u len left moved =
    let at = at_place s places looked txn i p t same h read e in
    let P : List Place → Type 0 = λ x. IsKeptBy new x m in
    subst P (sym left) (record {
      table = table_removed s new places i p t k.table at.0 at.1 e u len;
      tally = tally_removed s new places n m i txn p t k.table k.tally at.0 at.1 e at.2 u moved;
    })

pub seen_ended : (s new : Slab Transaction) (places looked now : List Place) (n : Tally) (i : ℕ) (rows : List Row) (txn : Txn) (p : Place) (t : Transaction) → IsKeptBy s places n → reverse (rows_in s places) ≡ rows → looked ≡ places → PlaceOf s looked txn (Some i) → p ≡ get_or places i p → get s p.key ≡ Some t → Updates s new p.key None → now ≡ remove_place places i → reverse (rows_in new now) ≡ without_row txn rows
seen_ended s new places looked now n i rows txn p t k v same h read e u left =
    let at = at_place s places looked txn i p t same h read e in
    ap (λ x. reverse (rows_in new x)) left ∙ ap reverse (rows_removed s new places i txn p t k.table at.0 at.1 e at.2 u) ∙ sym (without_reverse txn (rows_in s places)) ∙ ap (without_row txn) v

pub counted_ended : (s : Slab Transaction) (places looked : List Place) (n : Tally) (i : ℕ) (txn : Txn) (p : Place) (t : Transaction) → IsKeptBy s places n → looked ≡ places → PlaceOf s looked txn (Some i) → p ≡ get_or places i p → get s p.key ≡ Some t → IsCounted (row_of t).under n
counted_ended s places looked n i txn p t k same h read e =
    let at = at_place s places looked txn i p t same h read e in
    counted_row s places n txn p t k (in_at places i p at.0 at.1) e at.2

pub seen_left : (s : Slab Transaction) (places now : List Place) (n : Tally) (rows : List Row) (txn : Txn) → IsKeptBy s places n → reverse (rows_in s places) ≡ rows → now ≡ places → found_row txn (rows_in s now) ≡ None → rows ≡ without_row txn rows
seen_left s places now n rows txn k v same h = absent_without txn rows (seen_none s places now n rows txn k v same h)

-- ---- the place that was looked for

pub holds_key : (s : Slab Transaction) (places : List Place) (i : ℕ) (p : Place) → IsTable s places → i < length places → p ≡ get_or places i p → ContainsKey s p.key
holds_key s places i p k within read =
    let own = k.stands p (in_at places i p within (λ d. read ∙ get_or_default places i p d within)) in
    subst IsSome (sym own.1) refl

pub at_place_found : (s : Slab Transaction) (places : List Place) (i : ℕ) (txn : Txn) (p : Place) (t : Transaction) → i < length places → p ≡ get_or places i p → get s p.key ≡ Some t → t.txn ≡ txn → PlaceOf s places txn (Some i)
at_place_found s places i txn p t within read e same =
    let at : (d : Place) → p ≡ get_or places i d = λ d. read ∙ get_or_default places i p d within in
    (p, within, at, (in_at places i p within at, (t, e, same)))

-- ---- what is counted

stepped_some : (o : Option Under) → is_some (under_stepped o) ≡ is_some o
stepped_some None = refl
stepped_some (Some u) = refl

stepped_latched : (o : Option Under) (p : ℕ) → latched_under (under_stepped o) p ≡ latched_under o p
stepped_latched None p = refl
stepped_latched (Some u) p = refl

pub stepped_moved : (o : Option Under) (t : Tally) → Moves o (under_stepped o) t t
stepped_moved o t = kept_moved o (under_stepped o) t (stepped_some o) (stepped_latched o)

pub any_seen : (s : Slab Transaction) (places : List Place) (n : Tally) (rows : List Row) → IsKeptBy s places n → reverse (rows_in s places) ≡ rows → ltb 0 n.operations ≡ any_under rows
any_seen s places n rows k v =
    let b : any_under rows ≡ any_under (rows_in s places) = ap any_under (sym v) ∙ any_reverse (rows_in s places) in
    ap (ltb 0) k.tally.busy ∙ any_sum (rows_in s places) ∙ sym b

pub latched_seen : (page : ℕ) (s : Slab Transaction) (places : List Place) (n : Tally) (rows : List Row) → IsKeptBy s places n → reverse (rows_in s places) ≡ rows → ltb 0 (latches_at n page) ≡ latched_in rows page
latched_seen page s places n rows k v =
    ap (ltb 0) (k.tally.latched page) ∙ latched_sum page (rows_in s places) ∙ sym (latched_reverse page (rows_in s places)) ∙ ap (λ l. latched_in l page) v

pub length_seen : (s : Slab Transaction) (places : List Place) (rows : List Row) → reverse (rows_in s places) ≡ rows → length rows ≡ length places
length_seen s places rows v = ap length (sym v) ∙ length-reverse (rows_in s places) ∙ length-map places (row_at s)

-- ---- an operation that is started, or refused for memory

pub kept_started : {A E : Type 0} (o : Result A E) (u : Under) (s : Slab Transaction) (places now : List Place) (n m : Tally) (txn : Txn) (key : ℕ) (t r : Transaction) → IsKeptBy s places n → now ≡ places → KeyOf s now txn (Some key) → get s key ≡ Some t → OnOk o (row_of r ≡ row_started u (row_of t)) → OnOk o (Moves (row_of t).under (Some u) n m) → OnErr o (row_of r ≡ row_of t) → OnErr o (Latches [] n m) → IsKeptBy (with_value s key r) places m
kept_started (Ok x) u s places now n m txn key t r k same h e row moved err left =
    kept_changed s places now n m txn (row_started u) key t r k same h e row refl moved
kept_started (Err x) u s places now n m txn key t r k same h e row moved err left =
    kept_changed s places now n m txn (λ (q : Row). q) key t r k same h e err refl (none_changed (row_of t).under n m left)

pub seen_started : {A E : Type 0} (o : Result A E) (u : Under) (s : Slab Transaction) (places now : List Place) (n : Tally) (rows : List Row) (txn : Txn) (key : ℕ) (t r : Transaction) → IsKeptBy s places n → reverse (rows_in s places) ≡ rows → now ≡ places → KeyOf s now txn (Some key) → get s key ≡ Some t → OnOk o (row_of r ≡ row_started u (row_of t)) → OnOk o (reverse (rows_in (with_value s key r) places) ≡ change_row txn (row_started u) rows)
seen_started (Ok x) u s places now n rows txn key t r k v same h e row = seen_changed s places now n rows txn (row_started u) key t r k v same h e row
seen_started (Err x) u s places now n rows txn key t r k v same h e row = tt

pub seen_refused : {A E : Type 0} (o : Result A E) (s : Slab Transaction) (places now : List Place) (n : Tally) (rows : List Row) (txn : Txn) (key : ℕ) (t r : Transaction) → IsKeptBy s places n → reverse (rows_in s places) ≡ rows → now ≡ places → KeyOf s now txn (Some key) → get s key ≡ Some t → OnErr o (row_of r ≡ row_of t) → OnErr o (reverse (rows_in (with_value s key r) places) ≡ rows)
seen_refused (Ok x) s places now n rows txn key t r k v same h e err = tt
seen_refused (Err x) s places now n rows txn key t r k v same h e err = seen_changed s places now n rows txn (λ (q : Row). q) key t r k v same h e err ∙ change_same txn rows
