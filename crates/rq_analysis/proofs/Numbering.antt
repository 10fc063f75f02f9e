-- The greatest number is kept.
use Rattle.std.proofs.Common.{◌≡◌, ℕ, ◌+◌, ◌≤◌, max, nat_eq, nat_lt, not, true, false, cond, ◌||◌, List, [], ◌∷◌, ◌++◌, length, None, inl, inr, refl, sym, ◌∙◌, ap, arith}
use Rattle.std.specs.List.{filter}
use Rattle.std.proofs.lemmas.Bool.{cases_Bool, eq-eqb, ne_eqb, or_parts, ltb-false}
use Rattle.std.proofs.lemmas.Bool.Decides.{nat_tests}
use Rattle.std.proofs.lemmas.List.{length-append}
use Rattle.std.proofs.lemmas.List.Elements.{filter-append}
use Rattle.rq_model.specs.declared.txn.Sub.{Sub}
use Rattle.rq_model.specs.declared.txn.Txn.{Txn}
use Rattle.rq_model.specs.declared.record.Record.{Record}
use Rattle.rq_model.specs.declared.record.Record.TheVariants as records
use Rattle.rq_model.specs.Content.{has_end}
use Rattle.rq_model.specs.Bases.{earlier}
use Rattle.rq_model.specs.Vocabulary.{In, same_txn}
use Rattle.rq_model.proofs.Lists.{same_is, same_self}
use Rattle.rq_page.specs.Sizes.{Sizes}
use Rattle.rq_model.specs.Unended.{any_record}
use Rattle.rq_views.specs.InStore.{IsStranger, mentions}
use Rattle.rq_views.specs.Items.{items, operation}
use Rattle.rq_views.specs.Numbers.{greatest}
use Rattle.rq_txn.specs.Rows.{Row}
use Rattle.rq_store.specs.Rows.{unmade}
use Rattle.rq_store.specs.State.{State}
use Rattle.rq_sound.specs.Sound.{IsSound}
use Rattle.rq_analysis.specs.Numbers.{number_of, numbers, numbers_but, numbers_left, with_number}

with_none : (n : ℕ) → n ≡ max 0 n
with_none n = omega arith

lt_is : (a b : ℕ) → nat_lt a b ≡ true → a + 1 ≤ b
lt_is a b y = grind (arith, nat_tests, y)

number_behind : (t : Txn) (os : List Sub) (o : Sub) → number_of t (os ++ o ∷ []) ≡ max (cond (same_txn o.txn t) o.number 0) (number_of t os)
number_behind t [] o = refl
number_behind t (u ∷ os) o =
    let e = number_behind t os o in
    ap (max (cond (same_txn u.txn t) u.number 0)) e ∙ turned (cond (same_txn u.txn t) u.number 0) (cond (same_txn o.txn t) o.number 0) (number_of t os)
  where
    turned : (a b c : ℕ) → max a (max b c) ≡ max b (max a c)
    turned a b c = omega arith

number_but : (t u : Txn) (os : List Sub) → same_txn u t ≡ false → number_of t (numbers_but u os) ≡ number_of t os
number_but t u [] off = refl
number_but t u (o ∷ os) off = elim (cases_Bool (same_txn u o.txn)) [
  | inl y ↦
      let other : same_txn o.txn t ≡ false = ap (λ (v : Txn). same_txn v t) (sym (same_is u o.txn y)) ∙ off in
      rw (y, other) (number_but t u os off ∙ with_none (number_of t os))
  | inr n ↦ rw n (ap (max (cond (same_txn o.txn t) o.number 0)) (number_but t u os off))
]

less_but : (t u : Txn) (os : List Sub) → number_of t (numbers_but u os) ≤ number_of t os
less_but t u [] = omega arith
less_but t u (o ∷ os) =
    let less = less_but t u os in
    elim (cases_Bool (same_txn u o.txn)) [
      | inl y ↦ rw y (omega (arith, less))
      | inr n ↦ rw n (omega (arith, less))
    ]

number_with : (t : Txn) (o : Sub) (os : List Sub) → number_of t (with_number o os) ≡ max (cond (same_txn o.txn t) o.number 0) (number_of t os)
number_with t o os = elim (cases_Bool (nat_lt (number_of o.txn os) o.number)) [
  | inl y ↦ rw y (number_behind t (numbers_but o.txn os) o ∙ elim (cases_Bool (same_txn o.txn t)) [
    | inl own ↦
        let a : number_of o.txn os ≡ number_of t os = ap (λ (u : Txn). number_of u os) (same_is o.txn t own) in
        let b = lt_is (number_of o.txn os) o.number y in
        let c = less_but t o.txn os in
        rw own (over o.number (number_of t (numbers_but o.txn os)) (number_of t os) (omega (arith, a, b)) c)
    | inr off ↦ ap (max (cond (same_txn o.txn t) o.number 0)) (number_but t o.txn os off)
  ])
  | inr n ↦ rw n (elim (cases_Bool (same_txn o.txn t)) [
    | inl own ↦
        let a : number_of o.txn os ≡ number_of t os = ap (λ (u : Txn). number_of u os) (same_is o.txn t own) in
        let b = ltb-false (number_of o.txn os) o.number n in
        rw own (within o.number (number_of t os) (omega (arith, a, b)))
    | inr off ↦ rw off (with_none (number_of t os))
  ])
] where
  within : (a b : ℕ) → a ≤ b → b ≡ max a b
  within a b le = omega (arith, le)

  over : (a b c : ℕ) → c ≤ a → b ≤ c → max a b ≡ max a c
  over a b c k le = omega (arith, k, le)

-- once a greater one stands behind, it alone is left of the transaction's
left_but : (t : Txn) (n : ℕ) (os : List Sub) → number_of t os + 1 ≤ n → numbers_left t n os ≡ numbers_but t os
left_but t n [] le = refl
left_but t n (o ∷ os) le =
    let most : number_of t os ≤ number_of t (o ∷ os) = omega arith in
    let rest = left_but t n os (omega (arith, le, most)) in
    elim (cases_Bool (same_txn t o.txn)) [
      | inl y ↦
          let own : same_txn o.txn t ≡ true = ap (λ (u : Txn). same_txn u t) (sym (same_is t o.txn y)) ∙ same_self t in
          let here : max o.number (number_of t os) + 1 ≤ n = rw own at le in
          let other : nat_eq o.number n ≡ false = ne_eqb o.number n (λ e. omega (arith, e, here)) in
          rw (y, other) rest
      | inr m ↦ rw m (ap (λ (l : List Sub). o ∷ l) rest)
    ]

pub left_behind : (o : Sub) (os : List Sub) → nat_lt (number_of o.txn os) o.number ≡ true → numbers_left o.txn o.number (os ++ o ∷ []) ≡ with_number o os
left_behind o os y =
    let own : (not (same_txn o.txn o.txn) || nat_eq o.number o.number) ≡ true = rw (same_self o.txn, eq-eqb o.number o.number refl) refl in
    let last : numbers_left o.txn o.number (o ∷ []) ≡ o ∷ [] = rw own refl in
    rw y (filter-append _ os (o ∷ []) ∙ ap (λ (l : List Sub). l ++ numbers_left o.txn o.number (o ∷ [])) (left_but o.txn o.number os (lt_is (number_of o.txn os) o.number y)) ∙ ap (λ (l : List Sub). numbers_but o.txn os ++ l) last)

more : (z : Sizes) (log : List Record) (t : Txn) (o : Sub) → number_of t (numbers log) ≡ greatest t (items z log)
    → number_of t (with_number o (numbers log)) ≡ max (cond (same_txn o.txn t) o.number 0) (greatest t (items z log))
more z log t o e = number_with t o (numbers log) ∙ ap (max (cond (same_txn o.txn t) o.number 0)) e

-- below the newest Base the transaction has no operation
abbrev pub NoneBelow : Sizes → Txn → List Record → Type 0
NoneBelow z t [] = Unit {0}
NoneBelow z t (records.Base many i ∷ log) = greatest t (items z log) ≡ 0
NoneBelow z t (r ∷ log) = NoneBelow z t log

pub kept : (z : Sizes) (log : List Record) (t : Txn) → NoneBelow z t log → has_end log t ≡ false → number_of t (numbers log) ≡ greatest t (items z log)
kept z [] t b e = refl
kept z (records.PageOp u n page slot before after ∷ log) t b e = more z log t (operation u n) (kept z log t b e)
kept z (records.PageUndo u n undone page slot after ∷ log) t b e = more z log t (operation u n) (kept z log t b e)
kept z (records.OpEnd u n level deed ∷ log) t b e = more z log t (operation u n) (kept z log t b e)
kept z (records.OpVoid u n ∷ log) t b e = more z log t (operation u n) (kept z log t b e)
kept z (records.CompEnd u n undone ∷ log) t b e = more z log t (operation u n) (kept z log t b e)
kept z (records.Commit u ∷ log) t b e =
    let k = or_parts (same_txn u t || false) (has_end log t) e in
    number_but t u (numbers log) (or_parts (same_txn u t) false k.0).0 ∙ kept z log t b k.1 ∙ with_none (greatest t (items z log))
kept z (records.AbortEnd u ∷ log) t b e =
    let k = or_parts (same_txn u t) (has_end log t) e in
    number_but t u (numbers log) k.0 ∙ kept z log t b k.1 ∙ with_none (greatest t (items z log))
kept z (records.Base many i ∷ log) t b e = with_none 0 ∙ ap (max 0) (sym b)
kept z (_ ∷ log) t b e = kept z log t b e ∙ with_none (greatest t (items z log))

stranger_more : (z : Sizes) (t u : Txn) (n : ℕ) (log : List Record) → (same_txn u t || any_record (mentions t) log) ≡ false → (IsStranger t log → greatest t (items z log) ≡ 0)
    → max (cond (same_txn u t) n 0) (greatest t (items z log)) ≡ 0
stranger_more z t u n log h ih =
    let k = or_parts (same_txn u t) (any_record (mentions t) log) h in
    let none = ih k.1 in
    rw k.0 (omega (arith, none))

-- a transaction that has no record has no operation
stranger_greatest : (z : Sizes) (t : Txn) (log : List Record) → IsStranger t log → greatest t (items z log) ≡ 0
stranger_greatest z t [] h = refl
stranger_greatest z t (records.PageOp u n page slot before after ∷ log) h = stranger_more z t u n log h (stranger_greatest z t log)
stranger_greatest z t (records.PageUndo u n undone page slot after ∷ log) h = stranger_more z t u n log h (stranger_greatest z t log)
stranger_greatest z t (records.OpEnd u n level deed ∷ log) h = stranger_more z t u n log h (stranger_greatest z t log)
stranger_greatest z t (records.OpVoid u n ∷ log) h = stranger_more z t u n log h (stranger_greatest z t log)
stranger_greatest z t (records.CompEnd u n undone ∷ log) h = stranger_more z t u n log h (stranger_greatest z t log)
stranger_greatest z t (records.Commit u ∷ log) h = let none = stranger_greatest z t log (or_parts (same_txn u t) (any_record (mentions t) log) h).1 in omega (arith, none)
stranger_greatest z t (records.AbortEnd u ∷ log) h = let none = stranger_greatest z t log (or_parts (same_txn u t) (any_record (mentions t) log) h).1 in omega (arith, none)
stranger_greatest z t (_ ∷ log) h = let none = stranger_greatest z t log h in omega (arith, none)

-- who has no record below it has no operation there
pub none_below : (z : Sizes) (t : Txn) (log : List Record) → IsStranger t (earlier log) → NoneBelow z t log
none_below z t [] h = tt
none_below z t (records.Base many i ∷ log) h = stranger_greatest z t log h
none_below z t (_ ∷ log) h = none_below z t log h

pub row_number : (s : State) (r : Row) → IsSound s → In r s.rows → r.under ≡ None → number_of r.txn (numbers s.records) ≡ r.number
row_number s r k j off =
    let row = k.standing.each r j in
    let a = kept s.sizes s.records r.txn (none_below s.sizes r.txn s.records row.behind) row.running in
    let b : unmade r.under ≡ 0 = ap unmade off in
    let c = row.numbered in
    omega (arith, a, b, c)

-- no transaction stands twice
abbrev own : Txn → List Sub → List Sub
own t os = filter (λ o. same_txn t o.txn) os

own_but : (t u : Txn) (os : List Sub) → length (own t (numbers_but u os)) ≤ length (own t os)
own_but t u [] = omega arith
own_but t u (o ∷ os) =
    let less = own_but t u os in
    elim (cases_Bool (same_txn u o.txn)) [
      | inl y ↦ rw y (elim (cases_Bool (same_txn t o.txn)) [ inl k ↦ rw k (omega (arith, less)) | inr k ↦ rw k less ])
      | inr n ↦ rw n (elim (cases_Bool (same_txn t o.txn)) [ inl k ↦ rw k (omega (arith, less)) | inr k ↦ rw k less ])
    ]

own_none : (t : Txn) (os : List Sub) → own t (numbers_but t os) ≡ []
own_none t [] = refl
own_none t (o ∷ os) = elim (cases_Bool (same_txn t o.txn)) [
  | inl y ↦ rw y (own_none t os)
  | inr n ↦ rw (n, n) (own_none t os)
]

own_with : (t : Txn) (o : Sub) (os : List Sub) → length (own t os) ≤ 1 → length (own t (with_number o os)) ≤ 1
own_with t o os le = elim (cases_Bool (nat_lt (number_of o.txn os) o.number)) [
  | inl y ↦
      let e : length (own t (numbers_but o.txn os ++ o ∷ [])) ≡ length (own t (numbers_but o.txn os)) + length (own t (o ∷ [])) =
      ap length (filter-append _ (numbers_but o.txn os) (o ∷ [])) ∙ length-append (own t (numbers_but o.txn os)) (own t (o ∷ [])) in
      let all : length (own t (numbers_but o.txn os)) + length (own t (o ∷ [])) ≤ 1 = elim (cases_Bool (same_txn t o.txn)) [
        | inl k ↦
            let none : length (own t (numbers_but o.txn os)) ≡ 0 = ap (λ (u : Txn). length (own t (numbers_but u os))) (sym (same_is t o.txn k)) ∙ ap length (own_none t os) in
            rw k (omega (arith, none))
        | inr k ↦ (let less = own_but t o.txn os in rw k (omega (arith, less, le)))
      ] in
      rw y (omega (arith, e, all))
  | inr n ↦ rw n le
]

pub once : (log : List Record) (t : Txn) → length (own t (numbers log)) ≤ 1
once [] t = omega arith
once (records.PageOp u n page slot before after ∷ log) t = own_with t (operation u n) (numbers log) (once log t)
once (records.PageUndo u n undone page slot after ∷ log) t = own_with t (operation u n) (numbers log) (once log t)
once (records.OpEnd u n level deed ∷ log) t = own_with t (operation u n) (numbers log) (once log t)
once (records.OpVoid u n ∷ log) t = own_with t (operation u n) (numbers log) (once log t)
once (records.CompEnd u n undone ∷ log) t = own_with t (operation u n) (numbers log) (once log t)
once (records.Commit u ∷ log) t = (let a = once log t in let b = own_but t u (numbers log) in omega (arith, a, b))
once (records.AbortEnd u ∷ log) t = (let a = once log t in let b = own_but t u (numbers log) in omega (arith, a, b))
once (records.Base many i ∷ log) t = omega arith
once (_ ∷ log) t = once log t
