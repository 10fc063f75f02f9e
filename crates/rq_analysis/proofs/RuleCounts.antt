-- Numbers kept in runs: whether one is among them.
use Rattle.std.proofs.Common.{◌≡◌, ◌≢◌, ℕ, zero, suc, ◌+◌, ◌-◌, ◌^◌, ◌≤◌, ◌<◌, Bool, true, false, not, ◌||◌, nat_eq, List, [], ◌∷◌, Option, Some, None, is_some, IfNone, IfSome, ◌⊎◌, inl, inr, refl, sym, ◌∙◌, ap, subst, arith}
use Rattle.std.proofs.lemmas.Bool.{cases_Bool, cases_eq, cases_lt, eq-eqb, eqb-true, false_from_ne_true, ne_eqb, or_cases, or_left, or_right}
use Rattle.std.proofs.lemmas.Map.Entries.{btree_map_get_place, place_from_lookup}
use Rattle.std.proofs.lemmas.Option.{same_Some}
use Rattle.std.specs.BTreeMap.{BTreeMap, IsOrdered, Updates, get, is_at}
use Rattle.std.specs.Cmp.{nat_cmp_total, nat_eq_equiv, unsigned_tied}
use Rattle.std.specs.FinSet as set
use Rattle.std.specs.FinSet.{contains-empty, contains-insert, nat_cmp-IsAntisymmetric, same_set}
use Rattle.std.specs.List.{slice_get}
use Rattle.std.specs.Ordering.{nat_cmp}
use Rattle.rq_analysis.specs.Runs.{AreApart, BeginsFor, Counts, EndsFor, IsFree, IsIn, counts_in, has_count, with_counts}

pub none_counted : (n : ℕ) → has_count n set.empty ≡ false
none_counted n = contains-empty nat_cmp n

pub counts_more : (n k : ℕ) (c : Counts) → has_count n (set.insert c k) ≡ (nat_eq k n || has_count n c)
counts_more n k c = contains-insert nat_cmp_total c k n ∙ ap (λ b. b || has_count n c) (unsigned_tied n k ∙ nat_eq_equiv.symm n k)

-- two tests that say the same
alike : (a b : Bool) → (a ≡ true → b ≡ true) → (b ≡ true → a ≡ true) → a ≡ b
alike true b there back = sym (there refl)
alike false b there back = sym (false_from_ne_true b (λ y. absurd (let bad : false ≡ true = back y in cc bad)))

-- ---- a run

counts_tell : (n first k : ℕ) (c : Counts) → has_count n (with_counts first k c) ≡ true → ((first ≤ n) × (n < first + k)) ⊎ (has_count n c ≡ true)
counts_tell n first zero c y = inr y
counts_tell n first (suc k) c y = elim (or_cases (nat_eq (first + k) n) (has_count n (with_counts first k c)) (sym (counts_more n (first + k) (with_counts first k c)) ∙ y)) [
  | inl e ↦ (let is = eqb-true (first + k) n e in inl (omega (arith, is), omega (arith, is)))
  | inr rest ↦ elim (counts_tell n first k c rest) [
    | inl one ↦ (let low = one.0 in let high = one.1 in inl (low, omega (arith, high)))
    | inr old ↦ inr old
  ]
]

counts_there : (n first k : ℕ) (c : Counts) → first ≤ n → n < first + k → has_count n (with_counts first k c) ≡ true
counts_there n first zero c low high = absurd (omega (arith, low, high))
counts_there n first (suc k) c low high = counts_more n (first + k) (with_counts first k c) ∙ elim (cases_Bool (nat_eq (first + k) n)) [
  | inl e ↦ or_left (nat_eq (first + k) n) (has_count n (with_counts first k c)) e
  | inr o ↦ or_right (nat_eq (first + k) n) (has_count n (with_counts first k c)) (counts_there n first k c low (grind (arith, o, high, low)))
]

counts_stay : (n first k : ℕ) (c : Counts) → has_count n c ≡ true → has_count n (with_counts first k c) ≡ true
counts_stay n first zero c y = y
counts_stay n first (suc k) c y = counts_more n (first + k) (with_counts first k c) ∙ or_right (nat_eq (first + k) n) (has_count n (with_counts first k c)) (counts_stay n first k c y)

-- ---- runs, as a list

found_at : (n : ℕ) (es : List (ℕ × ℕ)) → has_count n (counts_in es) ≡ true → (i : ℕ) × (f : ℕ) × (l : ℕ) × (slice_get es i ≡ Some (f, l)) × (f ≤ n) × (n ≤ l)
found_at n [] y = absurd (let bad : false ≡ true = sym (none_counted n) ∙ y in cc bad)
found_at n (e ∷ es) y = elim (counts_tell n e.0 (e.1 + 1 - e.0) (counts_in es) y) [
  | inl one ↦ (let low = one.0 in let high = one.1 in (0, e.0, e.1, refl, low, omega (arith, low, high)))
  | inr old ↦ (let k = found_at n es old in (suc k.0, k.1, k.2, k.3, k.4, k.5))
]

there_at : (n : ℕ) (es : List (ℕ × ℕ)) (i f l : ℕ) → slice_get es i ≡ Some (f, l) → f ≤ n → n ≤ l → has_count n (counts_in es) ≡ true
there_at n [] i f l at low high = absurd cc
there_at n (e ∷ es) zero f l at low high =
    let is : e ≡ (f, l) = same_Some e (f, l) at in
    let first : e.0 ≡ f = ap (λ (x : ℕ × ℕ). x.0) is in
    let last : e.1 ≡ l = ap (λ (x : ℕ × ℕ). x.1) is in
    counts_there n e.0 (e.1 + 1 - e.0) (counts_in es) (omega (arith, first, low)) (omega (arith, first, last, low, high))
there_at n (e ∷ es) (suc i) f l at low high = counts_stay n e.0 (e.1 + 1 - e.0) (counts_in es) (there_at n es i f l at low high)

same_key : (f k : ℕ) → is_at (nat_cmp f) k ≡ true → f ≡ k
same_key f k y = eqb-true f k (sym (unsigned_tied f k) ∙ y)

module _ (m : BTreeMap ℕ ℕ) (ordered : IsOrdered nat_cmp m) (n : ℕ) where
  pub is_in : has_count n (counts_in m.entries) ≡ true → IsIn m n
  is_in y =
      let k = found_at n m.entries y in
      record { first = k.1; last = k.2; there = btree_map_get_place nat_cmp_total m k.0 k.1 k.2 ordered k.3; low = k.4; high = k.5 }

  pub in_is : IsIn m n → has_count n (counts_in m.entries) ≡ true
  in_is k =
      let at = place_from_lookup (is_at (nat_cmp k.first)) m.entries k.last k.there in
      let key : k.first ≡ at.1 = same_key k.first at.1 at.3 in
      let low = k.low in
      there_at n m.entries at.0 at.1 k.last at.2 (omega (arith, key, low)) k.high

-- ---- a number more

-- what a free number makes of the runs, with those that it joins
pub record Joins (m now : BTreeMap ℕ ℕ) (n first last : ℕ) : Type 0 where
  pub free : IsFree m n
  pub begins : BeginsFor m n first
  pub ends : EndsFor m n last
  pub own : get nat_cmp now first ≡ Some last
  pub gone : n < last → get nat_cmp now (n + 1) ≡ None
  pub kept : (q : ℕ) → q ≢ first → (n < last → q ≢ n + 1) → get nat_cmp now q ≡ get nat_cmp m q

first_low : (m : BTreeMap ℕ ℕ) (n first : ℕ) → AreApart m → BeginsFor m n first → first ≤ n
first_low m n first apart begins = elim begins [
  | inl own ↦ (let is = own.0 in omega (arith, is))
  | inr one ↦ (let some = apart.some first one.0 one.1 in let next = one.2 in omega (arith, some, next))
]

module _ (m now : BTreeMap ℕ ℕ) (n first last : ℕ) (apart : AreApart m) (j : Joins m now n first last) where
  low : first ≤ n
  low = first_low m n first apart j.begins

  high : n ≤ last
  high = elim j.ends [
    | inl own ↦ (let is = own.0 in omega (arith, is))
    | inr one ↦ (let some = apart.some (n + 1) last one in omega (arith, some))
  ]

  -- a run now is the one that was made, or another as it was
  abbrev Stays : ℕ → ℕ → Type 0
  Stays f l = (f ≢ first) × (n < last → f ≢ n + 1) × (get nat_cmp m f ≡ Some l)

  which : (f l : ℕ) → get nat_cmp now f ≡ Some l → ((f ≡ first) × (l ≡ last)) ⊎ Stays f l
  which f l there = elim (cases_eq f first) [
    | inl is ↦ inl (is, same_Some l last (sym there ∙ ap (get nat_cmp now) is ∙ j.own))
    | inr other ↦
        let away : n < last → f ≢ n + 1 = λ more is. (let bad : Some l ≡ None = sym there ∙ ap (get nat_cmp now) is ∙ j.gone more in cc bad) in
        inr (other, away, sym (j.kept f other away) ∙ there)
  ]

  -- another that begins behind the first number begins behind the last, and not at once
  behind : (g k : ℕ) → Stays g k → first < g → last + 1 < g
  behind g k stays more =
      let beyond : n < g = (elim (cases_lt n g) [
        | inl y ↦ y
        | inr le ↦ absurd (
            let less = j.free g k stays.2 le in
            let some = apart.some g k stays.2 in
            elim j.begins [
              | inl own ↦ (let is = own.0 in omega (arith, is, more, le))
              | inr one ↦ (let after = apart.apart first one.0 g k one.1 stays.2 more in let next = one.2 in omega (arith, after, next, le, less, some))
            ])
      ]) in
      elim j.ends [
        | inl own ↦
            let is = own.0 in
            let other : g ≢ n + 1 = λ e. (let bad : None ≡ Some k = sym own.1 ∙ ap (get nat_cmp m) (sym e) ∙ stays.2 in cc bad) in
            elim (cases_lt (n + 1) g) [ inl y ↦ omega (arith, is, y) | inr le ↦ absurd (other (omega (arith, le, beyond))) ]
        | inr one ↦
            let some = apart.some (n + 1) last one in
            let other = stays.1 (omega (arith, some)) in
            apart.apart (n + 1) last g k one stays.2 (elim (cases_lt (n + 1) g) [ inl y ↦ y | inr le ↦ absurd (other (omega (arith, le, beyond))) ])
      ]

  -- and one that begins before it ends before it, and not at once
  before : (f l : ℕ) → Stays f l → f < first → l + 1 < first
  before f l stays less = elim j.begins [
    | inl own ↦
        let is = own.0 in
        let end = j.free f l stays.2 (omega (arith, is, less)) in
        elim (cases_lt (l + 1) n) [ inl y ↦ omega (arith, is, y) | inr ge ↦ absurd (own.1 f l stays.2 (omega (arith, end, ge))) ]
    | inr one ↦ apart.apart f l first one.0 stays.2 one.1 less
  ]

  small : n < 2 ^ 64 → last < 2 ^ 64
  small fits = elim j.ends [
    | inl own ↦ (let is = own.0 in omega (arith, is, fits))
    | inr one ↦ apart.fits (n + 1) last one
  ]

  pub still_apart : n < 2 ^ 64 → AreApart now
  still_apart fits = record {
    some = λ f l there. elim (which f l there) [
      | inl one ↦ (let f_is = one.0 in let l_is = one.1 in let a = low in let b = high in omega (arith, f_is, l_is, a, b))
      | inr stays ↦ apart.some f l stays.2
    ];
    fits = λ f l there. elim (which f l there) [
      | inl one ↦ subst (λ (k : ℕ). k < 2 ^ 64) (sym one.1) (small fits)
      | inr stays ↦ apart.fits f l stays.2
    ];
    apart = λ f l g k there other less. elim (which f l there) [
      | inl one ↦ elim (which g k other) [
        | inl two ↦ absurd (let a = one.0 in let b = two.0 in omega (arith, a, b, less))
        | inr stays ↦ (let a = one.0 in let b = one.1 in let after = behind g k stays (omega (arith, a, less)) in omega (arith, b, after))
      ]
      | inr stays ↦ elim (which g k other) [
        | inl two ↦ (let a = two.0 in let b = before f l stays (omega (arith, a, less)) in omega (arith, a, b))
        | inr staying ↦ apart.apart f l g k stays.2 staying.2 less
      ]
    ];
  }

  joined_in : (q : ℕ) → IsIn now q → (n ≡ q) ⊎ IsIn m q
  joined_in q k = elim (which k.first k.last k.there) [
    | inl one ↦
        let f_is = one.0 in
        let l_is = one.1 in
        let from = k.low in
        let to = k.high in
        elim (cases_lt q n) [
          | inl less ↦ elim j.begins [
            | inl own ↦ absurd (let is = own.0 in omega (arith, is, f_is, from, less))
            | inr run ↦ (let next = run.2 in inr (record { first = first; last = run.0; there = run.1; low = omega (arith, f_is, from); high = omega (arith, next, less) }))
          ]
          | inr le ↦ elim (cases_lt n q) [
            | inl more ↦ elim j.ends [
              | inl own ↦ absurd (let is = own.0 in omega (arith, is, l_is, to, more))
              | inr run ↦ inr (record { first = n + 1; last = last; there = run; low = omega (arith, more); high = omega (arith, l_is, to) })
            ]
            | inr ge ↦ inl (omega (arith, le, ge))
          ]
        ]
    | inr stays ↦ inr (record { first = k.first; last = k.last; there = stays.2; low = k.low; high = k.high })
  ]

  own_in : IsIn now n
  own_in = record { first = first; last = last; there = j.own; low = low; high = high }

  still_in : (q : ℕ) → IsIn m q → IsIn now q
  still_in q k =
      let from = k.low in
      let to = k.high in
      elim (cases_eq k.first first) [
        | inl is ↦
            let less = j.free k.first k.last k.there (let a = low in omega (arith, is, a)) in
            let b = high in
            record { first = first; last = last; there = j.own; low = omega (arith, is, from); high = omega (arith, to, less, b) }
        | inr other ↦ elim (cases_eq k.first (n + 1)) [
          | inl next ↦ elim j.ends [
            | inl own ↦ absurd (let bad : None ≡ Some k.last = sym own.1 ∙ ap (get nat_cmp m) (sym next) ∙ k.there in cc bad)
            | inr run ↦
                let l_is : k.last ≡ last = same_Some k.last last (sym k.there ∙ ap (get nat_cmp m) next ∙ run) in
                let a = low in
                record { first = first; last = last; there = j.own; low = omega (arith, a, next, from); high = omega (arith, l_is, to) }
          ]
          | inr away ↦ record { first = k.first; last = k.last; there = j.kept k.first other (λ more. away) ∙ k.there; low = from; high = to }
        ]
      ]

  pub run_more : IsOrdered nat_cmp m → IsOrdered nat_cmp now → counts_in now.entries ≡ set.insert (counts_in m.entries) n
  run_more ordered sorted = same_set nat_cmp_total nat_cmp-IsAntisymmetric (counts_in now.entries) (set.insert (counts_in m.entries) n) (λ q.
      alike (has_count q (counts_in now.entries)) (nat_eq n q || has_count q (counts_in m.entries))
      (λ y. elim (joined_in q (is_in now sorted q y)) [
        | inl is ↦ or_left (nat_eq n q) (has_count q (counts_in m.entries)) (eq-eqb n q is)
        | inr old ↦ or_right (nat_eq n q) (has_count q (counts_in m.entries)) (in_is m ordered q old)
      ])
      (λ y. elim (or_cases (nat_eq n q) (has_count q (counts_in m.entries)) y) [
        | inl e ↦ in_is now sorted q (subst (IsIn now) (eqb-true n q e) own_in)
        | inr old ↦ in_is now sorted q (still_in q (is_in m ordered q old))
      ])
      ∙ sym (counts_more q n (counts_in m.entries)))

-- a number that is there makes no other set
pub none_more : (m : BTreeMap ℕ ℕ) (n : ℕ) → IsOrdered nat_cmp m → IsIn m n → counts_in m.entries ≡ set.insert (counts_in m.entries) n
none_more m n ordered k = same_set nat_cmp_total nat_cmp-IsAntisymmetric (counts_in m.entries) (set.insert (counts_in m.entries) n) (λ q.
    alike (has_count q (counts_in m.entries)) (nat_eq n q || has_count q (counts_in m.entries))
    (or_right (nat_eq n q) (has_count q (counts_in m.entries)))
    (λ y. elim (or_cases (nat_eq n q) (has_count q (counts_in m.entries)) y) [
      | inl e ↦ subst (λ k. has_count k (counts_in m.entries) ≡ true) (eqb-true n q e) (in_is m ordered n k)
      | inr old ↦ old
    ])
    ∙ sym (counts_more q n (counts_in m.entries)))

-- a free number is in no run
pub not_in : (m : BTreeMap ℕ ℕ) (n : ℕ) → IsFree m n → IsIn m n → ⊥
not_in m n free k = let less = free k.first k.last k.there k.low in let to = k.high in omega (arith, less, to)

-- where a number is in a run or free, it is among the numbers or not
pub told : (m : BTreeMap ℕ ℕ) (n : ℕ) (o : Option ℕ) (b : Bool) → IsOrdered nat_cmp m → IfNone o (IsIn m n) → IfSome o (λ first. IsFree m n × BeginsFor m n first) → is_some o ≡ not b → b ≡ has_count n (counts_in m.entries)
told m n None b ordered is free e = not_false b (sym e) ∙ sym (in_is m ordered n is) where
  not_false : (a : Bool) → not a ≡ false → a ≡ true
  not_false true e = refl
  not_false false e = absurd cc
told m n (Some first) b ordered is free e = not_true b (sym e) ∙ sym (false_from_ne_true (has_count n (counts_in m.entries)) (λ y. not_in m n free.0 (is_in m ordered n y))) where
  not_true : (a : Bool) → not a ≡ true → a ≡ false
  not_true true e = absurd cc
  not_true false e = refl

-- ---- what a map makes of them

off_key : (k q : ℕ) → q ≢ k → is_at (nat_cmp k) q ≡ false
off_key k q other = unsigned_tied k q ∙ ne_eqb k q (λ e. other (sym e))

module _ (m put : BTreeMap ℕ ℕ) (n first last : ℕ) (apart : AreApart m) (free : IsFree m n) (begins : BeginsFor m n first) (ends : EndsFor m n last) (within : n ≤ last) (puts : Updates nat_cmp m put first (Some last)) where
  -- the run that it makes is put in
  pub joins_one : (n < last → ⊥) → Joins m put n first last
  joins_one alone = record {
    free = free;
    begins = begins;
    ends = ends;
    own = puts.1;
    gone = λ more. absurd (alone more);
    kept = λ q other away. puts.2 q (off_key first q other);
  }

  -- and the one behind the number is taken out
  pub joins_both : (now : BTreeMap ℕ ℕ) → n < last → Updates nat_cmp put now (n + 1) None → Joins m now n first last
  joins_both now more takes = record {
    free = free;
    begins = begins;
    ends = ends;
    own = takes.2 first (off_key (n + 1) first (λ e. let low = first_low m n first apart begins in omega (arith, e, low))) ∙ puts.1;
    gone = λ y. takes.1;
    kept = λ q other away. takes.2 q (off_key (n + 1) q (away more)) ∙ puts.2 q (off_key first q other);
  }
