-- The heads of transactions: their order, and what is found after one of them changed.
use Rattle.std.proofs.Common.{◌≡◌, ◌⊎◌, ℕ, ◌-◌, zero, suc, ◌<◌, ◌≤◌, Bool, true, false, cond, nat_eq, ltb, ◌&&◌, ◌||◌, List, [], ◌∷◌, ◌++◌, length, take, drop, set, get_or, Option, Some, None, refl, sym, ◌∙◌, ap, subst, inl, inr, arith}
use Rattle.std.proofs.lemmas.List.{take-append-drop, take-set-le, drop-set-lt, length-set, get_or-set_same}
use Rattle.std.proofs.Math.Seq.{drop-cons}
use Rattle.std.proofs.lemmas.Bool.{cases_Bool, cases_eq, cases_lt, lt-ltb, eq-eqb, and_from, true≢false, or_right}
use Rattle.std.proofs.lemmas.Bool.Decides.{nat_tests}
use Rattle.std.specs.List.Sorted.{IsPartitionedBy}
use Rattle.rq_model.specs.declared.txn.Txn.{Txn}
use Rattle.rq_model.specs.Vocabulary.{In, same_txn}
use Rattle.rq_model.proofs.Lists.{same_is, same_self, not_same}
use Rattle.rq_groups.specs.declared.heads.Head.{Head}
use Rattle.rq_groups.specs.Heads.{is_before, AreInOrder, AreBefore, newest_of, IsAt, IsGap, IsTurned}

-- ---- the order of transactions

before_cases : (a b : Txn) → is_before a b ≡ true → (a.incarnation < b.incarnation) ⊎ ((a.incarnation ≡ b.incarnation) × (a.count < b.count))
before_cases a b h =
    elim (cases_lt a.incarnation b.incarnation) [
      | inl lt ↦ inl lt
      | inr ge ↦ elim (cases_eq a.incarnation b.incarnation) [
        | inl same ↦ elim (cases_lt a.count b.count) [
          | inl lt ↦ inr (same, lt)
          | inr above ↦ absurd (grind (arith, nat_tests, h))
        ]
        | inr other ↦ absurd (grind (arith, nat_tests, h))
      ]
    ]

before_earlier : (a b : Txn) → a.incarnation < b.incarnation → is_before a b ≡ true
before_earlier a b lt = ap (λ x. x || (nat_eq a.incarnation b.incarnation && ltb a.count b.count)) (lt-ltb a.incarnation b.incarnation lt)

before_later : (a b : Txn) → a.incarnation ≡ b.incarnation → a.count < b.count → is_before a b ≡ true
before_later a b same lt =
    or_right (ltb a.incarnation b.incarnation) (nat_eq a.incarnation b.incarnation && ltb a.count b.count)
    (ap (λ x. x && ltb a.count b.count) (eq-eqb a.incarnation b.incarnation same) ∙ lt-ltb a.count b.count lt)

pub before_trans : (a b c : Txn) → is_before a b ≡ true → is_before b c ≡ true → is_before a c ≡ true
before_trans a b c h k =
    elim (before_cases a b h) [
      | inl i ↦ elim (before_cases b c k) [ inl j ↦ before_earlier a c (omega arith) | inr j ↦ let e = j.0 in before_earlier a c (omega (arith, e)) ]
      | inr i ↦ elim (before_cases b c k) [
        | inl j ↦ let e = i.0 in before_earlier a c (omega (arith, e))
        | inr j ↦ let x = i.1 in let y = j.1 in before_later a c (i.0 ∙ j.0) (omega (arith, x, y))
      ]
    ]

before_self : (a : Txn) → is_before a a ≡ true → ⊥
before_self a h = elim (before_cases a a h) [ inl i ↦ omega arith | inr i ↦ let x = i.1 in omega (arith, x) ]

pub before_other : (a b : Txn) → is_before a b ≡ true → same_txn a b ≡ false
before_other a b h =
    elim (cases_Bool (same_txn a b)) [
      | inl e ↦ absurd (before_self b (ap (λ u. is_before u b) (sym (same_is a b e)) ∙ h))
      | inr e ↦ e
    ]

same_swap : (a b : Txn) → same_txn a b ≡ false → same_txn b a ≡ false
same_swap a b h = elim (cases_Bool (same_txn b a)) [ inl t ↦ absurd (not_same a b h (sym (same_is b a t))) | inr f ↦ f ]

-- one that is neither before another nor the same comes after it
pub before_swap : (a b : Txn) → is_before a b ≡ false → same_txn a b ≡ false → is_before b a ≡ true
before_swap a b n h =
    elim (cases_lt b.incarnation a.incarnation) [
      | inl lt ↦ before_earlier b a lt
      | inr ge ↦ elim (cases_lt a.incarnation b.incarnation) [
        | inl lt ↦ let t = before_earlier a b lt in absurd (cc)
        | inr le ↦
            let same : a.incarnation ≡ b.incarnation = omega arith in
            elim (cases_lt b.count a.count) [
              | inl lt ↦ before_later b a (sym same) lt
              | inr up ↦ elim (cases_lt a.count b.count) [
                | inl lt ↦ let t = before_later a b same lt in absurd (cc)
                | inr down ↦
                    let count : a.count ≡ b.count = omega arith in
                    absurd (true≢false (sym (and_from (nat_eq a.incarnation b.incarnation) (nat_eq a.count b.count) (eq-eqb a.incarnation b.incarnation same) (eq-eqb a.count b.count count)) ∙ h))
              ]
            ]
      ]
    ]

-- ---- what stands where

pub in_take : (hs : List Head) (i : ℕ) (P : Head → Type 0) → ((k : ℕ) (d : Head) → k < i → k < length hs → P (get_or hs k d)) → (x : Head) → In x (take i hs) → P x
in_take [] zero P f x j = absurd j
in_take [] (suc i) P f x j = absurd j
in_take (h ∷ hs) zero P f x j = absurd j
in_take (h ∷ hs) (suc i) P f x j =
    elim j [
      | inl e ↦ subst P (sym e) (f 0 h (omega arith) (omega arith))
      | inr k ↦ in_take hs i P (λ m d a b. f (suc m) d (omega arith) (omega arith)) x k
    ]

pub in_drop : (hs : List Head) (i : ℕ) (P : Head → Type 0) → ((k : ℕ) (d : Head) → i ≤ k → k < length hs → P (get_or hs k d)) → (x : Head) → In x (drop i hs) → P x
in_drop [] zero P f x j = absurd j
in_drop [] (suc i) P f x j = absurd j
in_drop (h ∷ hs) zero P f x j =
    elim j [
      | inl e ↦ subst P (sym e) (f 0 h (omega arith) (omega arith))
      | inr k ↦ in_drop hs 0 P (λ m d a b. f (suc m) d (omega arith) (omega arith)) x k
    ]
in_drop (h ∷ hs) (suc i) P f x j = in_drop hs i P (λ m d a b. f (suc m) d (omega arith) (omega arith)) x j

get_in : (hs : List Head) (i : ℕ) (d : Head) → i < length hs → In (get_or hs i d) hs
get_in [] i d lt = absurd (omega arith)
get_in (h ∷ hs) zero d lt = inl refl
get_in (h ∷ hs) (suc i) d lt = inr (get_in hs i d (omega arith))

-- a head before an earlier transaction's is before the later one too
pub order_pair : (hs : List Head) (i j : ℕ) (d : Head) → AreInOrder hs → i < j → j < length hs → is_before (get_or hs i d).txn (get_or hs j d).txn ≡ true
order_pair [] i j d o lt l = absurd (omega arith)
order_pair (h ∷ hs) zero zero d o lt l = absurd (omega arith)
order_pair (h ∷ hs) zero (suc j) d o lt l = o.0 (get_or hs j d) (get_in hs j d (omega arith))
order_pair (h ∷ hs) (suc i) zero d o lt l = absurd (omega arith)
order_pair (h ∷ hs) (suc i) (suc j) d o lt l = order_pair hs i j d o.1 (omega arith) (omega arith)

pub parted : (hs : List Head) (t : Txn) → AreInOrder hs → IsPartitionedBy (λ (h : Head). is_before h.txn t) hs
parted hs t o i j d le lt e =
    elim (cases_lt i j) [
      | inl below ↦ before_trans (get_or hs i d).txn (get_or hs j d).txn t (order_pair hs i j d o below lt) e
      | inr above ↦ let same : i ≡ j = omega arith in ap (λ k. is_before (get_or hs k d).txn t) same ∙ e
    ]

order_rest : (xs ys : List Head) → AreInOrder (xs ++ ys) → AreInOrder ys
order_rest [] ys o = o
order_rest (x ∷ xs) ys o = order_rest xs ys o.1

pub order_drop : (hs : List Head) (i : ℕ) → AreInOrder hs → AreInOrder (drop i hs)
order_drop hs i o = order_rest (take i hs) (drop i hs) (subst AreInOrder (sym (take-append-drop i hs)) o)

-- ---- what is found

pub newest_front : (t : Txn) (xs ys : List Head) → ((x : Head) → In x xs → is_before x.txn t ≡ true) → newest_of t (xs ++ ys) ≡ newest_of t ys
newest_front t [] ys b = refl
newest_front t (x ∷ xs) ys b = rw (before_other x.txn t (b x (inl refl))) (newest_front t xs ys (λ y j. b y (inr j)))

newest_none : (t : Txn) (ys : List Head) → ((x : Head) → In x ys → is_before t x.txn ≡ true) → newest_of t ys ≡ None
newest_none t [] a = refl
newest_none t (y ∷ ys) a = rw (same_swap t y.txn (before_other t y.txn (a y (inl refl)))) (newest_none t ys (λ x j. a x (inr j)))

newest_first : (t : Txn) (h : Head) (hs : List Head) → h.txn ≡ t → newest_of t (h ∷ hs) ≡ Some h.newest
newest_first t h hs e = rw (ap (λ u. same_txn u t) e ∙ same_self t) refl

pub found_at : (hs : List Head) (t : Txn) (i : ℕ) (d : Head) → IsAt hs t i → newest_of t hs ≡ Some (get_or hs i d).newest
found_at hs t i d at =
    ap (newest_of t) (sym (take-append-drop i hs)) ∙ newest_front t (take i hs) (drop i hs) at.before ∙ ap (newest_of t) (drop-cons hs i d at.within) ∙ newest_first t (get_or hs i d) (drop (suc i) hs) (at.own d)

pub found_none : (hs : List Head) (t : Txn) (i : ℕ) → IsGap hs t i → newest_of t hs ≡ None
found_none hs t i gap =
    ap (newest_of t) (sym (take-append-drop i hs)) ∙ newest_front t (take i hs) (drop i hs) gap.before ∙ newest_none t (drop i hs) gap.after

-- the place that a search answers is a gap where another stands there
pub gap_beside : (hs : List Head) (t : Txn) (i : ℕ) (d : Head) → AreInOrder hs → i < length hs → AreBefore hs t i → ((x : Head) → In x (drop i hs) → is_before x.txn t ≡ false) → same_txn (get_or hs i d).txn t ≡ false → IsGap hs t i
gap_beside hs t i d o lt b a n =
    let cut : drop i hs ≡ get_or hs i d ∷ drop (suc i) hs = drop-cons hs i d lt in
    let rest = subst AreInOrder cut (order_drop hs i o) in
    let here : is_before t (get_or hs i d).txn ≡ true = before_swap (get_or hs i d).txn t (a (get_or hs i d) (subst (In (get_or hs i d)) (sym cut) (inl refl))) n in
    record {
      within = omega arith;
      before = b;
      after = λ x j. elim (subst (In x) cut j) [
        | inl e ↦ ap (λ (y : Head). is_before t y.txn) e ∙ here
        | inr k ↦ before_trans t (get_or hs i d).txn x.txn here (rest.0 x k)
      ];
    }

-- ---- one of them changes

-- what comes behind the same front is found the same but for t's
front_each : (t u : Txn) (v : Option ℕ) (xs old new : List Head) → ((x : Head) → In x xs → is_before x.txn t ≡ true) → newest_of u new ≡ cond (same_txn t u) v (newest_of u old) → newest_of u (xs ++ new) ≡ cond (same_txn t u) v (newest_of u (xs ++ old))
front_each t u v [] old new b e = e
front_each t u v (x ∷ xs) old new b e =
    let rest = front_each t u v xs old new (λ y j. b y (inr j)) e in
    elim (cases_Bool (same_txn x.txn u)) [
      | inl s ↦
          let other : same_txn t u ≡ false = ap (same_txn t) (sym (same_is x.txn u s)) ∙ same_swap x.txn t (before_other x.txn t (b x (inl refl))) in
          rw (s, other) refl
      | inr n ↦ rw n rest
    ]

in_front : (t : Txn) (xs old new : List Head) (y : Head) → ((y : Head) → In y new → (y.txn ≡ t) ⊎ In y old) → In y (xs ++ new) → (y.txn ≡ t) ⊎ In y (xs ++ old)
in_front t [] old new y each j = each y j
in_front t (x ∷ xs) old new y each j =
    elim j [
      | inl e ↦ inr (inl e)
      | inr k ↦ elim (in_front t xs old new y each k) [ inl e ↦ inl e | inr m ↦ inr (inr m) ]
    ]

front_order : (t : Txn) (xs old new : List Head) → AreInOrder (xs ++ old) → ((x : Head) → In x xs → is_before x.txn t ≡ true) → ((y : Head) → In y new → (y.txn ≡ t) ⊎ In y old) → AreInOrder new → AreInOrder (xs ++ new)
front_order t [] old new o b each p = p
front_order t (x ∷ xs) old new o b each p = (
  λ y j. elim (in_front t xs old new y each j) [
    | inl e ↦ ap (λ u. is_before x.txn u) e ∙ b x (inl refl)
    | inr m ↦ o.0 y m
  ],
  front_order t xs old new o.1 (λ y j. b y (inr j)) each p,
)

-- the heads behind a place are changed
turned_behind : (hs new : List Head) (t : Txn) (v : Option ℕ) (i : ℕ) → AreInOrder hs → AreBefore hs t i → ((y : Head) → In y new → (y.txn ≡ t) ⊎ In y (drop i hs)) → AreInOrder new → ((u : Txn) → newest_of u new ≡ cond (same_txn t u) v (newest_of u (drop i hs))) → IsTurned t v hs (take i hs ++ new)
turned_behind hs new t v i o b each p e =
    let cut = take-append-drop i hs in
    record {
      order = front_order t (take i hs) (drop i hs) new (subst AreInOrder (sym cut) o) b each p;
      each = λ u. front_each t u v (take i hs) (drop i hs) new b (e u) ∙ ap (λ l. cond (same_txn t u) v (newest_of u l)) cut;
    }

cond_over : {X : Type 0} (b : Bool) (v w : X) (a : Bool) (x : X) → (a ≡ b) → cond b v x ≡ cond b v (cond a w x)
cond_over true v w a x e = refl
cond_over false v w a x e = rw e refl

pub turned_insert : (hs : List Head) (t : Txn) (n i : ℕ) → AreInOrder hs → IsGap hs t i → IsTurned t (Some n) hs (take i hs ++ record { txn = t; newest = n } ∷ drop i hs)
turned_insert hs t n i o gap =
    turned_behind hs (record { txn = t; newest = n } ∷ drop i hs) t (Some n) i o gap.before
    (λ y j. elim j [ inl e ↦ inl (ap (λ (h : Head). h.txn) e) | inr k ↦ inr k ])
    (gap.after, order_drop hs i o)
    (λ u. refl)

pub turned_set : (hs : List Head) (t : Txn) (n i : ℕ) (d : Head) → AreInOrder hs → IsAt hs t i → IsTurned t (Some n) hs (set hs i (record { txn = t; newest = n }))
turned_set hs t n i d o at =
    let q : Head = record { txn = t; newest = n } in
    let cut : drop i hs ≡ get_or hs i d ∷ drop (suc i) hs = drop-cons hs i d at.within in
    let rest = subst AreInOrder cut (order_drop hs i o) in
    let whole : take i hs ++ q ∷ drop (suc i) hs ≡ set hs i q = sym (
    sym (take-append-drop i (set hs i q))
    ∙ ap (λ l. l ++ drop i (set hs i q)) (take-set-le i hs i q (omega arith))
    ∙ ap (λ l. take i hs ++ l) (drop-cons (set hs i q) i d (let w = at.within in let l = length-set hs i q in omega (arith, w, l)))
    ∙ ap (λ y. take i hs ++ y ∷ drop (suc i) (set hs i q)) (get_or-set_same hs i q d at.within)
    ∙ ap (λ l. take i hs ++ q ∷ l) (drop-set-lt (suc i) hs i q (omega arith))
    ) in
    subst (IsTurned t (Some n) hs) whole (turned_behind hs (q ∷ drop (suc i) hs) t (Some n) i o at.before
    (λ y j. elim j [ inl e ↦ inl (ap (λ (h : Head). h.txn) e) | inr k ↦ inr (subst (In y) (sym cut) (inr k)) ])
    ((λ x j. ap (λ u. is_before u x.txn) (sym (at.own d)) ∙ rest.0 x j), rest.1)
    (λ u. cond_over (same_txn t u) (Some n) (Some (get_or hs i d).newest) (same_txn (get_or hs i d).txn u) (newest_of u (drop (suc i) hs)) (ap (λ w. same_txn w u) (at.own d))
    ∙ ap (λ l. cond (same_txn t u) (Some n) (newest_of u l)) (sym cut)))

none_behind : (t u : Txn) (h : Head) (ys : List Head) → h.txn ≡ t → ((x : Head) → In x ys → is_before h.txn x.txn ≡ true) → newest_of u ys ≡ cond (same_txn t u) None (newest_of u (h ∷ ys))
none_behind t u h ys e a =
    elim (cases_Bool (same_txn t u)) [
      | inl s ↦ rw s (newest_none u ys (λ x j. ap (λ w. is_before w x.txn) (sym (e ∙ same_is t u s)) ∙ a x j))
      | inr n ↦ let own : same_txn h.txn u ≡ false = ap (λ w. same_txn w u) e ∙ n in rw (n, own) refl
    ]

pub turned_remove : (hs : List Head) (t : Txn) (i : ℕ) (d : Head) → AreInOrder hs → IsAt hs t i → IsTurned t None hs (take i hs ++ drop (suc i) hs)
turned_remove hs t i d o at =
    let cut : drop i hs ≡ get_or hs i d ∷ drop (suc i) hs = drop-cons hs i d at.within in
    let rest = subst AreInOrder cut (order_drop hs i o) in
    turned_behind hs (drop (suc i) hs) t None i o at.before
    (λ y j. inr (subst (In y) (sym cut) (inr j)))
    rest.1
    (λ u. none_behind t u (get_or hs i d) (drop (suc i) hs) (at.own d) rest.0 ∙ ap (λ l. cond (same_txn t u) None (newest_of u l)) (sym cut))

cond_same : {X : Type 0} (b : Bool) (x y : X) → (b ≡ true → x ≡ y) → y ≡ cond b x y
cond_same true x y e = sym (e refl)
cond_same false x y e = refl

-- where there is no head nothing is to be removed
pub turned_none : (hs : List Head) (t : Txn) (i : ℕ) → AreInOrder hs → IsGap hs t i → IsTurned t None hs hs
turned_none hs t i o gap = record {
  order = o;
  each = λ u. cond_same (same_txn t u) None (newest_of u hs) (λ e. sym (ap (λ w. newest_of w hs) (sym (same_is t u e)) ∙ found_none hs t i gap));
}

-- ---- the last head

get_or_any : (hs : List Head) (i : ℕ) (d e : Head) → i < length hs → get_or hs i d ≡ get_or hs i e
get_or_any [] i d e lt = absurd (omega arith)
get_or_any (h ∷ hs) zero d e lt = refl
get_or_any (h ∷ hs) (suc i) d e lt = get_or_any hs i d e (omega arith)

pub gap_at_end : (hs : List Head) (t : Txn) (d : Head) → AreInOrder hs → (1 ≤ length hs → is_before (get_or hs (length hs - 1) d).txn t ≡ true) → IsGap hs t (length hs)
gap_at_end hs t d order earlier = record {
  within = omega arith;
  before = in_take hs (length hs) (λ h. is_before h.txn t ≡ true) (λ k e lt l.
      elim (cases_eq k (length hs - 1)) [
        | inl last ↦ ap (λ i. is_before (get_or hs i e).txn t) last ∙ ap (λ (h : Head). is_before h.txn t) (get_or_any hs (length hs - 1) e d (omega arith)) ∙ earlier (omega arith)
        | inr other ↦ before_trans (get_or hs k e).txn (get_or hs (length hs - 1) e).txn t (order_pair hs k (length hs - 1) e order (omega arith) (omega arith)) (ap (λ (h : Head). is_before h.txn t) (get_or_any hs (length hs - 1) e d (omega arith)) ∙ earlier (omega arith))
      ]);
  after = in_drop hs (length hs) (λ h. is_before t h.txn ≡ true) (λ k e ge l. absurd (omega arith));
}

pub at_end : (hs : List Head) (t : Txn) (d : Head) → AreInOrder hs → 1 ≤ length hs → (get_or hs (length hs - 1) d).txn ≡ t → IsAt hs t (length hs - 1)
at_end hs t d order some own = record {
  within = omega arith;
  before = in_take hs (length hs - 1) (λ h. is_before h.txn t ≡ true) (λ k e lt l. subst (λ u. is_before (get_or hs k e).txn u ≡ true) (ap (λ (h : Head). h.txn) (get_or_any hs (length hs - 1) e d (omega arith)) ∙ own) (order_pair hs k (length hs - 1) e order lt (omega arith)));
  own = λ e. ap (λ (h : Head). h.txn) (get_or_any hs (length hs - 1) e d (omega arith)) ∙ own;
}
