-- The open deeds of all transactions in one list.
use Rattle.std.proofs.Common.{◌≡◌, ℕ, ◌+◌, Bool, true, false, not, cond, List, [], ◌∷◌, length, map, refl, sym, ◌∙◌, ap, subst, inl, inr, arith, ◌≤◌}
use Rattle.std.specs.List.{filter, sum_by}
use Rattle.std.proofs.lemmas.Bool.{cases_Bool, false≢true, not-true}
use Rattle.std.proofs.lemmas.List.Sums.{sum_by-cons}
use Rattle.rq_model.specs.declared.txn.Txn.{Txn}
use Rattle.rq_model.specs.Vocabulary.{In, same_txn}
use Rattle.rq_model.proofs.Lists.{In-filter, same_is, same_self}
use Rattle.rq_views.specs.Log.{Item}
use Rattle.rq_views.specs.Log.Item.{OpEnd, CompEnd, Commit}
use Rattle.rq_views.specs.Legal.{Placed, open_deeds, rest_placed}
use Rattle.rq_views.specs.Claims.{takes_of, takes_placed}

-- a deed, and whose it is
pub record Owned : Type 0 where
  pub txn : Txn
  pub placed : Placed

abbrev pub placed_of : Owned → Placed
placed_of x = x.placed

abbrev pub owned_by : Txn → Owned → Bool
owned_by t x = same_txn x.txn t

-- all but the first that passes
abbrev pub but_first : {X : Type 0} → (X → Bool) → List X → List X
but_first f [] = []
but_first f (x ∷ xs) = cond (f x) xs (x ∷ but_first f xs)

-- those that do not pass
abbrev pub but_all : {X : Type 0} → (X → Bool) → List X → List X
but_all f xs = filter (λ x. not (f x)) xs

abbrev all_after : ℕ → Item → List Owned → List Owned
all_after n (OpEnd o d) xs = record { txn = o.txn; placed = record { lsn = n; deed = d } } ∷ xs
all_after n (CompEnd o u) xs = but_first (owned_by o.txn) xs
all_after n (Commit t) xs = but_all (owned_by t) xs
all_after n _ xs = xs

abbrev pub all_open : List Item → List Owned
all_open [] = []
all_open (r ∷ log) = all_after (length log + 1) r (all_open log)

-- those of one kind, where some are left out
abbrev pub tail : {X : Type 0} → List X → List X
tail [] = []
tail (x ∷ xs) = xs

own_but_first : {X : Type 0} (f : X → Bool) (xs : List X) → filter f (but_first f xs) ≡ tail (filter f xs)
own_but_first f [] = refl
own_but_first f (y ∷ xs) = elim (cases_Bool (f y)) [ inl t ↦ rw t refl | inr n ↦ rw n (rw n (own_but_first f xs)) ]

own_but_all : {X : Type 0} (f : X → Bool) (xs : List X) → filter f (but_all f xs) ≡ []
own_but_all f [] = refl
own_but_all f (y ∷ xs) =
    elim (cases_Bool (f y)) [ inl t ↦ rw t (own_but_all f xs) | inr n ↦ rw n (rw n (own_but_all f xs)) ]

other_but_first : {X : Type 0} (f g : X → Bool) (xs : List X) → ((x : X) → g x ≡ true → f x ≡ false)
    → filter f (but_first g xs) ≡ filter f xs
other_but_first f g [] h = refl
other_but_first f g (y ∷ xs) h = elim (cases_Bool (g y)) [
  | inl t ↦ rw (t, h y t) refl
  | inr n ↦ elim (cases_Bool (f y)) [
    | inl a ↦ rw (n, a) (ap (λ l. y ∷ l) (other_but_first f g xs h))
    | inr b ↦ rw (n, b) (other_but_first f g xs h)
  ]
]

pub other_but_all : {X : Type 0} (f g : X → Bool) (xs : List X) → ((x : X) → g x ≡ true → f x ≡ false)
    → filter f (but_all g xs) ≡ filter f xs
other_but_all f g [] h = refl
other_but_all f g (y ∷ xs) h = elim (cases_Bool (g y)) [
  | inl t ↦ rw (t, h y t) (other_but_all f g xs h)
  | inr n ↦ elim (cases_Bool (f y)) [
    | inl a ↦ rw (n, a) (ap (λ l. y ∷ l) (other_but_all f g xs h))
    | inr b ↦ rw (n, b) (other_but_all f g xs h)
  ]
]

pub in_but_all : {X : Type 0} (f : X → Bool) (xs : List X) (x : X) → In x (but_all f xs) → In x xs × (f x ≡ false)
in_but_all f xs x h = let k = In-filter (λ y. not (f y)) xs x h in (k.0, not-true (f x) k.1)

pub filter_in : {X : Type 0} (p : X → Bool) (xs : List X) (x : X) → In x xs → p x ≡ true → In x (filter p xs)
filter_in p [] x h k = absurd h
filter_in p (y ∷ xs) x h k = elim (cases_Bool (p y)) [
  | inl t ↦ rw t (elim h [ inl e ↦ inl e | inr i ↦ inr (filter_in p xs x i k) ])
  | inr n ↦ rw n (elim h [ inl e ↦ absurd (false≢true (sym n ∙ ap p (sym e) ∙ k)) | inr i ↦ filter_in p xs x i k ])
]

apart : (t u : Txn) → same_txn t u ≡ false → (x : Owned) → owned_by t x ≡ true → owned_by u x ≡ false
apart t u n x e = ap (λ y. same_txn y u) (same_is x.txn t e) ∙ n

tail_placed : (xs : List Owned) → map placed_of (tail xs) ≡ rest_placed (map placed_of xs)
tail_placed [] = refl
tail_placed (x ∷ xs) = refl

abbrev own : Txn → List Item → List Owned
own t log = filter (owned_by t) (all_open log)

-- of each transaction, those that it has open
pub own_open : (t : Txn) (log : List Item) → map placed_of (filter (owned_by t) (all_open log)) ≡ open_deeds t log
own_open t [] = refl
own_open t (OpEnd o d ∷ log) = elim (cases_Bool (same_txn o.txn t)) [
  | inl y ↦ rw y (ap (λ l. record { lsn = length log + 1; deed = d } ∷ l) (own_open t log))
  | inr n ↦ rw n (own_open t log)
]
own_open t (CompEnd o u ∷ log) = elim (cases_Bool (same_txn o.txn t)) [
  | inl y ↦
      let mine : filter (owned_by t) (but_first (owned_by o.txn) (all_open log)) ≡ tail (own t log) =
      subst (λ v. filter (owned_by t) (but_first (owned_by v) (all_open log)) ≡ tail (own t log)) (sym (same_is o.txn t y)) (own_but_first (owned_by t) (all_open log)) in
      ap (map placed_of) mine ∙ tail_placed (own t log) ∙ ap rest_placed (own_open t log) ∙ rw y refl
  | inr n ↦ ap (map placed_of) (other_but_first (owned_by t) (owned_by o.txn) (all_open log) (apart o.txn t n)) ∙ own_open t log ∙ rw n refl
]
own_open t (Commit u ∷ log) = elim (cases_Bool (same_txn u t)) [
  | inl y ↦ ap (map placed_of) (subst (λ v. filter (owned_by t) (but_all (owned_by v) (all_open log)) ≡ []) (sym (same_is u t y)) (own_but_all (owned_by t) (all_open log))) ∙ rw y refl
  | inr n ↦ ap (map placed_of) (other_but_all (owned_by t) (owned_by u) (all_open log) (apart u t n)) ∙ own_open t log ∙ rw n refl
]
own_open t (_ ∷ log) = own_open t log

none_mapped : (xs : List Owned) (x : Owned) → map placed_of xs ≡ [] → In x xs → ⊥
none_mapped [] x e h = h
none_mapped (y ∷ xs) x e h = cc

-- where a transaction has nothing open, none of them is its own
pub none_open : (log : List Item) (x : Owned) → In x (all_open log) → open_deeds x.txn log ≡ [] → ⊥
none_open log x i e =
    none_mapped (own x.txn log) x (own_open x.txn log ∙ e)
    (filter_in (owned_by x.txn) (all_open log) x i (same_self x.txn))

-- the messages that these took
abbrev pub taken : List Owned → ℕ
taken [] = 0
taken (x ∷ xs) = takes_placed x.placed + taken xs

pub taken_placed : (xs : List Owned) → sum_by takes_placed (map placed_of xs) ≡ taken xs
taken_placed [] = refl
taken_placed (x ∷ xs) =
    sum_by-cons takes_placed x.placed (map placed_of xs) ∙ ap (λ n. takes_placed x.placed + n) (taken_placed xs)

pub taken_parts : (f : Owned → Bool) (xs : List Owned) → taken (but_all f xs) + taken (filter f xs) ≡ taken xs
taken_parts f [] = refl
taken_parts f (x ∷ xs) =
    let h = taken_parts f xs in
    elim (cases_Bool (f x)) [ inl y ↦ rw y (omega (arith, h)) | inr n ↦ rw n (omega (arith, h)) ]

-- how many messages the newest of these took
abbrev pub newest_takes : List Placed → ℕ
newest_takes [] = 0
newest_takes (p ∷ ps) = takes_of p.deed

pub taken_first : (f : Owned → Bool) (xs : List Owned)
    → taken (but_first f xs) + newest_takes (map placed_of (filter f xs)) ≡ taken xs
taken_first f [] = refl
taken_first f (x ∷ xs) =
    let h = taken_first f xs in
    elim (cases_Bool (f x)) [ inl y ↦ rw y (omega arith) | inr n ↦ rw n (omega (arith, h)) ]

-- one transaction took no more than all
pub own_taken : (t : Txn) (log : List Item) → sum_by takes_placed (open_deeds t log) ≤ taken (all_open log)
own_taken t log =
    let a : sum_by takes_placed (open_deeds t log) ≡ taken (own t log) =
    ap (sum_by takes_placed) (sym (own_open t log)) ∙ taken_placed (own t log) in
    let b = taken_parts (owned_by t) (all_open log) in
    omega (arith, a, b)
