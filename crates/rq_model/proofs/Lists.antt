-- Laws of lists that the proofs share.
use Rattle.std.proofs.Common.{◌≡◌, ℕ, zero, suc, List, [], ◌∷◌, ◌++◌, ◌||◌, length, take, drop, map, reverse, refl, sym, ◌∙◌, ap, subst, Bool, true, false, Some, append_assoc, ◌⊎◌, inl, inr, nat_eq, ◌≢◌}
use Rattle.std.specs.List.{filter, slice_get}
use Rattle.std.proofs.lemmas.List.{reverse-append}
use Rattle.std.proofs.lemmas.List.Prefix.{front_rest}
use Rattle.std.proofs.lemmas.Bool.{cases_Bool, and_parts, eqb-true, eq-eqb, and_from, true≢false}
use Rattle.std.proofs.lemmas.Option.{same_Some}
use Rattle.rq_model.specs.declared.txn.Txn.{Txn}
use Rattle.rq_model.specs.Vocabulary.{IsPrefix, In, same_txn}

pub prefix_nil : {X : Type 0} (ys : List X) → IsPrefix [] ys
prefix_nil ys = (ys, refl)

pub prefix_longer : {X : Type 0} (xs ys zs : List X) → IsPrefix xs ys → IsPrefix xs (ys ++ zs)
prefix_longer xs ys zs h = (h.0 ++ zs, sym (append_assoc xs h.0 zs) ∙ ap (λ l. l ++ zs) h.1)

-- a front of a prefix is a prefix
pub prefix_shorter : {X : Type 0} (xs zs ys : List X) → IsPrefix (xs ++ zs) ys → IsPrefix xs ys
prefix_shorter xs zs ys h = (zs ++ h.0, sym (append_assoc xs zs h.0) ∙ h.1)

pub prefix_rest : {X : Type 0} (xs ys : List X) (h : IsPrefix xs ys) → drop (length xs) ys ≡ h.0
prefix_rest xs ys h = front_rest ys xs h.0 (sym h.1)

pub prefix_whole : {X : Type 0} (xs ys : List X) → IsPrefix xs ys → xs ++ drop (length xs) ys ≡ ys
prefix_whole xs ys h = ap (λ l. xs ++ l) (prefix_rest xs ys h) ∙ h.1

-- what follows a prefix when more comes behind
pub prefix_rest_more : {X : Type 0} (xs ys zs : List X) → IsPrefix xs ys → drop (length xs) (ys ++ zs) ≡ drop (length xs) ys ++ zs
unfolding prefix_longer
prefix_rest_more xs ys zs h = prefix_rest xs (ys ++ zs) (prefix_longer xs ys zs h) ∙ ap (λ l. l ++ zs) (sym (prefix_rest xs ys h))

at_seam : {X : Type 0} (xs r : List X) → slice_get (xs ++ r) (length xs) ≡ slice_get r 0
at_seam [] r = refl
at_seam (x ∷ xs) r = at_seam xs r

head_is : {X : Type 0} (r : List X) (m : X) → slice_get r 0 ≡ Some m → m ∷ drop 1 r ≡ r
head_is [] m e = cc
head_is (x ∷ r) m e = ap (λ y. y ∷ r) (sym (same_Some x m e))

pub prefix_next : {X : Type 0} (xs ys : List X) (m : X) → IsPrefix xs ys → slice_get ys (length xs) ≡ Some m → IsPrefix (xs ++ m ∷ []) ys
prefix_next xs ys m h g =
    let e : slice_get h.0 0 ≡ Some m = sym (at_seam xs h.0) ∙ ap (λ l. slice_get l (length xs)) h.1 ∙ g in
    (drop 1 h.0, append_assoc xs (m ∷ []) (drop 1 h.0) ∙ ap (λ l. xs ++ l) (head_is h.0 m e) ∙ h.1)

-- a prefix, and a prefix of what follows it
pub prefix_join : {X : Type 0} (xs ys zs ws : List X) → IsPrefix xs zs → IsPrefix ys (drop (length xs) zs) → IsPrefix (xs ++ ys) (zs ++ ws)
prefix_join xs ys zs ws h g =
    prefix_longer (xs ++ ys) zs ws
    (g.0, append_assoc xs ys g.0 ∙ ap (λ l. xs ++ l) g.1 ∙ prefix_whole xs zs h)

pub In-map : {X Y : Type 0} (f : X → Y) (xs : List X) (y : Y) → In y (map f xs) → (x : X) × In x xs × (y ≡ f x)
In-map f [] y h = absurd h
In-map f (x ∷ xs) y h = elim h [ inl e ↦ (x, inl refl, e) | inr i ↦ let g = In-map f xs y i in (g.0, inr g.1, g.2) ]

pub In-to : {X Y : Type 0} (f : X → Y) (xs : List X) (x : X) → In x xs → In (f x) (map f xs)
In-to f [] x h = absurd h
In-to f (y ∷ xs) x h = elim h [ inl e ↦ inl (ap f e) | inr i ↦ inr (In-to f xs x i) ]

pub In-left : {X : Type 0} (xs ys : List X) (x : X) → In x xs → In x (xs ++ ys)
In-left [] ys x h = absurd h
In-left (y ∷ xs) ys x h = elim h [ inl e ↦ inl e | inr i ↦ inr (In-left xs ys x i) ]

pub In-right : {X : Type 0} (xs ys : List X) (x : X) → In x ys → In x (xs ++ ys)
In-right [] ys x h = h
In-right (y ∷ xs) ys x h = inr (In-right xs ys x h)

pub In-parts : {X : Type 0} (xs ys : List X) (x : X) → In x (xs ++ ys) → In x xs ⊎ In x ys
In-parts [] ys x h = inr h
In-parts (y ∷ xs) ys x h = elim h [ inl e ↦ inl (inl e) | inr i ↦ elim (In-parts xs ys x i) [ inl w ↦ inl (inr w) | inr w ↦ inr w ] ]

pub In-last : {X : Type 0} (x : X) (xs : List X) → In x (xs ++ x ∷ [])
In-last x [] = inl refl
In-last x (y ∷ xs) = inr (In-last x xs)

pub In-reverse : {X : Type 0} (x : X) (xs : List X) → In x xs → In x (reverse xs)
In-reverse x [] i = absurd i
In-reverse {X} x (z ∷ xs) i =
    let P : List X → Type 0 = In x in
    subst P (sym (reverse-append (z ∷ []) xs)) (elim i [
      | inl e ↦ subst (λ (y : X). In x (reverse xs ++ y ∷ [])) e (In-last x (reverse xs))
      | inr j ↦ In-left (reverse xs) (z ∷ []) x (In-reverse x xs j)
    ])

pub In-filter : {X : Type 0} (p : X → Bool) (xs : List X) (x : X) → In x (filter p xs) → In x xs × (p x ≡ true)
In-filter p [] x h = absurd h
In-filter p (y ∷ xs) x h =
    elim (cases_Bool (p y)) [
      | inl t ↦ elim (rw t at h) [ inl e ↦ (inl e, ap p e ∙ t) | inr i ↦ let g = In-filter p xs x i in (inr g.0, g.1) ]
      | inr n ↦ let g = In-filter p xs x (rw n at h) in (inr g.0, g.1)
    ]

pub same_is : (a b : Txn) → same_txn a b ≡ true → a ≡ b
same_is a b h =
    let p = and_parts (nat_eq a.incarnation b.incarnation) (nat_eq a.count b.count) h in
    let i : a.incarnation ≡ b.incarnation = eqb-true a.incarnation b.incarnation p.0 in
    let c : a.count ≡ b.count = eqb-true a.count b.count p.1 in
    ap (λ (n : ℕ). record { incarnation = n; count = a.count }) i ∙ ap (λ (n : ℕ). record { incarnation = b.incarnation; count = n }) c

pub same_self : (a : Txn) → same_txn a a ≡ true
same_self a = and_from (nat_eq a.incarnation a.incarnation) (nat_eq a.count a.count) (eq-eqb a.incarnation a.incarnation refl) (eq-eqb a.count a.count refl)

pub not_same : (a b : Txn) → same_txn a b ≡ false → a ≢ b
not_same a b h e = true≢false (sym (same_self a) ∙ ap (λ t. same_txn a t) e ∙ h)

abbrev nil : {X : Type 0} → List X
nil = []

nil_take : {X : Type 0} (n : ℕ) → take n (nil {X = X}) ≡ nil {X = X}
nil_take zero = refl
nil_take (suc n) = refl

-- the first n of a list with one more
pub take_one_more : {X : Type 0} (n : ℕ) (xs : List X) (x : X) → (take n (xs ++ x ∷ []) ≡ take n xs) ⊎ (take n (xs ++ x ∷ []) ≡ xs ++ x ∷ [])
take_one_more zero xs x = inl refl
take_one_more (suc n) [] x = inr (ap (λ l. x ∷ l) (nil_take n))
take_one_more (suc n) (y ∷ xs) x = elim (take_one_more n xs x) [ inl e ↦ inl (ap (λ l. y ∷ l) e) | inr e ↦ inr (ap (λ l. y ∷ l) e) ]

-- the first m of the first n are the first of some number
pub take_twice : {X : Type 0} (m n : ℕ) (xs : List X) → (k : ℕ) × (take m (take n xs) ≡ take k xs)
take_twice zero n xs = (zero, refl)
take_twice (suc m) zero xs = (zero, refl)
take_twice (suc m) (suc n) [] = (zero, refl)
take_twice (suc m) (suc n) (x ∷ xs) = let h = take_twice m n xs in (suc h.0, ap (λ l. x ∷ l) h.1)

pub or_swap : (a b c : Bool) → (a || (b || c)) ≡ (b || (a || c))
or_swap true true c = refl
or_swap true false c = refl
or_swap false b c = refl
