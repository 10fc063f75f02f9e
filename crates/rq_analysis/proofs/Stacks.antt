-- Lists that stand in the order of the log, and as contracts see them, the newest first.
use Rattle.std.proofs.Common.{◌≡◌, ℕ, suc, ◌+◌, ◌<◌, Bool, true, false, not, List, [], ◌∷◌, ◌++◌, ◌||◌, Option, Some, None, length, take, drop, get_or, reverse, refl, sym, ◌∙◌, ap, inl, inr, arith}
use Rattle.std.specs.List.{filter, list_any}
use Rattle.std.proofs.Math.Seq.{split_at}
use Rattle.std.proofs.lemmas.Bool.{cases_Bool, or_parts}
use Rattle.std.proofs.lemmas.List.{reverse-append}
use Rattle.std.proofs.lemmas.List.Elements.{filter-append}
use Rattle.std.proofs.lemmas.List.Folds.{list_any-append, list_any_at}
use Rattle.std.specs.Option.{is_some}
use Rattle.std.specs.Prelude.{IfNone, IfSome}
use Rattle.std.proofs.Math.Bool.{or-false, or_comm}
use Rattle.rq_model.specs.Vocabulary.{In, first}
use Rattle.rq_views.proofs.AllOpen.{tail}
use Rattle.rq_analysis.specs.Stacks.{but_newest_of}

with_nothing : {X : Type 0} (ys : List X) → ys ≡ ys ++ []
with_nothing [] = refl
with_nothing (y ∷ ys) = ap (λ l. y ∷ l) (with_nothing ys)

joined : {X : Type 0} (xs : List X) (y : X) (zs : List X) → (xs ++ y ∷ []) ++ zs ≡ xs ++ y ∷ zs
joined [] y zs = refl
joined (x ∷ xs) y zs = ap (λ l. x ∷ l) (joined xs y zs)

reverse_cut : {X : Type 0} (xs : List X) (y : X) (zs : List X) → reverse (xs ++ y ∷ zs) ≡ reverse zs ++ y ∷ reverse xs
reverse_cut xs y zs = reverse-append xs (y ∷ zs) ∙ ap (λ l. l ++ reverse xs) (reverse-append (y ∷ []) zs) ∙ joined (reverse zs) y (reverse xs)

turned_at : {X : Type 0} (ps : List X) (i : ℕ) (d : X) → i < length ps → reverse ps ≡ reverse (drop (i + 1) ps) ++ get_or ps i d ∷ reverse (take i ps)
turned_at ps i d lt =
    let next : i + 1 ≡ suc i = omega arith in
    ap reverse (split_at ps i d lt ∙ ap (λ n. take i ps ++ get_or ps i d ∷ drop n ps) (sym next)) ∙ reverse_cut (take i ps) (get_or ps i d) (drop (i + 1) ps)

or_turned : (b c : Bool) → (b || (c || false)) ≡ (c || b)
or_turned b c = ap (λ x. b || x) (or-false c) ∙ or_comm b c

module _ {X : Type 0} (f : X → Bool) where
  pub filter_reverse : (xs : List X) → reverse (filter f xs) ≡ filter f (reverse xs)
  filter_reverse [] = refl
  filter_reverse (x ∷ xs) =
      let e : filter f (reverse (x ∷ xs)) ≡ filter f (reverse xs) ++ filter f (x ∷ []) = ap (filter f) (reverse-append (x ∷ []) xs) ∙ filter-append f (reverse xs) (x ∷ []) in
      elim (cases_Bool (f x)) [
        | inl y ↦ let one : filter f (x ∷ []) ≡ x ∷ [] = rw y refl in rw y (reverse-append (x ∷ []) (filter f xs) ∙ ap (λ l. l ++ x ∷ []) (filter_reverse xs) ∙ ap (λ l. filter f (reverse xs) ++ l) (sym one) ∙ sym e)
        | inr n ↦ let one : filter f (x ∷ []) ≡ [] = rw n refl in rw n (filter_reverse xs ∙ with_nothing (filter f (reverse xs)) ∙ ap (λ l. filter f (reverse xs) ++ l) (sym one) ∙ sym e)
      ]

  pub any_reverse : (ps : List X) → list_any f (reverse ps) ≡ list_any f ps
  any_reverse [] = refl
  any_reverse (p ∷ ps) =
      ap (list_any f) (reverse-append (p ∷ []) ps) ∙ list_any-append f (reverse ps) (p ∷ []) ∙ ap (λ b. b || (f p || false)) (any_reverse ps) ∙ or_turned (list_any f ps) (f p)

  pub in_newest : (ps : List X) (x : X) → In x (but_newest_of f ps) → In x ps
  in_newest [] x h = h
  in_newest (p ∷ ps) x h = elim (cases_Bool (f p)) [
    | inl t ↦ inr (rw t at h)
    | inr n ↦ elim (rw n at h) [ inl e ↦ inl e | inr i ↦ inr (in_newest ps x i) ]
  ]

  pub none_own : (ps : List X) → list_any f ps ≡ false → filter f ps ≡ []
  none_own [] none = refl
  none_own (p ∷ ps) none = let k = or_parts (f p) (list_any f ps) none in rw k.0 (none_own ps k.1)

  -- where the first of these is the newest
  newest_front : (ps : List X) (p : X) (qs : List X) → list_any f ps ≡ false → f p ≡ true → but_newest_of f (ps ++ p ∷ qs) ≡ ps ++ qs
  newest_front [] p qs none own = rw own refl
  newest_front (x ∷ ps) p qs none own = let k = or_parts (f x) (list_any f ps) none in rw k.0 (ap (λ l. x ∷ l) (newest_front ps p qs k.1 own))

  pub none_newest : (ps : List X) → list_any f ps ≡ false → but_newest_of f ps ≡ ps
  none_newest [] none = refl
  none_newest (p ∷ ps) none = let k = or_parts (f p) (list_any f ps) none in rw k.0 (ap (λ l. p ∷ l) (none_newest ps k.1))

  taken_back : (ps : List X) (i : ℕ) (d : X) → i < length ps → f (get_or ps i d) ≡ true → list_any f (drop (i + 1) ps) ≡ false → reverse (take i ps ++ drop (i + 1) ps) ≡ but_newest_of f (reverse ps)
  taken_back ps i d lt own none =
      let behind = drop (i + 1) ps in
      reverse-append (take i ps) behind
      ∙ sym (newest_front (reverse behind) (get_or ps i d) (reverse (take i ps)) (any_reverse behind ∙ none) own)
      ∙ ap (but_newest_of f) (sym (turned_at ps i d lt))

  -- as a slice that was looked through tells
  pub taken_in : (now ps : List X) (i : ℕ) (d : X) → now ≡ ps → i < length now → f (get_or now i d) ≡ true → list_any f (drop (i + 1) now) ≡ false → reverse (take i ps ++ drop (i + 1) ps) ≡ but_newest_of f (reverse ps)
  taken_in now ps i d same lt own none = ap (λ l. reverse (take i l ++ drop (i + 1) l)) (sym same) ∙ taken_back now i d lt own none ∙ ap (λ l. but_newest_of f (reverse l)) same

  -- the first, where none before it is one
  first_front : (ps : List X) (p : X) (qs : List X) → list_any f ps ≡ false → f p ≡ true → first (filter f (ps ++ p ∷ qs)) ≡ Some p
  first_front [] p qs none own = rw own refl
  first_front (x ∷ ps) p qs none own = let k = or_parts (f x) (list_any f ps) none in rw k.0 (first_front ps p qs k.1 own)

  pub newest_there : (now ps : List X) (i : ℕ) (d : X) → now ≡ ps → i < length now → f (get_or now i d) ≡ true → list_any f (drop (i + 1) now) ≡ false → Some (get_or ps i d) ≡ first (filter f (reverse ps))
  newest_there now ps i d same lt own none =
      let behind : List X = drop (i + 1) now in
      ap (λ (l : List X). Some (get_or l i d)) (sym same)
      ∙ sym (first_front (reverse behind) (get_or now i d) (reverse (take i now)) (any_reverse behind ∙ none) own)
      ∙ ap (λ l. first (filter f l)) (sym (turned_at now i d lt)) ∙ ap (λ l. first (filter f (reverse l))) same

  -- whether one was found
  pub found_any : (ps : List X) (x : Option ℕ) (d : X) → IfSome x (λ i. i < length ps) → IfSome x (λ i. (e : X) → f (get_or ps i e) ≡ true) → IfNone x (list_any f ps ≡ false) → is_some x ≡ list_any f ps
  found_any ps (Some i) d lt own none = sym (list_any_at f ps i d lt (own d))
  found_any ps None d lt own none = sym none

  pub none_there : (ps : List X) → list_any f ps ≡ false → None ≡ first (filter f (reverse ps))
  none_there ps none = ap first (sym (none_own (reverse ps) (any_reverse ps ∙ none)))

  pub own_newest : (ps : List X) → filter f (but_newest_of f ps) ≡ tail (filter f ps)
  own_newest [] = refl
  own_newest (p ∷ ps) = elim (cases_Bool (f p)) [
    | inl t ↦ rw t refl
    | inr n ↦ rw n (rw n (own_newest ps))
  ]

  pub own_none : (ps : List X) → filter f (filter (λ p. not (f p)) ps) ≡ []
  own_none [] = refl
  own_none (p ∷ ps) = elim (cases_Bool (f p)) [
    | inl t ↦ rw t (own_none ps)
    | inr n ↦ rw n (rw n (own_none ps))
  ]

  -- where none of these is one of those
  module _ (g : X → Bool) where
    pub other_newest : (ps : List X) → ((x : X) → f x ≡ true → g x ≡ false) → filter g (but_newest_of f ps) ≡ filter g ps
    other_newest [] h = refl
    other_newest (p ∷ ps) h = elim (cases_Bool (f p)) [
      | inl t ↦ rw (t, h p t) refl
      | inr n ↦ elim (cases_Bool (g p)) [ inl a ↦ rw (n, a) (ap (λ l. p ∷ l) (other_newest ps h)) | inr b ↦ rw (n, b) (other_newest ps h) ]
    ]

    pub other_none : (ps : List X) → ((x : X) → f x ≡ true → g x ≡ false) → filter g (filter (λ p. not (f p)) ps) ≡ filter g ps
    other_none [] h = refl
    other_none (p ∷ ps) h = elim (cases_Bool (f p)) [
      | inl t ↦ rw (t, h p t) (other_none ps h)
      | inr n ↦ elim (cases_Bool (g p)) [ inl a ↦ rw (n, a) (ap (λ l. p ∷ l) (other_none ps h)) | inr b ↦ rw (n, b) (other_none ps h) ]
    ]
