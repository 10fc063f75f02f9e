-- Lists: what is left out, what is put in, and what stands first.
use Rattle.std.proofs.Common.{◌≡◌, ◌<◌, ◌≤◌, Bool, true, false, not, List, [], ◌∷◌, ◌++◌, length, ◌⊎◌, Some, inl, inr, refl, sym, ◌∙◌, ap, subst, arith}
use Rattle.std.specs.List.{filter}
use Rattle.std.proofs.lemmas.Bool.{cases_Bool, true≢false, false≢true, false_from_ne_true, or_cases, not-true}
use Rattle.std.proofs.lemmas.Option.{same_Some}
use Rattle.rq_model.specs.declared.txn.Sub.{Sub}
use Rattle.rq_model.specs.Vocabulary.{In, first}
use Rattle.rq_model.proofs.Lists.{In-filter}
use Rattle.rq_views.specs.Log.{same_op}
use Rattle.rq_views.proofs.Overlay.{same_is, same_self}
use Rattle.rq_views.proofs.AllOpen.{filter_in}
use Rattle.rq_analysis.specs.declared.open_work.UndoableWrite.{UndoableWrite}
use Rattle.rq_analysis.specs.OpenWorkView.{undoable_by, has_sub, with_sub, without_sub, without_undoable}

pub first_in : {X : Type 0} (xs : List X) (x : X) → first xs ≡ Some x → In x xs
first_in [] x e = cc
first_in (y ∷ xs) x e = inl (sym (same_Some y x e))

pub first_split : {X : Type 0} (xs : List X) (x : X) → first xs ≡ Some x → (rest : List X) × (xs ≡ x ∷ rest)
first_split [] x e = cc
first_split (y ∷ xs) x e = (xs, cc)

pub op_other : (a b : Sub) → same_op a b ≡ false → same_op b a ≡ false
op_other a b n = false_from_ne_true (same_op b a) (λ e. false≢true (sym n ∙ ap (λ x. same_op a x) (same_is b a e) ∙ same_self a))

pub filter_le : {X : Type 0} (p : X → Bool) (xs : List X) → length (filter p xs) ≤ length xs
filter_le p [] = omega arith
filter_le p (y ∷ xs) = elim (cases_Bool (p y)) [
  | inl t ↦ rw t (omega (arith, filter_le p xs))
  | inr n ↦ rw n (omega (arith, filter_le p xs))
]

pub filter_less : {X : Type 0} (p : X → Bool) (xs : List X) (x : X) → In x xs → p x ≡ false → length (filter p xs) < length xs
filter_less p [] x h k = absurd h
filter_less p (y ∷ xs) x h k = elim (cases_Bool (p y)) [
  | inl t ↦ rw t (elim h [ inl e ↦ absurd (true≢false (sym t ∙ ap p (sym e) ∙ k)) | inr i ↦ omega (arith, filter_less p xs x i k) ])
  | inr n ↦ rw n (omega (arith, filter_le p xs))
]

pub nothing_in : {X : Type 0} (xs : List X) → ((x : X) → In x xs → ⊥) → xs ≡ []
nothing_in [] f = refl
nothing_in (x ∷ xs) f = absurd (f x (inl refl))

-- operations
pub sub_in : (o : Sub) (os : List Sub) → has_sub o os ≡ true → In o os
sub_in o [] h = absurd (false≢true h)
sub_in o (u ∷ os) h = elim (or_cases (same_op u o) (has_sub o os) h) [ inl e ↦ inl (sym (same_is u o e)) | inr k ↦ inr (sub_in o os k) ]

behind_in : {X : Type 0} (xs : List X) (y x : X) → In x (xs ++ y ∷ []) → (x ≡ y) ⊎ In x xs
behind_in [] y x h = elim h [ inl e ↦ inl e | inr i ↦ absurd i ]
behind_in (z ∷ xs) y x h = elim h [ inl e ↦ inr (inl e) | inr i ↦ elim (behind_in xs y x i) [ inl e ↦ inl e | inr j ↦ inr (inr j) ] ]

in_behind : {X : Type 0} (xs : List X) (y x : X) → (x ≡ y) ⊎ In x xs → In x (xs ++ y ∷ [])
in_behind [] y x h = elim h [ inl e ↦ inl e | inr i ↦ absurd i ]
in_behind (z ∷ xs) y x h = elim h [ inl e ↦ inr (in_behind xs y x (inl e)) | inr i ↦ elim i [ inl e ↦ inl e | inr j ↦ inr (in_behind xs y x (inr j)) ] ]

pub in_with : (o : Sub) (os : List Sub) (x : Sub) → In x (with_sub o os) → (x ≡ o) ⊎ In x os
in_with o os x h = elim (cases_Bool (has_sub o os)) [ inl y ↦ inr (rw y at h) | inr n ↦ behind_in os o x (rw n at h) ]

pub with_in : (o : Sub) (os : List Sub) (x : Sub) → (x ≡ o) ⊎ In x os → In x (with_sub o os)
with_in o os x h = elim (cases_Bool (has_sub o os)) [
  | inl y ↦ rw y (elim h [ inl e ↦ subst (λ q. In q os) (sym e) (sub_in o os y) | inr i ↦ i ])
  | inr n ↦ rw n (in_behind os o x h)
]

pub in_without : (o : Sub) (os : List Sub) (x : Sub) → In x (without_sub o os) → In x os × (same_op o x ≡ false)
in_without o os x h = let k = In-filter (λ u. not (same_op o u)) os x h in (k.0, not-true (same_op o x) k.1)

pub without_in : (o : Sub) (os : List Sub) (x : Sub) → In x os → same_op o x ≡ false → In x (without_sub o os)
without_in o os x h e = filter_in (λ u. not (same_op o u)) os x h (ap not e)

pub in_undoable : (o : Sub) (ps : List UndoableWrite) (x : UndoableWrite) → In x (without_undoable o ps) → In x ps × (undoable_by o x ≡ false)
in_undoable o ps x h = let k = In-filter (λ p. not (undoable_by o p)) ps x h in (k.0, not-true (undoable_by o x) k.1)
