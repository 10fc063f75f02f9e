-- The record that is next where operations without an end are undone is the one that is looked for.
use Rattle.std.proofs.Common.{◌≡◌, ℕ, true, false, nat_lt, List, [], ◌∷◌, ◌-◌, ◌++◌, ◌&&◌, suc, length, take, drop, get_or, reverse, Option, Some, None, refl, sym, ◌∙◌, ap, subst, inl, inr, arith}
use Rattle.std.proofs.lemmas.Bool.{cases_Bool, or_cases, or_left, or_right, and_parts, and_from, false≢true, true≢false, false_from_ne_true}
use Rattle.std.proofs.lemmas.Bool.Decides.{nat_tests}
use Rattle.std.specs.List.{slice_get}
use Rattle.std.proofs.Math.Seq.{split_at}
use Rattle.std.proofs.lemmas.List.{length-drop, reverse-append}
use Rattle.std.proofs.lemmas.Option.{get_or_from_slice_get, slice_get-get_or, slice_get_within}
use Rattle.rq_model.specs.declared.txn.Sub.{Sub}
use Rattle.rq_model.specs.declared.txn.Txn.{Txn}
use Rattle.rq_model.specs.Vocabulary.{same_txn}
use Rattle.rq_model.proofs.Lists.{same_is}
use Rattle.rq_views.specs.Log.{same_op}
use Rattle.rq_views.proofs.Overlay.{same_is as op_is, same_self as op_self}
use Rattle.rq_analysis.specs.declared.open_work.UndoableWrite.{UndoableWrite}
use Rattle.rq_analysis.specs.OpenWorkView.{OpenWorkView, has_sub, undoable_by}
use Rattle.rq_analysis.specs.Pages.{NoneIsSpent, IsNewestUndoable, IsNextUndo, any_undoable, op_less, txn_less, void_of}
use Rattle.rq_analysis.specs.Pages.IsNextUndo.{Voids}
use Rattle.rq_analysis.specs.Least.{least_in, lesser_in}
use Rattle.rq_analysis.proofs.Stacks.{any_reverse}

txn_through : (a b c : Txn) → txn_less a b ≡ true → txn_less b c ≡ true → txn_less a c ≡ true
txn_through a b c n m = grind (arith, nat_tests, n, m)

lt_through : (a b c : ℕ) → nat_lt a b ≡ true → nat_lt b c ≡ true → nat_lt a c ≡ true
lt_through a b c n m = grind (arith, nat_tests, n, m)

pub op_turn : (a b : Sub) → same_op b a ≡ false → op_less a b ≡ false → op_less b a ≡ true
op_turn a b n m = grind (arith, nat_tests, n, m)

op_not_turn : (a b : Sub) → op_less a b ≡ true → op_less b a ≡ false
op_not_turn a b n = grind (arith, nat_tests, n)

op_not_self : (a : Sub) → op_less a a ≡ false
op_not_self a = grind (arith, nat_tests)

op_through : (a b c : Sub) → op_less a b ≡ true → op_less b c ≡ true → op_less a c ≡ true
op_through a b c n m = elim (or_cases (txn_less a.txn b.txn) (same_txn a.txn b.txn && nat_lt a.number b.number) n) [
  | inl x ↦ elim (or_cases (txn_less b.txn c.txn) (same_txn b.txn c.txn && nat_lt b.number c.number) m) [
    | inl y ↦ or_left (txn_less a.txn c.txn) _ (txn_through a.txn b.txn c.txn x y)
    | inr y ↦ let k = and_parts (same_txn b.txn c.txn) (nat_lt b.number c.number) y in or_left (txn_less a.txn c.txn) _ (ap (txn_less a.txn) (sym (same_is b.txn c.txn k.0)) ∙ x)
  ]
  | inr x ↦
      let j = and_parts (same_txn a.txn b.txn) (nat_lt a.number b.number) x in
      let e = same_is a.txn b.txn j.0 in
      elim (or_cases (txn_less b.txn c.txn) (same_txn b.txn c.txn && nat_lt b.number c.number) m) [
        | inl y ↦ or_left (txn_less a.txn c.txn) _ (ap (λ t. txn_less t c.txn) e ∙ y)
        | inr y ↦
            let k = and_parts (same_txn b.txn c.txn) (nat_lt b.number c.number) y in
            or_right (txn_less a.txn c.txn) (same_txn a.txn c.txn && nat_lt a.number c.number) (and_from (same_txn a.txn c.txn) (nat_lt a.number c.number) (ap (λ t. same_txn t c.txn) e ∙ k.0) (lt_through a.number b.number c.number j.1 k.1))
      ]
]

-- what is not less than one is not less than a lesser one
not_less : (p q o : Sub) → op_less p q ≡ false → op_less q o ≡ false → op_less p o ≡ false
not_less p q o n m = false_from_ne_true (op_less p o) (λ y. elim (cases_Bool (same_op o q)) [
  | inl s ↦ false≢true (sym n ∙ ap (op_less p) (sym (op_is o q s)) ∙ y)
  | inr d ↦ false≢true (sym n ∙ op_through p o q y (op_turn q o d m))
])

-- what is so of the least that is spent
record IsLeast (ps : List UndoableWrite) (os : List Sub) (o : Sub) : Type 0 where
  there : has_sub o os ≡ true
  none : any_undoable o ps ≡ false
  least : (p : Sub) → has_sub p os ≡ true → any_undoable p ps ≡ false → op_less p o ≡ false

abbrev IsLooked : List UndoableWrite → List Sub → Option Sub → Type 0
IsLooked ps os None = (o : Sub) → has_sub o os ≡ true → any_undoable o ps ≡ true
IsLooked ps os (Some o) = IsLeast ps os o

looked_past : (ps : List UndoableWrite) (o : Sub) (os : List Sub) (found : Option Sub) → any_undoable o ps ≡ true → IsLooked ps os found → IsLooked ps (o ∷ os) found
looked_past ps o os None y h = λ p k. elim (or_cases (same_op o p) (has_sub p os) k) [ inl s ↦ ap (λ x. any_undoable x ps) (sym (op_is o p s)) ∙ y | inr i ↦ h p i ]
looked_past ps o os (Some q) y h = record {
  there = or_right (same_op o q) (has_sub q os) h.there;
  none = h.none;
  least = λ p k n. elim (or_cases (same_op o p) (has_sub p os) k) [ inl s ↦ absurd (true≢false (sym y ∙ ap (λ x. any_undoable x ps) (op_is o p s) ∙ n)) | inr i ↦ h.least p i n ];
}

looked_at : (ps : List UndoableWrite) (o : Sub) (os : List Sub) (found : Option Sub) → any_undoable o ps ≡ false → IsLooked ps os found → IsLeast ps (o ∷ os) (lesser_in o found)
looked_at ps o os None n h = record {
  there = or_left (same_op o o) (has_sub o os) (op_self o);
  none = n;
  least = λ p k m. elim (or_cases (same_op o p) (has_sub p os) k) [
    | inl s ↦ ap (λ x. op_less x o) (sym (op_is o p s)) ∙ op_not_self o
    | inr i ↦ absurd (true≢false (sym (h p i) ∙ m))
  ];
}
looked_at ps o os (Some q) n h = elim (cases_Bool (op_less q o)) [
  | inl y ↦ rw y (record {
    there = or_right (same_op o q) (has_sub q os) h.there;
    none = h.none;
    least = λ p k m. elim (or_cases (same_op o p) (has_sub p os) k) [
      | inl s ↦ ap (λ x. op_less x q) (sym (op_is o p s)) ∙ op_not_turn q o y
      | inr i ↦ h.least p i m
    ];
  })
  | inr y ↦ rw y (record {
    there = or_left (same_op o o) (has_sub o os) (op_self o);
    none = n;
    least = λ p k m. elim (or_cases (same_op o p) (has_sub p os) k) [
      | inl s ↦ ap (λ x. op_less x o) (sym (op_is o p s)) ∙ op_not_self o
      | inr i ↦ not_less p q o (h.least p i m) y
    ];
  })
]

looked : (ps : List UndoableWrite) (os : List Sub) → IsLooked ps os (least_in ps os)
looked ps [] = λ o h. absurd (false≢true h)
looked ps (o ∷ os) = elim (cases_Bool (any_undoable o ps)) [
  | inl y ↦ rw y (looked_past ps o os (least_in ps os) y (looked ps os))
  | inr n ↦ rw n (looked_at ps o os (least_in ps os) n (looked ps os))
]

-- the newest of these, where they stand in order
newest_of : (ps : List UndoableWrite) (p : UndoableWrite) → slice_get ps (length ps - 1) ≡ Some p → (rest : List UndoableWrite) × (reverse ps ≡ p ∷ rest)
newest_of ps p e =
    let i : ℕ = length ps - 1 in
    let lt = slice_get_within ps i p e in
    let at : get_or ps i p ≡ p = get_or_from_slice_get ps i p p e in
    let n : length (drop (suc i) ps) ≡ 0 = (let m = length-drop (suc i) ps in omega (arith, m)) in
    let none : drop (suc i) ps ≡ [] = empty (drop (suc i) ps) n in
    let cut : ps ≡ take i ps ++ p ∷ [] = split_at ps i p lt ∙ ap (λ x. take i ps ++ x ∷ drop (suc i) ps) at ∙ ap (λ l. take i ps ++ p ∷ l) none in
    (reverse (take i ps), ap reverse cut ∙ reverse-append (take i ps) (p ∷ []))
  where
    empty : (l : List UndoableWrite) → length l ≡ 0 → l ≡ []
    empty [] e = refl
    empty (x ∷ l) e = absurd (omega (arith, e))

none_of : (ps : List UndoableWrite) → slice_get ps (length ps - 1) ≡ None → ps ≡ []
none_of [] e = refl
none_of (p ∷ ps) e = absurd (let k : slice_get (p ∷ ps) (length (p ∷ ps) - 1) ≡ Some (get_or (p ∷ ps) (length (p ∷ ps) - 1) p) = slice_get-get_or (p ∷ ps) (length (p ∷ ps) - 1) p (omega arith) in some_not_none (sym k ∙ e)) where
  some_not_none : {x : UndoableWrite} → ◌≡◌ {A = Option UndoableWrite} (Some x) None → ⊥
  some_not_none e = cc

module _ (h : OpenWorkView) (ps : List UndoableWrite) (os : List Sub) (undoable : h.undoable ≡ reverse ps) (unfinished : h.unfinished ≡ os) where
  any_same : (o : Sub) → any_undoable o h.undoable ≡ any_undoable o ps
  any_same o = ap (any_undoable o) undoable ∙ any_reverse (undoable_by o) ps

  has_same : (o : Sub) → has_sub o h.unfinished ≡ has_sub o os
  has_same o = ap (has_sub o) unfinished

  pub voids_next : (o : Sub) → least_in ps os ≡ Some o → IsNextUndo h (void_of o)
  voids_next o e =
      let k : IsLeast ps os o = subst (IsLooked ps os) e (looked ps os) in
      Voids o (record { unfinished = has_same o ∙ k.there; none = any_same o ∙ k.none })
      (λ p s. k.least p (sym (has_same p) ∙ s.unfinished) (sym (any_same p) ∙ s.none)) refl

  none_spent : least_in ps os ≡ None → NoneIsSpent h
  none_spent e = let k : IsLooked ps os None = subst (IsLooked ps os) e (looked ps os) in λ o i. any_same o ∙ k o (sym (has_same o) ∙ i)

  pub newest_next : (p : UndoableWrite) → least_in ps os ≡ None → slice_get ps (length ps - 1) ≡ Some p → IsNewestUndoable h p
  newest_next p e last = let k = newest_of ps p last in record { none = none_spent e; older = k.0; first = undoable ∙ k.1 }

  pub nothing_next : least_in ps os ≡ None → slice_get ps (length ps - 1) ≡ None → h.unfinished ≡ []
  nothing_next e last = let none = none_of ps last in nothing h.unfinished (λ o i. true≢false (sym (none_spent e o i) ∙ any_same o ∙ ap (any_undoable o) none)) where
    nothing : (us : List Sub) → ((o : Sub) → has_sub o us ≡ true → ⊥) → us ≡ []
    nothing [] k = refl
    nothing (u ∷ us) k = absurd (k u (or_left (same_op u u) (has_sub u us) (op_self u)))
