-- Each step keeps the rule of the mark.
use Rattle.std.proofs.Common.{◌≡◌, ◌≢◌, ◌⊎◌, ◌≤◌, ◌<◌, ℕ, zero, suc, max, List, [], ◌∷◌, ◌++◌, length, set, refl, sym, ap, ◌∙◌, subst, inl, inr, ⊎_elim, arith}
use Rattle.std.specs.Prelude.{slice_index, slice_set}
use mathlib.Core.Option.{some, some-injective, some-ne-none, none}
use mathlib.Core.Logic.{dite}
use native.Mathlib.Decide.{ℕ_discrete}
use lib.ListN.{get_elem?}
use Rattle.atomic_table.specs.Table.{State, Me, Allows, Splits, step}
use Rattle.atomic_table.specs.Table.Act.{keeps}
use Rattle.atomic_table.proofs.Lists.{at_set, at_snoc, at_longer, set_here, set_else, set_again}
use Rattle.rq_shared.specs.declared.mark.View.{View}
use Rattle.rq_shared.specs.Marks.{IsMark, IsPublished, Publishes, Reads, seat_view}
use Rattle.rq_model.specs.Vocabulary.{In}
use Rattle.rq_model.proofs.Lists.{In-left, In-last}

at_below : (l : List View) (i : ℕ) (v : View) → get_elem? l i ≡ some v → i < length l
at_below [] i v e = absurd (some-ne-none v (sym e))
at_below (x ∷ xs) zero v e = omega arith
at_below (x ∷ xs) (suc i) v e = let r = at_below xs i v e in omega arith

-- the seat's own list keeps what it had, so what was published stays so
still : (views : List View) (id : ℕ) (v w : View) (n : ℕ) → ((x : ℕ) → In x v.published → In x w.published) → get_elem? views id ≡ some v → IsPublished n views → IsPublished n (set views id w)
still views id v w n keep at h =
    dite (ℕ_discrete h.0 id)
    (λ e.
    let same : h.1 ≡ v = some-injective _ _ (sym h.2 ∙ ap (λ k. get_elem? views k) e ∙ at) in
    (id, w, set_here views id w (at_below views id v at), keep n (subst (λ (u : View). In n u.published) same h.3)))
    (λ ne. (h.0, h.1, set_else views id h.0 w ne ∙ h.2, h.3))

-- no seat saw more
under : (views : List View) (id : ℕ) (w : View) (old new : ℕ) → ((j : ℕ) (u : View) → get_elem? views j ≡ some u → u.saw ≤ old) → old ≤ new → w.saw ≤ new → (j : ℕ) (u : View) → get_elem? (set views id w) j ≡ some u → u.saw ≤ new
under views id w old new all grew mine j u e =
    ⊎_elim
    (λ (x : (j ≡ id) × (w ≡ u)). subst (λ (z : View). z.saw ≤ new) x.1 mine)
    (λ (x : (j ≢ id) × (get_elem? views j ≡ some u)). let r = all j u x.1 in omega arith)
    (at_set views id j w u e)

max_is : (n k : ℕ) → (max n k ≡ k) ⊎ (max n k ≡ n)
max_is n k = dite (native.Mathlib.Decide.dec_le n k) (λ h. inl (omega arith)) (λ h. inr (omega arith))

module _ {S : Type 0} where
  abbrev pub Holds : State S View → Type 0
  Holds s = IsMark s.words s.views

  pub publishes : (slots id : ℕ) (me : Me S View) (k : ℕ) → Allows Holds slots id me 0 (λ n. max n k) (Publishes (step slots 0 k 0 none) me)
  publishes slots id me k s h len at fits =
      let n = slice_index s.words 0 in
      let is : n ≡ h.0 = ap (λ l. slice_index l 0) h.1 in
      let v = me.0 in
      let w = seat_view (v.published ++ k ∷ []) (max n k) in
      let saw : v.saw ≤ h.0 = h.3 id v at in (
        w,
        keeps,
        tt,
        (
          max n k,
          ap (λ l. slice_set l 0 (max n k)) h.1,
          ⊎_elim
              (λ (e : max n k ≡ k). inr (id, w, set_here s.views id w (at_below s.views id v at), subst (λ m. In m w.published) (sym e) (In-last k v.published)))
              (λ (e : max n k ≡ n).
              ⊎_elim
              (λ (z : h.0 ≡ 0). inl (e ∙ is ∙ z))
              (λ (p : IsPublished h.0 s.views). inr (subst (λ m. IsPublished m (set s.views id w)) (sym (e ∙ is)) (still s.views id v w h.0 (λ x i. In-left v.published (k ∷ []) x i) at p)))
              h.2)
              (max_is n k),
          under s.views id w h.0 (max n k) h.3 (omega arith) (omega arith),
        ),
        (refl, omega arith),
      )

  pub reads : (slots id : ℕ) (me : Me S View) → Allows Holds slots id me 0 (λ n. n) (Reads (step slots 0 0 0 none) me)
  reads slots id me s h len at fits =
      let n = slice_index s.words 0 in
      let is : n ≡ h.0 = ap (λ l. slice_index l 0) h.1 in
      let v = me.0 in
      let w = seat_view v.published n in
      let saw : v.saw ≤ h.0 = h.3 id v at in (
        w,
        keeps,
        tt,
        (
          n,
          ap (λ l. slice_set l 0 n) h.1,
          ⊎_elim
              (λ (z : h.0 ≡ 0). inl (is ∙ z))
              (λ (p : IsPublished h.0 s.views). inr (subst (λ m. IsPublished m (set s.views id w)) (sym is) (still s.views id v w h.0 (λ x i. i) at p)))
              h.2,
          under s.views id w h.0 n h.3 (omega arith) (omega arith),
        ),
        (refl, omega arith),
      )

  pub splits : (id : ℕ) (v : View) → Splits Holds id v v (seat_view [] v.saw)
  splits id v s h at =
      let new = seat_view [] v.saw in
      let same : set s.views id v ≡ s.views = set_again s.views id v at in
      let f : List View → Type 0 = λ vs. IsMark s.words (vs ++ new ∷ []) in
      subst f (sym same) (
        h.0,
        h.1,
        ⊎_elim (λ (z : h.0 ≡ 0). inl z) (λ (p : IsPublished h.0 s.views). inr (p.0, p.1, at_longer s.views (new ∷ []) p.0 p.1 p.2, p.3)) h.2,
        λ j u e. ⊎_elim
            (λ (was : get_elem? s.views j ≡ some u). h.3 j u was)
            (λ (is : new ≡ u). subst (λ (z : View). z.saw ≤ h.0) is (h.3 id v at))
            (at_snoc s.views new u j e),
      )

pub all_under : (xs : List ℕ) (k saw m : ℕ) → ((x : ℕ) → In x xs → x ≤ saw) → saw ≤ m → k ≤ m → (x : ℕ) → In x (xs ++ k ∷ []) → x ≤ m
all_under [] k saw m all s l x h = ⊎_elim (λ (e : x ≡ k). omega arith) (λ (f : ⊥). absurd f) h
all_under (y ∷ ys) k saw m all s l x h =
    ⊎_elim
    (λ (e : x ≡ y). let r = all x (inl e) in omega arith)
    (λ (t : In x (ys ++ k ∷ [])). all_under ys k saw m (λ z i. all z (inr i)) s l x t)
    h
