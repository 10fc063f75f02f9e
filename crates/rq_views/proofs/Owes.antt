-- An operation whose plan was made at its start, on pages that it alone has latched, may make each of its writes, whatever others do meanwhile.
use Rattle.rq_model.specs.declared.txn.Sub.{Sub}
use Rattle.std.proofs.Common.{◌≡◌, ℕ, inl, inr, List, [], ◌∷◌, Bool, true, false, cond, refl, sym, ap, subst, ◌∙◌}
use Rattle.std.proofs.lemmas.Bool.{cases_Bool, cases_eq, cond-true, cond-false, true≢false}
use Rattle.rq_views.specs.Log.{Slots, Write, applied, HasBefores, Untouched, same_op, Act, LogState, rest_of, writes_after, after_act, MayWrite}
use Rattle.rq_views.specs.Log.Act.{Wrote, Unwrote, Done, Voided, Nothing}
use Rattle.rq_views.specs.Legal.{onto}
use Rattle.rq_views.specs.Owed.{Owes}
use Rattle.rq_views.proofs.Chains.{no_eq}
use Rattle.rq_views.proofs.Overlay.{same_is, same_self, untouched, fits_agree, Good, own}

part_fits : (owed ws : List Write) (q : Slots) → HasBefores (onto owed ws) q → HasBefores ws q
part_fits [] ws q h = h
part_fits (w ∷ owed) ws q h = (part_fits owed (w ∷ ws) q h).1

part_untouched : (owed ws : List Write) (a : ℕ) → Untouched a (onto owed ws) → Untouched a ws
part_untouched [] ws a h = h
part_untouched (w ∷ owed) ws a h = (part_untouched owed (w ∷ ws) a h).1

module _ (page : ℕ → ℕ) (z : LogState) (g : Good page z) (o : Sub) (latched : ℕ → Bool) where
  -- at the start: the plan's before-images are the slots, and nobody else stands on the pages
  pub owes_start : (owed : List Write) → z.writes o ≡ [] → ((p : ℕ) → z.stands o p ≡ false) → HasBefores (onto owed []) z.slots
      → ((a : ℕ) → latched (page a) ≡ false → Untouched a (onto owed []))
      → ((p : ℕ) → latched p ≡ true → (u : Sub) → same_op o u ≡ false → z.stands u p ≡ false) → Owes page z o latched owed
  owes_start owed none nowhere f within alone = record {
    fits = subst (λ ws. HasBefores (onto owed ws) z.quiet) (sym none) (fits_agree (onto owed []) z.slots z.quiet (λ a. elim (cases_Bool (latched (page a))) [
      | inl y ↦ inr (elim (g.each a) [
        | inl k ↦ elim (cases_Bool (same_op o k.0)) [
          | inl e ↦ absurd (true≢false (sym k.1 ∙ ap (λ v. z.stands v (page a)) (sym (same_is o k.0 e)) ∙ nowhere (page a)))
          | inr n ↦ absurd (true≢false (sym k.1 ∙ alone (page a) y k.0 n))
        ]
        | inr k ↦ sym k.1
      ])
      | inr n ↦ inl (within a n)
    ]) f);
    within = λ a n. subst (λ ws. Untouched a (onto owed ws)) (sym none) (within a n);
    alone = alone;
  }

  latched_at : (w : Write) (owed : List Write) → Owes page z o latched (w ∷ owed) → latched (page w.at) ≡ true
  latched_at w owed h = elim (cases_Bool (latched (page w.at))) [ inl y ↦ y | inr n ↦ absurd ((part_untouched owed (w ∷ z.writes o) w.at (h.within w.at n)).0 refl) ]

  -- the next write may be made
  pub owes_next : (w : Write) (owed : List Write) → Owes page z o latched (w ∷ owed) → MayWrite page z o w
  owes_next w owed h =
      let alone : (u : Sub) → same_op o u ≡ false → z.stands u (page w.at) ≡ false = h.alone (page w.at) (latched_at w owed h) in
      record { before = (part_fits owed (w ∷ z.writes o) z.quiet h.fits).0 ∙ sym (own page z o w.at g alone); alone = alone }

  -- once it is made, the others are owed
  pub owes_rest : (w : Write) (owed : List Write) → Owes page z o latched (w ∷ owed) → Owes page (after_act page (Wrote o w) z) o latched owed
  owes_rest w owed h =
      let e : w ∷ z.writes o ≡ writes_after (Wrote o w) o (z.writes o) = sym (cond-true (same_op o o) (w ∷ z.writes o) (z.writes o) (same_self o)) in
      record {
        fits = subst (λ ws. HasBefores (onto owed ws) z.quiet) e h.fits;
        within = λ a n. subst (λ ws. Untouched a (onto owed ws)) e (h.within a n);
        alone = λ p y u n. rw n (h.alone p y u n);
      }

-- whose act it is
abbrev pub IsByOther : (ℕ → ℕ) → Sub → (ℕ → Bool) → Act → Type 0
IsByOther page o latched (Wrote u w) = (same_op u o ≡ false) × (latched (page w.at) ≡ false)
IsByOther page o latched (Unwrote u at x) = same_op u o ≡ false
IsByOther page o latched (Done u) = (same_op u o ≡ false) × (same_op o u ≡ false)
IsByOther page o latched (Voided u) = same_op u o ≡ false
IsByOther page o latched Nothing = Unit {0}

same_writes : (page : ℕ → ℕ) (z : LogState) (o : Sub) (latched : ℕ → Bool) (owed : List Write) (q : Slots) (s : Slots) (ws : Sub → List Write) (stands : Sub → ℕ → Bool) → ws o ≡ z.writes o → HasBefores (onto owed (z.writes o)) q
    → ((p : ℕ) → latched p ≡ true → (u : Sub) → same_op o u ≡ false → stands u p ≡ false) → Owes page z o latched owed → Owes page (record { slots = s; quiet = q; writes = ws; stands = stands }) o latched owed
same_writes page z o latched owed q s ws stands e f alone h = record {
  fits = subst (λ w. HasBefores (onto owed w) q) (sym e) f;
  within = λ a n. subst (λ w. Untouched a (onto owed w)) (sym e) (h.within a n);
  alone = alone;
}

cleared : (b c : Bool) → c ≡ false → cond b false c ≡ false
cleared true c e = refl
cleared false c e = e

-- what others do on other pages leaves what is owed
pub owes_other : (page : ℕ → ℕ) (z : LogState) (o : Sub) (latched : ℕ → Bool) (owed : List Write) (x : Act) → Good page z → IsByOther page o latched x → Owes page z o latched owed → Owes page (after_act page x z) o latched owed
owes_other page z o latched owed (Wrote u w) g by h =
    same_writes page z o latched owed z.quiet _ _ _ (cond-false (same_op u o) (w ∷ z.writes o) (z.writes o) by.0) h.fits
    (λ p y v n. elim (cases_eq (page w.at) p) [
      | inl e ↦ absurd (true≢false (sym y ∙ ap latched (sym e) ∙ by.1))
      | inr ne ↦ elim (cases_Bool (same_op u v)) [ inl k ↦ rw (k, no_eq _ _ ne) (h.alone p y v n) | inr k ↦ rw k (h.alone p y v n) ]
    ]) h
owes_other page z o latched owed (Unwrote u at x) g by h = same_writes page z o latched owed z.quiet _ _ _ (cond-false (same_op u o) (rest_of (z.writes o)) (z.writes o) by) h.fits h.alone h
owes_other page z o latched owed (Done u) g by h =
    same_writes page z o latched owed (applied (z.writes u) z.quiet) _ _ _ (cond-false (same_op u o) [] (z.writes o) by.0)
    (fits_agree (onto owed (z.writes o)) z.quiet (applied (z.writes u) z.quiet) (λ a. elim (cases_Bool (latched (page a))) [
      | inl y ↦ inr (untouched (z.writes u) z.quiet a (g.inside u a (h.alone (page a) y u by.1)))
      | inr n ↦ inl (h.within a n)
    ]) h.fits)
    (λ p y v n. cleared (same_op u v) (z.stands v p) (h.alone p y v n)) h
owes_other page z o latched owed (Voided u) g by h = same_writes page z o latched owed z.quiet _ _ _ (cond-false (same_op u o) [] (z.writes o) by) h.fits (λ p y v n. cleared (same_op u v) (z.stands v p) (h.alone p y v n)) h
owes_other page z o latched owed Nothing g by h = h
