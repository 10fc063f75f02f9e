-- None, both ways.
use Rattle.std.proofs.Common.{◌≡◌, ◌⊎◌, ℕ, zero, suc, ◌<◌, true, false, nat_lt, List, [], ◌∷◌, ◌++◌, length, map, Option, Some, None, refl, sym, ◌∙◌, ap, subst, inl, inr, arith}
use Rattle.std.proofs.lemmas.Bool.{lt-ltb, ltb-true, not-false, or_cases, and_parts}
use Rattle.rq_model.specs.declared.txn.Txn.{Txn}
use Rattle.rq_model.specs.Vocabulary.{In}
use Rattle.rq_model.specs.History.{Entry, rest}
use Rattle.rq_model.specs.Groups.{group}
use Rattle.rq_model.specs.Ledger.{Ledger, Open, found, group_in, ledger, own_takes, rest_in}
use Rattle.rq_model.specs.Legal.{IsLegal, OnFound}
use Rattle.rq_model.specs.History.Entry.{Grew}
use Rattle.rq_model.specs.Tests.{Size, any_gives, below, free_to_receive, gives, holds_for, size_at}
use Rattle.rq_core.specs.Always.{ContentIsTheRest, GivesTo, NoneIsExact}

on_found : (P Q : Open → Type 0) (o : Option Open) → ((x : Open) → P x → Q x) → OnFound o P → OnFound o Q
on_found P Q None f h = h
on_found P Q (Some x) f h = f x h

in_append : (s n : ℕ) (ss : List ℕ) → In s (ss ++ n ∷ []) → In s ss ⊎ (s ≡ n)
in_append s n [] (inl e) = inr e
in_append s n [] (inr i) = absurd i
in_append s n (x ∷ ss) (inl e) = inl (inl e)
in_append s n (x ∷ ss) (inr i) = elim (in_append s n ss i) [ inl j ↦ inl (inr j) | inr e ↦ inr e ]

in_below : (n s : ℕ) → In s (below n) → s < n
in_below zero s i = absurd i
in_below (suc n) s i = elim (in_append s n (below n) i) [ inl j ↦ (let h = in_below n s j in omega (arith, h)) | inr e ↦ omega (arith, e) ]

-- some group of these gives t a message
module _ (l : Ledger) (t : Txn) where
  abbrev Gives_in : List ℕ → Open → Type 0
  Gives_in ss o = (s : ℕ) × In s ss × (free_to_receive t s l.open_ones ≡ true) × (holds_for l o s ≡ true)

  some_gives : (ss : List ℕ) (o : Option Open) → any_gives ss l t o ≡ true → OnFound o (Gives_in ss)
  some_gives [] o e = cc e
  some_gives (s ∷ ss) None e = absurd (none ss e) where
    none : (ss : List ℕ) → any_gives ss l t None ≡ true → ⊥
    none [] e = cc e
    none (s ∷ ss) e = none ss e
  some_gives (s ∷ ss) (Some o) e = elim (or_cases (gives l t (Some o) s) (any_gives ss l t (Some o)) e) [
    | inl here ↦ (let b = and_parts (free_to_receive t s l.open_ones) (holds_for l o s) here in (s, inl refl, b.0, b.1))
    | inr there ↦ (let more = some_gives ss (Some o) there in (more.0, inr more.1, more.2, more.3))
  ]

-- the senders of a store stay
pub senders_stay : (z : Size) (h : List Entry) → (size_at z h).senders ≡ z.senders
senders_stay z [] = refl
senders_stay z (Grew pages records ∷ h) = senders_stay z h
senders_stay z (_ ∷ h) = senders_stay z h

module _ (z : Size) (shown : (h : List Entry) (s : ℕ) → IsLegal z h → group h s ≡ group_in (ledger h).committed s) where
  rest_is : (h : List Entry) (s : ℕ) → IsLegal z h → rest h s ≡ rest_in (ledger h).committed s
  rest_is h s a = ap (λ g. g.rest) (shown h s a)

  -- what the test for a message says
  holds : (h : List Entry) (o : Open) (s : ℕ) → IsLegal z h → holds_for (ledger h) o s ≡ true → length (own_takes s o) < length (rest h s)
  holds h o s a e = subst (λ r. length (own_takes s o) < length r) (sym (rest_is h s a)) (ltb-true (length (own_takes s o)) (length (rest_in (ledger h).committed s)) e)

  holds_not : (h : List Entry) (o : Open) (s : ℕ) → IsLegal z h → holds_for (ledger h) o s ≡ false → length (own_takes s o) < length (rest h s) → ⊥
  holds_not h o s a e lt =
      let there = subst (λ r. length (own_takes s o) < length r) (rest_is h s a) lt in
      cc (sym (lt-ltb (length (own_takes s o)) (length (rest_in (ledger h).committed s)) there) ∙ e)

  gives_one : (h : List Entry) (t : Txn) (s : ℕ) (o : Option Open) → IsLegal z h → gives (ledger h) t o s ≡ true → OnFound o (λ x. GivesTo h t x s)
  gives_one h t s None a e = absurd (cc e)
  gives_one h t s (Some o) a e =
      let b = and_parts (free_to_receive t s (ledger h).open_ones) (holds_for (ledger h) o s) e in
      (b.0, holds h o s a b.1)

  pub exact : NoneIsExact z
  exact = record {
    none = λ h t a. on_found _ _ (found t (ledger h).open_ones) (λ o p s low g. holds_not h o s a.1 (p s (subst (λ n. s < n) (sym (senders_stay z h)) low) g.0) g.1) a.0.1;
    none_from = λ h t s a. on_found _ _ (found t (ledger h).open_ones) (λ o p g. holds_not h o s a.1 p g.1) a.0.1;
    started = λ h t n s a.
        let passes = a.0.0 in
        let now = (size_at z h).senders in
        let there : s < now = ltb-true s now (not-false (nat_lt s now) passes.1.1.1.1.0) in
        let low : s < z.senders = subst (λ n. s < n) (senders_stay z h) there in
        let free : free_to_receive t s (ledger h).open_ones ≡ true = not-false (free_to_receive t s (ledger h).open_ones) passes.1.1.1.1.1.0 in
        on_found _ _ (found t (ledger h).open_ones) (λ o p. (low, (free, holds h o s a.1 p.1))) a.0.1;
    latched = λ h t a.
        on_found _ _ (found t (ledger h).open_ones) (λ o p. (p.0, subst (λ n. p.0 < n) (senders_stay z h) (in_below (size_at z h).senders p.0 p.1), (p.2, holds h o p.0 a.1 p.3))) (some_gives (ledger h) t (below (size_at z h).senders) (found t (ledger h).open_ones) a.0.1);
    latched_from = λ h t s a. gives_one h t s (found t (ledger h).open_ones) a.1 a.0.1;
  }

  pub shows_rest : ContentIsTheRest z
  shows_rest h groups a =
      let c = (ledger h).committed in
      let same : map (group_in c) (below z.senders) ≡ map (group h) (below z.senders) = λ i. map (λ s. (sym (shown h s a.1)) i) (below z.senders) in
      a.0.1 ∙ ap (λ n. map (group_in c) (below n)) (senders_stay z h) ∙ same
