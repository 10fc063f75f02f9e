-- A list that is gone through, from its first number on.
use Rattle.std.proofs.Common.{◌≡◌, ◌++◌, ℕ, ◌<◌, suc, true, false, cond, nat_eq, ◌||◌, List, [], ◌∷◌, length, Option, Some, None, refl, sym, ◌∙◌, ap, subst, inl, inr, arith}
use Rattle.std.proofs.lemmas.Bool.{cases_Bool, eqb-true, eq-eqb, true≢false, or_cases, or_right}
use Rattle.std.proofs.lemmas.Option.{same_Some}
use Rattle.std.proofs.lemmas.List.{append_assoc}
use Rattle.std.proofs.Math.Bool.{or_assoc}
use Rattle.rq_model.specs.declared.txn.Txn.{Txn}
use Rattle.rq_model.specs.Vocabulary.{has_number}
use Rattle.rq_groups.specs.declared.Held.{Held}
use Rattle.rq_groups.proofs.Holders.{has_is_number}
use Rattle.rq_groups.specs.Ends.{AreApart, IsTail, first_of, has_held, held_by}

-- what is so of all before this number
pub record IsWalk (ss : List ℕ) (next : Option ℕ) (P : ℕ → Type 0) : Type 0 where
  pub front : List ℕ
  pub rest : List ℕ
  pub all : front ++ rest ≡ ss
  pub here : next ≡ first_of rest
  pub done : (s : ℕ) → has_number s front ≡ true → P s

pub walk_begin : (ss : List ℕ) (next : Option ℕ) (P : ℕ → Type 0) → next ≡ first_of ss → IsWalk ss next P
walk_begin ss next P e = record { front = []; rest = ss; all = refl; here = e; done = λ s h. absurd (true≢false (sym h)) }

-- the number that stands here, and those behind it
begins : (s : ℕ) (rest : List ℕ) → Some s ≡ first_of rest → (older : List ℕ) × (rest ≡ s ∷ older)
begins s [] e = cc
begins s (x ∷ xs) e = (xs, ap (λ y. y ∷ xs) (sym (same_Some s x e)))

has_either : (s : ℕ) (front rest : List ℕ) → has_number s (front ++ rest) ≡ (has_number s front || has_number s rest)
has_either s [] rest = refl
has_either s (x ∷ front) rest = ap (λ b. nat_eq x s || b) (has_either s front rest) ∙ sym (or_assoc (nat_eq x s) (has_number s front) (has_number s rest))

pub walk_next : (ss : List ℕ) (s : ℕ) (next : Option ℕ) (P : ℕ → Type 0) → IsWalk ss (Some s) P → ((older : List ℕ) → IsTail ss (s ∷ older) → next ≡ first_of older) → P s → IsWalk ss next P
walk_next ss s next P w follows own =
    let b = begins s w.rest w.here in
    let tail : IsTail ss (s ∷ b.0) = (w.front, ap (λ l. w.front ++ l) (sym b.1) ∙ w.all) in
    record {
      front = w.front ++ s ∷ [];
      rest = b.0;
      all = append_assoc w.front (s ∷ []) b.0 ∙ tail.1;
      here = follows b.0 tail;
      done = λ x h. elim (or_cases (has_number x w.front) (has_number x (s ∷ [])) (sym (has_either x w.front (s ∷ [])) ∙ h)) [
        | inl f ↦ w.done x f
        | inr l ↦ subst P (eqb-true s x (only x l)) own
      ];
    } where
      only : (x : ℕ) → has_number x (s ∷ []) ≡ true → nat_eq s x ≡ true
      only x h = elim (or_cases (nat_eq s x) false h) [
        | inl e ↦ e
        | inr f ↦ absurd (true≢false (sym f))
      ]

-- at the end it is so of all
pub walk_over : (ss : List ℕ) (P : ℕ → Type 0) → IsWalk ss None P → (s : ℕ) → has_number s ss ≡ true → P s
walk_over ss P w s h =
    elim (or_cases (has_number s w.front) (has_number s w.rest) (sym (has_either s w.front w.rest) ∙ ap (has_number s) w.all ∙ h)) [
      | inl f ↦ w.done s f
      | inr r ↦ absurd (none w.rest w.here r)
    ] where
      none : (rest : List ℕ) → None ≡ first_of rest → has_number s rest ≡ true → ⊥
      none [] e i = true≢false (sym i)
      none (x ∷ rest) e i = cc

pub walk_in : (ss : List ℕ) (s : ℕ) (P : ℕ → Type 0) → IsWalk ss (Some s) P → has_number s ss ≡ true
walk_in ss s P w =
    let b = begins s w.rest w.here in
    let own : has_number s w.rest ≡ true = ap (has_number s) b.1 ∙ ap (λ c. c || has_number s b.0) (eq-eqb s s refl) in
    ap (has_number s) (sym w.all) ∙ has_either s w.front w.rest ∙ or_right (has_number s w.front) (has_number s w.rest) own

-- ---- how many are left

pub left_from : Option ℕ → List ℕ → ℕ
left_from None ss = 0
left_from (Some s) [] = 0
left_from (Some s) (x ∷ ss) = cond (nat_eq x s) (suc (length ss)) (left_from (Some s) ss)

left_behind : (front older : List ℕ) (s : ℕ) → AreApart (front ++ s ∷ older) → left_from (Some s) (front ++ s ∷ older) ≡ suc (length older)
unfolding left_from
left_behind [] older s a = let own = eq-eqb s s refl in rw own refl
left_behind (x ∷ front) older s a =
    elim (cases_Bool (nat_eq x s)) [
      | inl e ↦
          let there : has_number x (front ++ s ∷ older) ≡ true = ap (λ y. has_number y (front ++ s ∷ older)) (eqb-true x s e) ∙ has_either s front (s ∷ older) ∙ or_right (has_number s front) (has_number s (s ∷ older)) (ap (λ c. c || has_number s older) (eq-eqb s s refl)) in
          absurd (true≢false (sym there ∙ a.0))
      | inr n ↦ rw n (left_behind front older s a.1)
    ]

left_first : (front rest : List ℕ) → AreApart (front ++ rest) → left_from (first_of rest) (front ++ rest) ≡ length rest
unfolding left_from
left_first front [] a = refl
left_first front (s ∷ older) a = left_behind front older s a

pub walk_shorter : (ss : List ℕ) (s : ℕ) (next : Option ℕ) (P : ℕ → Type 0) → AreApart ss → IsWalk ss (Some s) P → ((older : List ℕ) → IsTail ss (s ∷ older) → next ≡ first_of older) → left_from next ss < left_from (Some s) ss
walk_shorter ss s next P apart w follows =
    let b = begins s w.rest w.here in
    let tail : (w.front ++ s ∷ b.0) ≡ ss = ap (λ l. w.front ++ l) (sym b.1) ∙ w.all in
    let now = left_first w.front (s ∷ b.0) (subst AreApart (sym tail) apart) in
    let behind : ((w.front ++ s ∷ []) ++ b.0) ≡ ss = append_assoc w.front (s ∷ []) b.0 ∙ tail in
    let later = left_first (w.front ++ s ∷ []) b.0 (subst AreApart (sym behind) apart) in
    let a : left_from (Some s) ss ≡ suc (length b.0) = ap (left_from (Some s)) (sym tail) ∙ now in
    let l : left_from next ss ≡ length b.0 = ap (λ o. left_from o ss) (follows b.0 (w.front, tail)) ∙ ap (left_from (first_of b.0)) (sym behind) ∙ later in
    omega (arith, a, l)

-- the newest of a transaction's ends is held by it
pub first_has : (t : Txn) (s : ℕ) (held : List Held) → Some s ≡ first_of (held_by t held) → has_held t s held ≡ true
first_has t s held e =
    let b = begins s (held_by t held) e in
    has_is_number t s held ∙ ap (has_number s) b.1 ∙ ap (λ c. c || has_number s b.0) (eq-eqb s s refl)
