-- Bytes that are read are of a level that there is. What can't be read is refused for damage alone.
use Rattle.std.proofs.Common.{◌≡◌, ℕ, ◌<◌, List, true, cond, nat_eq, Option, None, Err, sym, ap, ◌∙◌, inl, inr, arith}
use Rattle.std.proofs.lemmas.Bool.{cases_Bool, eqb-true, false≢true}
use Rattle.rq_model.specs.Deeds.{deed_by, deed_in, mark_in}
use Rattle.rq_model.specs.Vocabulary.{is_some}
use Rattle.rq_model.specs.declared.refusal.Refusal.{Refusal}
use Rattle.rq_model.specs.declared.refusal.Refusal.TheVariants as why
use Rattle.rq_level.specs.ChainPlans.{RefusesUnread}
use Rattle.rq_level.specs.Lawful.{MayHaveNoPlan}
use Rattle.rq_level.specs.LevelState.{LevelState}

pub there_is : (n : ℕ) (bytes : List ℕ) → is_some (deed_by n bytes) ≡ true → n < 3
there_is n bytes some = elim (cases_Bool (nat_eq n 1)) [
  | inl one ↦ let is = eqb-true n 1 one in omega (arith, is)
  | inr other ↦ elim (cases_Bool (nat_eq n 2)) [
    | inl two ↦ let is = eqb-true n 2 two in omega (arith, is)
    | inr none ↦ absurd (false≢true (sym (ap (λ b. is_some (cond b (deed_in bytes) (cond (nat_eq n 2) (mark_in bytes) None))) other ∙ ap (λ b. is_some (cond b (mark_in bytes) None)) none) ∙ some))
  ]
]

-- what the level of a number reads is read where that is the number
pub read_of : {X : Type 0} (m n : ℕ) (o : Option X) → is_some (cond (nat_eq n m) o None) ≡ true → n ≡ m
read_of m n o some = elim (cases_Bool (nat_eq n m)) [
  | inl y ↦ eqb-true n m y
  | inr other ↦ absurd (false≢true (sym (ap (λ b. is_some (cond b o None)) other) ∙ some))
]

pub may_damage : (k : LevelState) (r : Refusal) (after : LevelState) → RefusesUnread k (Err r) after → MayHaveNoPlan r × (after ≡ k)
may_damage k (why.Damaged d) after h = (tt, h.1)
may_damage k why.NoMemory after h = absurd h.0
may_damage k why.Latched after h = absurd h.0
may_damage k _ after h = absurd h.0
