-- Each number up to a transaction's greatest is that of an operation, and none beyond it is.
use Rattle.std.proofs.Common.{◌≡◌, ℕ, ◌+◌, ◌<◌, ◌≤◌, ◌||◌, true, false, max, List, [], ◌∷◌, Option, Some, None, inl, inr, sym, ◌∙◌, ap, subst, nat_eq, arith}
use Rattle.std.proofs.Math.Nat.{le-max_left, le-max_right}
use Rattle.std.proofs.lemmas.Bool.{cases_Bool, cases_lt, and_parts, or_cases, or_left, or_right, and_from, eq-eqb, eqb-true, false≢true, false_from_ne_true}
use Rattle.rq_model.specs.declared.txn.Txn.{Txn}
use Rattle.rq_model.specs.declared.txn.Sub.{Sub}
use Rattle.rq_model.specs.Vocabulary.{same_txn}
use Rattle.rq_model.proofs.Lists.{same_is}
use Rattle.rq_model.specs.declared.record.Deed.TheVariants.{Append, UnlinkHead, Close, Mark}
use Rattle.rq_views.specs.Log.{Item, Places, IsNewest, same_op, state_of}
use Rattle.rq_views.specs.Log.Item.{PageOp, PageUndo, OpEnd, OpVoid, CompEnd}
use Rattle.rq_views.specs.Legal.{Placed, IsLegalLog, Undoes, of_op, is_of, began, open_deeds}
use Rattle.rq_views.specs.Plans.{Turn, IsPlan}
use Rattle.rq_views.specs.Plans.Turn.{Did, Undid}
use Rattle.rq_views.specs.Items.{operation}
use Rattle.rq_views.specs.Numbers.{number_in, greatest, AreNumbered}
use Rattle.rq_views.proofs.Idle.{unbegun_writes}

-- an operation that the record is of is not beyond its number
one_within : (t : Txn) (n : ℕ) (o : Option Sub) → is_of (operation t n) o ≡ true → n ≤ number_in t o
one_within t n None e = absurd (false≢true e)
one_within t n (Some o) e =
    let k = and_parts (same_txn o.txn t) (nat_eq o.number n) e in
    let m : o.number ≡ n = eqb-true o.number n k.1 in
    rw k.0 (omega (arith, m))

-- an operation that has a record is not beyond the greatest
pub began_within : (t : Txn) (n : ℕ) (log : List Item) → began (operation t n) log ≡ true → n ≤ greatest t log
began_within t n [] e = absurd (false≢true e)
began_within t n (r ∷ log) e =
    let a = le-max_left (number_in t (of_op r)) (greatest t log) in
    let b = le-max_right (number_in t (of_op r)) (greatest t log) in
    elim (or_cases (is_of (operation t n) (of_op r)) (began (operation t n) log) e) [
      | inl y ↦ let c = one_within t n (of_op r) y in omega (arith, a, c)
      | inr y ↦ let c = began_within t n log y in omega (arith, b, c)
    ]

-- none beyond it is that of an operation
pub beyond_unbegun : (t : Txn) (n : ℕ) (log : List Item) → greatest t log < n → began (operation t n) log ≡ false
beyond_unbegun t n log h =
    false_from_ne_true (began (operation t n) log) (λ e. let k = began_within t n log e in absurd (omega (arith, h, k)))

pub plan_some : (l : Places) (t : Turn) → IsPlan l t [] → ⊥
plan_some l (Did (Append s n tag previous body)) p = let e = p.writes in cc
plan_some l (Did (UnlinkHead s n tag body)) p = let e = p.writes in cc
plan_some l (Did (Close s)) p = let e = p.writes in cc
plan_some l (Did (Mark c tag previous)) p = let e = p.writes in cc
plan_some l (Undid (Append s n tag previous body)) p = let e = p.writes in cc
plan_some l (Undid (UnlinkHead s n tag body)) p = let e = p.writes in cc
plan_some l (Undid (Close s)) p = let e = p.writes in cc
plan_some l (Undid (Mark c tag previous)) p = let e = p.writes in cc

pub undoes_some : (l : Places) (ps : List Placed) (u : ℕ) → Undoes l ps u [] → ⊥
undoes_some l [] u h = h
undoes_some l (p ∷ ps) u h = plan_some l (Undid p.deed) h.1

-- an operation that has written has a record
pub written_began : (l : Places) (log : List Item) (o : Sub) → ((state_of l log).writes o ≡ [] → ⊥) → began o log ≡ true
written_began l log o h = elim (cases_Bool (began o log)) [ inl y ↦ y | inr n ↦ absurd (h (unbegun_writes l log o n)) ]

one_of : (t : Txn) (n : ℕ) (o : Sub) (log : List Item) → (began o log ≡ false → o.number ≡ greatest o.txn log + 1)
    → (n ≤ greatest t log → began (operation t n) log ≡ true) → n ≤ max (number_in t (Some o)) (greatest t log)
    → (same_op o (operation t n) || began (operation t n) log) ≡ true
one_of t n o log new rest le = elim (cases_lt (greatest t log) n) [
  | inr within ↦ or_right (same_op o (operation t n)) (began (operation t n) log) (rest within)
  | inl beyond ↦ elim (cases_Bool (same_txn o.txn t)) [
    | inr other ↦ let k : n ≤ max 0 (greatest t log) = rw other at le in absurd (omega (arith, k, beyond))
    | inl own ↦
        let is : o.txn ≡ t = same_is o.txn t own in
        let k : n ≤ max o.number (greatest t log) = rw own at le in
        elim (cases_Bool (began o log)) [
          | inl y ↦
              let w : o.number ≤ greatest o.txn log = began_within o.txn o.number log y in
              let same : greatest o.txn log ≡ greatest t log = ap (λ v. greatest v log) is in
              absurd (omega (arith, k, w, same, beyond))
          | inr none ↦
              let w = new none in
              let same : greatest o.txn log ≡ greatest t log = ap (λ v. greatest v log) is in
              or_left (same_op o (operation t n)) (began (operation t n) log) (and_from (same_txn o.txn t) (nat_eq o.number n) own (eq-eqb o.number n (omega (arith, k, w, same, beyond))))
        ]
  ]
]

has_begun : (o : Sub) (log : List Item) (m : ℕ) → began o log ≡ true → began o log ≡ false → o.number ≡ m
has_begun o log m y n = absurd (false≢true (sym n ∙ y))

-- each number up to the greatest is that of an operation
pub all_begun : (l : Places) (t : Txn) (n : ℕ) (log : List Item) → IsLegalLog l log → AreNumbered log → 1 ≤ n
    → n ≤ greatest t log → began (operation t n) log ≡ true
all_begun l t n [] g h low le = absurd (omega (arith, low, le))
all_begun l t n (PageOp o w ∷ log) g h low le = one_of t n o log h.0 (all_begun l t n log g.1 h.1 low) le
all_begun l t n (PageUndo o u at after ∷ log) g h low le =
    one_of t n o log (has_begun o log (greatest o.txn log + 1) (written_began l log o (λ e. subst (λ ws. IsNewest ws at after) e g.0.newest))) (all_begun l t n log g.1 h.1 low) le
all_begun l t n (OpEnd o d ∷ log) g h low le =
    one_of t n o log (has_begun o log (greatest o.txn log + 1) (written_began l log o (λ e. plan_some l (Did d) (subst (λ ws. IsPlan l (Did d) ws) e g.0.plan)))) (all_begun l t n log g.1 h.1 low) le
all_begun l t n (OpVoid o ∷ log) g h low le =
    one_of t n o log (has_begun o log (greatest o.txn log + 1) g.0.begun) (all_begun l t n log g.1 h.1 low) le
all_begun l t n (CompEnd o u ∷ log) g h low le =
    one_of t n o log (has_begun o log (greatest o.txn log + 1) (written_began l log o (λ e. undoes_some l (open_deeds o.txn log) u (subst (λ ws. Undoes l (open_deeds o.txn log) u ws) e g.0.plan)))) (all_begun l t n log g.1 h.1 low) le
all_begun l t n (_ ∷ log) g h low le = all_begun l t n log g.1 h.1 low (omega (arith, le))
