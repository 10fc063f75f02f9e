-- The transactions that have ended are kept.
use Rattle.std.proofs.Common.{◌≡◌, ℕ, ◌+◌, ◌≤◌, true, false, ◌||◌, nat_eq, List, [], ◌∷◌, inl, inr, refl, sym, ◌∙◌, ap, arith}
use Rattle.std.proofs.lemmas.Bool.{eq-eqb, false≢true, false_from_ne_true, or_cases}
use Rattle.std.proofs.Math.Bool.{or-false}
use Rattle.rq_model.specs.declared.txn.Txn.{Txn}
use Rattle.rq_model.specs.declared.record.Record.{Record}
use Rattle.rq_model.specs.declared.record.Record.TheVariants as records
use Rattle.rq_model.specs.Content.{has_end}
use Rattle.rq_model.specs.Incarnations.{incarnation_of}
use Rattle.rq_model.specs.Vocabulary.{same_txn}
use Rattle.rq_model.proofs.Lists.{same_is}
use Rattle.rq_analysis.specs.LogTables.{ended}
use Rattle.rq_analysis.specs.Runs.{has_count}
use Rattle.rq_analysis.specs.Rules.{FollowAll, IsReadInOrder}
use Rattle.rq_analysis.proofs.Marks.{none_ended}
use Rattle.rq_analysis.proofs.RuleCounts.{counts_more, none_counted}

one_before : (u t : Txn) (i : ℕ) → same_txn u t ≡ true → u.incarnation ≡ i → t.incarnation ≤ i
one_before u t i y e = let a : u.incarnation ≡ t.incarnation = ap (λ (v : Txn). v.incarnation) (same_is u t y) in omega (arith, a, e)

-- a transaction that has ended is of no later incarnation
ended_before : (log : List Record) (t : Txn) → FollowAll log → IsReadInOrder log → has_end log t ≡ true → t.incarnation ≤ incarnation_of log
ended_before [] t f o h = absurd (false≢true h)
ended_before (records.Restart i ∷ log) t f o h =
    let a = ended_before log t f.1 o.1 h in
    let e : i ≡ incarnation_of log + 1 = o.0 in
    omega (arith, a, e)
ended_before (records.Base many i ∷ log) t f o h = absurd (false≢true (sym (none_ended t many) ∙ ap (λ (l : List Record). has_end l t) (sym f.0.begins) ∙ h))
ended_before (records.Commit u ∷ log) t f o h = elim (or_cases (same_txn u t || false) (has_end log t) h) [
  | inl y ↦ one_before u t (incarnation_of log) (sym (or-false (same_txn u t)) ∙ y) o.0.1
  | inr k ↦ ended_before log t f.1 o.1 k
]
ended_before (records.AbortEnd u ∷ log) t f o h = elim (or_cases (same_txn u t) (has_end log t) h) [
  | inl y ↦ one_before u t (incarnation_of log) y o.0.1
  | inr k ↦ ended_before log t f.1 o.1 k
]
ended_before (_ ∷ log) t f o h = ended_before log t f.1 o.1 h

-- of one incarnation the counts tell transactions apart
one_of : (u t : Txn) (i : ℕ) → u.incarnation ≡ i → t.incarnation ≡ i → nat_eq u.count t.count ≡ same_txn u t
one_of u t i a b = let e : nat_eq u.incarnation t.incarnation ≡ true = eq-eqb u.incarnation t.incarnation (a ∙ sym b) in rw e refl

-- what is kept tells of each transaction of the running incarnation whether it has ended
pub ended_kept : (log : List Record) (t : Txn) → FollowAll log → IsReadInOrder log → t.incarnation ≡ incarnation_of log → has_count t.count (ended log) ≡ has_end log t
ended_kept [] t f o e = none_counted t.count
ended_kept (records.Restart i ∷ log) t f o e =
    none_counted t.count ∙ sym (false_from_ne_true (has_end log t) (λ h.
    let a = ended_before log t f.1 o.1 h in
    let k : i ≡ incarnation_of log + 1 = o.0 in
    let b : t.incarnation ≡ i = e in
    absurd (omega (arith, a, k, b))))
ended_kept (records.Base many i ∷ log) t f o e = none_counted t.count ∙ sym (ap (λ (l : List Record). has_end l t) f.0.begins ∙ none_ended t many)
ended_kept (records.Commit u ∷ log) t f o e =
    counts_more t.count u.count (ended log) ∙ ap (λ b. b || has_count t.count (ended log)) (one_of u t (incarnation_of log) o.0.1 e ∙ sym (or-false (same_txn u t)))
    ∙ ap (λ b. (same_txn u t || false) || b) (ended_kept log t f.1 o.1 e)
ended_kept (records.AbortEnd u ∷ log) t f o e =
    counts_more t.count u.count (ended log) ∙ ap (λ b. b || has_count t.count (ended log)) (one_of u t (incarnation_of log) o.0.1 e)
    ∙ ap (λ b. same_txn u t || b) (ended_kept log t f.1 o.1 e)
ended_kept (_ ∷ log) t f o e = ended_kept log t f.1 o.1 e
