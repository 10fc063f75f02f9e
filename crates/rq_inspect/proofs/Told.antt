-- What a report tells, record by record, and what it is in the end.
use Rattle.std.proofs.Common.{◌≡◌, ◌⊎◌, inl, inr, ℕ, zero, suc, ◌+◌, Bool, true, false, not, ◌&&◌, ◌||◌, List, [], ◌∷◌, ◌++◌, length, refl, sym, ap, subst, ◌∙◌}
use Rattle.std.proofs.lemmas.List.{append-nil, map-append}
use Rattle.rq_model.specs.declared.txn.Txn.{Txn}
use Rattle.rq_model.specs.declared.record.Record.TheVariants.{Base, Commit}
use Rattle.rq_model.specs.Bases.{is_base, marks, with_next}
use Rattle.rq_model.specs.Commits.{committed_of, told}
use Rattle.rq_model.specs.Ledger.{Done}
use Rattle.std.specs.List.Sorted.{IsStrictlySortedBy}
use Rattle.rq_model.specs.declared.record.Record.{Record}
use Rattle.rq_model.specs.Content.{ends_txn}
use Rattle.rq_model.specs.Unended.{any_record, operation_ended}
use Rattle.rq_inspect.specs.Keys.{operation_order, txn_order}
use Rattle.rq_inspect.specs.Reports.{Begins, Ends, IsReport, Reported, Tells, commits, committed_by, finishes, stands, writes}

-- what is begun by a record that ends nothing, and stands or not, is there all the same, unless it has an end
step : (b e o a d : Bool) → (o && not d) ≡ (a && not d) → ((not e && (b || o)) && not (e || d)) ≡ ((b || a) && not (e || d))
step true true o a d h = refl
step false true o true d h = refl
step false true o false d h = refl
step true false o a d h = refl
step false false o a d h = h

stands_unended : (begins ends : Record → Bool) (log : List Record) → (stands begins ends log && not (any_record ends log)) ≡ (any_record begins log && not (any_record ends log))
stands_unended begins ends [] = refl
stands_unended begins ends (r ∷ log) = step (begins r) (ends r) (stands begins ends log) (any_record begins log) (any_record ends log) (stands_unended begins ends log)

-- ---- a record more

and_true : (b : Bool) → (b && true) ≡ b
and_true true = refl
and_true false = refl

commits_more : (r : Record) (log : List Record) → commits (r ∷ log) ≡ commits log ++ committed_by r
commits_more (Commit t) log = map-append (λ (d : Done). d.txn) (committed_of log) (record { txn = t; lsn = length log + 1; ops = told t log } ∷ [])
commits_more _ log = sym (append-nil (commits log))

-- nothing is known of marks
writes_none : (t : Txn) (m k : ℕ) → stands (writes t m) (operation_ended t m) (marks k) ≡ false
writes_none t m zero = refl
writes_none t m (suc k) = writes_none t m k

finishes_none : (t : Txn) (k : ℕ) → stands (finishes t) (ends_txn t) (marks k) ≡ false
finishes_none t zero = refl
finishes_none t (suc k) = finishes_none t k

commits_none : (k : ℕ) → commits (marks k) ≡ []
commits_none zero = refl
commits_none (suc k) = commits_none k

no_operation_ends : (t : Txn) (m k : ℕ) → any_record (operation_ended t m) (marks k) ≡ false
no_operation_ends t m zero = refl
no_operation_ends t m (suc k) = no_operation_ends t m k

no_txn_ends : (t : Txn) (k : ℕ) → any_record (ends_txn t) (marks k) ≡ false
no_txn_ends t zero = refl
no_txn_ends t (suc k) = no_txn_ends t k

module _ (r : Record) (log : List Record) (old begun ended : Reported) (b : Begins r old begun) (e : Ends r begun ended) (lsn : ℕ) where
  told_more : lsn ≡ length (r ∷ log) → Tells log [] old → Tells (r ∷ log) [] (record ended { records = lsn })
  told_more size h = record {
    records = size;
    unfinished = λ t n. e.unfinished t n ∙ ap (λ x. not (operation_ended t n r) && x) (b.unfinished t n ∙ ap (λ x. writes t n r || x) (h.unfinished t n ∙ and_true (stands (writes t n) (operation_ended t n) log)))
        ∙ sym (and_true (stands (writes t n) (operation_ended t n) (r ∷ log)));
    lost = λ t. e.lost t ∙ ap (λ x. not (ends_txn t r) && x) (b.lost t ∙ ap (λ x. finishes t r || x) (h.lost t ∙ and_true (stands (finishes t) (ends_txn t) log)))
        ∙ sym (and_true (stands (finishes t) (ends_txn t) (r ∷ log)));
    committed = e.committed ∙ b.committed ∙ ap (λ l. l ++ committed_by r) h.committed ∙ sym (commits_more r log);
  }

told_base : (many i : ℕ) (old begun ended : Reported) → Begins (Base many i) old begun → Ends (Base many i) begun ended → (lsn : ℕ) → lsn ≡ length (Base many i ∷ marks many) → Tells [] [] old
    → Tells (Base many i ∷ marks many) [] (record ended { records = lsn })
told_base many i old begun ended b e lsn size h = record {
  records = size;
  unfinished = λ t n. e.unfinished t n ∙ b.unfinished t n ∙ h.unfinished t n ∙ sym (ap (λ x. x && true) (writes_none t n many));
  lost = λ t. e.lost t ∙ b.lost t ∙ h.lost t ∙ sym (ap (λ x. x && true) (finishes_none t many));
  committed = e.committed ∙ b.committed ∙ append-nil old.committed ∙ h.committed ∙ sym (commits_none many);
}

pub told_next : (r : Record) (log : List Record) (old begun ended : Reported) → Begins r old begun → Ends r begun ended → (lsn : ℕ) → (is_base r ≡ false) ⊎ (log ≡ []) → lsn ≡ length (with_next r log) → Tells log [] old
    → Tells (with_next r log) [] (record ended { records = lsn })
told_next (Base many i) log old begun ended b e lsn (inl plain) size h = absurd cc
told_next (Base many i) log old begun ended b e lsn (inr none) size h = told_base many i old begun ended b e lsn size (subst (λ l. Tells l [] old) none h)
told_next r log old begun ended b e lsn first size h = told_more r log old begun ended b e lsn size h

-- one that is read the second time
struck_more : (r : Record) (log again : List Record) (old new : Reported) → Ends r old new → Tells log again old → Tells log (r ∷ again) new
struck_more r log again old new e h = record {
  records = e.records ∙ h.records;
  unfinished = λ t n. e.unfinished t n ∙ ap (λ x. not (operation_ended t n r) && x) (h.unfinished t n) ∙ both (operation_ended t n r) (stands (writes t n) (operation_ended t n) log) (any_record (operation_ended t n) again);
  lost = λ t. e.lost t ∙ ap (λ x. not (ends_txn t r) && x) (h.lost t) ∙ both (ends_txn t r) (stands (finishes t) (ends_txn t) log) (any_record (ends_txn t) again);
  committed = e.committed ∙ h.committed;
} where
  both : (e b a : Bool) → (not e && (b && not a)) ≡ (b && not (e || a))
  both true true a = refl
  both true false a = refl
  both false b a = refl

pub struck_next : (r : Record) (log again : List Record) (old new : Reported) → Ends r old new → (is_base r ≡ false) ⊎ (again ≡ []) → Tells log again old → Tells log (with_next r again) new
struck_next (Base many i) log again old new e (inl plain) h = absurd cc
struck_next (Base many i) log again old new e (inr none) h = record {
  records = e.records ∙ h.records;
  unfinished = λ t n. e.unfinished t n ∙ h.unfinished t n ∙ ap (λ x. stands (writes t n) (operation_ended t n) log && not x) (ap (any_record (operation_ended t n)) none ∙ sym (no_operation_ends t n many));
  lost = λ t. e.lost t ∙ h.lost t ∙ ap (λ x. stands (finishes t) (ends_txn t) log && not x) (ap (any_record (ends_txn t)) none ∙ sym (no_txn_ends t many));
  committed = e.committed ∙ h.committed;
}
struck_next r log again old new e first h = struck_more r log again old new e h

-- ---- the two readings

pub told_whole : (log : List Record) (a : Reported) → IsStrictlySortedBy operation_order a.unfinished → IsStrictlySortedBy txn_order a.lost
    → Tells log log a → IsReport log a
told_whole log a rise lost_rise h = record {
  records = h.records;
  unfinished = λ t n. h.unfinished t n ∙ stands_unended (writes t n) (operation_ended t n) log;
  unfinished_rise = rise;
  lost = λ t. h.lost t ∙ stands_unended (finishes t) (ends_txn t) log;
  lost_rise = lost_rise;
  committed = h.committed;
}
