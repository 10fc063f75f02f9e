-- When two commits are one.
use Rattle.std.proofs.Common.{◌≡◌, ◌==◌, refl, sym, ◌∙◌, ap, true, false}
use Rattle.std.proofs.lemmas.Bool.{and_from, and_parts, eqb-true, eq-eqb, true≢false}
use Rattle.rq_model.specs.Vocabulary.{same_txn}
use Rattle.rq_model.proofs.Lists.{same_is, same_self}
use Rattle.rq_engine.specs.declared.event.CommitNo.{CommitNo}
use Rattle.rq_session.specs.Rules.{is_commit}

pub commit_is : (a b : CommitNo) → is_commit a b ≡ true → a ≡ b
commit_is a b e =
    let both = and_parts (a.lsn == b.lsn) (same_txn a.txn b.txn) e in
    let lsn : a.lsn ≡ b.lsn = eqb-true a.lsn b.lsn both.0 in
    let txn = same_is a.txn b.txn both.1 in
    ap (λ t. record { txn = t; lsn = a.lsn }) txn ∙ ap (λ n. record { txn = b.txn; lsn = n }) lsn

pub commit_self : (a : CommitNo) → is_commit a a ≡ true
commit_self a = and_from (a.lsn == a.lsn) (same_txn a.txn a.txn) (eq-eqb a.lsn a.lsn refl) (same_self a.txn)

pub commit_not : (a b : CommitNo) → is_commit a b ≡ false → a ≡ b → ⊥
commit_not a b e same = true≢false (sym (commit_self a) ∙ ap (is_commit a) same ∙ e)
