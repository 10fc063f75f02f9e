-- What worked logs come to, and which keep the rules.
use Rattle.std.proofs.Common.{◌≡◌, ◌<◌, ◌||◌, ℕ, refl, sym, ◌∙◌, [], ◌∷◌, ◌++◌, length, Bool, true, false, subst, inl, inr, arith}
use Rattle.std.proofs.lemmas.Bool.{cases_Bool, false≢true, true≢false, eqb-true}
use Rattle.std.proofs.Math.Bool.{and-false}
use Rattle.rq_model.specs.declared.txn.Txn.{Txn}
use Rattle.rq_model.specs.declared.record.Record.TheVariants.{Commit, Restart}
use Rattle.rq_model.specs.Vocabulary.{same_txn}
use Rattle.rq_model.specs.Content.{Said, removed, added, deeds, has_commit, has_end, ends_txn}
use Rattle.rq_model.specs.Rules.{KeepsRules, MayEnd, holds, uses_receive}
use Rattle.rq_model.specs.Content.Said.{Added, Removed}
use Rattle.rq_model.specs.Worked.{letter}
use Rattle.rq_model.proofs.Lists.{same_is}
use Rattle.rq_model.specs.WorkedLogs.{sender_one, taker, end_of_take, sent_log, taken_since, LogsAreWorked}

may_send : (s : ℕ) → MayEnd (Restart 1 ∷ []) s sender_one (Added (letter 7 97))
may_send s = record { not_ended = refl; alone_send = λ y u h. absurd (false≢true h); alone_receive = λ y. absurd (false≢true y); has_more = λ y. absurd (false≢true y) }

sent_keeps : KeepsRules sent_log
sent_keeps = (tt, (λ t e. refl), (may_send, (λ t e. refl), (tt, (λ t e. refl), tt)))

-- nobody holds an end, once the sender has committed
none_holds : (f : Said → Bool) (u : Txn) → holds f sent_log u ≡ false
none_holds f u = elim (cases_Bool (same_txn sender_one u)) [ inl y ↦ rw y (and-false _) | inr n ↦ rw n refl ]

may_take : (s : ℕ) → MayEnd sent_log s taker (Removed (letter 7 97))
may_take s = record {
  not_ended = refl;
  alone_send = λ y. absurd (false≢true y);
  alone_receive = λ y u h. absurd (false≢true (sym (none_holds (uses_receive s) u) ∙ h));
  has_more = λ y. subst (λ (k : ℕ). removed k (deeds (λ u. has_commit sent_log u || same_txn u taker) sent_log) < length (added k (deeds (has_commit sent_log) sent_log))) (eqb-true 0 s y) (omega arith);
}

taker_ends : (t : Txn) → ends_txn t (Commit taker) ≡ true → has_end (end_of_take ∷ sent_log) t ≡ false
taker_ends t e = subst (λ (u : Txn). has_end (end_of_take ∷ sent_log) u ≡ false) (same_is taker t (left_of (same_txn taker t) e)) refl where
  left_of : (b : Bool) → (b || false) ≡ true → b ≡ true
  left_of true e = refl
  left_of false e = e

taken_keeps : KeepsRules (taken_since ++ sent_log)
taken_keeps = (tt, taker_ends, (may_take, (λ t e. absurd (false≢true e)), sent_keeps))

pub worked_logs : LogsAreWorked
worked_logs = record {
  sent_keeps = sent_keeps;
  sent_before = refl;
  sent_content = refl;
  sent_twice = λ k. true≢false (k.1 sender_one refl);
  added_once = refl;
  added_twice = refl;
  taken_keeps = taken_keeps;
  taken_content = refl;
  cut_leaves_one = refl;
  cut_content = refl;
  late_refused = λ k. true≢false (k.0 0).not_ended;
  late_content = refl;
  late_commits = refl;
  taken_too_early = λ k. (let e = (k.0 0).has_more refl in omega (arith, e));
}
