-- The rules of groups and receives, read on a log.
use Rattle.std.specs.Prelude.{◌≡◌, ℕ, ◌<◌, Bool, true, false, List, [], ◌∷◌, Option, Some, None, nat_eq, ◌||◌, length, not, ◌&&◌}
use Rattle.rq_model.specs.declared.txn.Txn.{Txn}
use Rattle.rq_model.specs.declared.record.Record.{Record}
use Rattle.rq_model.specs.Vocabulary.{same_txn, client_group}
use Rattle.rq_model.specs.Content.{Said, Ending, ending, ends_txn, has_commit, has_end, deeds, added, removed}
use Rattle.rq_model.specs.Content.Said.{Added, Removed, Ended, Marked}

-- uses the sending end of s
abbrev pub uses_send : ℕ → Said → Bool
uses_send s (Added m) = nat_eq m.sender s
uses_send s (Removed r) = false
uses_send s (Ended r) = nat_eq r s
uses_send s (Marked c tag) = nat_eq (client_group c) s

abbrev pub uses_receive : ℕ → Said → Bool
uses_receive s (Added m) = false
uses_receive s (Removed r) = nat_eq r.sender s
uses_receive s (Ended r) = false
uses_receive s (Marked c tag) = false

abbrev pub any_use : (Said → Bool) → List Said → Bool
any_use f [] = false
any_use f (d ∷ ds) = f d || any_use f ds

-- t used the end and has not ended
abbrev pub holds : (Said → Bool) → List Record → Txn → Bool
holds f log t = any_use f (deeds (λ u. same_txn u t) log) && not (has_end log t)

-- what an operation that ends needs: nobody else holds its end; a group that a message is taken from has more than was
-- taken
pub record MayEnd (log : List Record) (s : ℕ) (t : Txn) (d : Said) : Type 0 where
  pub not_ended : has_end log t ≡ false
  pub alone_send : uses_send s d ≡ true → (u : Txn) → holds (uses_send s) log u ≡ true → u ≡ t
  pub alone_receive : uses_receive s d ≡ true → (u : Txn) → holds (uses_receive s) log u ≡ true → u ≡ t
  pub has_more : uses_receive s d ≡ true → removed s (deeds (λ u. has_commit log u || same_txn u t) log) < length
      (added s (deeds (has_commit log) log))

abbrev pub EndingMay : List Record → Option Ending → Type 0
EndingMay log None = Unit {0}
EndingMay log (Some e) = (s : ℕ) → MayEnd log s e.txn e.said

-- the rules of groups and receives, read on a log, and that nothing of a transaction follows its end
abbrev pub KeepsRules : List Record → Type 0
KeepsRules [] = Unit {0}
KeepsRules (r ∷ log) = EndingMay log (ending r) × ((t : Txn) → ends_txn t r ≡ true → has_end log t ≡ false)
    × KeepsRules log
