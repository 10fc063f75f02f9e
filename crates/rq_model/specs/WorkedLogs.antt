-- Worked logs: which keep the rules, what they come to, and what would be so of those that don't.
use Rattle.std.specs.Prelude.{◌≡◌, List, [], ◌∷◌, ◌++◌, take, false}
use Rattle.rq_model.specs.declared.txn.Txn.{Txn}
use Rattle.rq_model.specs.declared.record.Deed.TheVariants.{Append, UnlinkHead}
use Rattle.rq_model.specs.declared.record.Record.{Record}
use Rattle.rq_model.specs.declared.record.Record.TheVariants.{OpEnd, Commit, Restart}
use Rattle.rq_model.specs.Vocabulary.{same_txn}
use Rattle.rq_model.specs.Deeds.{spelled_deed}
use Rattle.rq_model.specs.History.{Group}
use Rattle.rq_model.specs.Ledger.{group_in}
use Rattle.rq_model.specs.Content.{content, with_own, deeds, no_group}
use Rattle.rq_model.specs.Commits.{committed_of}
use Rattle.rq_model.specs.Rules.{KeepsRules}
use Rattle.rq_model.specs.Groups.{commits_left}
use Rattle.rq_model.specs.Worked.{txn, letter}

abbrev pub sender_one : Txn
sender_one = txn 1 1

abbrev pub taker : Txn
taker = txn 1 2

-- the ends of a send of a letter, and of a receive of it
abbrev pub end_of_send : Record
end_of_send = OpEnd sender_one 1 1 (spelled_deed (Append 0 1 7 0 (97 ∷ [])))

abbrev pub end_of_take : Record
end_of_take = OpEnd taker 1 1 (spelled_deed (UnlinkHead 0 1 7 (97 ∷ [])))

-- a send that is committed, and a receive of it that is
abbrev pub sent_log : List Record
sent_log = Commit sender_one ∷ end_of_send ∷ Restart 1 ∷ []

abbrev pub taken_since : List Record
taken_since = Commit taker ∷ end_of_take ∷ []

-- a send whose transaction was committed before it
abbrev pub sent_late : List Record
sent_late = end_of_send ∷ Commit sender_one ∷ []

abbrev pub one_waits : Group
one_waits = record { sent = 1; last_tag = 7; received = 0; closed = false; rest = letter 7 97 ∷ [] }

abbrev pub one_taken : Group
one_taken = record { sent = 1; last_tag = 7; received = 1; closed = false; rest = [] }

abbrev pub two_wait : Group
two_wait = record { sent = 2; last_tag = 7; received = 0; closed = false; rest = letter 7 97 ∷ letter 7 97 ∷ [] }

pub record LogsAreWorked : Type 0 where
  -- a commit adds what its own transaction did
  pub sent_keeps : KeepsRules sent_log
  pub sent_before : content (end_of_send ∷ Restart 1 ∷ []) 0 ≡ no_group
  pub sent_content : content sent_log 0 ≡ one_waits
  -- a second commit of the transaction is against the rules, and would not add it again
  pub sent_twice : KeepsRules (Commit sender_one ∷ sent_log) → ⊥
  pub added_once : content (Commit sender_one ∷ sent_log) 0 ≡ one_waits
  pub added_twice : with_own 0 (deeds (λ u. same_txn u sender_one) sent_log) (content sent_log 0) ≡ two_wait
  -- a cut leaves the content of the first commits
  pub taken_keeps : KeepsRules (taken_since ++ sent_log)
  pub taken_content : content (taken_since ++ sent_log) 0 ≡ one_taken
  pub cut_leaves_one : commits_left sent_log ≡ 1
  pub cut_content : group_in (take 1 (committed_of (taken_since ++ sent_log))) 0 ≡ one_waits
  -- an operation that ends behind its transaction's commit is against the rules, and would count for no commit
  pub late_refused : KeepsRules sent_late → ⊥
  pub late_content : content sent_late 0 ≡ one_waits
  pub late_commits : group_in (take (commits_left sent_late) (committed_of sent_late)) 0 ≡ no_group
  -- a receive of what is not committed is against them
  pub taken_too_early : KeepsRules (end_of_take ∷ end_of_send ∷ Restart 1 ∷ []) → ⊥
