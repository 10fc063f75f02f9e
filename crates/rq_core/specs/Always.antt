-- What holds of every history with legal replies.
use Rattle.std.specs.Prelude.{◌≡◌, ℕ, ◌<◌, List, ◌∷◌, length, true, map}
use Rattle.rq_model.specs.declared.txn.Txn.{Txn}
use Rattle.rq_model.specs.History.{Entry, rest}
use Rattle.rq_model.specs.declared.refusal.Refusal.TheVariants.{Latched}
use Rattle.rq_model.specs.History.Call.{Start_receive, Start_receive_from}
use Rattle.rq_model.specs.History.Entry.{None_free, None_from, Refused, Shown, Started}
use Rattle.rq_model.specs.History.Job.{Taking}
use Rattle.rq_model.specs.Groups.{group}
use Rattle.rq_model.specs.Ledger.{Open, ledger, own_takes}
use Rattle.rq_model.specs.Legal.{At, IsLegal}
use Rattle.rq_model.specs.Tests.{Size, below, free_to_receive}

-- s is free for t, and holds a message that t has not taken itself
abbrev pub GivesTo : List Entry → Txn → Open → ℕ → Type 0
GivesTo h t o s = (free_to_receive t s (ledger h).open_ones ≡ true) × (length (own_takes s o) < length (rest h s))

-- None means that no group that is free for the transaction holds a message for it, and from one sender that its group
-- holds none. A receive is started only where its group gives one, and is Latched only where some group does, or that
-- one.
pub record NoneIsExact (z : Size) : Type 0 where
  pub none : (h : List Entry) (t : Txn) → IsLegal z (None_free t ∷ h)
      → At (ledger h) t (λ o. (s : ℕ) → s < z.senders → GivesTo h t o s → ⊥)
  pub none_from : (h : List Entry) (t : Txn) (s : ℕ) → IsLegal z (None_from t s ∷ h)
      → At (ledger h) t (λ o. GivesTo h t o s → ⊥)
  pub started : (h : List Entry) (t : Txn) (n s : ℕ) → IsLegal z (Started t n (Taking s) ∷ h)
      → At (ledger h) t (λ o. (s < z.senders) × GivesTo h t o s)
  pub latched : (h : List Entry) (t : Txn) → IsLegal z (Refused (Start_receive t) Latched ∷ h)
      → At (ledger h) t (λ o. (s : ℕ) × (s < z.senders) × GivesTo h t o s)
  pub latched_from : (h : List Entry) (t : Txn) (s : ℕ) → IsLegal z (Refused (Start_receive_from t s) Latched ∷ h)
      → At (ledger h) t (λ o. GivesTo h t o s)

-- What is shown is, of each sender, the committed content: of what was sent what was not received, in order.
abbrev pub ContentIsTheRest : Size → Type 0
ContentIsTheRest z = (h : List Entry) (groups : List _) → IsLegal z (Shown groups ∷ h)
    → groups ≡ map (group h) (below z.senders)
