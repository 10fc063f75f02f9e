-- Who holds which ends of groups.
use Rattle.std.specs.Prelude.{◌≡◌, ◌++◌, Option, Some, None, ℕ, Bool, true, false, cond, not, nat_eq, nat_lt, ◌-◌, ◌&&◌, ◌||◌, List, [], ◌∷◌}
use Rattle.std.specs.List.{filter}
use Rattle.rq_model.specs.declared.txn.Txn.{Txn}
use Rattle.rq_model.specs.Vocabulary.{client_group, has_number, same_txn}
use Rattle.rq_groups.specs.declared.Held.{Held}

-- the ends held, the newest first; a client's is the sending end of its group
pub record HeldEnds : Type 0 where
  pub sending : List Held
  pub receiving : List Held

-- the group of the end at a place: those of n senders come first, and behind them those of clients
abbrev pub group_at : ℕ → ℕ → ℕ
group_at n place = cond (nat_lt place n) place (client_group (place - n))

-- what is held at a place, by its group
abbrev pub as_group : ℕ → Held → Held
as_group n h = record { txn = h.txn; sender = group_at n h.sender }

-- t holds the end of s
abbrev pub has_held : Txn → ℕ → List Held → Bool
has_held t s [] = false
has_held t s (h ∷ hs) = (same_txn h.txn t && nat_eq h.sender s) || has_held t s hs

-- no transaction but t holds the end of s
abbrev pub is_free_for : Txn → ℕ → List Held → Bool
is_free_for t s [] = true
is_free_for t s (h ∷ hs) = (same_txn h.txn t || not (nat_eq h.sender s)) && is_free_for t s hs

-- somebody holds the end of s
abbrev pub is_held : ℕ → List Held → Bool
is_held s [] = false
is_held s (h ∷ hs) = nat_eq h.sender s || is_held s hs

-- t holds the end of s too
abbrev pub with_held : Txn → ℕ → List Held → List Held
with_held t s hs = cond (has_held t s hs) hs (record { txn = t; sender = s } ∷ hs)

-- the senders whose end t holds
abbrev pub held_by : Txn → List Held → List ℕ
held_by t [] = []
held_by t (h ∷ hs) = cond (same_txn h.txn t) (h.sender ∷ held_by t hs) (held_by t hs)

-- the ends that others hold
abbrev pub released : Txn → List Held → List Held
released t hs = filter (λ h. not (same_txn h.txn t)) hs

abbrev pub first_of : List ℕ → Option ℕ
first_of [] = None
first_of (s ∷ ss) = Some s

-- the list ends with these
abbrev pub IsTail : List ℕ → List ℕ → Type 0
IsTail ss rest = (front : List ℕ) × (front ++ rest ≡ ss)

-- no number stands in the list twice
abbrev pub AreApart : List ℕ → Type 0
AreApart [] = Unit {0}
AreApart (s ∷ ss) = (has_number s ss ≡ false) × AreApart ss
