-- For each transaction that holds ends of a side the newest of them, in the order of the transactions.
use Rattle.std.specs.Prelude.{◌≡◌, ℕ, ◌<◌, ◌≤◌, Bool, true, cond, nat_eq, nat_lt, ◌&&◌, ◌||◌, List, [], ◌∷◌, Option, Some, None, length, take, drop, slice_index_or}
use Rattle.rq_model.specs.declared.txn.Txn.{Txn}
use Rattle.rq_model.specs.Vocabulary.{In, same_txn}
use Rattle.rq_groups.specs.declared.heads.Head.{Head}

-- the order of transactions
abbrev pub is_before : Txn → Txn → Bool
is_before a b = nat_lt a.incarnation b.incarnation || (nat_eq a.incarnation b.incarnation && nat_lt a.count b.count)

-- the transaction of each head comes before those of the later ones
abbrev pub AreInOrder : List Head → Type 0
AreInOrder [] = Unit {0}
AreInOrder (h ∷ hs) = ((x : Head) → In x hs → is_before h.txn x.txn ≡ true) × AreInOrder hs

-- the sender of the end that t took last
abbrev pub newest_of : Txn → List Head → Option ℕ
newest_of t [] = None
newest_of t (h ∷ hs) = cond (same_txn h.txn t) (Some h.newest) (newest_of t hs)

-- the heads before this place are those of earlier transactions
abbrev pub AreBefore : List Head → Txn → ℕ → Type 0
AreBefore hs t i = (x : Head) → In x (take i hs) → is_before x.txn t ≡ true

-- t's head stands here
pub record IsAt (hs : List Head) (t : Txn) (i : ℕ) : Type 0 where
  pub within : i < length hs
  pub before : AreBefore hs t i
  pub own : (d : Head) → (slice_index_or hs i d).txn ≡ t

-- t has no head, and one would stand here
pub record IsGap (hs : List Head) (t : Txn) (i : ℕ) : Type 0 where
  pub within : i ≤ length hs
  pub before : AreBefore hs t i
  pub after : (x : Head) → In x (drop i hs) → is_before t x.txn ≡ true

-- the heads are the same but for t's, whose newest end is now this one
pub record IsTurned (t : Txn) (newest : Option ℕ) (old new : List Head) : Type 0 where
  pub order : AreInOrder new
  pub each : (u : Txn) → newest_of u new ≡ cond (same_txn t u) newest (newest_of u old)
