-- The words that the other files share: operations, tests on transaction numbers, lists.
use Rattle.std.specs.Prelude.{◌≡◌, ℕ, ◌+◌, ◌^◌, Bool, true, false, cond, List, [], ◌∷◌, ◌++◌, Option, Some, None, nat_eq, ◌&&◌, ◌||◌, ◌⊎◌}
use Rattle.rq_model.specs.declared.txn.Txn.{Txn}
use Rattle.rq_model.specs.declared.message.Message.{Message}

abbrev pub same_txn : Txn → Txn → Bool
same_txn a b = nat_eq a.incarnation b.incarnation && nat_eq a.count b.count

-- What a finished operation of a transaction did.
pub data Op : Type 0 where
  Send : (message : Message) → Op
  Take : (message : Message) → Op
  End : (sender : ℕ) → Op
  Mark : (client tag : ℕ) → Op

-- The sender of a client's group: what it marks are messages of an empty body, which nobody takes. No sender of a store
-- has this number.
abbrev pub client_group : ℕ → ℕ
client_group client = 2 ^ 32 + client

-- a message with this body
abbrev pub message_of : ℕ → ℕ → List ℕ → Message
message_of sender tag body = record { sender = sender; tag = tag; body = body }

-- what a mark puts into its client's group
abbrev pub mark_of : ℕ → ℕ → Message
mark_of client tag = message_of (client_group client) tag []

-- the message that was sent for s; for a client's group, its mark
abbrev pub sent_for : ℕ → Op → Option Message
sent_for s (Send m) = cond (nat_eq m.sender s) (Some m) None
sent_for s (Take m) = None
sent_for s (End r) = None
sent_for s (Mark client tag) = cond (nat_eq (client_group client) s) (Some (mark_of client tag)) None

-- the message that was received from s
abbrev pub taken_from : ℕ → Op → Option Message
taken_from s (Send m) = None
taken_from s (Take m) = cond (nat_eq m.sender s) (Some m) None
taken_from s (End r) = None
taken_from s (Mark client tag) = None

-- the tag that was marked for the client
abbrev pub marked_for : ℕ → Op → Option ℕ
marked_for c (Send m) = None
marked_for c (Take m) = None
marked_for c (End r) = None
marked_for c (Mark client tag) = cond (nat_eq client c) (Some tag) None

abbrev pub ends : ℕ → Op → Bool
ends s (Send m) = false
ends s (Take m) = false
ends s (End r) = nat_eq r s
ends s (Mark client tag) = false

abbrev pub has_number : ℕ → List ℕ → Bool
has_number s [] = false
has_number s (n ∷ ns) = nat_eq n s || has_number s ns

abbrev pub has_txn : Txn → List Txn → Bool
has_txn t [] = false
has_txn t (u ∷ us) = same_txn u t || has_txn t us

abbrev pub is_some : {X : Type 0} → Option X → Bool
is_some None = false
is_some (Some x) = true

abbrev pub first : {X : Type 0} → List X → Option X
first [] = None
first (x ∷ xs) = Some x

-- the last of a list, or d
abbrev pub last_or : {X : Type 0} → X → List X → X
last_or d [] = d
last_or d (x ∷ xs) = last_or x xs

-- the last, if there is one
abbrev pub last : {X : Type 0} → List X → Option X
last [] = None
last (x ∷ xs) = Some (last_or x xs)

-- all but the last
abbrev pub front : {X : Type 0} → List X → List X
front [] = []
front (x ∷ []) = []
front (x ∷ y ∷ ys) = x ∷ front (y ∷ ys)

abbrev pub IsPrefix : {X : Type 0} → List X → List X → Type 0
IsPrefix {X} xs ys = (rest : List X) × (xs ++ rest ≡ ys)

-- x stands in the list
abbrev pub In : {X : Type 0} → X → List X → Type 0
In x [] = ⊥
In x (y ∷ ys) = (x ≡ y) ⊎ In x ys
