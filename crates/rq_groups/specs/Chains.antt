-- The ends of one side, by sender: each leads to the one that its holder took before it.
use Rattle.std.specs.Prelude.{◌≡◌, ℕ, true, false, cond, List, [], ◌∷◌, Option, Some, None, slice_index_or}
use Rattle.std.specs.Option.{is_some}
use Rattle.rq_model.specs.declared.txn.Txn.{Txn}
use Rattle.rq_model.specs.Vocabulary.{has_number}
use Rattle.rq_groups.specs.declared.Held.{Held}
use Rattle.rq_groups.specs.declared.heads.Head.{Head}
use Rattle.rq_groups.specs.declared.places.Holding.{Holding}
use Rattle.rq_bitset.specs.Flags.{flag_at}
use Rattle.rq_groups.specs.Ends.{has_held, held_by}
use Rattle.rq_groups.specs.Heads.{AreInOrder, newest_of}

-- who holds the end of s
abbrev pub held_at : List (Option Holding) → ℕ → Option Holding
held_at places s = slice_index_or places s None

-- a flag is set exactly where somebody holds the end of its place
abbrev pub AreHolders : List ℕ → List (Option Holding) → Type 0
AreHolders words places = (k : ℕ) → flag_at words k ≡ cond (is_some (held_at places k)) 1 0

-- the sender of the end that the holder took before this one
abbrev pub next_of : Option Holding → Option ℕ
next_of None = None
next_of (Some h) = h.next

-- from this end on, t's are those of these senders, none of them twice
abbrev pub IsChain : List (Option Holding) → Txn → Option ℕ → List ℕ → Type 0
IsChain places t newest [] = newest ≡ None
IsChain places t newest (s ∷ older) = (newest ≡ Some s) × (has_number s older ≡ false) × ((next : Option ℕ) × (held_at places s ≡ Some (record { txn = t; next = next })) × IsChain places t next older)

-- the places and the heads tell who holds what
pub record IsEndTable (places : List (Option Holding)) (heads : List Head) (held : List Held) : Type 0 where
  pub order : AreInOrder heads
  pub chains : (t : Txn) → IsChain places t (newest_of t heads) (held_by t held)
  pub holds : (s : ℕ) (h : Holding) → held_at places s ≡ Some h → has_held h.txn s held ≡ true

-- of a chain's places those of the rest are still to be emptied
pub record AreEmptied (old new : List (Option Holding)) (chain rest : List ℕ) : Type 0 where
  pub among : (s : ℕ) → has_number s rest ≡ true → has_number s chain ≡ true
  pub others : (s : ℕ) → has_number s chain ≡ false → held_at new s ≡ held_at old s
  pub empty : (s : ℕ) → has_number s chain ≡ true → has_number s rest ≡ false → held_at new s ≡ None
