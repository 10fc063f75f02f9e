-- What is noted of cells while chains are followed.
use Rattle.std.specs.Prelude.{◌≡◌, ℕ, ◌<◌, ◌≤◌, ◌⊎◌, true, false, List, Option, None, Some}
use Rattle.rq_model.specs.Vocabulary.{In}
use Rattle.rq_page.specs.declared.cell.Cell.{Cell}
use Rattle.rq_page.specs.declared.directory.Directory.{Directory}
use Rattle.rq_page.specs.Sizes.{Sizes, IsCellAddress, cell_at, cell_count, place_of}
use Rattle.rq_bitset.specs.Flags.{flag_at}
use Rattle.rq_views.specs.Chain.{Cells, Node}
use Rattle.rq_views.specs.Log.{Slots}
use Rattle.rq_views.specs.Stored.{is_used}
use Rattle.rq_chain_check.specs.Links.{addresses, AreChains, IsChain, IsMet}

-- a cell of s with this number stands here; it names this one before it, and leads to the next
pub record IsLinkedCell (m : Cells) (s sequence before at next : ℕ) : Type 0 where
  pub cell : Cell
  pub some : 0 < at
  pub held : m at ≡ Some cell
  pub sender : cell.sender ≡ s
  pub number : cell.sequence ≡ sequence
  pub prev : cell.prev ≡ before
  pub next_is : cell.next ≡ next

-- a chain that was followed to its last cell ends as its directory slot says
abbrev pub EndsSo : Directory → ℕ → ℕ → Type 0
EndsSo d last next = (d.received ≤ d.sent) × (next ≡ 0) × (last ≡ d.tail)

-- the flags of these cells are set beside those that were set
pub record AreNoted (z : Sizes) (old new : List ℕ) (ns : List Node) : Type 0 where
  pub kept : (k : ℕ) → flag_at old k ≡ 1 → flag_at new k ≡ 1
  pub added : (k : ℕ) → k < cell_count z → In (cell_at z k) (addresses ns) → flag_at new k ≡ 1
  pub only : (k : ℕ) → flag_at new k ≡ 1 → (flag_at old k ≡ 1) ⊎ In (cell_at z k) (addresses ns)

-- the sender's chain is whole, and its cells are noted
pub record IsFollowed (z : Sizes) (q : Slots) (s : ℕ) (old new : List ℕ) : Type 0 where
  pub nodes : List Node
  pub chain : IsChain q s nodes
  pub noted : AreNoted z old new nodes

-- the chains of the first n senders are whole, and their cells alone are noted
pub record AreFollowed (z : Sizes) (q : Slots) (n : ℕ) (met : List ℕ) : Type 0 where
  pub chains : ℕ → List Node
  pub whole : AreChains n q chains
  pub added : (k : ℕ) → k < cell_count z → IsMet n chains (cell_at z k) → flag_at met k ≡ 1
  pub only : (k : ℕ) → flag_at met k ≡ 1 → IsMet n chains (cell_at z k)

-- the free cell with the lowest address among those whose places are this one or a later one; none where each is used
abbrev pub IsNextFree : Sizes → Slots → ℕ → Option ℕ → Type 0
IsNextFree z q from None = (b : ℕ) → IsCellAddress z b → from ≤ place_of z b → is_used (q b) ≡ true
IsNextFree z q from (Some a) = IsCellAddress z a × (is_used (q a) ≡ false) × (from ≤ place_of z a)
    × ((b : ℕ) → IsCellAddress z b → from ≤ place_of z b → b < a → is_used (q b) ≡ true)
