-- Whole chains: of each sender the cells from its head to its tail, no cell in two of them, and each used cell in one.
use Rattle.std.specs.Prelude.{◌≡◌, ℕ, ◌+◌, ◌/◌, ◌<◌, ◌⊎◌, true, List, [], ◌∷◌, length, map}
use Rattle.rq_model.specs.Vocabulary.{In}
use Rattle.rq_page.specs.declared.directory.Directory.{Directory}
use Rattle.rq_page.specs.Sizes.{Sizes, directory_at, sender_count}
use Rattle.rq_page.specs.Slots.Slot.{Sender}
use Rattle.rq_views.specs.Chain.{Node, Linked, first, last}
use Rattle.rq_views.specs.Log.{Slots, cells_of}
use Rattle.rq_views.specs.Stored.{is_used}

-- where these cells stand
abbrev pub addresses : List Node → List ℕ
addresses ns = map (λ n. n.at) ns

-- none stands twice in the list
abbrev pub AreOnce : List ℕ → Type 0
AreOnce [] = Unit {0}
AreOnce (a ∷ others) = (In a others → ⊥) × AreOnce others

-- These cells are the whole chain of s. They are used, and carry s and the numbers from received + 1 to sent in order. Each
-- names the one before it and the next one, 0 at the ends. The directory slot of s names the first and the last, 0 where there
-- is none.
pub record IsChain (q : Slots) (s : ℕ) (ns : List Node) : Type 0 where
  pub directory : Directory
  pub at : q (directory_at s) ≡ Sender s directory
  pub linked : Linked (cells_of q) s 0 (directory.received + 1) ns 0
  pub head : directory.head ≡ first ns 0
  pub tail : directory.tail ≡ last 0 ns
  pub sent : directory.sent ≡ directory.received + length ns

-- of each of the first n senders this is the whole chain; no cell stands twice in one, and none in two
pub record AreChains (n : ℕ) (q : Slots) (chains : ℕ → List Node) : Type 0 where
  pub whole : (s : ℕ) → s < n → IsChain q s (chains s)
  pub once : (s : ℕ) → s < n → AreOnce (addresses (chains s))
  pub apart : (r s a : ℕ) → r < n → s < n → In a (addresses (chains r)) → In a (addresses (chains s)) → r ≡ s

-- a cell of one of the first n chains stands here
pub record IsMet (n : ℕ) (chains : ℕ → List Node) (a : ℕ) : Type 0 where
  pub sender : ℕ
  pub below : sender < n
  pub met : In a (addresses (chains sender))

-- the chains of all senders are whole, and each used cell is in one
pub record AreLinked (z : Sizes) (q : Slots) : Type 0 where
  pub chains : ℕ → List Node
  pub whole : AreChains (sender_count z) q chains
  pub all : (a : ℕ) → is_used (q a) ≡ true → IsMet (sender_count z) chains a

-- The page has the directory slot of the first sender that has no whole chain. A chain that meets a cell of another is
-- not whole, as a cell carries one sender.
pub record IsFirstBroken (z : Sizes) (q : Slots) (page : ℕ) : Type 0 where
  pub sender : ℕ
  pub below : sender < sender_count z
  pub page_is : page ≡ directory_at sender / 16
  pub chains : ℕ → List Node
  pub earlier : AreChains sender q chains
  pub broken : (ns : List Node) → IsChain q sender ns → ⊥

-- every chain is whole, and the page is the first with a used cell that is in none
pub record IsFirstUnmet (z : Sizes) (q : Slots) (page : ℕ) : Type 0 where
  pub chains : ℕ → List Node
  pub whole : AreChains (sender_count z) q chains
  pub at : ℕ
  pub used : is_used (q at) ≡ true
  pub unmet : IsMet (sender_count z) chains at → ⊥
  pub page_is : page ≡ at / 16
  pub least : (a : ℕ) → is_used (q a) ≡ true → a / 16 < page → IsMet (sender_count z) chains a

-- the page that is to be named where the chains are not whole
abbrev pub IsFault : Sizes → Slots → ℕ → Type 0
IsFault z q page = IsFirstBroken z q page ⊎ IsFirstUnmet z q page
