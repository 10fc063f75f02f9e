-- Chains as lists of cells: no cell stands twice, and none in two of them; and how one is followed.
use Rattle.std.proofs.Common.{◌≡◌, ℕ, ◌+◌, ◌<◌, ◌≤◌, inl, inr, List, [], ◌∷◌, ◌++◌, length, refl, sym, ◌∙◌, ap, subst, arith, Option, Some}
use Rattle.rq_model.specs.Vocabulary.{In}
use Rattle.rq_page.specs.declared.cell.Cell.{Cell}
use Rattle.rq_page.specs.declared.directory.Directory.{Directory}
use Rattle.rq_page.specs.Sizes.{directory_at}
use Rattle.rq_page.specs.Slots.{Slot}
use Rattle.rq_page.specs.Slots.Slot.{Sender}
use Rattle.rq_views.specs.Chain.{Cells, Node, Linked, first, last}
use Rattle.rq_views.specs.Log.{Slots, cells_of}
use Rattle.rq_views.proofs.Chains.{first_append}
use Rattle.rq_chain_check.specs.Follows.{IsLinkedCell}
use Rattle.rq_chain_check.specs.Links.{addresses, AreOnce, AreChains, IsChain}

-- a cell of a chain carries its sender and one of its numbers
pub record IsCellIn (m : Cells) (s q n a : ℕ) : Type 0 where
  pub cell : Cell
  pub held : m a ≡ Some cell
  pub sender : cell.sender ≡ s
  pub low : q ≤ cell.sequence
  pub high : cell.sequence < q + n

pub linked_in : (m : Cells) (s p q : ℕ) (ns : List Node) (z a : ℕ) → Linked m s p q ns z → In a (addresses ns) → IsCellIn m s q (length ns) a
linked_in m s p q [] z a h i = absurd i
linked_in m s p q (n ∷ ns) z a h i = elim i [
  | inl e ↦ record {
    cell = record { sender = s; sequence = q; tag = n.tag; body = n.body; next = first ns z; prev = p };
    held = ap m e ∙ h.1;
    sender = refl;
    low = omega arith;
    high = omega arith;
  }
  | inr j ↦
      let k = linked_in m s n.at (q + 1) ns z a h.2 j in
      record {
        cell = k.cell;
        held = k.held;
        sender = k.sender;
        low = (let l = k.low in omega arith);
        high = (let l = k.high in omega arith);
      }
]

some_same : (m : Cells) (a : ℕ) (c d : Cell) → m a ≡ Some c → m a ≡ Some d → c ≡ d
some_same m a c d e f = let k : ◌≡◌ {A = Option Cell} (Some c) (Some d) = sym e ∙ f in cc

-- no cell of a chain stands twice in it
pub linked_once : (m : Cells) (s p q : ℕ) (ns : List Node) (z : ℕ) → Linked m s p q ns z → AreOnce (addresses ns)
linked_once m s p q [] z h = tt
linked_once m s p q (n ∷ ns) z h = (
  (λ i.
      let k = linked_in m s n.at (q + 1) ns z n.at h.2 i in
      let c : Cell = record { sender = s; sequence = q; tag = n.tag; body = n.body; next = first ns z; prev = p } in
      let e : q ≡ k.cell.sequence = ap (λ (x : Cell). x.sequence) (some_same m n.at c k.cell h.1 k.held) in
      let l = k.low in
      absurd (omega arith)),
  linked_once m s n.at (q + 1) ns z h.2,
)

-- and none stands in the chain of another sender
pub linked_apart : (m : Cells) (r s p q u v : ℕ) (ns ms : List Node) (y z a : ℕ) → Linked m r p q ns y → Linked m s u v ms z → In a (addresses ns) → In a (addresses ms) → r ≡ s
linked_apart m r s p q u v ns ms y z a h k i j =
    let b = linked_in m r p q ns y a h i in
    let c = linked_in m s u v ms z a k j in
    sym b.sender ∙ ap (λ (x : Cell). x.sender) (some_same m a b.cell c.cell b.held c.held) ∙ c.sender

pub chain_once : (q : Slots) (s : ℕ) (ns : List Node) → IsChain q s ns → AreOnce (addresses ns)
chain_once q s ns c = linked_once (cells_of q) s 0 (c.directory.received + 1) ns 0 c.linked

pub chain_apart : (q : Slots) (r s a : ℕ) (ns ms : List Node) → IsChain q r ns → IsChain q s ms → In a (addresses ns) → In a (addresses ms) → r ≡ s
chain_apart q r s a ns ms c d i j = linked_apart (cells_of q) r s 0 (c.directory.received + 1) 0 (d.directory.received + 1) ns ms 0 0 a c.linked d.linked i j

-- the cell as a node of a chain
abbrev pub node_of : ℕ → Cell → Node
node_of a c = record { at = a; tag = c.tag; body = c.body }

cell_is : (c : Cell) (s q p n : ℕ) → c.sender ≡ s → c.sequence ≡ q → c.prev ≡ p → c.next ≡ n → c ≡ record { sender = s; sequence = q; tag = c.tag; body = c.body; next = n; prev = p }
cell_is c s q p n e1 e2 e3 e4 =
    let f : ℕ → ℕ → ℕ → ℕ → Cell = λ s q p n. record { sender = s; sequence = q; tag = c.tag; body = c.body; next = n; prev = p } in
    ap (λ x. f x c.sequence c.prev c.next) e1 ∙ ap (λ x. f s x c.prev c.next) e2 ∙ ap (λ x. f s q x c.next) e3 ∙ ap (λ x. f s q p x) e4

-- one more cell is met at the end
pub linked_more : (m : Cells) (s p q : ℕ) (ns : List Node) (at : ℕ) (c : Cell) → Linked m s p q ns at → 0 < at → m at ≡ Some c → c.sender ≡ s → c.sequence ≡ q + length ns → c.prev ≡ last p ns
    → Linked m s p q (ns ++ node_of at c ∷ []) c.next
linked_more m s p q [] at c h low e sender number prev = (low, e ∙ ap Some (cell_is c s q p c.next sender (let n = number in omega arith) prev refl), tt)
linked_more m s p q (n ∷ ns) at c h low e sender number prev =
    let next : first (ns ++ node_of at c ∷ []) c.next ≡ first ns at = first_append ns (node_of at c ∷ []) c.next in
    let P : ℕ → Type 0 = λ k. m n.at ≡ Some (record { sender = s; sequence = q; tag = n.tag; body = n.body; next = k; prev = p }) in
    (h.0, subst P (sym next) h.1, linked_more m s n.at (q + 1) ns at c h.2 low e sender (omega (arith, number)) prev)

-- what is left of a whole chain, `all`, once its first cells, ns, were followed, which lead to `at`
pub record IsRest (m : Cells) (s p q : ℕ) (ns all : List Node) (at : ℕ) : Type 0 where
  pub rest : List Node
  pub linked : Linked m s (last p ns) (q + length ns) rest 0
  pub begins : first rest 0 ≡ at
  pub many : length all ≡ length ns + length rest
  pub ends : last p all ≡ last (last p ns) rest

-- chains that begin at one cell go on alike
pub rest_of_chain : (m : Cells) (s p q : ℕ) (ns all : List Node) (at : ℕ) → Linked m s p q ns at → Linked m s p q all 0 → first ns at ≡ first all 0 → IsRest m s p q ns all at
rest_of_chain m s p q [] all at h k e = record {
  rest = all;
  linked = subst (λ i. Linked m s p i all 0) (omega arith) k;
  begins = sym e;
  many = omega arith;
  ends = refl;
}
rest_of_chain m s p q (n ∷ ns) [] at h k e = absurd (let low = h.0 in omega (arith, e, low))
rest_of_chain m s p q (n ∷ ns) (x ∷ all) at h k e =
    let c : Cell = record { sender = s; sequence = q; tag = n.tag; body = n.body; next = first ns at; prev = p } in
    let d : Cell = record { sender = s; sequence = q; tag = x.tag; body = x.body; next = first all 0; prev = p } in
    let same : c ≡ d = some_same m n.at c d h.1 (ap m e ∙ k.1) in
    let tail : Linked m s n.at (q + 1) all 0 = subst (λ i. Linked m s i (q + 1) all 0) (sym e) k.2 in
    let r = rest_of_chain m s n.at (q + 1) ns all at h.2 tail (ap (λ (y : Cell). y.next) same) in
    record {
      rest = r.rest;
      linked = subst (λ i. Linked m s (last n.at ns) i r.rest 0) (omega arith) r.linked;
      begins = r.begins;
      many = (let l = r.many in omega arith);
      ends = ap (λ i. last i all) (sym e) ∙ r.ends;
    }

-- where cells are left, the next one stands here
pub next_of_rest : (m : Cells) (s p q : ℕ) (ns : List Node) (at : ℕ) → Linked m s p q ns 0 → first ns 0 ≡ at → 0 < length ns → (next : ℕ) × IsLinkedCell m s q p at next
next_of_rest m s p q [] at h e l = absurd (omega arith)
next_of_rest m s p q (n ∷ ns) at h e l = (
  first ns 0,
  record {
    cell = record { sender = s; sequence = q; tag = n.tag; body = n.body; next = first ns 0; prev = p };
    some = subst (λ a. 0 < a) e h.0;
    held = ap m (sym e) ∙ h.1;
    sender = refl;
    number = refl;
    prev = refl;
    next_is = refl;
  },
)

-- where none is left, the last cell met was the last
pub none_left : (rest : List Node) (p at : ℕ) → length rest ≡ 0 → first rest 0 ≡ at → (at ≡ 0) × (last p rest ≡ p)
none_left [] p at l e = (sym e, refl)
none_left (n ∷ rest) p at l e = absurd (omega arith)

-- a slot tells of one directory
pub sender_same : (q : Slots) (a s : ℕ) (d e : Directory) → q a ≡ Sender s d → q a ≡ Sender s e → d ≡ e
sender_same q a s d e x y = let k : ◌≡◌ {A = Slot} (Sender s d) (Sender s e) = sym x ∙ y in cc

-- chains that begin at one cell are one
linked_same : (m : Cells) (s p q : ℕ) (ns ms : List Node) → Linked m s p q ns 0 → Linked m s p q ms 0 → first ns 0 ≡ first ms 0 → addresses ns ≡ addresses ms
linked_same m s p q [] [] h k e = refl
linked_same m s p q [] (x ∷ ms) h k e = absurd (let low = k.0 in omega (arith, e, low))
linked_same m s p q (n ∷ ns) [] h k e = absurd (let low = h.0 in omega (arith, e, low))
linked_same m s p q (n ∷ ns) (x ∷ ms) h k e =
    let c : Cell = record { sender = s; sequence = q; tag = n.tag; body = n.body; next = first ns 0; prev = p } in
    let d : Cell = record { sender = s; sequence = q; tag = x.tag; body = x.body; next = first ms 0; prev = p } in
    let same : c ≡ d = some_same m n.at c d h.1 (ap m e ∙ k.1) in
    let tail : Linked m s n.at (q + 1) ms 0 = subst (λ i. Linked m s i (q + 1) ms 0) (sym e) k.2 in
    ap (λ i. i ∷ addresses ns) e ∙ ap (λ l. x.at ∷ l) (linked_same m s n.at (q + 1) ns ms h.2 tail (ap (λ (y : Cell). y.next) same))

-- a sender has one chain
pub chain_same : (q : Slots) (s : ℕ) (ns ms : List Node) → IsChain q s ns → IsChain q s ms → addresses ns ≡ addresses ms
chain_same q s ns ms c d =
    let e : c.directory ≡ d.directory = sender_same q (directory_at s) s c.directory d.directory c.at d.at in
    let k : Linked (cells_of q) s 0 (c.directory.received + 1) ms 0 = subst (λ (x : Directory). Linked (cells_of q) s 0 (x.received + 1) ms 0) (sym e) d.linked in
    linked_same (cells_of q) s 0 (c.directory.received + 1) ns ms c.linked k (sym c.head ∙ ap (λ (x : Directory). x.head) e ∙ d.head)

-- whole chains of all senders, and no cell in two of them or twice
pub chains_of : (n : ℕ) (q : Slots) (cs : ℕ → List Node) → ((s : ℕ) → s < n → IsChain q s (cs s)) → AreChains n q cs
chains_of n q cs w = record {
  whole = w;
  once = λ s lt. chain_once q s (cs s) (w s lt);
  apart = λ r s a i j. chain_apart q r s a (cs r) (cs s) (w r i) (w s j);
}
