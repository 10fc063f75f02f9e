-- How a sender's chain is followed, cell by cell.
use Rattle.std.proofs.Common.{◌≡◌, ℕ, ◌+◌, ◌<◌, ◌≤◌, ◌↔◌, Bool, IsTrue, inl, inr, List, [], ◌∷◌, ◌++◌, length, sym, ◌∙◌, ap, subst, arith}
use Rattle.std.specs.Bool.{OnTrue, OnFalse}
use Rattle.std.proofs.lemmas.Bool.{cases_eq, false≢true, OnTrue_from, OnFalse_from}
use Rattle.std.proofs.lemmas.List.{length-append, map-append}
use Rattle.rq_model.specs.Vocabulary.{In}
use Rattle.rq_model.proofs.Lists.{In-parts, In-right, In-left}
use Rattle.rq_page.specs.declared.directory.Directory.{Directory}
use Rattle.rq_page.specs.Sizes.{Sizes, IsCellAddress, cell_at, directory_at, place_of}
use Rattle.rq_page.specs.Slots.Slot.{Sender}
use Rattle.rq_page.proofs.Addresses.{cells_have_places, places_are_cells}
use Rattle.rq_bitset.specs.Flags.{flag_at, OthersStay}
use Rattle.rq_views.specs.Chain.{Node, Linked, first, last}
use Rattle.rq_views.specs.Log.{Slots, cells_of}
use Rattle.rq_views.proofs.Chains.{first_append, last_append}
use Rattle.rq_chain_check.specs.Follows.{AreNoted, EndsSo, IsFollowed, IsLinkedCell}
use Rattle.rq_chain_check.specs.Links.{addresses, IsChain}
use Rattle.rq_chain_check.proofs.Chains.{IsRest, node_of, linked_more, rest_of_chain, next_of_rest, none_left, sender_same}

addresses_more : (ns : List Node) (n : Node) → addresses (ns ++ n ∷ []) ≡ addresses ns ++ n.at ∷ []
addresses_more ns n = map-append (λ x. x.at) ns (n ∷ [])

-- one more is noted
noted_more : (z : Sizes) (old met new : List ℕ) (ns : List Node) (n : Node) → AreNoted z old met ns → IsCellAddress z n.at → flag_at new (place_of z n.at) ≡ 1 → OthersStay (place_of z n.at) met new → AreNoted z old new (ns ++ n ∷ [])
noted_more z old met new ns n h cell set others =
    let p = place_of z n.at in
    let at_place : cell_at z p ≡ n.at = (places_are_cells z n.at cell).1 in
    let more : addresses (ns ++ n ∷ []) ≡ addresses ns ++ n.at ∷ [] = addresses_more ns n in
    let stays : (k : ℕ) → flag_at met k ≡ 1 → flag_at new k ≡ 1 = (λ k e. elim (cases_eq k p) [
      | inl same ↦ ap (flag_at new) same ∙ set
      | inr ne ↦ others k ne ∙ e
    ]) in
    record {
      kept = λ k e. stays k (h.kept k e);
      added = λ k lt i. elim (In-parts (addresses ns) (n.at ∷ []) (cell_at z k) (subst (In (cell_at z k)) more i)) [
        | inl j ↦ stays k (h.added k lt j)
        | inr j ↦ elim j [
          | inl e ↦ let own : k ≡ p = sym (cells_have_places z k lt).1 ∙ ap (place_of z) e in ap (flag_at new) own ∙ set
          | inr none ↦ absurd none
        ]
      ];
      only = λ k e. elim (cases_eq k p) [
        | inl same ↦ inr (subst (In (cell_at z k)) (sym more) (In-right (addresses ns) (n.at ∷ []) (cell_at z k) (inl (ap (cell_at z) same ∙ at_place))))
        | inr ne ↦ elim (h.only k (sym (others k ne) ∙ e)) [
          | inl o ↦ inl o
          | inr i ↦ inr (subst (In (cell_at z k)) (sym more) (In-left (addresses ns) (n.at ∷ []) (cell_at z k) i))
        ]
      ];
    }

-- The cells of a sender's chain are followed from its head on as far as that with number `count`, which stands at
-- `before`, and leads to `at`.
pub record IsWalk (z : Sizes) (q : Slots) (s : ℕ) (d : Directory) (old met : List ℕ) (count before at : ℕ) : Type 0 where
  pub nodes : List Node
  pub linked : Linked (cells_of q) s 0 (d.received + 1) nodes at
  pub head : d.head ≡ first nodes at
  pub behind : before ≡ last 0 nodes
  pub many : d.received + length nodes ≡ count
  pub noted : AreNoted z old met nodes

pub walk_goes : (z : Sizes) (q : Slots) (s : ℕ) (d : Directory) (old met new : List ℕ) (count before at next : ℕ) → IsWalk z q s d old met count before at → IsLinkedCell (cells_of q) s (count + 1) before at next
    → IsCellAddress z at → flag_at new (place_of z at) ≡ 1 → OthersStay (place_of z at) met new → IsWalk z q s d old new (count + 1) at next
walk_goes z q s d old met new count before at next w c cell set others =
    let m = cells_of q in
    let n : Node = node_of at c.cell in
    let many = w.many in
    let number : c.cell.sequence ≡ d.received + 1 + length w.nodes = let e = c.number in omega (arith, e, many) in
    let k : Linked m s 0 (d.received + 1) (w.nodes ++ n ∷ []) c.cell.next = linked_more m s 0 (d.received + 1) w.nodes at c.cell w.linked c.some c.held c.sender number (c.prev ∙ w.behind) in
    let one : length (w.nodes ++ n ∷ []) ≡ length w.nodes + 1 = length-append w.nodes (n ∷ []) in
    record {
      nodes = w.nodes ++ n ∷ [];
      linked = subst (Linked m s 0 (d.received + 1) (w.nodes ++ n ∷ [])) c.next_is k;
      head = w.head ∙ sym (first_append w.nodes (n ∷ []) next);
      behind = sym (last_append 0 w.nodes n);
      many = omega (arith, one, many);
      noted = noted_more z old met new w.nodes n w.noted cell set others;
    }

-- nothing follows the last one
pub walk_ends : (z : Sizes) (q : Slots) (s : ℕ) (d : Directory) (old met : List ℕ) (count before at : ℕ) → q (directory_at s) ≡ Sender s d → IsWalk z q s d old met count before at → count ≡ d.sent → at ≡ 0 → before ≡ d.tail
    → IsFollowed z q s old met
walk_ends z q s d old met count before at held w all end last_one = record {
  nodes = w.nodes;
  chain = record {
    directory = d;
    at = held;
    linked = subst (Linked (cells_of q) s 0 (d.received + 1) w.nodes) end w.linked;
    head = w.head ∙ ap (first w.nodes) end;
    tail = sym last_one ∙ w.behind;
    sent = sym all ∙ sym w.many;
  };
  noted = w.noted;
}

-- what a whole chain of the sender tells of a walk
module _ (z : Sizes) (q : Slots) (s : ℕ) (d : Directory) (old met : List ℕ) (count before at : ℕ) (held : q (directory_at s) ≡ Sender s d) (w : IsWalk z q s d old met count before at) (ns : List Node) (c : IsChain q s ns) where
  same : c.directory ≡ d
  same = sender_same q (directory_at s) s c.directory d c.at held

  linked : Linked (cells_of q) s 0 (d.received + 1) ns 0
  linked = subst (λ (x : Directory). Linked (cells_of q) s 0 (x.received + 1) ns 0) same c.linked

  sent : d.sent ≡ d.received + length ns
  sent = subst (λ (x : Directory). x.sent ≡ x.received + length ns) same c.sent

  tail : d.tail ≡ last 0 ns
  tail = subst (λ (x : Directory). x.tail ≡ last 0 ns) same c.tail

  head : d.head ≡ first ns 0
  head = subst (λ (x : Directory). x.head ≡ first ns 0) same c.head

  abbrev left : IsRest (cells_of q) s 0 (d.received + 1) w.nodes ns at
  left = rest_of_chain (cells_of q) s 0 (d.received + 1) w.nodes ns at w.linked linked (sym w.head ∙ head)

  -- where it isn't at its end, the next cell stands where it should
  pub next_stands : count < d.sent → (next : ℕ) × IsLinkedCell (cells_of q) s (count + 1) before at next
  next_stands lt =
      let r = left in
      let many = w.many in
      let l : 0 < length r.rest = let a = r.many in let b = sent in omega (arith, a, b, many, lt) in
      let k = next_of_rest (cells_of q) s (last 0 w.nodes) (d.received + 1 + length w.nodes) r.rest at r.linked r.begins l in
      let number : d.received + 1 + length w.nodes ≡ count + 1 = omega (arith, many) in
      (k.0, subst (λ n. IsLinkedCell (cells_of q) s n before at k.0) number (subst (λ p. IsLinkedCell (cells_of q) s (d.received + 1 + length w.nodes) p at k.0) (sym w.behind) k.1))

  pub counts_up : d.received ≤ d.sent
  counts_up = let e = sent in omega (arith, e)

  -- and at its end no other follows, and the last is the tail
  pub stands_last : count ≡ d.sent → (at ≡ 0) × (before ≡ d.tail)
  stands_last e =
      let r = left in
      let many = w.many in
      let l : length r.rest ≡ 0 = let a = r.many in let b = sent in omega (arith, a, b, many, e) in
      let k = none_left r.rest (last 0 w.nodes) at l r.begins in
      (k.0, w.behind ∙ sym k.1 ∙ sym r.ends ∙ sym tail)

-- a walk that cannot go on is along no whole chain
pub walk_stops : (z : Sizes) (q : Slots) (s : ℕ) (d : Directory) (old met : List ℕ) (count before at : ℕ) → q (directory_at s) ≡ Sender s d → IsWalk z q s d old met count before at → count < d.sent
    → ((next : ℕ) → IsLinkedCell (cells_of q) s (count + 1) before at next → ⊥) → (ns : List Node) → IsChain q s ns → ⊥
walk_stops z q s d old met count before at held w lt none ns c = let k = next_stands z q s d old met count before at held w ns c lt in none k.0 k.1

-- nor is one that doesn't end where it should
pub walk_misses : (z : Sizes) (q : Slots) (s : ℕ) (d : Directory) (old met : List ℕ) (count before at : ℕ) → q (directory_at s) ≡ Sender s d → IsWalk z q s d old met count before at → (d.received ≤ d.sent → count ≡ d.sent)
    → (d.received ≤ d.sent → at ≡ 0 → before ≡ d.tail → ⊥) → (ns : List Node) → IsChain q s ns → ⊥
walk_misses z q s d old met count before at held w all none ns c =
    let up = counts_up z q s d old met count before at held w ns c in
    let k = stands_last z q s d old met count before at held w ns c (all up) in
    none up k.0 k.1

module _ (z : Sizes) (q : Slots) (s : ℕ) (d : Directory) (old met : List ℕ) (count before at : ℕ) (held : q (directory_at s) ≡ Sender s d) (w : IsWalk z q s d old met count before at)
    (all : d.received ≤ d.sent → count ≡ d.sent) (b : Bool) (k : IsTrue b ↔ EndsSo d before at) where
  pub ends_whole : OnTrue b (IsFollowed z q s old met)
  ends_whole = OnTrue_from b (IsFollowed z q s old met) (λ e. let t = k.0 e in walk_ends z q s d old met count before at held w (all t.0) t.1 t.2)

  pub ends_broken : OnFalse b ((ns : List Node) → IsChain q s ns → ⊥)
  ends_broken = OnFalse_from b ((ns : List Node) → IsChain q s ns → ⊥)
      (λ e. walk_misses z q s d old met count before at held w all (λ up none last_one. false≢true (sym e ∙ k.1 (up, none, last_one))))
