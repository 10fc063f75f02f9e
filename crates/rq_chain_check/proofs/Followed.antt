-- Chains that were followed one after the other, and the cells that none of them met.
use Rattle.std.proofs.Common.{◌≡◌, ◌≢◌, ℕ, ◌+◌, ◌/◌, ◌%◌, ◌<◌, ◌≤◌, inl, inr, List, [], true, false, cond, nat_eq, nat_lt, refl, sym, ◌∙◌, ap, subst, arith, Option, Some, None}
use Rattle.std.proofs.lemmas.Bool.{cases_Bool, cases_eq, cases_order, eq-eqb, false≢true, ltb-true}
use Rattle.rq_model.specs.Vocabulary.{In}
use Rattle.rq_page.specs.Kinds.{kind_of}
use Rattle.rq_page.specs.declared.layout.PageKind.{PageKind}
use Rattle.rq_page.specs.declared.layout.PageKind.TheVariants as kind
use Rattle.rq_page.specs.Sizes.{Sizes, IsCellAddress, cell_at, cell_count, place_of, sender_count}
use Rattle.rq_page.specs.Slots.{held_for, held_in}
use Rattle.rq_page.proofs.Addresses.{places_are_cells, cells_rise}
use Rattle.rq_bitset.specs.Flags.{flag_at}
use Rattle.rq_views.specs.Chain.{Node}
use Rattle.rq_views.specs.Log.{Slots}
use Rattle.rq_views.specs.Stored.{is_used, slot_at, slots_in}
use Rattle.rq_views.proofs.Chains.{no_eq}
use Rattle.rq_views.proofs.Stands.{page_of_cells}
use Rattle.rq_chain_check.specs.Follows.{AreFollowed, IsFollowed}
use Rattle.rq_chain_check.specs.Links.{addresses, AreLinked, IsChain, IsFirstUnmet, IsMet}
use Rattle.rq_chain_check.proofs.Chains.{chains_of}

-- none is followed
pub followed_none : (z : Sizes) (q : Slots) (met : List ℕ) → ((k : ℕ) → flag_at met k ≡ 0) → AreFollowed z q 0 met
followed_none z q met none = record {
  chains = λ s. [];
  whole = chains_of 0 q (λ s. []) (λ s lt. absurd (omega (arith, lt)));
  added = λ k lt m. absurd (let b = m.below in omega (arith, b));
  only = λ k e. absurd (let n = none k in omega (arith, e, n));
}

-- the chains with one more
abbrev with_chain : (ℕ → List Node) → ℕ → List Node → ℕ → List Node
with_chain cs n ns = λ s. cond (nat_eq s n) ns (cs s)

with_own : (cs : ℕ → List Node) (n : ℕ) (ns : List Node) (s : ℕ) → s ≡ n → with_chain cs n ns s ≡ ns
with_own cs n ns s e = let b : nat_eq s n ≡ true = eq-eqb s n e in rw b refl

with_other : (cs : ℕ → List Node) (n : ℕ) (ns : List Node) (s : ℕ) → s ≢ n → with_chain cs n ns s ≡ cs s
with_other cs n ns s ne = let b : nat_eq s n ≡ false = no_eq s n ne in rw b refl

-- one more is followed
pub followed_more : (z : Sizes) (q : Slots) (n : ℕ) (old new : List ℕ) → AreFollowed z q n old → IsFollowed z q n old new → AreFollowed z q (n + 1) new
followed_more z q n old new a f =
    let cs = with_chain a.chains n f.nodes in
    record {
      chains = cs;
      whole = chains_of (n + 1) q cs (λ s lt. elim (cases_eq s n) [
        | inl e ↦ subst (IsChain q s) (sym (with_own a.chains n f.nodes s e)) (subst (λ r. IsChain q r f.nodes) (sym e) f.chain)
        | inr ne ↦ subst (IsChain q s) (sym (with_other a.chains n f.nodes s ne)) (a.whole.whole s (omega (arith, lt, ne)))
      ]);
      added = λ k lt m. elim (cases_eq m.sender n) [
        | inl e ↦ f.noted.added k lt (subst (λ ns. In (cell_at z k) (addresses ns)) (with_own a.chains n f.nodes m.sender e) m.met)
        | inr ne ↦ f.noted.kept k (a.added k lt (record {
          sender = m.sender;
          below = (let b = m.below in omega (arith, b, ne));
          met = subst (λ ns. In (cell_at z k) (addresses ns)) (with_other a.chains n f.nodes m.sender ne) m.met;
        }))
      ];
      only = λ k e. elim (f.noted.only k e) [
        | inl o ↦
            let m = a.only k o in
            let b = m.below in
            let ne : m.sender ≢ n = (λ same. omega (arith, b, same)) in
            record { sender = m.sender; below = omega (arith, b); met = subst (λ ns. In (cell_at z k) (addresses ns)) (sym (with_other a.chains n f.nodes m.sender ne)) m.met }
        | inr i ↦ record { sender = n; below = omega arith; met = subst (λ ns. In (cell_at z k) (addresses ns)) (sym (with_own a.chains n f.nodes n refl)) i }
      ];
    }

held_used : (k : Option PageKind) (bytes : List ℕ) → is_used (held_for k bytes) ≡ true → k ≡ Some kind.Cells
held_used None bytes e = absurd (false≢true e)
held_used (Some kind.Superblock) bytes e = absurd (false≢true e)
held_used (Some kind.Directory) bytes e = absurd (false≢true e)
held_used (Some kind.Cells) bytes e = refl
held_used (Some kind.Tags) bytes e = absurd (false≢true e)

-- only cells are used
pub used_is_cell : (z : Sizes) (images : List (List ℕ)) (a : ℕ) → is_used (slots_in z images a) ≡ true → IsCellAddress z a
used_is_cell z images a e = elim (cases_Bool (nat_lt 0 (a % 16))) [
  | inl y ↦
      let held : is_used (held_in z (a / 16) (slot_at images a)) ≡ true = rw y at e in
      let p = page_of_cells z (a / 16) (held_used (kind_of z (a / 16)) (slot_at images a) held) in
      record { above = p.0; below = p.1; slot = ltb-true 0 (a % 16) y }
  | inr n ↦ absurd (false≢true (rw n at e))
]

-- the cells with places below k that are used are noted
abbrev pub AreSeen : Sizes → Slots → List ℕ → ℕ → Type 0
AreSeen z q met k = (i : ℕ) → i < k → is_used (q (cell_at z i)) ≡ true → flag_at met i ≡ 1

seen_met : (z : Sizes) (q : Slots) (met : List ℕ) (k a : ℕ) (f : AreFollowed z q (sender_count z) met) → AreSeen z q met k → IsCellAddress z a → place_of z a < k → is_used (q a) ≡ true → IsMet (sender_count z) f.chains a
seen_met z q met k a f seen cell lt used =
    let e : cell_at z (place_of z a) ≡ a = (places_are_cells z a cell).1 in
    subst (IsMet (sender_count z) f.chains) e (f.only (place_of z a) (seen (place_of z a) lt (ap (λ b. is_used (q b)) e ∙ used)))

-- where all are noted the chains are whole
pub seen_all : (z : Sizes) (images : List (List ℕ)) (met : List ℕ) (k : ℕ) → AreFollowed z (slots_in z images) (sender_count z) met → AreSeen z (slots_in z images) met k → cell_count z ≤ k → AreLinked z (slots_in z images)
seen_all z images met k f seen le = record {
  chains = f.chains;
  whole = f.whole;
  all = λ a used.
      let cell = used_is_cell z images a used in
      let p = (places_are_cells z a cell).0 in
      seen_met z (slots_in z images) met k a f seen cell (omega (arith, p, le)) used;
}

-- and where the first one is not, its page is named
pub seen_unmet : (z : Sizes) (images : List (List ℕ)) (met : List ℕ) (k page : ℕ) → AreFollowed z (slots_in z images) (sender_count z) met → AreSeen z (slots_in z images) met k → k < cell_count z
    → is_used (slots_in z images (cell_at z k)) ≡ true → (flag_at met k ≡ 1 → ⊥) → page ≡ cell_at z k / 16 → IsFirstUnmet z (slots_in z images) page
seen_unmet z images met k page f seen lt used unset e = record {
  chains = f.chains;
  whole = f.whole;
  at = cell_at z k;
  used = used;
  unmet = λ m. unset (f.added k lt m);
  page_is = e;
  least = λ a u low.
      let cell = used_is_cell z images a u in
      let p = (places_are_cells z a cell).1 in
      let before : place_of z a < k = elim (cases_order (place_of z a) k) [
        | inl same ↦ absurd (let at_k : cell_at z k ≡ a = ap (cell_at z) (sym same) ∙ p in let pages : cell_at z k / 16 ≡ a / 16 = ap (λ b. b / 16) at_k in omega (arith, pages, low, e))
        | inr ne ↦ elim ne [
          | inl less ↦ less
          | inr more ↦ absurd (let up = cells_rise z k (place_of z a) more in later (cell_at z k) a (omega (arith, up, p)) (omega (arith, low, e)))
        ]
      ] in
      seen_met z (slots_in z images) met k a f seen cell before u;
} where
  later : (a b : ℕ) → a < b → b / 16 < a / 16 → ⊥
  later a b l m = omega (arith, l, m)
