-- The cells that a chain operation's writes are over are those of its sender's chain, as the slots show it.
use Rattle.std.proofs.Common.{◌≡◌, ◌≢◌, ℕ, ◌+◌, ◌<◌, List, [], ◌∷◌, ◌++◌, map, sym, ap, ◌∙◌, subst, Option, None, Some, arith}
use Rattle.rq_page.specs.declared.cell.Cell.{Cell}
use Rattle.rq_page.specs.declared.directory.Directory.{Directory}
use Rattle.rq_page.specs.Slots.Slot.{Free, Used, Sender}
use Rattle.rq_views.specs.Chain.{Node, first, last, Linked, View, message, Shows}
use Rattle.rq_views.specs.Log.{Slots, HasBefores, Places, cell_in, cells_of, put}
use Rattle.rq_views.specs.Plans.{ShowsAt, LinksTo, append_writes, put_back_writes, unlink_head_writes, unlink_tail_writes, with_next, with_prev}
use Rattle.rq_views.proofs.ChainLaws.{free_sender, shows_here, through, used_sender}
use Rattle.rq_views.proofs.Chains.{end_linked, front_linked, last_append, last_is, none_some, tail_used}
use Rattle.rq_views.proofs.Overlay.{put_off}
use Rattle.rq_views.proofs.Takes.{snoc, some_is}

-- a link names a cell where there is one
abbrev pub Names : ℕ → Option Cell → Type 0
Names a None = a ≡ 0
Names a (Some c) = 0 < a

not_free : (c : Cell) → Free ≡ Used c → ⊥
not_free c e = cc

module _ (l : Places) (q : Slots) (s : ℕ) (v : View) (d : Directory) where
  -- the cell that stands at an address
  stands : (a : ℕ) (c : Cell) → q a ≡ Used c → cells_of q a ≡ Some c
  stands a c e = ap cell_in e

  -- ---- chains

  last_of_sender : Shows (cells_of q) s d v → (c : Cell) → 0 < d.tail → q d.tail ≡ Used c → c.sender ≡ s
  last_of_sender k c pos e =
      let r = tail_used (cells_of q) s (d.received + 1) k.nodes (subst (λ a. 0 < a) k.tail pos) k.linked in
      ap (λ (x : Cell). x.sender) (some_is c r.0 (sym (stands d.tail c e) ∙ ap (cells_of q) k.tail ∙ r.1)) ∙ r.2

  tail_is_used : Shows (cells_of q) s d v → (a : ℕ) → 0 < d.tail → Free ≡ q a → d.tail ≢ a
  tail_is_used k a pos free e =
      let r = tail_used (cells_of q) s (d.received + 1) k.nodes (subst (λ a. 0 < a) k.tail pos) k.linked in
      none_some (cells_of q d.tail) r.0 (ap (cells_of q) e ∙ ap cell_in (sym free)) (ap (cells_of q) k.tail ∙ r.1)

  -- what the first cell tells
  pub record IsFirst (c : Cell) : Type 0 where
    pub sender : c.sender ≡ s
    pub rest : List (ℕ × List ℕ)
    pub messages : v.messages ≡ (c.tag, c.body) ∷ rest
    pub next : (x : Cell) → 0 < c.next → q c.next ≡ Used x → x.sender ≡ s

  first_tells : Shows (cells_of q) s d v → (c : Cell) → 0 < d.head → q d.head ≡ Used c → IsFirst c
  first_tells k c pos e = at k.nodes k.linked k.head k.messages where
    second : (ns : List Node) (p n : ℕ) → Linked (cells_of q) s p n ns 0 → c.next ≡ first ns 0 → (x : Cell) → 0 < c.next → q c.next ≡ Used x → x.sender ≡ s
    second [] p n i f x more b = absurd (omega (arith, more, f))
    second (m ∷ ms) p n i f x more b = ap (λ (y : Cell). y.sender) (some_is x _ (sym (stands c.next x b) ∙ ap (cells_of q) f ∙ i.1))

    at : (ns : List Node) → Linked (cells_of q) s 0 (d.received + 1) ns 0 → d.head ≡ first ns 0 → v.messages ≡ map message ns → IsFirst c
    at [] i h m = absurd (omega (arith, pos, h))
    at (n ∷ ns) i h m =
        let is : c ≡ record { sender = s; sequence = d.received + 1; tag = n.tag; body = n.body; next = first ns 0; prev = 0 } = some_is c _ (sym (stands d.head c e) ∙ ap (cells_of q) h ∙ i.1) in
        record {
          sender = ap (λ (y : Cell). y.sender) is;
          rest = map message ns;
          messages = m ∙ ap (λ (y : Cell). (y.tag, y.body) ∷ map message ns) (sym is);
          next = second ns n.at (d.received + 1 + 1) i.2 (ap (λ (y : Cell). y.next) is);
        }

  head_is_used : Shows (cells_of q) s d v → (a : ℕ) → 0 < d.head → Free ≡ q a → d.head ≢ a
  head_is_used k a pos free e = at k.nodes k.linked k.head where
    at : (ns : List Node) → Linked (cells_of q) s 0 (d.received + 1) ns 0 → d.head ≡ first ns 0 → ⊥
    at [] i h = absurd (omega (arith, pos, h))
    at (n ∷ ns) i h = none_some (cells_of q d.head) _ (ap (cells_of q) e ∙ ap cell_in (sym free)) (ap (cells_of q) h ∙ i.1)

  -- the cell before the last
  front_of_sender : Shows (cells_of q) s d v → (c x : Cell) → 0 < d.tail → q d.tail ≡ Used c → 0 < c.prev → q c.prev ≡ Used x → x.sender ≡ s
  front_of_sender k c x pos e more b = at k.nodes k.linked k.tail where
    one : (xs : List Node) (y : Node) → Linked (cells_of q) s 0 (d.received + 1) (xs ++ y ∷ []) 0 → c.prev ≡ last 0 xs → x.sender ≡ s
    one [] y i f = absurd (omega (arith, more, f))
    one (z ∷ xs) y i f =
        let r = last_is (cells_of q) s 0 (d.received + 1) z xs (first (y ∷ []) 0) (front_linked (cells_of q) s 0 (d.received + 1) (z ∷ xs) (y ∷ []) 0 i) in
        ap (λ (t : Cell). t.sender) (some_is x r.0 (sym (stands c.prev x b) ∙ ap (cells_of q) f ∙ r.1)) ∙ r.3

    at : (ns : List Node) → Linked (cells_of q) s 0 (d.received + 1) ns 0 → d.tail ≡ last 0 ns → x.sender ≡ s
    at [] i t = absurd (omega (arith, pos, t))
    at (n ∷ ns) i t =
        let r = snoc n ns in
        let apart : Linked (cells_of q) s 0 (d.received + 1) (r.0 ++ r.1 ∷ []) 0 = subst (λ xs. Linked (cells_of q) s 0 (d.received + 1) xs 0) r.2 i in
        let there : d.tail ≡ r.1.at = t ∙ ap (λ xs. last 0 xs) r.2 ∙ last_append 0 r.0 r.1 in
        one r.0 r.1 apart (ap (λ (y : Cell). y.prev) (some_is c _ (sym (stands d.tail c e) ∙ ap (cells_of q) there ∙ end_linked (cells_of q) s 0 (d.received + 1) r.0 r.1 apart)))

  -- ---- plans

  module _ (h : ShowsAt l q s v) where
    pub sent : (new tag : ℕ) (body : List ℕ) (old : Option Cell) → Names d.tail old → HasBefores (append_writes l s d new tag body old) q → Shows (cells_of q) s d v × LinksTo s d.tail old
    sent new tag body None names f = (shows_here l q s v d (through q new _ (Sender s d) (l.directory_at s) (used_sender _ s d) f.0).1 h, names)
    sent new tag body (Some c) names f =
        let one : Cell = record { sender = s; sequence = d.sent + 1; tag = tag; body = body; next = 0; prev = d.tail } in
        let q1 = put q new (Used one) in
        let t = through q1 d.tail (Used (with_next new c)) (Sender s d) (l.directory_at s) (used_sender (with_next new c) s d) f.0 in
        let k = shows_here l q s v d (through q new (Used one) (Sender s d) (l.directory_at s) (used_sender one s d) t.1).1 h in
        (k, (names, last_of_sender k c names (sym (f.1.0 ∙ put_off q new (Used one) d.tail (tail_is_used k new names f.1.1.0)))))

    pub received : (c : Cell) (next : Option Cell) → 0 < d.head → Names c.next next → HasBefores (unlink_head_writes l s d c next) q → Shows (cells_of q) s d v × IsFirst c × LinksTo s c.next next
    received c None pos names f =
        let k = shows_here l q s v d (through q d.head Free (Sender s d) (l.directory_at s) (free_sender s d) f.0).1 h in
        (k, first_tells k c pos (sym f.1.0), names)
    received c (Some x) pos names f =
        let q1 = put q d.head Free in
        let t = through q1 c.next (Used (with_prev 0 x)) (Sender s d) (l.directory_at s) (used_sender (with_prev 0 x) s d) f.0 in
        let k = shows_here l q s v d (through q d.head Free (Sender s d) (l.directory_at s) (free_sender s d) t.1).1 h in
        let one = first_tells k c pos (sym f.1.1.0) in
        (k, one, (names, one.next x names (sym (through q d.head Free (Used x) c.next (not_free x) f.1.0).1)))

    pub unsent : (c : Cell) (previous : ℕ) (front : Option Cell) → 0 < d.tail → Names c.prev front → HasBefores (unlink_tail_writes l s d c previous front) q → (c.sender ≡ s) × LinksTo s c.prev front
    unsent c previous None pos names f =
        let k = shows_here l q s v d (through q d.tail Free (Sender s d) (l.directory_at s) (free_sender s d) f.0).1 h in
        (last_of_sender k c pos (sym f.1.0), names)
    unsent c previous (Some x) pos names f =
        let q1 = put q d.tail Free in
        let t = through q1 c.prev (Used (with_next 0 x)) (Sender s d) (l.directory_at s) (used_sender (with_next 0 x) s d) f.0 in
        let k = shows_here l q s v d (through q d.tail Free (Sender s d) (l.directory_at s) (free_sender s d) t.1).1 h in
        let here : q d.tail ≡ Used c = sym f.1.1.0 in
        (last_of_sender k c pos here, (names, front_of_sender k c x pos here names (sym (through q d.tail Free (Used x) c.prev (not_free x) f.1.0).1)))

    pub returned : (new tag : ℕ) (body : List ℕ) (old : Option Cell) → Names d.head old → HasBefores (put_back_writes l s d new tag body old) q → LinksTo s d.head old
    returned new tag body None names f = names
    returned new tag body (Some x) names f =
        let one : Cell = record { sender = s; sequence = d.received; tag = tag; body = body; next = d.head; prev = 0 } in
        let q1 = put q new (Used one) in
        let t = through q1 d.head (Used (with_prev new x)) (Sender s d) (l.directory_at s) (used_sender (with_prev new x) s d) f.0 in
        let k = shows_here l q s v d (through q new (Used one) (Sender s d) (l.directory_at s) (used_sender one s d) t.1).1 h in
        (names, (first_tells k x names (sym (f.1.0 ∙ put_off q new (Used one) d.head (head_is_used k new names f.1.1.0)))).sender)
