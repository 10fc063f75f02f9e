-- A planned receive fits the slots that it is planned from.
use Rattle.std.proofs.Common.{◌≡◌, ◌≢◌, ℕ, ◌+◌, ◌<◌, List, [], ◌∷◌, length, map, refl, sym, ◌∙◌, ap, Option, Some, None, arith}
use Rattle.std.proofs.lemmas.List.{length-map}
use Rattle.rq_page.specs.declared.cell.Cell.{Cell}
use Rattle.rq_page.specs.declared.directory.Directory.{Directory}
use Rattle.rq_page.specs.Slots.Slot.{Free, Used, Sender}
use Rattle.rq_views.specs.Chain.{Node, first, Linked, View, Shows, message}
use Rattle.rq_views.specs.Log.{Slots, Write, HasBefores, Places, cells_of, cell_in, put}
use Rattle.rq_views.specs.Plans.{ShowsAt, LinksTo, unlink_head_writes, with_prev, IsUnlinkHead}
use Rattle.rq_views.proofs.Chains.{other_place}
use Rattle.rq_views.proofs.ChainLaws.{shows_here}
use Rattle.rq_views.proofs.Overlay.{put_off}
use Rattle.rq_store.specs.Plans.{Stands_at}

same_some : (a b : Cell) → Some a ≡ Some b → a ≡ b
same_some a b e = cc

-- what the first cell of a chain says, and the one behind it
record FirstCells (q : Slots) (s : ℕ) (d : Directory) (c : Cell) (next : Option Cell) (count : ℕ) : Type 0 where
  sender : c.sender ≡ s
  link : LinksTo s c.next next
  apart : (x : Cell) → next ≡ Some x → c.sequence < x.sequence
  one : next ≡ None → count ≡ 1
  more : (x : Cell) → next ≡ Some x → 1 < count

first_cells : (q : Slots) (s : ℕ) (d : Directory) (v : View) (c : Cell) (next : Option Cell) → q 0 ≡ Free → 0 < d.head → q d.head ≡ Used c → Stands_at q c.next next → Shows (cells_of q) s d v → FirstCells q s d c next (length v.messages)
first_cells q s d v c next zero pos here beside k = at k.nodes k.linked k.head k.messages where
  at : (ns : List Node) → Linked (cells_of q) s 0 (d.received + 1) ns 0 → d.head ≡ first ns 0 → v.messages ≡ map message ns → FirstCells q s d c next (length v.messages)
  at [] l h m = absurd (omega (arith, pos, h))
  at (n ∷ ns) l h m =
      let is : c ≡ record { sender = s; sequence = d.received + 1; tag = n.tag; body = n.body; next = first ns 0; prev = 0 } = same_some c _ (ap cell_in (sym here) ∙ ap (cells_of q) h ∙ l.1) in
      let count : length v.messages ≡ length (n ∷ ns) = ap (λ (x : List (ℕ × List ℕ)). length x) m ∙ length-map (n ∷ ns) message in
      behind ns l.2 (ap (λ (x : Cell). x.next) is) (ap (λ (x : Cell). x.sender) is) (ap (λ (x : Cell). x.sequence) is) count next beside
    where
      behind : (ns : List Node) → Linked (cells_of q) s n.at (d.received + 1 + 1) ns 0 → c.next ≡ first ns 0 → c.sender ≡ s → c.sequence ≡ d.received + 1 → length v.messages ≡ length (n ∷ ns) → (o : Option Cell) → Stands_at q c.next o → FirstCells q s d c o (length v.messages)
      behind [] l e sender number count None b = record { sender = sender; link = b; apart = λ x f. cc; one = λ f. (omega (arith, count)); more = λ x f. cc }
      behind [] l e sender number count (Some x) b = let bad : Used x ≡ Free = sym b ∙ ap q e ∙ zero in cc
      behind (m ∷ ms) l e sender number count None b = absurd (let p = l.0 in omega (arith, p, e, b))
      behind (m ∷ ms) l e sender number count (Some x) b =
          let is : x ≡ record { sender = s; sequence = d.received + 1 + 1; tag = m.tag; body = m.body; next = first ms 0; prev = n.at } = same_some x _ (ap cell_in (sym b) ∙ ap (cells_of q) e ∙ l.1) in
          let there : 0 < c.next = (let p = l.0 in omega (arith, p, e)) in
          let second : x.sequence ≡ d.received + 1 + 1 = ap (λ (y : Cell). y.sequence) is in record {
            sender = sender;
            link = (there, ap (λ (y : Cell). y.sender) is);
            apart = λ y f. (let g : x.sequence ≡ y.sequence = ap (λ (z : Cell). z.sequence) (same_some x y f) in omega (arith, number, second, g));
            one = λ f. cc;
            more = λ y f. omega (arith, count);
          }

pub is_unlink_head : (l : Places) (q : Slots) (s : ℕ) (d : Directory) (c : Cell) (next : Option Cell) (v : View) (ws : List Write) → q 0 ≡ Free → q (l.directory_at s) ≡ Sender s d → ShowsAt l q s v → 0 < d.head → q d.head ≡ Used c → Stands_at q c.next next
    → ws ≡ unlink_head_writes l s d c next → IsUnlinkHead l s (d.received + 1) c.tag c.body ws
is_unlink_head l q s d c next v ws zero at shows pos here beside e =
    let f = first_cells q s d v c next zero pos here beside (shows_here l q s v d (sym at) shows) in
    record { directory = d; cell = c; next = next; used = pos; sender = f.sender; sequence = refl; tag_is = refl; body_is = refl; next_is = f.link; writes = e }

pub unlink_head_fits : (l : Places) (q : Slots) (s : ℕ) (d : Directory) (c : Cell) (next : Option Cell) (v : View) → q 0 ≡ Free → q (l.directory_at s) ≡ Sender s d → ShowsAt l q s v → 0 < d.head → q d.head ≡ Used c → Stands_at q c.next next
    → HasBefores (unlink_head_writes l s d c next) q
unlink_head_fits l q s d c None v zero at shows pos here beside =
    let off : l.directory_at s ≢ d.head = λ e. (let bad : Sender s d ≡ Used c = sym at ∙ ap q e ∙ here in cc) in
    (sym (put_off q d.head Free (l.directory_at s) off ∙ at), (sym here, tt))
unlink_head_fits l q s d c (Some x) v zero at shows pos here beside =
    let f = first_cells q s d v c (Some x) zero pos here beside (shows_here l q s v d (sym at) shows) in
    let off : l.directory_at s ≢ d.head = λ e. (let bad : Sender s d ≡ Used c = sym at ∙ ap q e ∙ here in cc) in
    let off_next : l.directory_at s ≢ c.next = λ e. (let bad : Sender s d ≡ Used x = sym at ∙ ap q e ∙ beside in cc) in
    let apart : c.next ≢ d.head = λ e. other_place (cells_of q) d.head c.next c x (ap cell_in here) (ap cell_in beside) (f.apart x refl) (sym e) in
    (sym (put_off (put q d.head Free) c.next (Used (with_prev 0 x)) (l.directory_at s) off_next ∙ put_off q d.head Free (l.directory_at s) off ∙ at), (sym (put_off q d.head Free c.next apart ∙ beside), (sym here, tt)))
