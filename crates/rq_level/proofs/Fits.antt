-- A chain operation writes no slot twice. So where each of its writes is over what its slot holds, each is over what those
-- before it leave.
use Rattle.std.proofs.Common.{◌≡◌, ◌≢◌, ℕ, ◌+◌, ◌<◌, List, [], ◌∷◌, ◌++◌, Option, None, Some, sym, ap, ◌∙◌, subst, arith}
use Rattle.std.specs.List.{AllByRecursion}
use Rattle.rq_page.specs.declared.cell.Cell.{Cell}
use Rattle.rq_page.specs.declared.directory.Directory.{Directory}
use Rattle.rq_page.specs.Slots.{Slot}
use Rattle.rq_page.specs.Slots.Slot.{Free, Used, Sender}
use Rattle.rq_views.specs.Chain.{Node, first, last, Linked, View, Shows, directory_appended}
use Rattle.rq_views.specs.Log.{Slots, HasBefores, Places, Write, cell_in, cells_of, put}
use Rattle.rq_views.specs.Plans.{ShowsAt, append_writes, directory_head_unlinked, directory_put_back, directory_tail_unlinked, directory_write, put_back_writes, relinked, unlink_head_writes, unlink_tail_writes, with_next, with_prev}
use Rattle.rq_views.proofs.ChainLaws.{free_sender, shows_here, used_sender}
use Rattle.rq_views.proofs.Chains.{end_linked, front_linked, last_append, last_is, other_place}
use Rattle.rq_views.proofs.Overlay.{put_off}
use Rattle.rq_views.proofs.Takes.{snoc, some_is}

used_free : (c : Cell) → Used c ≡ Free → ⊥
used_free c e = cc

module _ (l : Places) (q : Slots) (s : ℕ) (v : View) (d : Directory) where
  abbrev Over : List Write → Type 0
  Over ws = AllByRecursion (λ (w : Write). w.before ≡ q w.at) ws

  -- other things stand at other places
  apart : (a b : ℕ) (x y : Slot) → x ≡ q a → y ≡ q b → (x ≡ y → ⊥) → a ≢ b
  apart a b x y h k ne = λ e. ne (h ∙ ap q e ∙ sym k)

  -- a directory slot, a neighbour, a cell
  linked_fits : (to : Directory) (c : Write) (at : ℕ) (o : Option Cell) (f : Cell → Cell) → (c.before ≡ Sender s d → ⊥) → ((x : Cell) → Used x ≡ q at → c.before ≡ q c.at → at ≢ c.at)
      → Over (directory_write l s d to ∷ relinked at o f (c ∷ [])) → HasBefores (directory_write l s d to ∷ relinked at o f (c ∷ [])) q
  linked_fits to c at None f other off h = (h.0 ∙ sym (put_off q c.at c.after (l.directory_at s) (λ e. other (h.1.0 ∙ ap q (sym e) ∙ sym h.0))), (h.1.0, tt))
  linked_fits to c at (Some x) f other off h =
      let q1 = put q c.at c.after in (
        h.0 ∙ sym (put_off q1 at (Used (f x)) (l.directory_at s) (λ e. used_sender x s d (h.1.0 ∙ ap q (sym e) ∙ sym h.0)) ∙ put_off q c.at c.after (l.directory_at s) (λ e. other (h.1.1.0 ∙ ap q (sym e) ∙ sym h.0))),
        (h.1.0 ∙ sym (put_off q c.at c.after at (off x h.1.0 h.1.1.0)), (h.1.1.0, tt)),
      )

  -- the first cell is not the one after it
  head_apart : Shows (cells_of q) s d v → (c : Cell) → 0 < d.head → q d.head ≡ Used c → c.next ≢ d.head
  head_apart k c pos e = at k.nodes k.linked k.head where
    at : (ns : List Node) → Linked (cells_of q) s 0 (d.received + 1) ns 0 → d.head ≡ first ns 0 → c.next ≢ d.head
    at [] i h = λ same. omega (arith, pos, h)
    at (n ∷ []) i h =
        let is : c.next ≡ 0 = ap (λ (y : Cell). y.next) (some_is c _ (sym (ap cell_in e) ∙ ap (cells_of q) h ∙ i.1)) in
        λ same. omega (arith, is, same, pos)
    at (n ∷ m ∷ ms) i h =
        let is : c.next ≡ m.at = ap (λ (y : Cell). y.next) (some_is c _ (sym (ap cell_in e) ∙ ap (cells_of q) h ∙ i.1)) in
        λ same. other_place (cells_of q) n.at m.at _ _ i.1 i.2.1 (omega arith) (sym h ∙ sym same ∙ is)

  -- the last cell is not the one before it
  tail_apart : Shows (cells_of q) s d v → (c : Cell) → 0 < d.tail → q d.tail ≡ Used c → c.prev ≢ d.tail
  tail_apart k c pos e = at k.nodes k.linked k.tail where
    one : (xs : List Node) (y : Node) → Linked (cells_of q) s 0 (d.received + 1) (xs ++ y ∷ []) 0 → d.tail ≡ y.at → c.prev ≡ last 0 xs → c.prev ≢ d.tail
    one [] y i t f = λ same. omega (arith, f, same, pos)
    one (z ∷ xs) y i t f =
        let r = last_is (cells_of q) s 0 (d.received + 1) z xs (first (y ∷ []) 0) (front_linked (cells_of q) s 0 (d.received + 1) (z ∷ xs) (y ∷ []) 0 i) in
        λ same. other_place (cells_of q) (last z.at xs) y.at r.0 _ r.1 (end_linked (cells_of q) s 0 (d.received + 1) (z ∷ xs) y i) (omega (arith, r.2)) (sym f ∙ same ∙ t)

    at : (ns : List Node) → Linked (cells_of q) s 0 (d.received + 1) ns 0 → d.tail ≡ last 0 ns → c.prev ≢ d.tail
    at [] i t = λ same. omega (arith, pos, t)
    at (n ∷ ns) i t =
        let r = snoc n ns in
        let whole : Linked (cells_of q) s 0 (d.received + 1) (r.0 ++ r.1 ∷ []) 0 = subst (λ xs. Linked (cells_of q) s 0 (d.received + 1) xs 0) r.2 i in
        let there : d.tail ≡ r.1.at = t ∙ ap (λ xs. last 0 xs) r.2 ∙ last_append 0 r.0 r.1 in
        one r.0 r.1 whole there (ap (λ (y : Cell). y.prev) (some_is c _ (sym (ap cell_in e) ∙ ap (cells_of q) there ∙ end_linked (cells_of q) s 0 (d.received + 1) r.0 r.1 whole)))

  pub sent_fits : (new tag : ℕ) (body : List ℕ) (old : Option Cell) → Over (append_writes l s d new tag body old) → HasBefores (append_writes l s d new tag body old) q
  sent_fits new tag body old h = linked_fits (directory_appended d new tag) _ d.tail old (with_next new) (free_sender s d) (λ x there here. apart d.tail new (Used x) Free there here (used_free x)) h

  pub returned_fits : (new tag : ℕ) (body : List ℕ) (old : Option Cell) → Over (put_back_writes l s d new tag body old) → HasBefores (put_back_writes l s d new tag body old) q
  returned_fits new tag body old h = linked_fits (directory_put_back d new) _ d.head old (with_prev new) (free_sender s d) (λ x there here. apart d.head new (Used x) Free there here (used_free x)) h

  pub received_fits : ShowsAt l q s v → (c : Cell) (next : Option Cell) → 0 < d.head → Over (unlink_head_writes l s d c next) → HasBefores (unlink_head_writes l s d c next) q
  received_fits shows c next pos h = linked_fits (directory_head_unlinked d c) _ c.next next (with_prev 0) (used_sender c s d) (λ x there here. head_apart (shows_here l q s v d h.0 shows) c pos (sym here)) h

  pub unsent_fits : ShowsAt l q s v → (c : Cell) (previous : ℕ) (front : Option Cell) → 0 < d.tail → Over (unlink_tail_writes l s d c previous front) → HasBefores (unlink_tail_writes l s d c previous front) q
  unsent_fits shows c previous front pos h = linked_fits (directory_tail_unlinked d c previous) _ c.prev front (with_next 0) (used_sender c s d) (λ x there here. tail_apart (shows_here l q s v d h.0 shows) c pos (sym here)) h
