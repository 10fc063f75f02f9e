-- Where a chain has a message, the writes that unlink its tail can be made.
use Rattle.rq_page.specs.declared.cell.Cell.{Cell}
use Rattle.rq_page.specs.declared.directory.Directory.{Directory}
use Rattle.std.proofs.Common.{◌≡◌, ◌≢◌, ℕ, suc, ◌+◌, ◌<◌, List, [], ◌∷◌, ◌++◌, length, map, refl, sym, ap, subst, ◌∙◌, arith, None, Some}
use Rattle.std.proofs.lemmas.List.{length-append}
use Rattle.rq_views.specs.Chain.{Node, last, Linked, View, message}
use Rattle.rq_page.specs.Slots.{Slot}
use Rattle.rq_views.specs.Log.{Slots, put, cell_in, cells_of, Write, HasBefores, Places}
use Rattle.rq_page.specs.Slots.Slot.{Free, Used, Sender, Client}
use Rattle.rq_views.specs.Plans.{ShowsAt, with_next, unlink_tail_writes, IsUnlinkTail}
use Rattle.rq_views.proofs.Chains.{end_linked, front_linked, last_is, last_append, last_pos, other_place}
use Rattle.rq_views.proofs.Overlay.{put_off}
use Rattle.rq_views.proofs.Takes.{snoc, some_is}

pub used_from : (x : Slot) (c : Cell) → cell_in x ≡ Some c → x ≡ Used c
used_from Free c e = cc
used_from (Used b) c e = ap (λ y. Used y) (some_is b c e)
used_from (Sender s d) c e = cc
used_from (Client k) c e = cc

pub apart_from : (q : Slots) (a b s : ℕ) (d : Directory) (c : Cell) → q a ≡ Sender s d → q b ≡ Used c → a ≢ b
apart_from q a b s d c e f h = let k : Used c ≡ Sender s d = sym f ∙ ap q (sym h) ∙ e in cc

tail_at : (l : Places) (q : Slots) (s previous : ℕ) (d : Directory) (xs : List Node) (x : Node) → q (l.directory_at s) ≡ Sender s d → Linked (cells_of q) s 0 (d.received + 1) (xs ++ x ∷ []) 0 → d.tail ≡ x.at → 0 < x.at
    → (ws : List Write) × IsUnlinkTail l s (d.received + 1 + length xs) previous ws × HasBefores ws q
tail_at l q s previous d [] x at k t pos =
    let c : Cell = record { sender = s; sequence = d.received + 1 + 0; tag = x.tag; body = x.body; next = 0; prev = 0 } in
    let here : q d.tail ≡ Used c = ap q t ∙ used_from (q x.at) c (end_linked (cells_of q) s 0 (d.received + 1) [] x k) in (
      unlink_tail_writes l s d c previous None,
      record { directory = d; cell = c; front = None; used = omega (arith, t, pos); sender = refl; sequence = refl; front_is = refl; writes = refl },
      (sym (put_off q d.tail Free (l.directory_at s) (apart_from q (l.directory_at s) d.tail s d c at here) ∙ at), (sym here, tt)),
    )
tail_at l q s previous d (y ∷ ys) x at k t pos =
    let m = cells_of q in
    let c : Cell = record { sender = s; sequence = d.received + 1 + length (y ∷ ys); tag = x.tag; body = x.body; next = 0; prev = last y.at ys } in
    let end = end_linked m s 0 (d.received + 1) (y ∷ ys) x k in
    let here : q d.tail ≡ Used c = ap q t ∙ used_from (q x.at) c end in
    let f = front_linked m s 0 (d.received + 1) (y ∷ ys) (x ∷ []) 0 k in
    let b = last_is m s 0 (d.received + 1) y ys x.at f in
    let before : q (last y.at ys) ≡ Used b.0 = used_from (q (last y.at ys)) b.0 b.1 in
    let off : last y.at ys ≢ d.tail = λ e. other_place m (last y.at ys) x.at b.0 c b.1 end (omega (arith, b.2)) (e ∙ t) in
    let q1 = put q d.tail Free in (
      unlink_tail_writes l s d c previous (Some b.0),
      record { directory = d; cell = c; front = Some b.0; used = omega (arith, t, pos); sender = refl; sequence = refl; front_is = (last_pos m s 0 (d.received + 1) y ys x.at f, b.3); writes = refl },
      (
        sym (put_off q1 (last y.at ys) (Used (with_next 0 b.0)) (l.directory_at s) (apart_from q (l.directory_at s) (last y.at ys) s d b.0 at before) ∙ put_off q d.tail Free (l.directory_at s) (apart_from q (l.directory_at s) d.tail s d c at here) ∙ at),
        (sym (put_off q d.tail Free (last y.at ys) off ∙ before), (sym here, tt)),
      ),
    )

tail_of : (l : Places) (q : Slots) (s previous : ℕ) (d : Directory) (ns : List Node) → 0 < length ns → q (l.directory_at s) ≡ Sender s d → Linked (cells_of q) s 0 (d.received + 1) ns 0 → d.tail ≡ last 0 ns
    → (ws : List Write) × IsUnlinkTail l s (d.received + length ns) previous ws × HasBefores ws q
tail_of l q s previous d [] more at k t = absurd (omega (arith, more))
tail_of l q s previous d (n ∷ ns) more at k t =
    let r = snoc n ns in
    let e : d.tail ≡ r.1.at = t ∙ ap (λ l. last 0 l) r.2 ∙ last_append 0 r.0 r.1 in
    let p = last_pos (cells_of q) s 0 (d.received + 1) n ns 0 k in
    let a = tail_at l q s previous d r.0 r.1 at (subst (λ ns. Linked (cells_of q) s 0 (d.received + 1) ns 0) r.2 k) e (omega (arith, p, t, e)) in
    let len : length (n ∷ ns) ≡ length (r.0 ++ r.1 ∷ []) = ap (λ (l : List Node). length l) r.2 in
    let number : d.received + 1 + length r.0 ≡ d.received + length (n ∷ ns) = omega (arith, len, length-append r.0 (r.1 ∷ [])) in
    (a.0, subst (λ k. IsUnlinkTail l s k previous a.0) number a.1, a.2)

pub length_shown : (ns : List Node) → length (map message ns) ≡ length ns
length_shown [] = refl
length_shown (n ∷ ns) = ap suc (length_shown ns)

-- the inverse of an append numbered by what the view holds can be made, over the slots as they are
pub can_unlink_tail : (l : Places) (q : Slots) (s previous : ℕ) (v : View) → 0 < length v.messages → ShowsAt l q s v → (ws : List Write) × IsUnlinkTail l s (v.received + length v.messages) previous ws × HasBefores ws q
can_unlink_tail l q s previous v more h =
    let d = h.directory in
    let len : length v.messages ≡ length h.shows.nodes = ap (λ (xs : List (ℕ × List ℕ)). length xs) h.shows.messages ∙ length_shown h.shows.nodes in
    let a = tail_of l q s previous d h.shows.nodes (omega (arith, more, len)) h.at h.shows.linked h.shows.tail in
    (a.0, subst (λ k. IsUnlinkTail l s k previous a.0) (let r = h.shows.received in omega (arith, len, r)) a.1, a.2)
