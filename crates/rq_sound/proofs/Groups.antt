-- What the slots as they are say of a group.
use Rattle.std.proofs.Common.{◌≡◌, ℕ, ◌+◌, ◌/◌, ◌<◌, ◌≤◌, List, [], ◌∷◌, length, refl, sym, ◌∙◌, ap, subst, false, Option, Some, None, arith}
use Rattle.std.specs.List.{sum_by}
use Rattle.std.proofs.lemmas.Bool.{or_parts, or_from}
use Rattle.std.proofs.lemmas.List.{length-map}
use Rattle.std.proofs.lemmas.List.Sums.{sum_by-cons}
use Rattle.rq_model.specs.Ledger.{Open, own_takes}
use Rattle.rq_model.specs.Vocabulary.{client_group, is_some}
use Rattle.rq_page.specs.declared.directory.Directory.{Directory}
use Rattle.rq_page.specs.Sizes.{cell_count, client_count, client_slot_at, directory_at, sender_count}
use Rattle.rq_page.specs.Slots.Slot.{Sender}
use Rattle.rq_views.specs.Chain.{Shows, View, message}
use Rattle.rq_views.specs.InStore.{AllStand}
use Rattle.rq_views.specs.Items.{items, layout_of}
use Rattle.rq_views.specs.Legal.{view}
use Rattle.rq_views.specs.Log.{Slots, cells_of}
use Rattle.rq_views.specs.Plans.{ShowsAt, ShowsTag}
use Rattle.rq_views.specs.Stored.{count_used}
use Rattle.rq_views.proofs.ChainLaws.{shows_here}
use Rattle.rq_views.proofs.Stands.{slots_stand}
use Rattle.rq_views.proofs.Totals.{log_total}
use Rattle.rq_groups.specs.Ends.{HeldEnds}
use Rattle.rq_groups.specs.Waiting.{waits}
use Rattle.rq_store.specs.Fitting.{left_by}
use Rattle.rq_txn.specs.Rows.{Under, Row, any_under, latched_in, latched_under}
use Rattle.rq_store.specs.State.{State, open_of, open_ones_of}
use Rattle.rq_sound.specs.Counted.{takes_in}
use Rattle.rq_sound.specs.Sound.{IsSound}
use Rattle.rq_sound.specs.Groups.{slots_now, TellsGroup, SlotsTellGroups}
use Rattle.rq_sound.proofs.ChainEnds.{empty_links, head_stands, next_stands, tail_stands, front_stands}
use Rattle.rq_sound.proofs.Closing.{closed_by, closed_by_commit}
use Rattle.rq_sound.proofs.Contracts.{shows}
use Rattle.rq_sound.proofs.Flags.{flag_is}
use Rattle.rq_sound.proofs.FreeCells.{room_to_send, shown_tag}
use Rattle.rq_sound.proofs.UndoStarts.{chain_is}

-- the pages are as the log leaves them
pub slots_are : (s : State) → IsSound s → slots_now s ≡ (left_by s.sizes s.records).slots
slots_are s k = λ i a. k.pages a i

pub all_stand : (s : State) → IsSound s → AllStand s.sizes (slots_now s)
all_stand s k = subst (AllStand s.sizes) (sym (slots_are s k)) (slots_stand s.sizes s.records k.log.in_store)

pub shows_now : (s : State) (g : ℕ) → IsSound s → g < sender_count s.sizes → latched_in s.rows (directory_at g / 16) ≡ false
    → ShowsAt (layout_of s.sizes) (slots_now s) g (view (items s.sizes s.records) g)
shows_now s g k below off = subst (λ (q : Slots). ShowsAt (layout_of s.sizes) q g (view (items s.sizes s.records) g)) (sym (slots_are s k)) (shows s k g below off)

-- the slot of a client on a page that nobody has latched shows the client's marks
pub shows_tag : (s : State) (c : ℕ) → IsSound s → c < client_count s.sizes → latched_in s.rows (client_slot_at s.sizes c / 16) ≡ false
    → ShowsTag (layout_of s.sizes) (slots_now s) c (view (items s.sizes s.records) (client_group c))
shows_tag s c k below off = subst (λ (q : Slots). ShowsTag (layout_of s.sizes) q c (view (items s.sizes s.records) (client_group c))) (sym (slots_are s k)) (shown_tag s.sizes s.records s.ends s.rows s.incarnation s.begins s.cells_in_use s.waiting k.standing k.counted k.range k.log c below off)

takes_of_opens : (ends : HeldEnds) (g : ℕ) (rows : List Row) → sum_by (λ (o : Open). length (own_takes g o)) (open_ones_of ends rows) ≡ sum_by (takes_in g) rows
takes_of_opens ends g [] = refl
takes_of_opens ends g (r ∷ rows) =
    sum_by-cons (λ (o : Open). length (own_takes g o)) (open_of ends r) (open_ones_of ends rows)
    ∙ ap (λ n. takes_in g r + n) (takes_of_opens ends g rows) ∙ sym (sum_by-cons (takes_in g) r rows)

-- where a message waits, the chain holds one
pub waits_in_chain : (s : State) (k : IsSound s) (g : ℕ) → g < sender_count s.sizes → waits s.waiting g ≤ length (view (items s.sizes s.records) g).messages
waits_in_chain s k g below =
    let a = chain_is s k g in
    let b = takes_of_opens s.ends g s.rows in
    let c = k.counted.waited g below in
    omega (arith, a, b, c)

module _ (s : State) (g : ℕ) (d : Directory) (k : IsSound s) (below : g < sender_count s.sizes) (off : latched_in s.rows (directory_at g / 16) ≡ false) (at : slots_now s (directory_at g) ≡ Sender g d) where
  abbrev v : View
  v = view (items s.sizes s.records) g

  chain : Shows (cells_of (slots_now s)) g d v
  chain = shows_here (layout_of s.sizes) (slots_now s) g v d (sym at) (shows_now s g k below off)

  size : length v.messages ≡ length chain.nodes
  size = ap length chain.messages ∙ length-map chain.nodes message

  pub tells_group : TellsGroup s g d
  tells_group =
      let stand = all_stand s k in
      let total = log_total s.sizes s.records g in
      let wait = waits_in_chain s k g below in
      let n = size in
      let sent = chain.sent in
      let received = chain.received in
      record {
        closed = chain.closed;
        received = received;
        last_tag = chain.last_tag;
        sent = omega (arith, n, sent);
        within = omega (arith, total, n, sent, received);
        waiting = omega (arith, wait, n, sent);
        empty = empty_links s.sizes (slots_now s) stand g d v chain;
        head = head_stands s.sizes (slots_now s) stand g d v chain;
        next = next_stands s.sizes (slots_now s) stand g d v chain;
        tail = tail_stands s.sizes (slots_now s) stand g d v chain;
        front = front_stands s.sizes (slots_now s) stand g d v chain;
      }

-- where nothing is under way, no page is latched
pub none_latched : (rows : List Row) (p : ℕ) → any_under rows ≡ false → latched_in rows p ≡ false
none_latched [] p e = refl
none_latched (r ∷ rows) p e = let h = or_parts (is_some r.under) (any_under rows) e in or_from _ _ (one r.under h.0) (none_latched rows p h.1) where
  one : (o : Option Under) → is_some o ≡ false → latched_under o p ≡ false
  one None f = refl
  one (Some u) f = cc

pub room_left : (s : State) → IsSound s → s.cells_in_use < cell_count s.sizes → count_used s.sizes (slots_now s) < cell_count s.sizes
room_left s k less = subst (λ (q : Slots). count_used s.sizes q < cell_count s.sizes) (sym (slots_are s k)) (room_to_send s.sizes s.records s.ends s.rows s.incarnation s.begins s.cells_in_use s.waiting k.standing k.counted less)

pub slots_tell : SlotsTellGroups
slots_tell = record {
  shows = shows_now;
  tells = tells_group;
  none_latched = λ s p e. none_latched s.rows p e;
  flag = λ s r g d k m below free at. flag_is s k r m g free d below at;
  closed = λ s g k. closed_by s k g;
  closed_by_commit = λ s g k. closed_by_commit s k g;
  room = room_left;
}
