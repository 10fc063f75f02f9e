-- A plan over the slots of a group that they show is its operation's, and fits them.
use Rattle.std.proofs.Common.{◌≡◌, ◌≢◌, ℕ, ◌+◌, ◌-◌, ◌/◌, ◌<◌, List, [], ◌∷◌, length, map, reverse, refl, sym, ◌∙◌, ap, subst, true, Option, Some, None, inl, inr, arith}
use Rattle.std.proofs.lemmas.Bool.{cases_Bool, cases_lt}
use Rattle.rq_page.specs.declared.cell.Cell.{Cell}
use Rattle.rq_page.specs.declared.directory.Directory.{Directory}
use Rattle.rq_page.specs.Sizes.{Sizes, IsCellAddress, directory_at}
use Rattle.rq_page.specs.Slots.{Slot}
use Rattle.rq_page.specs.Slots.Slot.{Free, Used, Sender}
use Rattle.rq_views.specs.Chain.{View, Shows}
use Rattle.rq_views.specs.InStore.{AllStand}
use Rattle.rq_views.specs.Items.{layout_of}
use Rattle.rq_views.specs.Log.{Slots, put, cells_of, Write, HasBefores, Untouched, Places}
use Rattle.rq_views.specs.Plans.{LinksTo, IsUnlinkTail, IsPutBack, unlink_tail_writes, put_back_writes, directory_write, with_next, with_prev}
use Rattle.rq_views.proofs.Overlay.{put_off}
use Rattle.rq_views.proofs.CanPlan.{apart_from}
use Rattle.rq_level.specs.declared.writes.SlotWrite.{SlotWrite}
use Rattle.rq_level.specs.Given.{has_page}
use Rattle.rq_level.specs.Writes.{writes_of}
use Rattle.rq_store.specs.Plans.{Stands_at}
use Rattle.rq_store.proofs.Owing.{onto_nil}
use Rattle.rq_sound.specs.Groups.{StandsAt}
use Rattle.rq_sound.proofs.ChainEnds.{empty_links, head_stands, tail_stands, front_stands}
use Rattle.rq_sound.proofs.Going.{off_latched}

-- a plan latches the page of the directory slot that it writes
pub writes_directory : (z : Sizes) (us : List SlotWrite) (g : ℕ) (d e : Directory) (rest : List Write) → reverse (writes_of z us) ≡ directory_write (layout_of z) g d e ∷ rest
    → has_page (directory_at g / 16) (map (λ w. w.at / 16) us) ≡ true
writes_directory z us g d e rest is = elim (cases_Bool (has_page (directory_at g / 16) (map (λ w. w.at / 16) us))) [
  | inl y ↦ y
  | inr off ↦ absurd ((subst (Untouched (directory_at g)) (onto_nil (writes_of z us) ∙ is) (off_latched z (directory_at g) us [] off tt)).0 refl)
]

pub same_cell : (a b : Cell) → Used a ≡ Used b → a ≡ b
same_cell a b e = cc

pub at_free : (q : Slots) (a b : ℕ) (x : Slot) → q a ≡ x → q b ≡ Free → x ≢ Free → a ≢ b
at_free q a b x e f n same = n (sym e ∙ ap q same ∙ f)

pub not_sender : (g : ℕ) (d : Directory) → Sender g d ≢ Free
not_sender g d e = cc

pub not_used : (c : Cell) → Used c ≢ Free
not_used c e = cc

pub above : (z : Sizes) (a : ℕ) → IsCellAddress z a → 0 < a
above z a c = let h = c.above in omega (arith, h)

module _ (z : Sizes) (q : Slots) (stand : AllStand z q) (zero : q 0 ≡ Free) (g : ℕ) (d : Directory) (v : View) (at : q (directory_at g) ≡ Sender g d) (k : Shows (cells_of q) g d v) where
  abbrev l : Places
  l = layout_of z

  used_not_zero : (a : ℕ) (c : Cell) → q a ≡ Used c → a ≡ 0 → ⊥
  used_not_zero a c here e = let bad : Used c ≡ Free = sym here ∙ ap q e ∙ zero in cc

  sent_is : d.sent ≡ d.received + length k.nodes
  sent_is = k.sent

  -- where a cell stands at the tail or at the head, the chain holds a message
  some_at_tail : (c : Cell) → q d.tail ≡ Used c → d.received < d.sent
  some_at_tail c here = elim (cases_lt d.received d.sent) [
    | inl y ↦ y
    | inr n ↦ absurd (used_not_zero d.tail c here (empty_links z q stand g d v k (let e = sent_is in omega (arith, e, n))).1)
  ]

  some_at_head : (c : Cell) → q d.head ≡ Used c → d.received < d.sent
  some_at_head c here = elim (cases_lt d.received d.sent) [
    | inl y ↦ y
    | inr n ↦ absurd (used_not_zero d.head c here (empty_links z q stand g d v k (let e = sent_is in omega (arith, e, n))).0)
  ]

  module _ (c : Cell) (here : q d.tail ≡ Used c) where
    tail : StandsAt z q d.tail g d.sent
    tail = tail_stands z q stand g d v k (some_at_tail c here)

    tail_is : tail.cell ≡ c
    tail_is = same_cell tail.cell c (sym tail.at ∙ here)

    -- the last cell is numbered by how many were sent
    pub tail_number : c.sequence ≡ d.sent
    tail_number = ap (λ (x : Cell). x.sequence) (sym tail_is) ∙ tail.sequence

    -- the cell before the last, where its link names one
    before : (x : Cell) → q c.prev ≡ Used x → (d.received + 1 < d.sent) × (x.sender ≡ g) × (x.sequence ≡ d.sent - 1)
    before x there = elim (cases_lt (d.received + 1) d.sent) [
      | inl more ↦
          let f = (front_stands z q stand g d v k c (some_at_tail c here) here).more more in
          let same = same_cell f.cell x (sym f.at ∙ there) in
          (more, ap (λ (y : Cell). y.sender) (sym same) ∙ f.sender, ap (λ (y : Cell). y.sequence) (sym same) ∙ f.sequence)
      | inr few ↦ absurd (used_not_zero c.prev x there ((front_stands z q stand g d v k c (some_at_tail c here) here).one (let s = some_at_tail c here in omega (arith, s, few))))
    ]

    front_links : (o : Option Cell) → Stands_at q c.prev o → LinksTo g c.prev o
    front_links None e = e
    front_links (Some x) e =
        let b = before x e in
        let f = (front_stands z q stand g d v k c (some_at_tail c here) here).more b.0 in
        (above z c.prev f.place, b.1)

    pub is_unlink_tail : (previous : ℕ) (front : Option Cell) (ws : List Write) → Stands_at q c.prev front → ws ≡ unlink_tail_writes l g d c previous front → IsUnlinkTail l g d.sent previous ws
    is_unlink_tail previous front ws beside e = record {
      directory = d;
      cell = c;
      front = front;
      used = above z d.tail tail.place;
      sender = ap (λ (x : Cell). x.sender) (sym tail_is) ∙ tail.sender;
      sequence = sym tail_number;
      front_is = front_links front beside;
      writes = e;
    }

    pub unlink_tail_fits : (previous : ℕ) (front : Option Cell) → Stands_at q c.prev front → HasBefores (unlink_tail_writes l g d c previous front) q
    unlink_tail_fits previous None beside =
        (sym (put_off q d.tail Free (directory_at g) (apart_from q (directory_at g) d.tail g d c at here) ∙ at), (sym here, tt))
    unlink_tail_fits previous (Some x) beside =
        let b = before x beside in
        let apart : c.prev ≢ d.tail = (λ e.
        let same : x.sequence ≡ c.sequence = ap (λ (y : Cell). y.sequence) (same_cell x c (sym beside ∙ ap q e ∙ here)) in
        let n = b.2 in
        let m = tail_number in
        let more = b.0 in
        omega (arith, same, n, m, more)) in
        let q1 = put q d.tail Free in (
          sym (put_off q1 c.prev (Used (with_next 0 x)) (directory_at g) (apart_from q (directory_at g) c.prev g d x at beside) ∙ put_off q d.tail Free (directory_at g) (apart_from q (directory_at g) d.tail g d c at here) ∙ at),
          (sym (put_off q d.tail Free c.prev apart ∙ beside), (sym here, tt)),
        )

  head_links : (o : Option Cell) → Stands_at q d.head o → LinksTo g d.head o
  head_links None e = e
  head_links (Some x) e =
      let h = head_stands z q stand g d v k (some_at_head x e) in
      (above z d.head h.place, ap (λ (y : Cell). y.sender) (sym (same_cell h.cell x (sym h.at ∙ e))) ∙ h.sender)

  pub is_put_back : (tag new : ℕ) (body : List ℕ) (old : Option Cell) (ws : List Write) → IsCellAddress z new → 0 < d.received → Stands_at q d.head old → ws ≡ put_back_writes l g d new tag body old → IsPutBack l g d.received tag body ws
  is_put_back tag new body old ws cell some beside e = record {
    directory = d;
    new = new;
    old = old;
    used = above z new cell;
    some_received = some;
    sequence = refl;
    old_is = head_links old beside;
    writes = e;
  }

  pub put_back_fits : (tag new : ℕ) (body : List ℕ) (old : Option Cell) → q new ≡ Free → Stands_at q d.head old → HasBefores (put_back_writes l g d new tag body old) q
  put_back_fits tag new body None free beside =
      (sym (put_off q new (Used (record { sender = g; sequence = d.received; tag = tag; body = body; next = d.head; prev = 0 })) (directory_at g) (at_free q (directory_at g) new (Sender g d) at free (not_sender g d)) ∙ at), (sym free, tt))
  put_back_fits tag new body (Some x) free beside =
      let y : Slot = Used (record { sender = g; sequence = d.received; tag = tag; body = body; next = d.head; prev = 0 }) in
      let q1 = put q new y in (
        sym (put_off q1 d.head (Used (with_prev new x)) (directory_at g) (apart_from q (directory_at g) d.head g d x at beside) ∙ put_off q new y (directory_at g) (at_free q (directory_at g) new (Sender g d) at free (not_sender g d)) ∙ at),
        (sym (put_off q new y d.head (at_free q d.head new (Used x) beside free (not_used x)) ∙ beside), (sym free, tt)),
      )
