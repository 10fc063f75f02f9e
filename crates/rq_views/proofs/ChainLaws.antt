-- An operation's writes, made over slots that they fit, change its own sender's view and no other.
use Rattle.rq_page.specs.declared.cell.Cell.{Cell}
use Rattle.rq_page.specs.declared.directory.Directory.{Directory}
use Rattle.std.proofs.Common.{◌≡◌, ◌≢◌, ℕ, ◌+◌, ◌<◌, ◌⊎◌, ◌==◌, inl, inr, List, [], ◌∷◌, if◌then◌else◌, refl, sym, ap, subst, ◌∙◌, arith, Option, None, Some}
use Rattle.std.proofs.lemmas.Bool.{cases_eq, cond-true, cond-false, eq-eqb}
use Rattle.rq_views.specs.Chain.{Cells, written, View, Shows, IsForeign, relink_next, cells_appended, directory_appended, view_appended}
use Rattle.rq_page.specs.Slots.{Slot}
use Rattle.rq_views.specs.Log.{Slots, cell_in, cells_of, put, Write, applied, HasBefores, Places}
use Rattle.rq_page.specs.Slots.Slot.{Free, Used, Sender, Client}
use Rattle.rq_views.specs.Plans.{ShowsAt, IsForeignSlot, Spares, LinksTo, with_next, append_writes, IsAppend}
use Rattle.rq_views.proofs.Chains.{no_eq, none_some, frame, frame_foreign, tail_used, append_shows}
use Rattle.rq_views.proofs.Overlay.{put_at, put_off}

pub foreign_from : (s : ℕ) (x y : Slot) → x ≡ y → IsForeignSlot s x → IsForeignSlot s y
foreign_from s x y e h = subst (λ z. IsForeignSlot s z) e h

-- writes that spare s leave each slot, or were made over a slot foreign to s
pub spared : (s : ℕ) (ws : List Write) (q : Slots) → Spares s ws → HasBefores ws q → (a : ℕ) → (applied ws q a ≡ q a) ⊎ IsForeignSlot s (q a)
spared s [] q h f a = inl refl
spared s (w ∷ ws) q h f a = elim (spared s ws q h.1 f.1 a) [
  | inl k ↦ elim (cases_eq a w.at) [
    | inl e ↦ inr (foreign_from s w.before (q a) (f.0 ∙ ap (applied ws q) (sym e) ∙ k) h.0)
    | inr ne ↦ inl (put_off (applied ws q) w.at w.after a ne ∙ k)
  ]
  | inr k ↦ inr k
]

foreign_cell : (s : ℕ) (x : Slot) → IsForeignSlot s x → IsForeign s (cell_in x)
foreign_cell s Free h = tt
foreign_cell s (Used c) h = h
foreign_cell s (Sender r d) h = tt
foreign_cell s (Client k) h = tt

-- slots that differ from others only where these are foreign to s show the same of s
pub shows_frame : (l : Places) (q r : Slots) (s : ℕ) (v : View) → ((a : ℕ) → (r a ≡ q a) ⊎ IsForeignSlot s (q a)) → ShowsAt l q s v → ShowsAt l r s v
shows_frame l q r s v h k = record {
  directory = k.directory;
  at = elim (h (l.directory_at s)) [ inl e ↦ e ∙ k.at | inr f ↦ absurd (foreign_from s (q (l.directory_at s)) (Sender s k.directory) k.at f refl) ];
  shows = record {
    nodes = k.shows.nodes;
    linked = frame_foreign (cells_of q) (cells_of r) s 0 (k.directory.received + 1) k.shows.nodes 0 (λ a. elim (h a) [ inl e ↦ inl (ap cell_in e) | inr f ↦ inr (foreign_cell s (q a) f) ]) k.shows.linked;
    head = k.shows.head;
    tail = k.shows.tail;
    sent = k.shows.sent;
    closed = k.shows.closed;
    received = k.shows.received;
    last_tag = k.shows.last_tag;
    messages = k.shows.messages;
  };
}

-- what another sender shows stays
pub others : (l : Places) (q : Slots) (ws : List Write) (s : ℕ) (v : View) → Spares s ws → HasBefores ws q → ShowsAt l q s v → ShowsAt l (applied ws q) s v
others l q ws s v h f k = shows_frame l q (applied ws q) s v (spared s ws q h f) k

pub shows_same : (m m' : Cells) (s : ℕ) (d : Directory) (v : View) → ((a : ℕ) → m' a ≡ m a) → Shows m s d v → Shows m' s d v
shows_same m m' s d v h k = record {
  nodes = k.nodes;
  linked = frame m m' s 0 (d.received + 1) k.nodes 0 (λ a. inl (h a)) k.linked;
  head = k.head;
  tail = k.tail;
  sent = k.sent;
  closed = k.closed;
  received = k.received;
  last_tag = k.last_tag;
  messages = k.messages;
}

pub cells_put : (q : Slots) (at : ℕ) (x : Slot) (a : ℕ) → cells_of (put q at x) a ≡ written (cells_of q) at (cell_in x) a
cells_put q at x a = elim (cases_eq a at) [
  | inl e ↦ ap cell_in (put_at q at x a e) ∙ sym (cond-true (a == at) (cell_in x) (cell_in (q a)) (eq-eqb a at e))
  | inr ne ↦ ap cell_in (put_off q at x a ne) ∙ sym (cond-false (a == at) (cell_in x) (cell_in (q a)) (no_eq a at ne))
]

-- a write of a directory slot is no write of cells
pub cells_directory : (q : Slots) (at s : ℕ) (d e : Directory) → Sender s d ≡ q at → (a : ℕ) → cells_of (put q at (Sender s e)) a ≡ cells_of q a
cells_directory q at s d e h a = elim (cases_eq a at) [
  | inl k ↦ ap cell_in (put_at q at (Sender s e) a k) ∙ ap cell_in (h ∙ ap q (sym k))
  | inr ne ↦ ap cell_in (put_off q at (Sender s e) a ne)
]

pub used_sender : (c : Cell) (s : ℕ) (d : Directory) → Used c ≡ Sender s d → ⊥
used_sender c s d e = cc

pub free_sender : (s : ℕ) (d : Directory) → Free ≡ Sender s d → ⊥
free_sender s d e = cc

-- another thing was written here than stands there
pub through : (q : Slots) (at : ℕ) (x y : Slot) (a : ℕ) → (x ≡ y → ⊥) → y ≡ put q at x a → (a ≢ at) × (y ≡ q a)
through q at x y a ne h = let off : a ≢ at = λ e. ne (sym (put_at q at x a e) ∙ sym h) in (off, h ∙ put_off q at x a off)

pub sender_is : (s : ℕ) (d e : Directory) → Sender s d ≡ Sender s e → d ≡ e
sender_is s d e h = cc

pub shows_here : (l : Places) (q : Slots) (s : ℕ) (v : View) (d : Directory) → Sender s d ≡ q (l.directory_at s) → ShowsAt l q s v → Shows (cells_of q) s d v
shows_here l q s v d e h = subst (λ x. Shows (cells_of q) s x v) (sym (sender_is s d h.directory (e ∙ h.at))) h.shows

append_own : (l : Places) (q : Slots) (s : ℕ) (v : View) (d : Directory) (new tag : ℕ) (body : List ℕ) (old : Option Cell) → 0 < new → LinksTo s d.tail old
    → HasBefores (append_writes l s d new tag body old) q → ShowsAt l q s v → ShowsAt l (applied (append_writes l s d new tag body old) q) s (view_appended v tag body)
append_own l q s v d new tag body None pos link f h =
    let c : Cell = record { sender = s; sequence = d.sent + 1; tag = tag; body = body; next = 0; prev = d.tail } in
    let t = through q new (Used c) (Sender s d) (l.directory_at s) (used_sender c s d) f.0 in
    let k = shows_here l q s v d t.1 h in
    let m = cells_of q in
    record {
      directory = directory_appended d new tag;
      at = put_at (put q new (Used c)) (l.directory_at s) (Sender s (directory_appended d new tag)) (l.directory_at s) refl;
      shows = shows_same (cells_appended m s d new tag body) _ s (directory_appended d new tag) (view_appended v tag body)
          (λ a. cells_directory (put q new (Used c)) (l.directory_at s) s d (directory_appended d new tag) f.0 a ∙ cells_put q new (Used c) a ∙ sym (ap (λ g. g a) (cond-true (d.tail == 0) (written m new (Some c)) _ (eq-eqb _ _ link))))
          (append_shows m s d v new tag body pos (ap cell_in (sym f.1.0)) k);
    }
append_own l q s v d new tag body (Some o) pos link f h =
    let c : Cell = record { sender = s; sequence = d.sent + 1; tag = tag; body = body; next = 0; prev = d.tail } in
    let q1 = put q new (Used c) in
    let q2 = put q1 d.tail (Used (with_next new o)) in
    let t2 = through q1 d.tail (Used (with_next new o)) (Sender s d) (l.directory_at s) (used_sender (with_next new o) s d) f.0 in
    let t1 = through q new (Used c) (Sender s d) (l.directory_at s) (used_sender c s d) t2.1 in
    let k = shows_here l q s v d t1.1 h in
    let m = cells_of q in
    let u = tail_used m s (d.received + 1) k.nodes (omega (arith, k.tail, link.0)) k.linked in
    let off : d.tail ≢ new = λ e. none_some (m new) u.0 (ap cell_in (sym f.1.1.0)) (ap m (sym e ∙ k.tail) ∙ u.1) in
    let old : m d.tail ≡ Some o = ap cell_in (sym (f.1.0 ∙ put_off q new (Used c) d.tail off)) in
    let one = written m new (Some c) in
    record {
      directory = directory_appended d new tag;
      at = put_at q2 (l.directory_at s) (Sender s (directory_appended d new tag)) (l.directory_at s) refl;
      shows = shows_same (cells_appended m s d new tag body) _ s (directory_appended d new tag) (view_appended v tag body)
          (λ a. cells_directory q2 (l.directory_at s) s d (directory_appended d new tag) f.0 a
          ∙ cells_put q1 d.tail (Used (with_next new o)) a
          ∙ ap (λ (y : Option Cell). if a == d.tail then Some (with_next new o) else y) (cells_put q new (Used c) a)
          ∙ ap (λ (x : Option Cell). if a == d.tail then relink_next new x else one a) (sym old)
          ∙ sym (ap (λ g. g a) (cond-false (d.tail == 0) one (written one d.tail (relink_next new (m d.tail))) (no_eq _ _ (λ e. omega (arith, link.0))))))
          (append_shows m s d v new tag body pos (ap cell_in (sym f.1.1.0)) k);
    }

pub append_law : (l : Places) (q : Slots) (ws : List Write) (s n tag previous : ℕ) (body : List ℕ) (v : View) → IsAppend l s n tag previous body ws → HasBefores ws q → ShowsAt l q s v → ShowsAt l (applied ws q) s (view_appended v tag body)
append_law l q ws s n tag previous body v p f h =
    subst (λ ws. ShowsAt l (applied ws q) s (view_appended v tag body)) (sym p.writes)
    (append_own l q s v p.directory p.new tag body p.old p.used p.old_is (subst (λ ws. HasBefores ws q) p.writes f) h)
