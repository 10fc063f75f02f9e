-- A call can be planned exactly where it is not latched.
use Rattle.std.proofs.Common.{◌≡◌, ◌||◌, ℕ, ◌+◌, ◌-◌, ◌/◌, ◌<◌, ◌≤◌, ◌++◌, ◌&&◌, ◌⊎◌, List, [], ◌∷◌, length, map, refl, sym, ◌∙◌, ap, subst, Bool, true, false, not, nat_lt, Option, Some, None, inl, inr, arith}
use Rattle.std.proofs.lemmas.Bool.{and_from, and_parts, cases_Bool, cases_eq, cases_lt, eq-eqb, false≢true, lt-ltb, ltb-true, not-true, or_from, or_parts, true≢false, not-false}
use Rattle.rq_model.specs.declared.message.Message.{Message}
use Rattle.rq_model.specs.declared.record.Deed.{Deed}
use Rattle.rq_model.specs.declared.record.Deed.TheVariants.{Append, UnlinkHead, Close, Mark}
use Rattle.rq_model.specs.declared.txn.Txn.{Txn}
use Rattle.rq_model.specs.History.{Call}
use Rattle.rq_model.specs.History.Job.{Sending, Taking, Ending, Marking}
use Rattle.rq_model.specs.Ledger.{Open, found}
use Rattle.rq_model.specs.Legal.{OnFound}
use Rattle.rq_model.specs.Tests.{Passes, any_gives, below, gives, is_busy, newest, starts}
use Rattle.rq_model.specs.Vocabulary.{client_group, is_some, last, last_or}
use Rattle.rq_page.specs.declared.cell.Cell.{Cell}
use Rattle.rq_page.specs.declared.client.ClientSlot.{ClientSlot}
use Rattle.rq_page.specs.declared.directory.Directory.{Directory}
use Rattle.rq_page.specs.Sizes.{Sizes, IsCellAddress, cell_at, cell_count, client_count, client_slot_at, directory_at, place_of, sender_count}
use Rattle.rq_page.specs.Slots.{Slot}
use Rattle.rq_page.specs.Slots.Slot.{Free, Used, Sender, Client}
use Rattle.rq_page.proofs.Addresses.{cells_have_places, places_are_cells}
use Rattle.rq_views.specs.Chain.{Shows, View, directory_appended}
use Rattle.rq_views.specs.InStore.{AllStand, IsInPlace, WritesStand}
use Rattle.rq_views.specs.Items.{items, layout_of}
use Rattle.rq_views.specs.Legal.{view}
use Rattle.rq_views.specs.Log.{HasBefores, Places, Slots, Write, cells_of}
use Rattle.rq_views.specs.Plans.{IsPutBack, IsUnlinkTail, ShowsAt, ShowsTag, Turn, append_writes, directory_head_unlinked, directory_put_back, directory_tail_unlinked, client_write, directory_write, put_back_writes, unlink_head_writes, unlink_tail_writes, with_next, with_prev}
use Rattle.rq_views.specs.Plans.Turn.{Did, Undid}
use Rattle.rq_views.specs.Stored.{is_used}
use Rattle.rq_views.proofs.CanUndo.{can_undo_taken}
use Rattle.rq_views.proofs.Stands.{quiet_stand, sender_is_directory}
use Rattle.rq_txn.specs.declared.Finished.{Finished}
use Rattle.rq_groups.specs.Ends.{is_free_for}
use Rattle.rq_groups.specs.Waiting.{waits}
use Rattle.rq_store.specs.Plans.{Stands_at, WaitsFor, NoneWaits}
use Rattle.rq_store.specs.Rows.{placed}
use Rattle.rq_store.specs.State.{size_of, op_done, State, ledger_of, open_of, job_under}
use Rattle.rq_store.proofs.Grouping.{groups_of}
use Rattle.rq_store.proofs.SendPlans.{is_append, append_fits}
use Rattle.rq_store.proofs.TakePlans.{is_unlink_head, unlink_head_fits}
use Rattle.rq_txn.specs.Rows.{Under, Row, found_row, latched_in}
use Rattle.rq_store.proofs.RowLists.{found_in}
use Rattle.rq_sound.specs.Sound.{IsSound}
use Rattle.rq_sound.specs.Calls.{IsIdle}
use Rattle.rq_sound.specs.Groups.{StandsAt, slots_now}
use Rattle.rq_sound.specs.Inverses.{MayBeUndone}
use Rattle.rq_sound.specs.Plans.{AreOff}
use Rattle.rq_sound.specs.Latching.{AllFreeLatched, Begins, IsLatched, LatchedIsExact, MayBePlanned, NeedsLatched, any_latched, at_head, at_tail, before_tail, behind_head, completed, head_in, named, needed, next_in, prev_in, tail_in}
use Rattle.rq_sound.proofs.ChainEnds.{empty_links, front_stands, head_stands, next_stands, tail_stands}
use Rattle.rq_sound.proofs.FreeCells.{all_one}
use Rattle.rq_sound.proofs.Going.{unlatched_is_quiet}
use Rattle.rq_sound.proofs.Groups.{all_stand, shows_now, shows_tag, tells_group}
use Rattle.rq_sound.proofs.LatchLists.{any_append, any_join, any_parts, end_before, end_stands, link_off, named_off, off_named, relinked_parts, relinked_stand, some_below}
use Rattle.rq_store.proofs.Opens.{found_open, open_found}
use Rattle.rq_sound.proofs.Lengths.{back_there, tail_there}
use Rattle.rq_sound.proofs.Levels.{relinked_off}
use Rattle.rq_sound.proofs.PlanFits.{above, is_put_back, is_unlink_tail, put_back_fits, unlink_tail_fits}
use Rattle.rq_sound.proofs.Planned.{sent_last}
use Rattle.rq_sound.proofs.UsedCells.{free_from}
use Rattle.rq_sound.proofs.Waits.{gives_is, none_gives}
use Rattle.rq_sound.proofs.Inverses.{open_deed, deed_stored, may_be_undone}

-- the last of what is finished
last_push : (xs : List Finished) (x : Finished) → last (xs ++ x ∷ []) ≡ Some x
last_push [] x = refl
last_push (y ∷ ys) x = ap (λ z. Some z) (go y ys x) where
  go : (d : Finished) (ys : List Finished) (x : Finished) → last_or d (ys ++ x ∷ []) ≡ x
  go d [] x = refl
  go d (y ∷ ys) x = go y ys x

split_last : (xs : List Finished) → (xs ≡ []) ⊎ ((fs : List Finished) × (f : Finished) × (xs ≡ fs ++ f ∷ []))
split_last [] = inl refl
split_last (x ∷ xs) = elim (split_last xs) [
  | inl e ↦ inr ([], x, ap (λ l. x ∷ l) e)
  | inr r ↦ inr (x ∷ r.0, r.1, ap (λ l. x ∷ l) r.2)
]

-- the cell that a link names, where it names one
pub record LinkedCell (z : Sizes) (q : Slots) (a : ℕ) : Type 0 where
  pub cell : Option Cell
  pub there : Stands_at q a cell
  pub place : (c : Cell) → cell ≡ Some c → IsCellAddress z a

module _ (s : State) (k : IsSound s) where
  abbrev q : Slots
  q = slots_now s

  abbrev z : Sizes
  z = s.sizes

  abbrev l : Places
  l = layout_of s.sizes

  abbrev viewed : ℕ → View
  viewed g = view (items s.sizes s.records) g

  abbrev off : ℕ → Type 0
  off a = latched_in s.rows (a / 16) ≡ false

  zero : q 0 ≡ Free
  zero = refl

  -- what is on a page that nobody has latched is as whole operations left it
  pub is_whole : (a : ℕ) → off a → slots_now s a ≡ completed s a
  is_whole a h = k.pages a ∙ unlatched_is_quiet s.sizes s.records s.ends (latched_in s.rows) a k.log.legal (all_one s.sizes s.records s.ends s.rows s.incarnation s.begins s.cells_in_use s.waiting k.standing k.counted) h

  -- the slots that a group needs are off where its links are
  module _ (g : ℕ) (d : Directory) (at : q (directory_at g) ≡ Sender g d) (directory : off (directory_at g)) where
    pub left : completed s (directory_at g) ≡ Sender g d
    left = sym (is_whole (directory_at g) directory) ∙ at

    pub tail_off : (0 < d.tail → off d.tail) → any_latched s.rows (at_tail (completed s) g) ≡ false
    tail_off h = or_from (latched_in s.rows (directory_at g / 16)) (any_latched s.rows (named (tail_in (completed s (directory_at g))))) directory (ap (λ x. any_latched s.rows (named (tail_in x))) left ∙ named_off s.rows d.tail h)

    pub head_off : (0 < d.head → off d.head) → any_latched s.rows (at_head (completed s) g) ≡ false
    head_off h = or_from (latched_in s.rows (directory_at g / 16)) (any_latched s.rows (named (head_in (completed s (directory_at g))))) directory (ap (λ x. any_latched s.rows (named (head_in x))) left ∙ named_off s.rows d.head h)

    pub next_off : (c : Cell) → off d.head → q d.head ≡ Used c → (0 < c.next → off c.next) → any_latched s.rows (behind_head (completed s) g) ≡ false
    next_off c h here more =
        let cell : completed s d.head ≡ Used c = sym (is_whole d.head h) ∙ here in
        any_join s.rows (at_head (completed s) g) (named (next_in (completed s (head_in (completed s (directory_at g)))))) (head_off (λ pos. h))
        (ap (λ x. any_latched s.rows (named (next_in (completed s (head_in x))))) left ∙ ap (λ x. any_latched s.rows (named (next_in x))) cell ∙ named_off s.rows c.next more)

    pub front_off : (c : Cell) → off d.tail → q d.tail ≡ Used c → (0 < c.prev → off c.prev) → any_latched s.rows (before_tail (completed s) g) ≡ false
    front_off c h here more =
        let cell : completed s d.tail ≡ Used c = sym (is_whole d.tail h) ∙ here in
        any_join s.rows (at_tail (completed s) g) (named (prev_in (completed s (tail_in (completed s (directory_at g)))))) (tail_off (λ pos. h))
        (ap (λ x. any_latched s.rows (named (prev_in (completed s (tail_in x))))) left ∙ ap (λ x. any_latched s.rows (named (prev_in x))) cell ∙ named_off s.rows c.prev more)

    -- and the other way round
    pub off_tail : any_latched s.rows (at_tail (completed s) g) ≡ false → 0 < d.tail → off d.tail
    off_tail h = off_named s.rows d.tail (ap (λ x. any_latched s.rows (named (tail_in x))) (sym left) ∙ (any_parts s.rows (directory_at g ∷ []) (named (tail_in (completed s (directory_at g)))) h).1)

    pub off_head : any_latched s.rows (at_head (completed s) g) ≡ false → 0 < d.head → off d.head
    off_head h = off_named s.rows d.head (ap (λ x. any_latched s.rows (named (head_in x))) (sym left) ∙ (any_parts s.rows (directory_at g ∷ []) (named (head_in (completed s (directory_at g)))) h).1)

    pub off_next : (c : Cell) → off d.head → q d.head ≡ Used c → any_latched s.rows (behind_head (completed s) g) ≡ false → 0 < c.next → off c.next
    off_next c h here none =
        let cell : completed s d.head ≡ Used c = sym (is_whole d.head h) ∙ here in
        off_named s.rows c.next (ap (λ x. any_latched s.rows (named (next_in x))) (sym cell) ∙ ap (λ x. any_latched s.rows (named (next_in (completed s (head_in x))))) (sym left) ∙ (any_parts s.rows (at_head (completed s) g) (named (next_in (completed s (head_in (completed s (directory_at g)))))) none).1)

    pub off_front : (c : Cell) → off d.tail → q d.tail ≡ Used c → any_latched s.rows (before_tail (completed s) g) ≡ false → 0 < c.prev → off c.prev
    off_front c h here none =
        let cell : completed s d.tail ≡ Used c = sym (is_whole d.tail h) ∙ here in
        off_named s.rows c.prev (ap (λ x. any_latched s.rows (named (prev_in x))) (sym cell) ∙ ap (λ x. any_latched s.rows (named (prev_in (completed s (tail_in x))))) (sym left) ∙ (any_parts s.rows (at_tail (completed s) g) (named (prev_in (completed s (tail_in (completed s (directory_at g)))))) none).1)

  no_cell_needed : (xs : List ℕ) → (any_latched s.rows xs ≡ true) ⊎ ((false ≡ true) × AllFreeLatched s) → any_latched s.rows xs ≡ false → ⊥
  no_cell_needed xs h none = elim h [ inl y ↦ true≢false (sym y ∙ none) | inr x ↦ false≢true x.0 ]

  -- no cell stands at 0
  none_at_zero : completed s 0 ≡ Free
  none_at_zero = at (completed s 0) (quiet_stand s.sizes s.records k.log.in_store 0) where
    at : (x : Slot) → IsInPlace s.sizes 0 x → x ≡ Free
    at Free h = refl
    at (Used c) h = absurd (let b = h.slot in omega (arith, b))
    at (Sender g d) h = absurd (let b = h.slot in omega (arith, b))
    at (Client k) h = absurd (let b = h.slot in omega (arith, b))

  same_at : (a : ℕ) → (0 < a → off a) → q a ≡ completed s a
  same_at a h = elim (cases_eq a 0) [
    | inl e ↦ ap q e ∙ sym (ap (completed s) e ∙ none_at_zero)
    | inr ne ↦ is_whole a (h (omega (arith, ne)))
  ]

  abbrev latched : List ℕ → Bool
  latched xs = any_latched s.rows xs

  -- the slots as they are tell the same of the pages that are needed
  read_tail : (g : ℕ) → latched (at_tail q g) ≡ latched (at_tail (completed s) g)
  read_tail g = elim (cases_Bool (latched_in s.rows (directory_at g / 16))) [
    | inl y ↦ ap (λ b. b || latched (named (tail_in (q (directory_at g))))) y ∙ sym (ap (λ b. b || latched (named (tail_in (completed s (directory_at g))))) y)
    | inr n ↦ ap (λ x. latched (directory_at g ∷ named (tail_in x))) (is_whole (directory_at g) n)
  ]

  read_head : (g : ℕ) → latched (at_head q g) ≡ latched (at_head (completed s) g)
  read_head g = elim (cases_Bool (latched_in s.rows (directory_at g / 16))) [
    | inl y ↦ ap (λ b. b || latched (named (head_in (q (directory_at g))))) y ∙ sym (ap (λ b. b || latched (named (head_in (completed s (directory_at g))))) y)
    | inr n ↦ ap (λ x. latched (directory_at g ∷ named (head_in x))) (is_whole (directory_at g) n)
  ]

  -- and of those behind them
  read_both : (g : ℕ) (end link : Slot → ℕ) → latched (directory_at g ∷ named (end (q (directory_at g)))) ≡ latched (directory_at g ∷ named (end (completed s (directory_at g))))
      → latched ((directory_at g ∷ named (end (q (directory_at g)))) ++ named (link (q (end (q (directory_at g))))))
      ≡ latched ((directory_at g ∷ named (end (completed s (directory_at g)))) ++ named (link (completed s (end (completed s (directory_at g))))))
  read_both g end link first =
      let xs = directory_at g ∷ named (end (q (directory_at g))) in
      let ys = directory_at g ∷ named (end (completed s (directory_at g))) in
      let a = end (q (directory_at g)) in
      elim (cases_Bool (latched xs)) [
        | inl y ↦
            any_append s.rows xs (named (link (q a))) ∙ ap (λ b. b || latched (named (link (q a)))) y
            ∙ sym (any_append s.rows ys (named (link (completed s (end (completed s (directory_at g)))))) ∙ ap (λ b. b || latched (named (link (completed s (end (completed s (directory_at g))))))) (sym first ∙ y))
        | inr n ↦
            let p = any_parts s.rows (directory_at g ∷ []) (named a) n in
            let same = is_whole (directory_at g) (or_parts (latched_in s.rows (directory_at g / 16)) false p.0).0 in
            let here = same_at a (off_named s.rows a p.1) in
            any_append s.rows xs (named (link (q a))) ∙ ap (λ b. b || latched (named (link (q a)))) first
            ∙ ap (λ x. latched ys || latched (named (link x))) here ∙ ap (λ x. latched ys || latched (named (link (completed s (end x))))) same
            ∙ sym (any_append s.rows ys (named (link (completed s (end (completed s (directory_at g)))))))
      ]

  pub as_read : (turn : Turn) → latched (needed z q turn) ≡ latched (needed z (completed s) turn)
  as_read (Did (Append g n tag previous body)) = read_tail g
  as_read (Did (UnlinkHead g n tag body)) = read_both g head_in next_in (read_head g)
  as_read (Did (Close g)) = refl
  as_read (Did (Mark c tag previous)) = refl
  as_read (Undid (Append g n tag previous body)) = read_both g tail_in prev_in (read_tail g)
  as_read (Undid (UnlinkHead g n tag body)) = read_head g
  as_read (Undid (Close g)) = refl
  as_read (Undid (Mark c tag previous)) = refl

  -- what is planned needs no latched page
  planned_send : (g n tag previous : ℕ) (body : List ℕ) → MayBePlanned s (Did (Append g n tag previous body)) → NeedsLatched s (Did (Append g n tag previous body)) → ⊥
  planned_send g n tag previous body p h =
      let a = p.plan in
      let d = a.directory in
      let cell : Cell = record { sender = g; sequence = d.sent + 1; tag = tag; body = body; next = 0; prev = d.tail } in
      let fits : HasBefores (append_writes l g d a.new tag body a.old) q = subst (λ ws. HasBefores ws q) a.writes p.fits in
      let offs : AreOff s (append_writes l g d a.new tag body a.old) = subst (AreOff s) a.writes p.off in
      let stand : WritesStand z (append_writes l g d a.new tag body a.old) = subst (WritesStand z) a.writes p.stand in
      let at : q (directory_at g) ≡ Sender g d = sym (back_there l q g d (directory_appended d a.new tag) d.tail a.old (with_next a.new) a.new cell fits) in
      let parts = relinked_parts s d.tail a.old (with_next a.new) (record { at = a.new; before = Free; after = Used cell } ∷ []) offs.1 in
      let none = tail_off g d at offs.0 (link_off s g d.tail a.old a.old_is parts.0) in
      elim h [
        | inl y ↦ true≢false (sym y ∙ none)
        | inr x ↦
            let all = x.1 in
            let w : Write = directory_write l g d (directory_appended d a.new tag) in
            let v : Write = record { at = a.new; before = Free; after = Used cell } in
            true≢false (sym (all a.new (end_stands z w d.tail a.old (with_next a.new) v stand) (sym (end_before q w d.tail a.old (with_next a.new) v fits))) ∙ parts.1.0)
      ]

  planned_receive : (g n tag : ℕ) (body : List ℕ) → MayBePlanned s (Did (UnlinkHead g n tag body)) → NeedsLatched s (Did (UnlinkHead g n tag body)) → ⊥
  planned_receive g n tag body p h =
      let a = p.plan in
      let d = a.directory in
      let c = a.cell in
      let fits : HasBefores (unlink_head_writes l g d c a.next) q = subst (λ ws. HasBefores ws q) a.writes p.fits in
      let offs : AreOff s (unlink_head_writes l g d c a.next) = subst (AreOff s) a.writes p.off in
      let t = tail_there l q g d (directory_head_unlinked d c) c.next a.next (with_prev 0) d.head c fits in
      let parts = relinked_parts s c.next a.next (with_prev 0) (record { at = d.head; before = Used c; after = Free } ∷ []) offs.1 in
      no_cell_needed (behind_head (completed s) g) h (next_off g d (sym t.0) offs.0 c parts.1.0 (sym t.1) (link_off s g c.next a.next a.next_is parts.0))

  planned_unsend : (g n tag previous : ℕ) (body : List ℕ) → MayBePlanned s (Undid (Append g n tag previous body)) → NeedsLatched s (Undid (Append g n tag previous body)) → ⊥
  planned_unsend g n tag previous body p h =
      let a = p.plan in
      let d = a.directory in
      let c = a.cell in
      let fits : HasBefores (unlink_tail_writes l g d c previous a.front) q = subst (λ ws. HasBefores ws q) a.writes p.fits in
      let offs : AreOff s (unlink_tail_writes l g d c previous a.front) = subst (AreOff s) a.writes p.off in
      let t = tail_there l q g d (directory_tail_unlinked d c previous) c.prev a.front (with_next 0) d.tail c fits in
      let parts = relinked_parts s c.prev a.front (with_next 0) (record { at = d.tail; before = Used c; after = Free } ∷ []) offs.1 in
      no_cell_needed (before_tail (completed s) g) h (front_off g d (sym t.0) offs.0 c parts.1.0 (sym t.1) (link_off s g c.prev a.front a.front_is parts.0))

  planned_return : (g n tag : ℕ) (body : List ℕ) → MayBePlanned s (Undid (UnlinkHead g n tag body)) → NeedsLatched s (Undid (UnlinkHead g n tag body)) → ⊥
  planned_return g n tag body p h =
      let a = p.plan in
      let d = a.directory in
      let cell : Cell = record { sender = g; sequence = d.received; tag = tag; body = body; next = d.head; prev = 0 } in
      let fits : HasBefores (put_back_writes l g d a.new tag body a.old) q = subst (λ ws. HasBefores ws q) a.writes p.fits in
      let offs : AreOff s (put_back_writes l g d a.new tag body a.old) = subst (AreOff s) a.writes p.off in
      let stand : WritesStand z (put_back_writes l g d a.new tag body a.old) = subst (WritesStand z) a.writes p.stand in
      let at : q (directory_at g) ≡ Sender g d = sym (back_there l q g d (directory_put_back d a.new) d.head a.old (with_prev a.new) a.new cell fits) in
      let parts = relinked_parts s d.head a.old (with_prev a.new) (record { at = a.new; before = Free; after = Used cell } ∷ []) offs.1 in
      let none = head_off g d at offs.0 (link_off s g d.head a.old a.old_is parts.0) in
      elim h [
        | inl y ↦ true≢false (sym y ∙ none)
        | inr x ↦
            let all = x.1 in
            let w : Write = directory_write l g d (directory_put_back d a.new) in
            let v : Write = record { at = a.new; before = Free; after = Used cell } in
            true≢false (sym (all a.new (end_stands z w d.head a.old (with_prev a.new) v stand) (sym (end_before q w d.head a.old (with_prev a.new) v fits))) ∙ parts.1.0)
      ]

  marked_off : (g : ℕ) (d e : Directory) (ws : List Write) → ws ≡ directory_write l g d e ∷ [] → AreOff s ws → any_latched s.rows (directory_at g ∷ []) ≡ false
  marked_off g d e ws is h = or_from (latched_in s.rows (directory_at g / 16)) false (subst (AreOff s) is h).0 refl

  tagged_off : (c : ℕ) (held after : ClientSlot) (ws : List Write) → held.client ≡ c → ws ≡ client_write l held after ∷ [] → AreOff s ws → any_latched s.rows (client_slot_at z c ∷ []) ≡ false
  tagged_off c held after ws own is h = or_from (latched_in s.rows (client_slot_at z c / 16)) false (ap (λ i. latched_in s.rows (client_slot_at z i / 16)) (sym own) ∙ (subst (AreOff s) is h).0) refl

  pub never_both : (turn : Turn) → MayBePlanned s turn → NeedsLatched s turn → ⊥
  never_both (Did (Append g n tag previous body)) p h = planned_send g n tag previous body p h
  never_both (Did (UnlinkHead g n tag body)) p h = planned_receive g n tag body p h
  never_both (Did (Close g)) p h = no_cell_needed (directory_at g ∷ []) h (marked_off g _ _ p.writes p.plan.writes p.off)
  never_both (Did (Mark c tag previous)) p h = no_cell_needed (client_slot_at z c ∷ []) h (tagged_off c p.plan.held _ p.writes p.plan.own p.plan.writes p.off)
  never_both (Undid (Append g n tag previous body)) p h = planned_unsend g n tag previous body p h
  never_both (Undid (UnlinkHead g n tag body)) p h = planned_return g n tag body p h
  never_both (Undid (Close g)) p h = no_cell_needed (directory_at g ∷ []) h (marked_off g _ _ p.writes p.plan.writes p.off)
  never_both (Undid (Mark c tag previous)) p h = no_cell_needed (client_slot_at z c ∷ []) h (tagged_off c p.plan.held _ p.writes p.plan.own p.plan.writes p.off)

  -- a cell may be taken, or each free one is on a latched page
  find_cell : ((a : ℕ) × IsCellAddress z a × (q a ≡ Free) × off a) ⊎ AllFreeLatched s
  find_cell = elim (some_below (λ i. not (is_used (q (cell_at z i))) && not (latched_in s.rows (cell_at z i / 16))) (cell_count z)) [
    | inl r ↦
        let p = and_parts (not (is_used (q (cell_at z r.0)))) (not (latched_in s.rows (cell_at z r.0 / 16))) r.2 in
        let cell = (cells_have_places z r.0 r.1).0 in
        inl (cell_at z r.0, cell, free_from z (cell_at z r.0) (q (cell_at z r.0)) (all_stand s k (cell_at z r.0)) cell (not-true (is_used (q (cell_at z r.0))) p.0), not-true (latched_in s.rows (cell_at z r.0 / 16)) p.1)
    | inr none ↦ inr (λ a cell free.
        let i = places_are_cells z a cell in
        let unused : not (is_used (q (cell_at z (place_of z a)))) ≡ true = ap (λ n. not (is_used (q n))) i.1 ∙ ap (λ x. not (is_used x)) free in
        let on = none (place_of z a) i.0 in
        elim (cases_Bool (latched_in s.rows (a / 16))) [
          | inl y ↦ y
          | inr n ↦ absurd (true≢false (sym (and_from _ _ unused (ap (λ m. not (latched_in s.rows (m / 16))) i.1 ∙ ap not n)) ∙ on))
        ])
  ]

  -- of a group whose directory slot's page is off
  module _ (g : ℕ) (inside : g < sender_count z) (directory : off (directory_at g)) where
    pub shown : ShowsAt l q g (viewed g)
    shown = shows_now s g k inside directory

    abbrev pub d : Directory
    d = shown.directory

    pub at : q (directory_at g) ≡ Sender g d
    at = shown.at

    pub chain : Shows (cells_of q) g d (viewed g)
    chain = shown.shows

    pub stand : AllStand z q
    stand = all_stand s k

    directory_stands : (e : Directory) → IsInPlace z (directory_at g) (Sender g e)
    directory_stands e = sender_is_directory z q (directory_at g) g d stand at

    some_cell : (a n : ℕ) → StandsAt z q a g n → LinkedCell z q a
    some_cell a n t = record { cell = Some t.cell; there = t.at; place = λ c e. t.place }

    no_cell : (a : ℕ) → a ≡ 0 → LinkedCell z q a
    no_cell a e = record { cell = None; there = e; place = λ c f. cc }

    few : d.sent ≤ d.received → d.received ≡ d.sent
    few h = let e = chain.sent in omega (arith, e, h)

    pub tail_cell : LinkedCell z q d.tail
    tail_cell = elim (cases_lt d.received d.sent) [
      | inl more ↦ some_cell d.tail d.sent (tail_stands z q stand g d (viewed g) chain more)
      | inr none ↦ no_cell d.tail (empty_links z q stand g d (viewed g) chain (few none)).1
    ]

    pub head_cell : LinkedCell z q d.head
    head_cell = elim (cases_lt d.received d.sent) [
      | inl more ↦ some_cell d.head (d.received + 1) (head_stands z q stand g d (viewed g) chain more)
      | inr none ↦ no_cell d.head (empty_links z q stand g d (viewed g) chain (few none)).0
    ]

    module _ (more : d.received < d.sent) where
      pub head : StandsAt z q d.head g (d.received + 1)
      head = head_stands z q stand g d (viewed g) chain more

      pub tail : StandsAt z q d.tail g d.sent
      tail = tail_stands z q stand g d (viewed g) chain more

      pub next_cell : LinkedCell z q head.cell.next
      next_cell = elim (cases_lt (d.received + 1) d.sent) [
        | inl two ↦ some_cell head.cell.next (d.received + 2) ((next_stands z q stand g d (viewed g) chain head.cell more head.at).more two)
        | inr one ↦ no_cell head.cell.next ((next_stands z q stand g d (viewed g) chain head.cell more head.at).one (omega (arith, more, one)))
      ]

      pub front_cell : LinkedCell z q tail.cell.prev
      front_cell = elim (cases_lt (d.received + 1) d.sent) [
        | inl two ↦ some_cell tail.cell.prev (d.sent - 1) ((front_stands z q stand g d (viewed g) chain tail.cell more tail.at).more two)
        | inr one ↦ no_cell tail.cell.prev ((front_stands z q stand g d (viewed g) chain tail.cell more tail.at).one (omega (arith, more, one)))
      ]

    -- the page of a link that names a cell is off, where those of its slots are
    link_is_off : (a : ℕ) (c : LinkedCell z q a) → (0 < a → off a) → (x : Cell) → c.cell ≡ Some x → off a
    link_is_off a c h x e = h (above z a (c.place x e))

    pub may_send : (tag : ℕ) (body : List ℕ) (a : ℕ) → IsCellAddress z a → q a ≡ Free → off a → any_latched s.rows (at_tail (completed s) g) ≡ false → MayBePlanned s (Did (Append g (d.sent + 1) tag d.last_tag body))
    may_send tag body a cell free a_off none = record {
      writes = append_writes l g d a tag body tail_cell.cell;
      plan = is_append l q g tag body d a tail_cell.cell (viewed g) (append_writes l g d a tag body tail_cell.cell) zero at shown tail_cell.there (above z a cell) refl;
      fits = append_fits l q g tag body d a tail_cell.cell at free tail_cell.there;
      stand = (directory_stands (directory_appended d a tag), relinked_stand z d.tail tail_cell.cell (with_next a) _ tail_cell.place (cell, tt));
      off = (directory, relinked_off s d.tail tail_cell.cell (with_next a) _ (link_is_off d.tail tail_cell (off_tail g d at directory none)) (a_off, tt));
    }

    pub may_receive : (more : d.received < d.sent) → any_latched s.rows (behind_head (completed s) g) ≡ false → MayBePlanned s (Did (UnlinkHead g (d.received + 1) (head more).cell.tag (head more).cell.body))
    may_receive more none =
        let h = head more in
        let c = h.cell in
        let n = next_cell more in
        let pos = above z d.head h.place in
        let offs = any_parts s.rows (at_head (completed s) g) (named (next_in (completed s (head_in (completed s (directory_at g)))))) none in
        let head_is_off = off_head g d at directory offs.0 pos in
        record {
          writes = unlink_head_writes l g d c n.cell;
          plan = is_unlink_head l q g d c n.cell (viewed g) (unlink_head_writes l g d c n.cell) zero at shown pos h.at n.there refl;
          fits = unlink_head_fits l q g d c n.cell (viewed g) zero at shown pos h.at n.there;
          stand = (directory_stands (directory_head_unlinked d c), relinked_stand z c.next n.cell (with_prev 0) _ n.place (tt, tt));
          off = (directory, relinked_off s c.next n.cell (with_prev 0) _ (link_is_off c.next n (off_next g d at directory c head_is_off h.at none)) (head_is_off, tt));
        }

    pub may_unsend : (n tag previous : ℕ) (body : List ℕ) (more : d.received < d.sent) → n ≡ d.sent → any_latched s.rows (before_tail (completed s) g) ≡ false → MayBePlanned s (Undid (Append g n tag previous body))
    may_unsend n tag previous body more number none =
        let t = tail more in
        let c = t.cell in
        let f = front_cell more in
        let offs = any_parts s.rows (at_tail (completed s) g) (named (prev_in (completed s (tail_in (completed s (directory_at g)))))) none in
        let tail_is_off = off_tail g d at directory offs.0 (above z d.tail t.place) in
        record {
          writes = unlink_tail_writes l g d c previous f.cell;
          plan = subst (λ m. IsUnlinkTail l g m previous (unlink_tail_writes l g d c previous f.cell)) (sym number) (is_unlink_tail z q stand zero g d (viewed g) at chain c t.at previous f.cell (unlink_tail_writes l g d c previous f.cell) f.there refl);
          fits = unlink_tail_fits z q stand zero g d (viewed g) at chain c t.at previous f.cell f.there;
          stand = (directory_stands (directory_tail_unlinked d c previous), relinked_stand z c.prev f.cell (with_next 0) _ f.place (tt, tt));
          off = (directory, relinked_off s c.prev f.cell (with_next 0) _ (link_is_off c.prev f (off_front g d at directory c tail_is_off t.at none)) (tail_is_off, tt));
        }

    pub may_return : (n tag : ℕ) (body : List ℕ) (a : ℕ) → 0 < d.received → n ≡ d.received → IsCellAddress z a → q a ≡ Free → off a → any_latched s.rows (at_head (completed s) g) ≡ false → MayBePlanned s (Undid (UnlinkHead g n tag body))
    may_return n tag body a some number cell free a_off none = record {
      writes = put_back_writes l g d a tag body head_cell.cell;
      plan = subst (λ m. IsPutBack l g m tag body (put_back_writes l g d a tag body head_cell.cell)) (sym number) (is_put_back z q stand zero g d (viewed g) at chain tag a body head_cell.cell (put_back_writes l g d a tag body head_cell.cell) cell some head_cell.there refl);
      fits = put_back_fits z q stand zero g d (viewed g) at chain tag a body head_cell.cell free head_cell.there;
      stand = (directory_stands (directory_put_back d a), relinked_stand z d.head head_cell.cell (with_prev a) _ head_cell.place (cell, tt));
      off = (directory, relinked_off s d.head head_cell.cell (with_prev a) _ (link_is_off d.head head_cell (off_head g d at directory none)) (a_off, tt));
    }

    pub may_close : MayBePlanned s (Did (Close g))
    may_close = record {
      writes = directory_write l g d (record d { closed = true }) ∷ [];
      plan = record { directory = d; writes = refl };
      fits = (sym at, tt);
      stand = (directory_stands (record d { closed = true }), tt);
      off = (directory, tt);
    }

    pub may_reopen : MayBePlanned s (Undid (Close g))
    may_reopen = record {
      writes = directory_write l g d (record d { closed = false }) ∷ [];
      plan = record { directory = d; writes = refl };
      fits = (sym at, tt);
      stand = (directory_stands (record d { closed = false }), tt);
      off = (directory, tt);
    }

  -- what is written of a client, where the page of its slot is off, stands in the slot
  module _ (c : ℕ) (below : c < client_count z) (c_off : off (client_slot_at z c)) where
    client : ShowsTag l q c (viewed (client_group c))
    client = shows_tag s c k below c_off

    client_place : client_slot_at z client.held.client ≡ client_slot_at z c
    client_place = ap (client_slot_at z) client.own

    client_stands : (after : ClientSlot) → after.client ≡ client.held.client → IsInPlace z (client_slot_at z client.held.client) (Client after)
    client_stands after same =
        let i : IsInPlace z (client_slot_at z c) (Client client.held) = subst (IsInPlace z (client_slot_at z c)) client.at (all_stand s k (client_slot_at z c)) in
        subst (λ a. IsInPlace z a (Client after)) (sym client_place) (record { own = same ∙ i.own; low = i.low; high = i.high; slot = i.slot })

    client_off : latched_in s.rows (client_slot_at z client.held.client / 16) ≡ false
    client_off = ap (λ a. latched_in s.rows (a / 16)) client_place ∙ c_off

    -- a mark of the client
    may_mark : (tag : ℕ) → MayBePlanned s (Did (Mark c tag client.held.tag))
    may_mark tag =
        let after : ClientSlot = record client.held { count = client.held.count + 1; tag = tag } in
        let few = k.range.directory_high in
        record {
          writes = client_write l client.held after ∷ [];
          plan = record { held = client.held; own = client.own; previous_is = refl; apart = omega (arith, few); writes = refl };
          fits = (sym (ap q client_place ∙ client.at), tt);
          stand = (client_stands after refl, tt);
          off = (client_off, tt);
        }

  -- the newest mark of a client whose slot's page is off
  may_unmark : (c tag previous : ℕ) → c < client_count z → off (client_slot_at z c) → 0 < length (viewed (client_group c)).messages → MayBePlanned s (Undid (Mark c tag previous))
  may_unmark c tag previous below c_off some =
      let h = client c below c_off in
      let after : ClientSlot = record h.held { count = h.held.count - 1; tag = previous } in
      let n = h.count in
      let few = k.range.directory_high in
      record {
        writes = client_write l h.held after ∷ [];
        plan = record { held = h.held; own = h.own; some = omega (arith, some, n); apart = omega (arith, few); writes = refl };
        fits = (sym (ap q (client_place c below c_off) ∙ h.at), tt);
        stand = (client_stands c below c_off after refl, tt);
        off = (client_off c below c_off, tt);
      }

  -- what a turn needs is latched, or it can be planned, whatever its group
  first_off : (g : ℕ) (rest : List ℕ) → any_latched s.rows (directory_at g ∷ rest) ≡ false → off (directory_at g)
  first_off g rest h = (or_parts (latched_in s.rows (directory_at g / 16)) (any_latched s.rows rest) h).0

  close_or : (g : ℕ) → g < sender_count z → NeedsLatched s (Did (Close g)) ⊎ MayBePlanned s (Did (Close g))
  close_or g inside = elim (cases_Bool (any_latched s.rows (directory_at g ∷ []))) [ inl y ↦ inl (inl y) | inr n ↦ inr (may_close g inside (first_off g [] n)) ]

  send_or : (g tag : ℕ) (body : List ℕ) → g < sender_count z → NeedsLatched s (Did (Append g 0 tag 0 body)) ⊎ ((n : ℕ) × (previous : ℕ) × MayBePlanned s (Did (Append g n tag previous body)))
  send_or g tag body inside = elim (cases_Bool (any_latched s.rows (at_tail (completed s) g))) [
    | inl y ↦ inl (inl y)
    | inr n ↦ elim find_cell [
      | inl c ↦
          let dir = first_off g (named (tail_in (completed s (directory_at g)))) n in
          let d = (shown g inside dir).directory in
          inr (d.sent + 1, d.last_tag, may_send g inside dir tag body c.0 c.1 c.2 c.3 n)
      | inr all ↦ inl (inr (refl, all))
    ]
  ]

  -- where a message waits of a group, its chain holds one
  some_more : (g : ℕ) (inside : g < sender_count z) (dir : off (directory_at g)) → 1 ≤ waits s.waiting g → (shown g inside dir).directory.received < (shown g inside dir).directory.sent
  some_more g inside dir wait = let t = (tells_group s g (shown g inside dir).directory k inside dir (shown g inside dir).at).waiting in omega (arith, t, wait)

  receive_or : (g : ℕ) → g < sender_count z → 1 ≤ waits s.waiting g → (any_latched s.rows (behind_head (completed s) g) ≡ true) ⊎ ((n : ℕ) × (tag : ℕ) × (body : List ℕ) × MayBePlanned s (Did (UnlinkHead g n tag body)))
  receive_or g inside wait = elim (cases_Bool (any_latched s.rows (behind_head (completed s) g))) [
    | inl y ↦ inl y
    | inr n ↦
        let front = (any_parts s.rows (at_head (completed s) g) (named (next_in (completed s (head_in (completed s (directory_at g)))))) n).0 in
        let dir = first_off g (named (head_in (completed s (directory_at g)))) front in
        let more = some_more g inside dir wait in
        let c = (head g inside dir more).cell in
        inr ((shown g inside dir).directory.received + 1, c.tag, c.body, may_receive g inside dir more n)
  ]

  -- the inverse of a transaction's newest deed
  module _ (r : Row) (m : IsIdle s r) (fs : List Finished) (f : Finished) (newest_is : r.finished ≡ fs ++ f ∷ []) where
    inverse_or : (d : Deed) → f.deed ≡ d → NeedsLatched s (Undid d) ⊎ MayBePlanned s (Undid d)
    inverse_or (Append g n tag previous body) e = elim (cases_Bool (any_latched s.rows (before_tail (completed s) g))) [
      | inl y ↦ inl (inl y)
      | inr none ↦
          let inside = deed_stored s r fs f k m newest_is (Append g n tag previous body) e in
          let front = (any_parts s.rows (at_tail (completed s) g) (named (prev_in (completed s (tail_in (completed s (directory_at g)))))) none).0 in
          let dir = first_off g (named (tail_in (completed s (directory_at g)))) front in
          let last_one = sent_last (items s.sizes s.records) r.txn f.lsn g n tag previous body (placed fs) (groups_of s.sizes s.records k.log) (open_deed s r fs f k m newest_is (Append g n tag previous body) e) in
          let number = last_one.0 in
          let some = last_one.1 in
          let t = tells_group s g (shown g inside dir).directory k inside dir (shown g inside dir).at in
          let sent = t.sent in
          let received = t.received in
          inr (may_unsend g inside dir n tag previous body (omega (arith, some, sent)) (omega (arith, number, sent, received)) none)
    ]
    inverse_or (UnlinkHead g n tag body) e = elim (cases_Bool (any_latched s.rows (at_head (completed s) g))) [
      | inl y ↦ inl (inl y)
      | inr none ↦ elim find_cell [
        | inl c ↦
            let inside = deed_stored s r fs f k m newest_is (UnlinkHead g n tag body) e in
            let dir = first_off g (named (head_in (completed s (directory_at g)))) none in
            let x = can_undo_taken g (items s.sizes s.records) r.txn f.lsn g n tag body (placed fs) (groups_of s.sizes s.records k.log) (open_deed s r fs f k m newest_is (UnlinkHead g n tag body) e) (eq-eqb g g refl) in
            let some : 0 < (viewed g).received = x.1 in
            let number : (viewed g).received ≡ n = x.0 in
            let received = (tells_group s g (shown g inside dir).directory k inside dir (shown g inside dir).at).received in
            inr (may_return g inside dir n tag body c.0 (omega (arith, some, received)) (omega (arith, number, received)) c.1 c.2 c.3 none)
        | inr all ↦ inl (inr (refl, all))
      ]
    ]
    inverse_or (Close g) e = elim (cases_Bool (any_latched s.rows (directory_at g ∷ []))) [
      | inl y ↦ inl (inl y)
      | inr n ↦ inr (may_reopen g (deed_stored s r fs f k m newest_is (Close g) e) (first_off g [] n))
    ]
    inverse_or (Mark c tag previous) e = elim (cases_Bool (any_latched s.rows (client_slot_at z c ∷ []))) [
      | inl y ↦ inl (inl y)
      | inr n ↦ inr (may_unmark c tag previous (deed_stored s r fs f k m newest_is (Mark c tag previous) e).0 (or_parts (latched_in s.rows (client_slot_at z c / 16)) false n).0 (subst (MayBeUndone s) e (may_be_undone s r fs f k m newest_is)))
    ]

  -- a transaction that passes the tests has a row
  row_of : (t : Txn) → not (is_some (found t (ledger_of s).open_ones)) ≡ false → (r : Row) × (found_row t s.rows ≡ Some r)
  row_of t h = at (found_row t s.rows) refl where
    at : (o : Option Row) → found_row t s.rows ≡ o → (r : Row) × (found_row t s.rows ≡ Some r)
    at None e = absurd (true≢false (sym (ap (λ o. not (is_some o)) (found_open s.ends t s.rows ∙ ap (open_found s.ends) e)) ∙ h))
    at (Some r) e = (r, e)

  known : (g : ℕ) → not (nat_lt g (sender_count z)) ≡ false → g < sender_count z
  known g h = ltb-true g (sender_count z) (not-false (nat_lt g (sender_count z)) h)

  abbrev Some_turn : Call → Type 0
  Some_turn c = (turn : Turn) × Begins s c turn × MayBePlanned s turn

  some_send : (t : Txn) (m : Message) → m.sender < sender_count z → (IsLatched s (Call.Start_send t m) → ⊥) → Some_turn (Call.Start_send t m)
  some_send t m inside free = elim (send_or m.sender m.tag m.body inside) [
    | inl h ↦ absurd (free (record { some = (Did (Append m.sender 0 m.tag 0 m.body), refl); each = each h }))
    | inr p ↦ (Did (Append m.sender p.0 m.tag p.1 m.body), refl, p.2)
  ] where
    each : NeedsLatched s (Did (Append m.sender 0 m.tag 0 m.body)) → (turn : Turn) → Begins s (Call.Start_send t m) turn → NeedsLatched s turn
    each h (Did (Append g n tag previous body)) b =
        let same : record { sender = g; tag = tag; body = body } ≡ m = cc in
        subst (λ x. (any_latched s.rows (at_tail (completed s) x) ≡ true) ⊎ ((true ≡ true) × AllFreeLatched s)) (sym (ap (λ (x : Message). x.sender) same)) h
    each h (Did (UnlinkHead g n tag body)) b = let bad : Taking g ≡ Sending m = b in cc
    each h (Did (Close g)) b = let bad : Ending g ≡ Sending m = b in cc
    each h (Did (Mark c tag previous)) b = let bad : Marking c tag ≡ Sending m = b in cc
    each h (Undid d) b = absurd b

  some_from : (t : Txn) (g : ℕ) → g < sender_count z → 1 ≤ waits s.waiting g → (IsLatched s (Call.Start_receive_from t g) → ⊥) → Some_turn (Call.Start_receive_from t g)
  some_from t g inside wait free = elim (receive_or g inside wait) [
    | inl h ↦ absurd (free (record { some = (Did (UnlinkHead g 0 0 []), refl); each = each h }))
    | inr p ↦ (Did (UnlinkHead g p.0 p.1 p.2), refl, p.3)
  ] where
    each : any_latched s.rows (behind_head (completed s) g) ≡ true → (turn : Turn) → Begins s (Call.Start_receive_from t g) turn → NeedsLatched s turn
    each h (Did (Append x n tag previous body)) b = cc
    each h (Did (UnlinkHead x n tag body)) b = let e : g ≡ x = cc in inl (subst (λ y. any_latched s.rows (behind_head (completed s) y) ≡ true) e h)
    each h (Did (Close x)) b = cc
    each h (Did (Mark c tag previous)) b = cc
    each h (Undid d) b = absurd b

  some_close : (t : Txn) (g : ℕ) → g < sender_count z → (IsLatched s (Call.Start_close t g) → ⊥) → Some_turn (Call.Start_close t g)
  some_close t g inside free = elim (close_or g inside) [
    | inl h ↦ absurd (free (record { some = (Did (Close g), refl); each = each h }))
    | inr p ↦ (Did (Close g), refl, p)
  ] where
    each : NeedsLatched s (Did (Close g)) → (turn : Turn) → Begins s (Call.Start_close t g) turn → NeedsLatched s turn
    each h (Did (Append x n tag previous body)) b = cc
    each h (Did (UnlinkHead x n tag body)) b = cc
    each h (Did (Close x)) b = let e : g ≡ x = cc in subst (λ y. NeedsLatched s (Did (Close y))) e h
    each h (Did (Mark c tag previous)) b = cc
    each h (Undid d) b = absurd b

  some_mark : (t : Txn) (c tag : ℕ) → c < client_count z → (IsLatched s (Call.Start_mark t c tag) → ⊥) → Some_turn (Call.Start_mark t c tag)
  some_mark t c tag inside free = elim (cases_Bool (any_latched s.rows (client_slot_at z c ∷ []))) [
    | inl y ↦ absurd (free (record { some = (Did (Mark c tag 0), refl); each = each (inl y) }))
    | inr n ↦ let c_off = (or_parts (latched_in s.rows (client_slot_at z c / 16)) false n).0 in (Did (Mark c tag (client c inside c_off).held.tag), refl, may_mark c inside c_off tag)
  ] where
    each : NeedsLatched s (Did (Mark c tag 0)) → (turn : Turn) → Begins s (Call.Start_mark t c tag) turn → NeedsLatched s turn
    each h (Did (Append x n y previous body)) b = cc
    each h (Did (UnlinkHead x n y body)) b = cc
    each h (Did (Close x)) b = cc
    each h (Did (Mark x y previous)) b = let e : c ≡ x = cc in subst (λ i. NeedsLatched s (Did (Mark i y previous))) e h
    each h (Undid d) b = absurd b

  -- from whichever group of which a message waits
  module _ (t : Txn) (r : Row) (at_row : found_row t s.rows ≡ Some r) where
    abbrev waiting : ℕ → Bool
    waiting g = is_free_for t g s.ends.receiving && nat_lt 0 (waits s.waiting g)

    abbrev ready : ℕ → Bool
    ready g = waiting g && not (any_latched s.rows (behind_head (completed s) g))

    waits_for : (g : ℕ) → g < sender_count z → waiting g ≡ true → WaitsFor s t g
    waits_for g inside h =
        let p = and_parts (is_free_for t g s.ends.receiving) (nat_lt 0 (waits s.waiting g)) h in
        let n : 0 < waits s.waiting g = ltb-true 0 (waits s.waiting g) p.1 in
        (inside, p.0, omega (arith, n))

    is_waiting : (g : ℕ) → WaitsFor s t g → waiting g ≡ true
    is_waiting g w = and_from _ _ w.1 (lt-ltb 0 (waits s.waiting g) (let n = w.2 in omega (arith, n)))

    own : r.txn ≡ t
    own = (found_in t s.rows r at_row).1

    -- some group gives a message, so one waits
    one_waits : any_gives (below (sender_count z)) (ledger_of s) t (found t (ledger_of s).open_ones) ≡ true → (g : ℕ) × WaitsFor s t g
    one_waits h = elim (some_below waiting (sender_count z)) [
      | inl x ↦ (x.0, waits_for x.0 x.1 x.2)
      | inr none ↦
          let nobody : NoneWaits s r.txn = (λ g inside free. no_more g (subst (λ x. is_free_for x g s.ends.receiving ≡ true) own free) (none g inside)) in
          let e : any_gives (below (sender_count z)) (ledger_of s) r.txn (found r.txn (ledger_of s).open_ones) ≡ false = none_gives s k r (subst (λ x. found_row x s.rows ≡ Some r) (sym own) at_row) nobody in
          absurd (true≢false (sym h ∙ subst (λ x. any_gives (below (sender_count z)) (ledger_of s) x (found x (ledger_of s).open_ones) ≡ false) own e))
    ] where
      no_more : (g : ℕ) → is_free_for t g s.ends.receiving ≡ true → waiting g ≡ false → waits s.waiting g ≡ 0
      no_more g free h = elim (cases_lt 0 (waits s.waiting g)) [
        | inl y ↦ absurd (true≢false (sym (and_from _ _ free (lt-ltb 0 (waits s.waiting g) y)) ∙ h))
        | inr n ↦ omega (arith, n)
      ]

    some_any : any_gives (below (sender_count z)) (ledger_of s) t (found t (ledger_of s).open_ones) ≡ true → (IsLatched s (Call.Start_receive t) → ⊥) → Some_turn (Call.Start_receive t)
    some_any given free = elim (some_below ready (sender_count z)) [
      | inl x ↦
          let p = and_parts (waiting x.0) (not (any_latched s.rows (behind_head (completed s) x.0))) x.2 in
          let w = waits_for x.0 x.1 p.0 in
          elim (receive_or x.0 x.1 w.2) [
            | inl on ↦ absurd (true≢false (sym on ∙ not-true (any_latched s.rows (behind_head (completed s) x.0)) p.1))
            | inr y ↦ (Did (UnlinkHead x.0 y.0 y.1 y.2), (x.0, w, refl), y.3)
          ]
      | inr none ↦
          let one = one_waits given in
          absurd (free (record { some = (Did (UnlinkHead one.0 0 0 []), (one.0, one.1, refl)); each = each none }))
    ] where
      each : ((g : ℕ) → g < sender_count z → ready g ≡ false) → (turn : Turn) → Begins s (Call.Start_receive t) turn → NeedsLatched s turn
      each none (Did (Append x n tag previous body)) b = let bad = b.2 in cc
      each none (Did (UnlinkHead x n tag body)) b =
          let f = b.2 in
          let e : b.0 ≡ x = cc in
          elim (cases_Bool (any_latched s.rows (behind_head (completed s) x))) [
            | inl y ↦ inl y
            | inr m ↦ absurd (true≢false (sym (and_from _ _ (is_waiting x (subst (WaitsFor s t) e b.1)) (ap not m)) ∙ none x (subst (λ y. y < sender_count z) e b.1.0)))
          ]
      each none (Did (Close x)) b = let bad = b.2 in cc
      each none (Did (Mark c tag previous)) b = let bad = b.2 in cc
      each none (Undid d) b = absurd b

  -- the inverse of the newest deed
  module _ (t : Txn) (r : Row) (at_row : found_row t s.rows ≡ Some r) (idle : r.under ≡ None) (fs : List Finished) (f : Finished) (is : r.finished ≡ fs ++ f ∷ []) where
    row_is : r.txn ≡ t
    row_is = (found_in t s.rows r at_row).1

    is_idle : IsIdle s r
    is_idle = record { at_row = subst (λ x. found_row x s.rows ≡ Some r) (sym row_is) at_row; idle = idle }

    last_is : last r.finished ≡ Some f
    last_is = ap last is ∙ last_push fs f

    abbrev Newest : Deed → Type 0
    Newest d = OnFound (found_row t s.rows) (λ (y : Row). OnFound (last y.finished) (λ (x : Finished). x.deed ≡ d))

    newest_deed : Newest f.deed
    newest_deed = subst (λ (o : Option Row). OnFound o (λ (y : Row). OnFound (last y.finished) (λ (x : Finished). x.deed ≡ f.deed))) (sym at_row) (subst (λ (o : Option Finished). OnFound o (λ (x : Finished). x.deed ≡ f.deed)) (sym last_is) refl)

    deed_is : (d : Deed) → Newest d → f.deed ≡ d
    deed_is d h = subst (λ (o : Option Finished). OnFound o (λ (x : Finished). x.deed ≡ d)) last_is (subst (λ (o : Option Row). OnFound o (λ (y : Row). OnFound (last y.finished) (λ (x : Finished). x.deed ≡ d))) at_row h)

    each_undo : NeedsLatched s (Undid f.deed) → (turn : Turn) → Begins s (Call.Undo_next t) turn → NeedsLatched s turn
    each_undo h (Did d) b = absurd b
    each_undo h (Undid d) b = subst (λ (x : Deed). NeedsLatched s (Undid x)) (deed_is d b) h

    some_undo : (IsLatched s (Call.Undo_next t) → ⊥) → Some_turn (Call.Undo_next t)
    some_undo free = elim (inverse_or r is_idle fs f is f.deed refl) [
      | inl h ↦ absurd (free (record { some = (Undid f.deed, newest_deed); each = each_undo h }))
      | inr p ↦ (Undid f.deed, newest_deed, p)
    ]

  no_job : (o : Option Under) → is_some (job_under o) ≡ false → o ≡ None
  no_job None e = refl
  no_job (Some u) e = cc

  some_newest : (t : Txn) → Passes (size_of z) (ledger_of s) (Call.Undo_next t) → is_some (newest (found t (ledger_of s).open_ones)) ≡ true → (IsLatched s (Call.Undo_next t) → ⊥) → Some_turn (Call.Undo_next t)
  some_newest t h given free =
      let r = row_of t h.1.0 in
      let at : found t (ledger_of s).open_ones ≡ Some (open_of s.ends r.0) = found_open s.ends t s.rows ∙ ap (open_found s.ends) r.1 in
      let idle : r.0.under ≡ None = no_job r.0.under (sym (ap is_busy at) ∙ h.1.1.1.0) in
      elim (split_last r.0.finished) [
        | inl none ↦ absurd (true≢false (sym given ∙ ap (λ (o : Option Open). is_some (newest o)) at ∙ ap (λ (l : List Finished). is_some (last (map op_done l))) none))
        | inr x ↦ some_undo t r.0 r.1 idle x.0 x.1 x.2 free
      ]

  -- what passes the tests and has something to start can be planned where it is not latched
  pub can_plan : (c : Call) → Passes (size_of z) (ledger_of s) c → starts (size_of z) (ledger_of s) c ≡ true → (IsLatched s c → ⊥) → Some_turn c
  can_plan (Call.Start_send t m) h given free = some_send t m (known m.sender h.1.1.1.1.0) free
  can_plan (Call.Start_receive t) h given free = let r = row_of t h.1.0 in some_any t r.0 r.1 given free
  can_plan (Call.Start_receive_from t g) h given free =
      let r = row_of t h.1.0 in
      let own = (found_in t s.rows r.0 r.1).1 in
      let inside = known g h.1.1.1.1.0 in
      let e = subst (λ x. gives (ledger_of s) x (found x (ledger_of s).open_ones) g ≡ (is_free_for x g s.ends.receiving && nat_lt 0 (waits s.waiting g))) own (gives_is s k r.0 (subst (λ x. found_row x s.rows ≡ Some r.0) (sym own) r.1) g inside) in
      let w = waits_for t r.0 r.1 g inside (sym e ∙ given) in
      some_from t g inside w.2 free
  can_plan (Call.Start_close t g) h given free = some_close t g (known g h.1.1.1.1.0) free
  can_plan (Call.Start_mark t c tag) h given free = some_mark t c tag (ltb-true c (client_count z) (not-false (nat_lt c (client_count z)) h.1.1.1.1.0)) free
  can_plan (Call.Undo_next t) h given free = some_newest t h given free
  can_plan c h given free = absurd (false≢true given)

pub latched_exact : LatchedIsExact
latched_exact = record {
  whole = λ s a k off. is_whole s k a off;
  as_read = λ s turn k. as_read s k turn;
  none = λ s c turn k h b p. never_both s k turn p (h.each turn b);
  some = λ s c k h given free. can_plan s k c h given free;
}
