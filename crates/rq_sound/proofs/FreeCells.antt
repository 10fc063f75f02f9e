-- Whoever may put a message back finds a free cell, and so does whoever may send; and the inverse of the newest deed can
-- be planned.
use Rattle.std.proofs.Common.{◌≡◌, ℕ, ◌+◌, ◌/◌, ◌<◌, ◌≤◌, ◌++◌, List, [], ◌∷◌, refl, sym, ◌∙◌, ap, subst, false, nat_eq, Option, Some, None, inl, inr, arith}
use Rattle.std.specs.List.{sum_by}
use Rattle.std.proofs.lemmas.Bool.{cases_Bool, eqb-true, or_parts}
use Rattle.std.proofs.lemmas.List.Sums.{sum_by-cons, sum_by_push}
use Rattle.rq_model.specs.declared.txn.Txn.{Txn}
use Rattle.rq_model.specs.declared.txn.Sub.{Sub}
use Rattle.rq_model.specs.declared.record.Deed.{Deed}
use Rattle.rq_model.specs.declared.record.Deed.TheVariants.{Append, UnlinkHead, Close, Mark}
use Rattle.rq_model.specs.declared.record.Record.{Record}
use Rattle.rq_model.specs.Vocabulary.{In, client_group}
use Rattle.rq_page.specs.Sizes.{Sizes, IsInRange, IsCellAddress, cell_count, client_count, client_slot_at, sender_count, directory_at}
use Rattle.rq_page.specs.Slots.Slot.{Free}
use Rattle.rq_views.specs.InStore.{IsDeedOf}
use Rattle.rq_views.specs.Log.{Write, HasBefores}
use Rattle.rq_views.specs.Items.{items, layout_of, operation}
use Rattle.rq_views.specs.Legal.{open_deeds, view, under_way}
use Rattle.rq_views.specs.Plans.{ShowsAt, ShowsTag, IsPlan, deed_sender}
use Rattle.rq_views.specs.Plans.Turn.{Did, Undid}
use Rattle.rq_views.specs.Stored.{count_used}
use Rattle.rq_level.specs.Writes.{writes_of}
use Rattle.rq_views.proofs.Counting.{gained, AllInStore, deeds_in_store}
use Rattle.rq_views.proofs.Stands.{slots_stand}
use Rattle.rq_views.proofs.Tags.{quiet_tags}
use Rattle.rq_txn.specs.declared.Finished.{Finished}
use Rattle.rq_groups.specs.Ends.{HeldEnds}
use Rattle.rq_views.specs.Claims.{takes_of, appends_of}
use Rattle.rq_store.specs.Settled.{takes_one}
use Rattle.rq_store.specs.Rows.{placed, placed_one, is_under}
use Rattle.rq_store.specs.Fitting.{left_by}
use Rattle.rq_store.specs.Whole.{IsWhole}
use Rattle.rq_store.proofs.Grouping.{groups_of}
use Rattle.rq_txn.specs.declared.Aim.{Aim}
use Rattle.rq_txn.specs.Rows.{Under, Row, found_row, latched_by, latched_under, latched_in}
use Rattle.rq_txn.specs.declared.Aim.TheVariants.{Doing, Undoing}
use Rattle.rq_store.proofs.RowLists.{found_in}
use Rattle.rq_sound.specs.Rows.{own_slot, turn_of}
use Rattle.rq_sound.specs.Standing.{IsAsPlanned, IsAimOf, AreStanding}
use Rattle.rq_sound.specs.Counted.{AreCounted, appends_aim, appending, appending_in, takes_all, uses_before, uses_after, made_of, before_in, after_in}
use Rattle.rq_sound.proofs.UsedCells.{made_within, some_free}
use Rattle.rq_store.proofs.Placed.{placed_more}
use Rattle.rq_sound.proofs.Going.{IsOne, shown_beside, unlatched_is_quiet}
use Rattle.rq_sound.proofs.Going.IsOne.{Idle, Going}
use Rattle.rq_sound.proofs.Own.{ShowsOwn}
use Rattle.rq_sound.proofs.UndoPlans.{NeedsCell, can_undo}

sum_three : (f g h : Row → ℕ) (rows : List Row) → sum_by (λ q. f q + g q + h q) rows ≡ sum_by f rows + sum_by g rows + sum_by h rows
sum_three f g h [] = refl
sum_three f g h (r ∷ rows) =
    let a = sum_by-cons (λ (q : Row). f q + g q + h q) r rows in
    let b = sum_by-cons f r rows in
    let c = sum_by-cons g r rows in
    let d = sum_by-cons h r rows in
    let e = sum_three f g h rows in
    omega (arith, a, b, c, d, e)

sum_below : (f g : Row → ℕ) (rows : List Row) → ((q : Row) → In q rows → f q ≤ g q) → sum_by f rows ≤ sum_by g rows
sum_below f g [] h = omega arith
sum_below f g (r ∷ rows) h =
    let a = sum_by-cons f r rows in
    let b = sum_by-cons g r rows in
    let c = h r (inl refl) in
    let d = sum_below f g rows (λ q i. h q (inr i)) in
    omega (arith, a, b, c, d)

sum_less : (f g : Row → ℕ) (rows : List Row) (r : Row) → In r rows → f r < g r → ((q : Row) → In q rows → f q ≤ g q) → sum_by f rows < sum_by g rows
sum_less f g [] r i lt h = absurd i
sum_less f g (p ∷ rows) r i lt h =
    let a = sum_by-cons f p rows in
    let b = sum_by-cons g p rows in
    elim i [
      | inl e ↦
          let c = sum_below f g rows (λ q i. h q (inr i)) in
          let x : f r ≡ f p = ap f e in
          let y : g r ≡ g p = ap g e in
          omega (arith, a, b, c, x, y, lt)
      | inr j ↦
          let c = h p (inl refl) in
          let d = sum_less f g rows r j lt (λ q i. h q (inr i)) in
          omega (arith, a, b, c, d)
    ]

did_gains : (d : Deed) → gained (Did d) ≡ appends_of d
did_gains (Append q n tag previous body) = refl
did_gains (UnlinkHead q n tag body) = refl
did_gains (Close q) = refl
did_gains (Mark c tag previous) = refl

undid_gains : (d : Deed) → gained (Undid d) ≡ takes_of d
undid_gains (Append q n tag previous body) = refl
undid_gains (UnlinkHead q n tag body) = refl
undid_gains (Close q) = refl
undid_gains (Mark c tag previous) = refl

aim_gains : (q : Row) (a : Aim) → IsAimOf q a → gained (turn_of a) ≤ appends_aim a + takes_all q
aim_gains q (Doing d) h = let a = did_gains d in omega (arith, a)
aim_gains q (Undoing lsn d) h =
    let a = undid_gains d in
    let b : takes_all q ≡ sum_by takes_one h.1.0 + takes_of d = ap (sum_by takes_one) h.1.2 ∙ sum_by_push takes_one h.1.0 (record { lsn = lsn; number = h.1.1; deed = d }) in
    omega (arith, a, b)

-- what a row's operation under way has used so far is what it appends, or what it took before
row_room : (z : Sizes) (log : List Record) (ends : HeldEnds) (q : Row) (o : Option Under) → IsAsPlanned z log ends q o → sum_by uses_after (made_of z o) ≤ sum_by uses_before (made_of z o) + appending o + takes_all q
row_room z log ends q None h = omega arith
row_room z log ends q (Some u) h =
    let a = made_within (layout_of z) (turn_of u.aim) (writes_of z u.writes) u.made h.0.plan in
    let b = aim_gains q u.aim h.2 in
    omega (arith, a, b)

module _ (z : Sizes) (log : List Record) (ends : HeldEnds) (rows : List Row) (incarnation begins cells : ℕ) (waiting : List ℕ) (k : AreStanding z log ends rows incarnation begins) (c : AreCounted z log rows cells waiting) where
  abbrev all_of : Row → ℕ
  all_of q = before_in z q + appending_in q + takes_all q

  each_room : (q : Row) → In q rows → after_in z q ≤ all_of q
  each_room q i = row_room z log ends q q.under (k.each q i).going

  -- where the store is not full, some cell is free
  pub room_to_send : cells < cell_count z → count_used z (left_by z log).slots < cell_count z
  room_to_send more =
      let a = sum_below (after_in z) all_of rows each_room in
      let b = sum_three (before_in z) appending_in takes_all rows in
      let d = c.used in
      let e = c.room in
      omega (arith, a, b, d, e, more)

  -- and where a transaction with nothing under way has taken a message
  pub room_to_put_back : (r : Row) → In r rows → r.under ≡ None → 0 < takes_all r → count_used z (left_by z log).slots < cell_count z
  room_to_put_back r i idle took =
      let x : after_in z r ≡ 0 = ap (λ (o : Option Under). sum_by uses_after (made_of z o)) idle in
      let a = sum_less (after_in z) all_of rows r i (omega (arith, x, took)) each_room in
      let b = sum_three (before_in z) appending_in takes_all rows in
      let d = c.used in
      let e = c.room in
      let f = c.bound in
      omega (arith, a, b, d, e, f)

  pub in_latched : (q : Row) (qs : List Row) (u : Under) (p : ℕ) → In q qs → q.under ≡ Some u → latched_in qs p ≡ false → latched_by u p ≡ false
  in_latched q [] u p i e off = absurd i
  in_latched q (x ∷ qs) u p i e off =
      let s = or_parts (latched_under x.under p) (latched_in qs p) off in
      elim i [
        | inl same ↦ sym (ap (λ (o : Option Under). latched_under o p) (sym (ap (λ (y : Row). y.under) same) ∙ e)) ∙ s.0
        | inr j ↦ in_latched q qs u p j e s.1
      ]

  -- each operation is idle, or under way in a row, with its pages
  pub all_one : (o : Sub) → IsOne z log ends (latched_in rows) o
  all_one o = at (found_row o.txn rows) refl where
    under : (r : Row) → In r rows → r.txn ≡ o.txn → (w : Option Under) → r.under ≡ w → IsAsPlanned z log ends r w → ((n : ℕ) → is_under n w ≡ false → under_way (operation r.txn n) (items z log) ≡ false) → IsOne z log ends (latched_in rows) o
    under r i e None f g idle = Idle (ap (λ (t : Txn). under_way (operation t o.number) (items z log)) (sym e) ∙ idle o.number refl)
    under r i e (Some u) f g idle = elim (cases_Bool (nat_eq u.number o.number)) [
      | inl y ↦ Going r.txn u (ap (λ (t : Txn). operation t u.number) e ∙ ap (operation o.txn) (eqb-true u.number o.number y)) g.0 (λ p off. in_latched r rows u p i f off)
      | inr m ↦ Idle (ap (λ (t : Txn). under_way (operation t o.number) (items z log)) (sym e) ∙ idle o.number m)
    ]

    at : (w : Option Row) → found_row o.txn rows ≡ w → IsOne z log ends (latched_in rows) o
    at None e = Idle ((k.others o.txn e).idle o.number)
    at (Some r) e = let i = found_in o.txn rows r e in under r i.0 i.1 r.under refl (k.each r i.0).going (k.each r i.0).idle

  -- where no operation has latched the page of a sender's directory slot, the slots show its view
  pub shown_here : (whole : IsWhole z log) (s : ℕ) → s < sender_count z → latched_in rows (directory_at s / 16) ≡ false → ShowsAt (layout_of z) (left_by z log).slots s (view (items z log) s)
  shown_here whole s below off = shown_beside z log ends (latched_in rows) s whole.legal all_one below off

  -- and, where none has latched that of a client's slot, the client's marks
  pub shown_tag : IsInRange z → IsWhole z log → (c : ℕ) → c < client_count z → latched_in rows (client_slot_at z c / 16) ≡ false → ShowsTag (layout_of z) (left_by z log).slots c (view (items z log) (client_group c))
  shown_tag range whole c below off =
      let h = quiet_tags z log c range whole.legal whole.in_store below in
      let same = unlatched_is_quiet z log ends (latched_in rows) (client_slot_at z c) whole.legal all_one off in
      record { held = h.held; at = same ∙ h.at; own = h.own; count = h.count; tag = h.tag; open_one = h.open_one; none_taken = h.none_taken }

  -- so where none has latched that of a deed's own slot they show its group
  pub shown_own : IsInRange z → IsWhole z log → (d : Deed) → IsDeedOf z d → latched_in rows (own_slot z d / 16) ≡ false → ShowsOwn (layout_of z) (left_by z log).slots d (view (items z log) (deed_sender d))
  shown_own range whole (Append s n tag previous body) is off = shown_here whole s is off
  shown_own range whole (UnlinkHead s n tag body) is off = shown_here whole s is off
  shown_own range whole (Close s) is off = shown_here whole s is off
  shown_own range whole (Mark c tag previous) is off = shown_tag range whole c is.0 off

  -- A transaction with nothing under way can undo its newest deed, once nobody has latched the page of its own slot.
  -- A put-back finds a free cell, and can take any; a close's inverse finds the group closed.
  module _ (whole : IsWhole z log) (r : Row) (i : In r rows) (idle : r.under ≡ None) (fs : List Finished) (f : Finished) (newest : r.finished ≡ fs ++ f ∷ []) where
    pub open_is : open_deeds r.txn (items z log) ≡ placed_one f ∷ placed fs
    open_is = (k.each r i).done ∙ ap placed newest ∙ placed_more fs f

    pub stored : IsDeedOf z f.deed
    stored = (subst (AllInStore z) open_is (deeds_in_store z r.txn log whole.in_store)).0

    pub undo_planned : IsInRange z → (new : ℕ) → NeedsCell f.deed (left_by z log).slots new → latched_in rows (own_slot z f.deed / 16) ≡ false
        → (ws : List Write) × IsPlan (layout_of z) (Undid f.deed) ws × HasBefores ws (left_by z log).slots
    undo_planned range new cell off =
        let few = range.directory_high in
        can_undo (layout_of z) (left_by z log).slots (items z log) r.txn f.lsn new f.deed (placed fs) (omega (arith, few)) (groups_of z log whole) open_is cell (shown_own range whole f.deed stored off)

    pub put_back_finds : takes_of f.deed ≡ 1 → (new : ℕ) × IsCellAddress z new × ((left_by z log).slots new ≡ Free)
    put_back_finds takes =
        let a : takes_all r ≡ sum_by takes_one fs + takes_of f.deed = ap (sum_by takes_one) newest ∙ sum_by_push takes_one fs f in
        some_free z (left_by z log).slots (slots_stand z log whole.in_store) (room_to_put_back r i idle (omega (arith, a, takes)))
