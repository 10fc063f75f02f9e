-- What a level finds in a sound store.
use Rattle.std.proofs.Common.{◌≡◌, ℕ, ◌/◌, ◌<◌, ◌≤◌, ◌^◌, ◌++◌, List, [], ◌∷◌, length, refl, sym, ◌∙◌, ap, subst, true, false, Option, Some, None, nat_eq, arith}
use Rattle.std.proofs.lemmas.Bool.{eq-eqb, false_from_ne_true, eqb-true}
use Rattle.std.proofs.lemmas.List.{length-append}
use Rattle.rq_model.specs.declared.record.Deed.{Deed}
use Rattle.rq_model.specs.declared.record.Deed.TheVariants.{Append, UnlinkHead, Close, Mark}
use Rattle.rq_model.specs.Vocabulary.{client_group}
use Rattle.rq_page.specs.declared.cell.Cell.{Cell}
use Rattle.rq_page.specs.declared.directory.Directory.{Directory}
use Rattle.rq_page.specs.Sizes.{IsCellAddress, client_count, client_slot_at, directory_at, sender_count}
use Rattle.rq_page.specs.Slots.Slot.{Client, Sender}
use Rattle.rq_views.specs.Chain.{View, view_appended}
use Rattle.rq_views.specs.InStore.{IsDeedOf}
use Rattle.rq_views.specs.Items.{items, layout_of}
use Rattle.rq_views.specs.Legal.{open_deeds, view}
use Rattle.rq_views.specs.Plans.{ShowsTag, deed_sender}
use Rattle.rq_views.specs.Plans.Turn.{Undid}
use Rattle.rq_views.proofs.CanUndo.{can_undo_sent, can_undo_taken}
use Rattle.rq_views.proofs.Totals.{log_total}
use Rattle.rq_level.specs.declared.slots.Given.{Given}
use Rattle.rq_level.specs.ChainPlans.{Beside, CanSend, CanReceive, CanMark}
use Rattle.rq_level.specs.Given.{GivenHolds}
use Rattle.rq_level.specs.TagPlans.{CanTag, CanUntag}
use Rattle.rq_txn.specs.declared.Finished.{Finished}
use Rattle.rq_groups.specs.Waiting.{waits}
use Rattle.rq_store.specs.Plans.{Stands_at}
use Rattle.rq_store.specs.Rows.{placed}
use Rattle.rq_store.proofs.Grouping.{groups_of}
use Rattle.rq_txn.specs.Rows.{Row, latched_in}
use Rattle.rq_store.specs.State.{State}
use Rattle.rq_sound.specs.Sound.{IsSound}
use Rattle.rq_sound.specs.Calls.{IsIdle}
use Rattle.rq_sound.specs.Groups.{TellsGroup, slots_now}
use Rattle.rq_sound.specs.Latching.{at_head, at_tail, before_tail, behind_head, head_in, named, needed, next_in, prev_in, tail_in}
use Rattle.rq_sound.specs.Rows.{own_slot}
use Rattle.rq_sound.specs.Wants.{AreGivenOf, CanUndo, LevelsFindAll}
use Rattle.rq_sound.proofs.Groups.{shows_tag, tells_group}
use Rattle.rq_sound.proofs.Latching as latching
use Rattle.rq_sound.proofs.PlanFits.{above}
use Rattle.rq_sound.proofs.Planned.{sent_last}
use Rattle.rq_sound.proofs.UndoPlans.{closed_before}
use Rattle.rq_sound.proofs.Inverses.{open_deed, deed_stored}

pub given_parts : (s : State) (given : List Given) (xs ys : List ℕ) → AreGivenOf s given (xs ++ ys) → AreGivenOf s given xs × AreGivenOf s given ys
given_parts s given [] ys h = (tt, h)
given_parts s given (x ∷ xs) ys h = let p = given_parts s given xs ys h.1 in ((h.0, p.0), p.1)

pub given_named : (s : State) (given : List Given) (a : ℕ) → 0 < a → AreGivenOf s given (named a) → GivenHolds s.sizes given a (slots_now s a)
given_named s given a pos h =
    let n : nat_eq a 0 ≡ false = false_from_ne_true (nat_eq a 0) (λ y. let e = eqb-true a 0 y in omega (arith, e, pos)) in
    let is : named a ≡ a ∷ [] = rw n refl in
    (subst (AreGivenOf s given) is h).0

-- what a link names was given, where it names a cell
beside_given : (s : State) (given : List Given) (a : ℕ) (o : Option Cell) → Stands_at (slots_now s) a o → ((c : Cell) → o ≡ Some c → IsCellAddress s.sizes a) → AreGivenOf s given (named a) → Beside s.sizes given a o
beside_given s given a None e place h = e
beside_given s given a (Some c) e place h = subst (GivenHolds s.sizes given a) e (given_named s given a (above s.sizes a (place c refl)) h)

module _ (s : State) (given : List Given) (k : IsSound s) (g : ℕ) (inside : g < sender_count s.sizes) (off : latched_in s.rows (directory_at g / 16) ≡ false) where
  abbrev d : Directory
  d = (latching.shown s k g inside off).directory

  at : slots_now s (directory_at g) ≡ Sender g d
  at = latching.at s k g inside off

  told : TellsGroup s g d
  told = tells_group s g d k inside off at

  directory_given : GivenHolds s.sizes given (directory_at g) (slots_now s (directory_at g)) → GivenHolds s.sizes given (directory_at g) (Sender g d)
  directory_given h = subst (GivenHolds s.sizes given (directory_at g)) at h

  tail_given : AreGivenOf s given (named (tail_in (slots_now s (directory_at g)))) → AreGivenOf s given (named d.tail)
  tail_given h = subst (λ x. AreGivenOf s given (named (tail_in x))) at h

  head_given : AreGivenOf s given (named (head_in (slots_now s (directory_at g)))) → AreGivenOf s given (named d.head)
  head_given h = subst (λ x. AreGivenOf s given (named (head_in x))) at h

  pub can_send : length s.records ≤ 2 ^ 50 → AreGivenOf s given (at_tail (slots_now s) g) → CanSend s.sizes given g
  can_send few h =
      let c = latching.tail_cell s k g inside off in
      let within = told.within in
      record {
        below = inside;
        directory = d;
        directory_is = directory_given h.0;
        room = omega (arith, within, few);
        old = c.cell;
        beside = beside_given s given d.tail c.cell c.there c.place (tail_given h.1);
      }

  pub can_receive : 1 ≤ waits s.waiting g → AreGivenOf s given (behind_head (slots_now s) g) → CanReceive s.sizes given g
  can_receive wait h =
      let w = told.waiting in
      let more : d.received < d.sent = omega (arith, w, wait) in
      let x = latching.head s k g inside off more in
      let n = latching.next_cell s k g inside off more in
      let parts = given_parts s given (at_head (slots_now s) g) (named (next_in (slots_now s (head_in (slots_now s (directory_at g)))))) h in
      let pos = above s.sizes d.head x.place in
      record {
        below = inside;
        directory = d;
        directory_is = directory_given parts.0.0;
        some = more;
        used = pos;
        cell = x.cell;
        head_is = subst (GivenHolds s.sizes given d.head) x.at (given_named s given d.head pos (head_given parts.0.1));
        next = n.cell;
        beside = beside_given s given x.cell.next n.cell n.there n.place (subst (λ y. AreGivenOf s given (named (next_in y))) x.at (subst (λ y. AreGivenOf s given (named (next_in (slots_now s (head_in y))))) at parts.1));
      }

  pub can_close : (view (items s.sizes s.records) g).closed ≡ false → AreGivenOf s given (directory_at g ∷ []) → CanMark s.sizes given g true
  can_close open_still h = record { below = inside; directory = d; directory_is = directory_given h.0; other = sym told.closed ∙ open_still }

  pub can_reopen : (view (items s.sizes s.records) g).closed ≡ true → AreGivenOf s given (directory_at g ∷ []) → CanMark s.sizes given g false
  can_reopen closed h = record { below = inside; directory = d; directory_is = directory_given h.0; other = sym told.closed ∙ closed }

  -- the inverse of the newest deed
  module _ (r : Row) (fs : List Finished) (f : Finished) (m : IsIdle s r) (newest : r.finished ≡ fs ++ f ∷ []) where
    pub can_undo_one : (x : Deed) → f.deed ≡ x → deed_sender x ≡ g → AreGivenOf s given (needed s.sizes (slots_now s) (Undid x)) → CanUndo s.sizes given x
    can_undo_one (Append e n tag previous body) is own h = subst (λ y. CanUndo s.sizes given (Append y n tag previous body)) (sym own) (
        let h : AreGivenOf s given (before_tail (slots_now s) g) = subst (λ y. AreGivenOf s given (before_tail (slots_now s) y)) own h in
        let last_one = sent_last (items s.sizes s.records) r.txn f.lsn g n tag previous body (placed fs) (groups_of s.sizes s.records k.log) (subst (λ y. open_deeds r.txn (items s.sizes s.records) ≡ record { lsn = f.lsn; deed = Append y n tag previous body } ∷ placed fs) own (open_deed s r fs f k m newest (Append e n tag previous body) is)) in
        let number = last_one.0 in
        let some = last_one.1 in
        let sent = told.sent in
        let received = told.received in
        let more : d.received < d.sent = omega (arith, some, sent) in
        let t = latching.tail s k g inside off more in
        let c = latching.front_cell s k g inside off more in
        let parts = given_parts s given (at_tail (slots_now s) g) (named (prev_in (slots_now s (tail_in (slots_now s (directory_at g)))))) h in
        let pos = above s.sizes d.tail t.place in
        let is_last : d.sent ≡ n = omega (arith, number, sent, received) in
        record {
          below = inside;
          directory = d;
          directory_is = directory_given parts.0.0;
          some = more;
          sequence = is_last;
          used = pos;
          cell = t.cell;
          tail_is = subst (GivenHolds s.sizes given d.tail) t.at (given_named s given d.tail pos (tail_given parts.0.1));
          last = t.sequence ∙ is_last;
          front = c.cell;
          beside = beside_given s given t.cell.prev c.cell c.there c.place (subst (λ y. AreGivenOf s given (named (prev_in y))) t.at (subst (λ y. AreGivenOf s given (named (prev_in (slots_now s (tail_in y))))) at parts.1));
        }
        )
    can_undo_one (UnlinkHead e n tag body) is own h = subst (λ y. CanUndo s.sizes given (UnlinkHead y n tag body)) (sym own) (
        let h : AreGivenOf s given (at_head (slots_now s) g) = subst (λ y. AreGivenOf s given (at_head (slots_now s) y)) own h in
        let x = can_undo_taken g (items s.sizes s.records) r.txn f.lsn g n tag body (placed fs) (groups_of s.sizes s.records k.log) (subst (λ y. open_deeds r.txn (items s.sizes s.records) ≡ record { lsn = f.lsn; deed = UnlinkHead y n tag body } ∷ placed fs) own (open_deed s r fs f k m newest (UnlinkHead e n tag body) is)) (eq-eqb g g refl) in
        let some : 0 < (view (items s.sizes s.records) g).received = x.1 in
        let received = told.received in
        let c = latching.head_cell s k g inside off in
        record {
          below = inside;
          directory = d;
          directory_is = directory_given h.0;
          some = omega (arith, some, received);
          sequence = sym received ∙ x.0;
          old = c.cell;
          beside = beside_given s given d.head c.cell c.there c.place (head_given h.1);
        }
        )
    can_undo_one (Close e) is own h = subst (λ y. CanUndo s.sizes given (Close y)) (sym own) (
        can_reopen (closed_before (items s.sizes s.records) r.txn f.lsn g (placed fs) (groups_of s.sizes s.records k.log) (subst (λ y. open_deeds r.txn (items s.sizes s.records) ≡ record { lsn = f.lsn; deed = Close y } ∷ placed fs) own (open_deed s r fs f k m newest (Close e) is))) (subst (λ y. AreGivenOf s given (directory_at y ∷ [])) own h)
        )
    can_undo_one (Mark c tag previous) is own h = absurd (omega (arith, k.range.directory_high, inside, own))

-- ---- clients

module _ (s : State) (given : List Given) (k : IsSound s) (c : ℕ) (inside : c < client_count s.sizes) (off : latched_in s.rows (client_slot_at s.sizes c / 16) ≡ false) where
  abbrev marked : View
  marked = view (items s.sizes s.records) (client_group c)

  slot : ShowsTag (layout_of s.sizes) (slots_now s) c marked
  slot = shows_tag s c k inside off

  slot_given : AreGivenOf s given (client_slot_at s.sizes c ∷ []) → GivenHolds s.sizes given (client_slot_at s.sizes c) (Client slot.held)
  slot_given h = subst (GivenHolds s.sizes given (client_slot_at s.sizes c)) slot.at h.0

  can_tag : length s.records ≤ 2 ^ 50 → AreGivenOf s given (client_slot_at s.sizes c ∷ []) → CanTag s.sizes given c
  can_tag few h =
      let total = log_total s.sizes s.records (client_group c) in
      let count = slot.count in
      record { below = inside; held = slot.held; held_is = slot_given h; own = slot.own; room = omega (arith, total, count, few) }

  -- the newest mark of a transaction is its client's last
  can_untag : (r : Row) (fs : List Finished) (f : Finished) (tag previous : ℕ) → IsIdle s r → r.finished ≡ fs ++ f ∷ [] → f.deed ≡ Mark c tag previous → AreGivenOf s given (client_slot_at s.sizes c ∷ []) → CanUntag s.sizes given c tag
  can_untag r fs f tag previous m newest is h =
      let x = can_undo_sent (client_group c) (items s.sizes s.records) r.txn (record { lsn = f.lsn; deed = Mark c tag previous }) (placed fs) (groups_of s.sizes s.records k.log) (open_deed s r fs f k m newest (Mark c tag previous) is) (eq-eqb (client_group c) (client_group c) refl) in
      let last : marked ≡ view_appended x.0 tag [] = x.1 in
      let one : length marked.messages ≡ length (x.0.messages ++ (tag, []) ∷ []) = ap (λ (v : View). length v.messages) last in
      let more = length-append x.0.messages ((tag, []) ∷ []) in
      let count = slot.count in
      record {
        below = inside;
        held = slot.held;
        held_is = slot_given h;
        own = slot.own;
        some = omega (arith, count, one, more);
        last = slot.tag ∙ ap (λ (v : View). v.last_tag) last;
      }

-- ---- the inverse of the newest deed

module _ (s : State) (given : List Given) (r : Row) (fs : List Finished) (f : Finished) (k : IsSound s) (m : IsIdle s r) (newest : r.finished ≡ fs ++ f ∷ []) where
  of_group : (d : Deed) → f.deed ≡ d → deed_sender d < sender_count s.sizes → latched_in s.rows (directory_at (deed_sender d) / 16) ≡ false → AreGivenOf s given (needed s.sizes (slots_now s) (Undid d)) → CanUndo s.sizes given d
  of_group d is inside off h = can_undo_one s given k (deed_sender d) inside off r fs f m newest d is refl h

  undo_found : (d : Deed) → f.deed ≡ d → IsDeedOf s.sizes d → latched_in s.rows (own_slot s.sizes d / 16) ≡ false → AreGivenOf s given (needed s.sizes (slots_now s) (Undid d)) → CanUndo s.sizes given d
  undo_found (Append g n tag previous body) is inside off h = of_group (Append g n tag previous body) is inside off h
  undo_found (UnlinkHead g n tag body) is inside off h = of_group (UnlinkHead g n tag body) is inside off h
  undo_found (Close g) is inside off h = of_group (Close g) is inside off h
  undo_found (Mark c tag previous) is inside off h = can_untag s given k c inside.0 off r fs f tag previous m newest is h

pub levels_find : LevelsFindAll
levels_find = record {
  sends = λ s given g k inside off few h. can_send s given k g inside off few h;
  receives = λ s given g k inside off wait h. can_receive s given k g inside off wait h;
  closes = λ s given g k inside off open_still h. can_close s given k g inside off open_still h;
  tags = λ s given c k inside off few h. can_tag s given k c inside off few h;
  undoes = λ s given r fs f k m newest off h. undo_found s given r fs f k m newest f.deed refl (deed_stored s r fs f k m newest f.deed refl) off h;
}
