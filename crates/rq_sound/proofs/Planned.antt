-- What is planned from the slots as they are may start.
use Rattle.std.proofs.Common.{◌≡◌, ◌≢◌, ℕ, ◌+◌, ◌/◌, ◌<◌, ◌≤◌, ◌^◌, ◌++◌, ◌||◌, List, [], ◌∷◌, length, reverse, refl, sym, ◌∙◌, ap, subst, true, false, not, nat_eq, nat_lt, Option, Some, arith}
use Rattle.std.proofs.lemmas.Bool.{true≢false, false≢true, eq-eqb, ltb-true, not-false}
use Rattle.std.proofs.lemmas.List.{length-append, length-map}
use Rattle.rq_model.specs.declared.txn.Txn.{Txn}
use Rattle.rq_model.specs.declared.record.Deed.{Deed}
use Rattle.rq_model.specs.declared.record.Deed.TheVariants.{Append, UnlinkHead, Close, Mark}
use Rattle.rq_model.specs.Commits.{committed_of}
use Rattle.rq_model.specs.Deeds.{TellsItself}
use Rattle.rq_model.specs.Ledger.{Open, ended_in, found}
use Rattle.rq_model.specs.Legal.{start_of}
use Rattle.rq_model.specs.Tests.{Passes, cells_in_use, has_closed, is_aborting}
use Rattle.rq_model.specs.Vocabulary.{In, client_group}
use Rattle.rq_page.specs.declared.client.ClientSlot.{ClientSlot}
use Rattle.rq_page.specs.declared.directory.Directory.{Directory}
use Rattle.rq_page.specs.Sizes.{Sizes, cell_count, client_count, client_slot_at, directory_at, sender_count}
use Rattle.rq_page.specs.Slots.Slot.{Free, Sender, Client}
use Rattle.rq_views.specs.Chain.{Shows, View, message}
use Rattle.rq_views.specs.Groups.{KeepsGroups}
use Rattle.rq_views.specs.Items.{items, layout_of}
use Rattle.rq_views.specs.Legal.{Placed, open_deeds, view}
use Rattle.rq_views.specs.Log.{HasBefores, Item, Places, Slots, Write, cells_of}
use Rattle.rq_views.specs.Plans.{ShowsAt, IsAppend, IsPlan, IsPutBack, IsUnlinkHead, IsUnlinkTail, Turn, client_write, directory_write, with_turn}
use Rattle.rq_views.specs.Plans.Turn.{Did, Undid}
use Rattle.rq_views.proofs.CanUndo.{can_undo_sent, can_undo_taken}
use Rattle.rq_views.proofs.ChainLaws.{shows_here}
use Rattle.rq_views.proofs.Stands.{used_is_cell}
use Rattle.rq_level.specs.declared.writes.SlotWrite.{SlotWrite}
use Rattle.rq_level.specs.Writes.{writes_of}
use Rattle.rq_txn.specs.declared.Finished.{Finished}
use Rattle.rq_groups.specs.Ends.{is_free_for}
use Rattle.rq_txn.specs.Rows as one
use Rattle.rq_store.specs.Plans.{IsSendPlan, IsTakePlan}
use Rattle.rq_store.specs.Rows.{HasWaiting, placed}
use Rattle.rq_store.specs.State.{size_of, job_of, State, ledger_of, open_of}
use Rattle.rq_store.proofs.Grouping.{groups_of}
use Rattle.rq_store.proofs.SendPlans.{is_append, append_fits}
use Rattle.rq_store.proofs.TakePlans.{is_unlink_head, unlink_head_fits}
use Rattle.rq_txn.specs.declared.Aim.{Aim}
use Rattle.rq_txn.specs.Rows.{Under, Row}
use Rattle.rq_store.proofs.RowLists.{found_in}
use Rattle.rq_txn.specs.declared.Aim.TheVariants as aims
use Rattle.rq_sound.specs.Sound.{IsSound}
use Rattle.rq_sound.specs.Starts.{IsPlanned, MayDo, MayUndo}
use Rattle.rq_sound.specs.Calls.{IsIdle}
use Rattle.rq_sound.specs.Groups.{slots_now}
use Rattle.rq_sound.specs.Plans.{AreUnlatched, IsNew, IsPlannedFrom, PlansMayStart}
use Rattle.rq_sound.proofs.Contracts.{answered}
use Rattle.rq_sound.proofs.FreeEnds.{free_is, free_to_take}
use Rattle.rq_sound.proofs.Groups.{all_stand, shows_now, shows_tag, slots_are}
use Rattle.rq_store.proofs.Opens.{found_open, open_found}
use Rattle.rq_sound.proofs.Own.{latches_own}
use Rattle.rq_sound.proofs.PlanFits.{above, is_put_back, is_unlink_tail, put_back_fits, unlink_tail_fits, writes_directory}
use Rattle.rq_sound.proofs.Inverses.{open_deed, deed_stored}

-- the newest send of a transaction is its group's last message, by its number
pub sent_last : (log : List Item) (t : Txn) (lsn g n tag previous : ℕ) (body : List ℕ) (ps : List Placed) → KeepsGroups log → open_deeds t log ≡ record { lsn = lsn; deed = Append g n tag previous body } ∷ ps
    → (n ≡ (view log g).received + length (view log g).messages) × (0 < length (view log g).messages)
sent_last log t lsn g n tag previous body ps k e =
    let x = can_undo_sent g log t (record { lsn = lsn; deed = Append g n tag previous body }) ps k e (eq-eqb g g refl) in
    let v = view log g in
    let f : v ≡ with_turn (Did (Append g n tag previous body)) x.0 = x.1 in
    let m : length v.messages ≡ length (x.0.messages ++ (tag, body) ∷ []) = ap (λ (y : View). length y.messages) f in
    let r : v.received ≡ x.0.received = ap (λ (y : View). y.received) f in
    let j = length-append x.0.messages ((tag, body) ∷ []) in
    let number : n ≡ x.0.received + length x.0.messages + 1 = x.2.1 in
    (omega (arith, m, r, j, number), omega (arith, m, j))

module _ (s : State) (k : IsSound s) where
  abbrev q : Slots
  q = slots_now s

  abbrev l : Places
  l = layout_of s.sizes

  abbrev viewed : ℕ → View
  viewed g = view (items s.sizes s.records) g

  zero : q 0 ≡ Free
  zero = refl

  abbrev whole : List SlotWrite → List Write
  whole us = reverse (writes_of s.sizes us)

  -- whose directory slot a plan writes is shown
  shown : (us : List SlotWrite) (g : ℕ) (d e : Directory) (rest : List Write) → AreUnlatched s us → g < sender_count s.sizes → whole us ≡ directory_write l g d e ∷ rest → ShowsAt l q g (viewed g)
  shown us g d e rest free below is = shows_now s g k below (free (directory_at g / 16) (writes_directory s.sizes us g d e rest is))

  chain : (us : List SlotWrite) (g : ℕ) (d e : Directory) (rest : List Write) → AreUnlatched s us → g < sender_count s.sizes → whole us ≡ directory_write l g d e ∷ rest → q (directory_at g) ≡ Sender g d → Shows (cells_of q) g d (viewed g)
  chain us g d e rest free below is at = shows_here l q g (viewed g) d (sym at) (shown us g d e rest free below is)

  abbrev Fits : List SlotWrite → Turn → Type 0
  Fits us turn = IsPlan l turn (whole us) × HasBefores (whole us) q

  -- no sender has the number of a client's group
  few_senders : sender_count s.sizes ≤ 2 ^ 32
  few_senders = (let few = k.range.directory_high in omega (arith, few))

  -- what the client's slot holds is what the write is over
  holds_client : (ws : List Write) (c : ℕ) (held after : ClientSlot) → ws ≡ client_write l held after ∷ [] → held.client ≡ c → q (client_slot_at s.sizes c) ≡ Client held → HasBefores ws q
  holds_client ws c held after is own at = subst (λ ws. HasBefores ws q) (sym is) (sym (ap (λ i. q (client_slot_at s.sizes i)) own ∙ at), tt)

  -- the deed's sender, if it has one, is of the store
  abbrev HasSender : Deed → Type 0
  HasSender (Append g n tag previous body) = g < sender_count s.sizes
  HasSender (UnlinkHead g n tag body) = g < sender_count s.sizes
  HasSender (Close g) = g < sender_count s.sizes
  HasSender (Mark c tag previous) = Unit {0}

  -- a deed
  fits_deed : (us : List SlotWrite) (d : Deed) → AreUnlatched s us → HasSender d → IsPlannedFrom s.sizes q us (Did d) → Fits us (Did d)
  fits_deed us (Append g n tag previous body) free below p =
      let shows = shown us g p.directory _ _ free below p.writes in
      let plan : IsAppend l g (p.directory.sent + 1) tag p.directory.last_tag body (whole us) =
      is_append l q g tag body p.directory p.new p.old (viewed g) (whole us) zero p.directory_is shows p.beside (above s.sizes p.new p.cell) p.writes in (
        subst (λ m. IsAppend l g m tag previous body (whole us)) (sym p.sequence) (subst (λ x. IsAppend l g (p.directory.sent + 1) tag x body (whole us)) (sym p.previous_is) plan),
        subst (λ ws. HasBefores ws q) (sym p.writes) (append_fits l q g tag body p.directory p.new p.old p.directory_is p.free p.beside),
      )
  fits_deed us (UnlinkHead g n tag body) free below p =
      let shows = shown us g p.directory _ _ free below p.writes in
      let pos = above s.sizes p.directory.head (used_is_cell s.sizes q p.directory.head p.cell (all_stand s k) p.head_is) in
      let plan : IsUnlinkHead l g (p.directory.received + 1) p.cell.tag p.cell.body (whole us) =
      is_unlink_head l q g p.directory p.cell p.next (viewed g) (whole us) zero p.directory_is shows pos p.head_is p.beside p.writes in (
        subst (λ m. IsUnlinkHead l g m tag body (whole us)) (sym p.sequence) (subst (λ x. IsUnlinkHead l g (p.directory.received + 1) x body (whole us)) (sym p.tag_is) (subst (λ x. IsUnlinkHead l g (p.directory.received + 1) p.cell.tag x (whole us)) (sym p.body_is) plan)),
        subst (λ ws. HasBefores ws q) (sym p.writes) (unlink_head_fits l q g p.directory p.cell p.next (viewed g) zero p.directory_is shows pos p.head_is p.beside),
      )
  fits_deed us (Close g) free below p = (
    record { directory = p.directory; writes = p.writes },
    subst (λ ws. HasBefores ws q) (sym p.writes) (sym p.directory_is, tt),
  )
  fits_deed us (Mark c tag previous) free below p = (
    record { held = p.held; own = p.own; previous_is = p.previous_is; apart = few_senders; writes = p.writes },
    holds_client (whole us) c p.held _ p.writes p.own p.held_is,
  )

  -- the inverse of a transaction's newest deed
  fits_inverse : (us : List SlotWrite) (r : Row) (fs : List Finished) (f : Finished) (d : Deed) → f.deed ≡ d → AreUnlatched s us → IsIdle s r → r.finished ≡ fs ++ f ∷ [] → IsPlannedFrom s.sizes q us (Undid d) → Fits us (Undid d)
  fits_inverse us r fs f d e free m newest = at d e where
    groups : KeepsGroups (items s.sizes s.records)
    groups = groups_of s.sizes s.records k.log

    at : (d : Deed) → f.deed ≡ d → IsPlannedFrom s.sizes q us (Undid d) → Fits us (Undid d)
    at (Append g n tag previous body) e p =
        let c = chain us g p.directory _ _ free (deed_stored s r fs f k m newest (Append g n tag previous body) e) p.writes p.directory_is in
        let plan : IsUnlinkTail l g p.directory.sent previous (whole us) = is_unlink_tail s.sizes q (all_stand s k) zero g p.directory (viewed g) p.directory_is c p.cell p.tail_is previous p.front (whole us) p.beside p.writes in
        let number = (sent_last (items s.sizes s.records) r.txn f.lsn g n tag previous body (placed fs) groups (open_deed s r fs f k m newest (Append g n tag previous body) e)).0 in
        let size : length (viewed g).messages ≡ length c.nodes = ap length c.messages ∙ length-map c.nodes message in
        let sent = c.sent in
        let received = c.received in
        let same : p.directory.sent ≡ n = omega (arith, number, size, sent, received) in (
          subst (λ m. IsUnlinkTail l g m previous (whole us)) same plan,
          subst (λ ws. HasBefores ws q) (sym p.writes) (unlink_tail_fits s.sizes q (all_stand s k) zero g p.directory (viewed g) p.directory_is c p.cell p.tail_is previous p.front p.beside),
        )
    at (UnlinkHead g n tag body) e p =
        let c = chain us g p.directory _ _ free (deed_stored s r fs f k m newest (UnlinkHead g n tag body) e) p.writes p.directory_is in
        let x = can_undo_taken g (items s.sizes s.records) r.txn f.lsn g n tag body (placed fs) groups (open_deed s r fs f k m newest (UnlinkHead g n tag body) e) (eq-eqb g g refl) in
        let some : 0 < (viewed g).received = x.1 in
        let received = c.received in
        let plan : IsPutBack l g p.directory.received tag body (whole us) = is_put_back s.sizes q (all_stand s k) zero g p.directory (viewed g) p.directory_is c tag p.new body p.old (whole us) p.cell (omega (arith, some, received)) p.beside p.writes in (
          subst (λ m. IsPutBack l g m tag body (whole us)) (sym received ∙ x.0) plan,
          subst (λ ws. HasBefores ws q) (sym p.writes) (put_back_fits s.sizes q (all_stand s k) zero g p.directory (viewed g) p.directory_is c tag p.new body p.old p.free p.beside),
        )
    at (Close g) e p = (
      record { directory = p.directory; writes = p.writes },
      subst (λ ws. HasBefores ws q) (sym p.writes) (sym p.directory_is, tt),
    )
    at (Mark c tag previous) e p = (
      record { held = p.held; own = p.own; some = p.some; apart = few_senders; writes = p.writes },
      holds_client (whole us) c p.held _ p.writes p.own p.held_is,
    )

  planned : (r : Row) (u : Under) (aim : Aim) (turn : Turn) → IsNew s r u aim → Fits u.writes turn → IsPlanned s r u turn
  planned r u aim turn n f = record {
    at_row = n.idle.at_row;
    idle = n.idle.idle;
    number = n.number;
    made = n.made;
    free = n.free;
    plan = f.0;
    fits = subst (HasBefores (whole u.writes)) (slots_are s k) f.1;
  }

  module _ (r : Row) (m : IsIdle s r) where
    row : In r s.rows
    row = (found_in r.txn s.rows r m.at_row).0

    at_open : found r.txn (ledger_of s).open_ones ≡ Some (open_of s.ends r)
    at_open = found_open s.ends r.txn s.rows ∙ ap (open_found s.ends) m.at_row

    abbrev Open_one : Type 0
    Open_one = is_aborting (found r.txn (ledger_of s).open_ones) ≡ false

    forward : Open_one → r.aborting ≡ false
    forward h = sym (ap is_aborting at_open) ∙ h

    known : (g : ℕ) → not (nat_lt g (sender_count s.sizes)) ≡ false → g < sender_count s.sizes
    known g h = ltb-true g (sender_count s.sizes) (not-false (nat_lt g (sender_count s.sizes)) h)

    has_sender : (d : Deed) → Passes (size_of s.sizes) (ledger_of s) (start_of r.txn (job_of d)) → HasSender d
    has_sender (Append g n tag previous body) h = known g h.1.1.1.1.0
    has_sender (UnlinkHead g n tag body) h = known g h.1.1.1.1.0
    has_sender (Close g) h = known g h.1.1.1.1.0
    has_sender (Mark c tag previous) h = tt

    not_closed : (g : ℕ) → is_free_for r.txn g s.ends.sending ≡ true → (ended_in (committed_of s.records) g || has_closed g (found r.txn (ledger_of s).open_ones)) ≡ false → (viewed g).closed ≡ false
    not_closed g free h = answered.closed s g r k row free ∙ sym (ap (λ (o : Option Open). ended_in (committed_of s.records) g || has_closed g o) at_open) ∙ h

    not_full : nat_eq (cells_in_use (size_of s.sizes) (ledger_of s)) (cell_count s.sizes) ≡ false → s.cells_in_use < cell_count s.sizes
    not_full h =
        let a = answered.cells s k in
        let ne : s.cells_in_use ≢ cell_count s.sizes = (λ e. true≢false (sym (eq-eqb (cells_in_use (size_of s.sizes) (ledger_of s)) (cell_count s.sizes) (a ∙ e)) ∙ h)) in
        let b = k.counted.bound in
        omega (arith, ne, b)

  -- what is planned from the slots fits them
  pub fits_slots : (r : Row) (u : Under) (d : Deed) → IsNew s r u (aims.Doing d) → IsPlannedFrom s.sizes q u.writes (Did d) → Passes (size_of s.sizes) (ledger_of s) (start_of r.txn (job_of d)) → IsPlanned s r u (Did d)
  fits_slots r u d new p h = planned r u (aims.Doing d) (Did d) new (fits_deed u.writes d new.free (has_sender r new.idle d h) p)

  -- what passes the tests may be done
  pub may_do : (r : Row) (u : Under) (d : Deed) → IsNew s r u (aims.Doing d) → IsPlannedFrom s.sizes q u.writes (Did d) → TellsItself d → HasWaiting s.waiting d
      → Passes (size_of s.sizes) (ledger_of s) (start_of r.txn (job_of d)) → MayDo s r u d
  may_do r u (Append g n tag previous body) new p reads wait h =
      let below = known r new.idle g h.1.1.1.1.0 in
      let free : is_free_for r.txn g s.ends.sending ≡ true = sym (free_is s k r.txn g) ∙ not-false _ h.1.1.1.1.1.1.0 in
      let room = not_full r new.idle h.1.1.1.1.1.1.1.1.0 in
      record {
        planned = fits_slots r u (Append g n tag previous body) new p h;
        aim = new.aim_is;
        forward = forward r new.idle h.1.1.0;
        of_store = below;
        reads = reads;
        end = free;
        not_closed = λ e. not_closed r new.idle g free h.1.1.1.1.1.1.1.0;
        waits = wait;
        room = omega (arith, room);
      }
  may_do r u (UnlinkHead g n tag body) new p reads wait h =
      let below = known r new.idle g h.1.1.1.1.0 in
      let bound = k.counted.bound in
      record {
        planned = fits_slots r u (UnlinkHead g n tag body) new p h;
        aim = new.aim_is;
        forward = forward r new.idle h.1.1.0;
        of_store = below;
        reads = reads;
        end = sym (free_to_take s k r.txn g) ∙ not-false _ h.1.1.1.1.1.0;
        not_closed = λ e. absurd (false≢true e);
        waits = wait;
        room = omega (arith, bound);
      }
  may_do r u (Close g) new p reads wait h =
      let below = known r new.idle g h.1.1.1.1.0 in
      let free : is_free_for r.txn g s.ends.sending ≡ true = sym (free_is s k r.txn g) ∙ not-false _ h.1.1.1.1.1.0 in
      let bound = k.counted.bound in
      record {
        planned = fits_slots r u (Close g) new p h;
        aim = new.aim_is;
        forward = forward r new.idle h.1.1.0;
        of_store = below;
        reads = reads;
        end = free;
        not_closed = λ e. not_closed r new.idle g free h.1.1.1.1.1.1.0;
        waits = wait;
        room = omega (arith, bound);
      }
  may_do r u (Mark c tag previous) new p reads wait h =
      let below = ltb-true c (client_count s.sizes) (not-false (nat_lt c (client_count s.sizes)) h.1.1.1.1.0) in
      let free : is_free_for r.txn (client_group c) s.ends.sending ≡ true = sym (free_is s k r.txn (client_group c)) ∙ not-false _ h.1.1.1.1.1.0 in
      let bound = k.counted.bound in
      let planned = fits_slots r u (Mark c tag previous) new p h in
      let off = new.free (client_slot_at s.sizes c / 16) (latches_own s.sizes (Did (Mark c tag previous)) u.writes planned.plan) in
      record {
        planned = planned;
        aim = new.aim_is;
        forward = forward r new.idle h.1.1.0;
        of_store = (below, few_senders);
        reads = reads;
        end = free;
        not_closed = λ e. (shows_tag s c k below off).open_one;
        waits = wait;
        room = omega (arith, bound);
      }

  pub may_undo : (r : Row) (u : Under) (fs : List Finished) (f : Finished) → IsNew s r u (aims.Undoing f.lsn f.deed) → IsPlannedFrom s.sizes q u.writes (Undid f.deed) → r.aborting ≡ true → r.finished ≡ fs ++ f ∷ [] → MayUndo s r u fs f
  may_undo r u fs f new p aborts newest = record {
    planned = planned r u (aims.Undoing f.lsn f.deed) (Undid f.deed) new (fits_inverse u.writes r fs f f.deed refl new.free new.idle newest p);
    aim = new.aim_is;
    aborting = aborts;
    newest = newest;
  }

-- a send and a receive that are planned by themselves
from_send : (z : Sizes) (q : Slots) (u : one.Under) (g tag : ℕ) (body : List ℕ) (p : IsSendPlan z q u g tag body) → IsPlannedFrom z q u.writes (Did (Append g (p.directory.sent + 1) tag p.directory.last_tag body))
from_send z q u g tag body p = record {
  directory = p.directory;
  new = p.new;
  old = p.old;
  directory_is = p.directory_is;
  sequence = refl;
  previous_is = refl;
  cell = p.cell;
  free = p.free;
  beside = p.beside;
  writes = p.writes;
}

from_take : (z : Sizes) (q : Slots) (u : one.Under) (g : ℕ) (p : IsTakePlan z q u g) → IsPlannedFrom z q u.writes (Did (UnlinkHead g (p.directory.received + 1) p.cell.tag p.cell.body))
from_take z q u g p = record {
  directory = p.directory;
  cell = p.cell;
  next = p.next;
  directory_is = p.directory_is;
  sequence = refl;
  tag_is = refl;
  body_is = refl;
  head_is = p.head_is;
  beside = p.beside;
  writes = p.writes;
}

pub plans_start : PlansMayStart
plans_start = record {
  planned = λ s r u d k new p h. fits_slots s k r u d new p h;
  deeds = λ s r u d k new p reads wait h. may_do s k r u d new p reads wait h;
  inverses = λ s r u fs f k new p aborts newest. may_undo s k r u fs f new p aborts newest;
  sends = from_send;
  receives = from_take;
}
