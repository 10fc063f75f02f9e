-- The inverse of a transaction's newest deed can be planned over the slots as they are.
use Rattle.std.proofs.Common.{◌≡◌, ℕ, ◌+◌, ◌-◌, ◌<◌, ◌≤◌, ◌^◌, ◌++◌, List, [], ◌∷◌, length, refl, sym, ◌∙◌, ap, subst, Bool, true, false, Some, None, arith}
use Rattle.std.proofs.lemmas.List.{length-append}
use Rattle.std.proofs.lemmas.Bool.{eq-eqb}
use Rattle.rq_model.specs.declared.txn.Txn.{Txn}
use Rattle.rq_model.specs.declared.record.Deed.{Deed}
use Rattle.rq_model.specs.declared.record.Deed.TheVariants.{Append, UnlinkHead, Close, Mark}
use Rattle.rq_model.specs.Vocabulary.{client_group}
use Rattle.rq_page.specs.declared.cell.Cell.{Cell}
use Rattle.rq_page.specs.declared.directory.Directory.{Directory}
use Rattle.rq_page.specs.Slots.{Slot}
use Rattle.rq_page.specs.Slots.Slot.{Free, Used, Sender}
use Rattle.rq_views.specs.Chain.{Node, Linked, View, first}
use Rattle.rq_views.specs.Log.{Slots, put, cells_of, Write, HasBefores, Places, Item}
use Rattle.rq_views.specs.Legal.{Placed, open_deeds, view}
use Rattle.rq_views.specs.Groups.{KeepsGroups}
use Rattle.rq_views.specs.Plans.{ShowsAt, ShowsTag, IsPlan, deed_sender, with_turn, with_prev, put_back_writes, client_write, directory_write, IsPutBack, IsMark, IsUntagged}
use Rattle.rq_views.specs.Plans.Turn.{Did, Undid}
use Rattle.rq_views.proofs.CanPlan.{can_unlink_tail, used_from, apart_from}
use Rattle.rq_views.proofs.CanUndo.{can_undo_sent, can_undo_taken}
use Rattle.rq_views.proofs.Overlay.{put_off}
use Rattle.rq_sound.proofs.Own.{ShowsOwn}
use Rattle.rq_sound.proofs.PlanFits.{at_free, not_sender, not_used}

back_of : (l : Places) (q : Slots) (s tag new : ℕ) (body : List ℕ) (d : Directory) (ns : List Node) → 0 < new → q new ≡ Free → 0 < d.received → q (l.directory_at s) ≡ Sender s d → Linked (cells_of q) s 0 (d.received + 1) ns 0 → d.head ≡ first ns 0
    → (ws : List Write) × IsPutBack l s d.received tag body ws × HasBefores ws q
back_of l q s tag new body d [] pos free some at k h = (
  put_back_writes l s d new tag body None,
  record { directory = d; new = new; old = None; used = pos; some_received = some; sequence = refl; old_is = h; writes = refl },
  (sym (put_off q new (Used (record { sender = s; sequence = d.received; tag = tag; body = body; next = d.head; prev = 0 })) (l.directory_at s) (at_free q (l.directory_at s) new (Sender s d) at free (not_sender s d)) ∙ at), (sym free, tt)),
)
back_of l q s tag new body d (n ∷ ns) pos free some at k h =
    let c : Cell = record { sender = s; sequence = d.received + 1; tag = n.tag; body = n.body; next = first ns 0; prev = 0 } in
    let x : Slot = Used (record { sender = s; sequence = d.received; tag = tag; body = body; next = d.head; prev = 0 }) in
    let here : q d.head ≡ Used c = ap q h ∙ used_from (q n.at) c k.1 in
    let q1 = put q new x in
    let at_pos : 0 < n.at = k.0 in (
      put_back_writes l s d new tag body (Some c),
      record { directory = d; new = new; old = Some c; used = pos; some_received = some; sequence = refl; old_is = (subst (λ a. 0 < a) (sym h) at_pos, refl); writes = refl },
      (
        sym (put_off q1 d.head (Used (with_prev new c)) (l.directory_at s) (apart_from q (l.directory_at s) d.head s d c at here) ∙ put_off q new x (l.directory_at s) (at_free q (l.directory_at s) new (Sender s d) at free (not_sender s d)) ∙ at),
        (sym (put_off q new x d.head (at_free q d.head new (Used c) here free (not_used c)) ∙ here), (sym free, tt)),
      ),
    )

-- where something was received and a cell is free, a message can be put back
pub can_put_back : (l : Places) (q : Slots) (s tag new : ℕ) (body : List ℕ) (v : View) → 0 < new → q new ≡ Free → 0 < v.received → ShowsAt l q s v → (ws : List Write) × IsPutBack l s v.received tag body ws × HasBefores ws q
can_put_back l q s tag new body v pos free some h =
    let r : v.received ≡ h.directory.received = h.shows.received in
    let a = back_of l q s tag new body h.directory h.shows.nodes pos free (omega (arith, r, some)) h.at h.shows.linked h.shows.head in
    (a.0, subst (λ n. IsPutBack l s n tag body a.0) (sym r) a.1, a.2)

-- a group's directory slot can be marked
pub can_mark : (l : Places) (q : Slots) (s : ℕ) (closed : Bool) (v : View) → ShowsAt l q s v → (ws : List Write) × IsMark l s closed ws × HasBefores ws q
can_mark l q s closed v h = (directory_write l s h.directory (record h.directory { closed = closed }) ∷ [], record { directory = h.directory; writes = refl }, (sym h.at, tt))

-- and so can a client's newest mark be taken back
can_untag : (l : Places) (q : Slots) (c previous : ℕ) (v : View) → l.senders ≤ 2 ^ 32 → 0 < length v.messages → ShowsTag l q c v → (ws : List Write) × IsUntagged l c previous ws × HasBefores ws q
can_untag l q c previous v apart some h =
    let n = h.count in (
      client_write l h.held (record h.held { count = h.held.count - 1; tag = previous }) ∷ [],
      record { held = h.held; own = h.own; some = omega (arith, some, n); apart = apart; writes = refl },
      (sym (ap (λ i. q (l.client_slot_at i)) h.own ∙ h.at), tt),
    )

-- whether the inverse takes a free cell
abbrev pub NeedsCell : Deed → Slots → ℕ → Type 0
NeedsCell (Append s n tag previous body) q new = Unit {0}
NeedsCell (UnlinkHead s n tag body) q new = (0 < new) × (q new ≡ Free)
NeedsCell (Close s) q new = Unit {0}
NeedsCell (Mark c tag previous) q new = Unit {0}

-- The inverse of the newest open deed can be planned, whatever others did meanwhile, and what it finds is as the deed
-- says. A put-back takes any free cell.
pub can_undo : (l : Places) (q : Slots) (log : List Item) (t : Txn) (lsn new : ℕ) (d : Deed) (ps : List Placed) → l.senders ≤ 2 ^ 32 → KeepsGroups log → open_deeds t log ≡ record { lsn = lsn; deed = d } ∷ ps → NeedsCell d q new
    → ShowsOwn l q d (view log (deed_sender d)) → (ws : List Write) × IsPlan l (Undid d) ws × HasBefores ws q
can_undo l q log t lsn new (Append s n tag previous body) ps apart k e cell h =
    let x = can_undo_sent s log t (record { lsn = lsn; deed = Append s n tag previous body }) ps k e (eq-eqb s s refl) in
    let v = view log s in
    let xs = x.0.messages in
    let f : v ≡ with_turn (Did (Append s n tag previous body)) x.0 = x.1 in
    let m : length v.messages ≡ length (xs ++ (tag, body) ∷ []) = ap (λ (y : View). length y.messages) f in
    let r : v.received ≡ x.0.received = ap (λ (y : View). y.received) f in
    let j = length-append xs ((tag, body) ∷ []) in
    let number : n ≡ x.0.received + length xs + 1 = x.2.1 in
    let a = can_unlink_tail l q s previous v (omega (arith, m, j)) h in
    (a.0, subst (λ y. IsPlan l (Undid (Append s y tag previous body)) a.0) (let z : v.received + length v.messages ≡ n = omega (arith, m, r, j, number) in z) a.1, a.2)
can_undo l q log t lsn new (UnlinkHead s n tag body) ps apart k e cell h =
    let x = can_undo_taken s log t lsn s n tag body ps k e (eq-eqb s s refl) in
    let a = can_put_back l q s tag new body (view log s) cell.0 cell.1 x.1 h in
    (a.0, subst (λ y. IsPlan l (Undid (UnlinkHead s y tag body)) a.0) x.0 a.1, a.2)
can_undo l q log t lsn new (Close s) ps apart k e cell h = can_mark l q s false (view log s) h
can_undo l q log t lsn new (Mark c tag previous) ps apart k e cell h =
    let g = client_group c in
    let x = can_undo_sent g log t (record { lsn = lsn; deed = Mark c tag previous }) ps k e (eq-eqb g g refl) in
    let m : length (view log g).messages ≡ length (x.0.messages ++ (tag, []) ∷ []) = ap (λ (y : View). length y.messages) x.1 in
    let j = length-append x.0.messages ((tag, []) ∷ []) in
    can_untag l q c previous (view log g) apart (omega (arith, m, j)) h

-- where the newest open deed closed its group, the group is closed
pub closed_before : (log : List Item) (t : Txn) (lsn s : ℕ) (ps : List Placed) → KeepsGroups log → open_deeds t log ≡ record { lsn = lsn; deed = Close s } ∷ ps → (view log s).closed ≡ true
closed_before log t lsn s ps k e = ap (λ (v : View). v.closed) (can_undo_sent s log t (record { lsn = lsn; deed = Close s }) ps k e (eq-eqb s s refl)).1
