-- A legal log of a store without tag pages is one of a store with them.
use Rattle.std.proofs.Common.{◌≡◌, ◌≢◌, ℕ, ◌/◌, ◌%◌, ◌<◌, ◌≤◌, List, [], ◌∷◌, Bool, false, cond, nat_lt, nat_le, ◌&&◌, ◌==◌, if◌then◌else◌, refl, sym, ◌∙◌, ap, subst, arith}
use Rattle.std.proofs.lemmas.Bool.Decides.{nat_tests}
use Rattle.rq_model.specs.declared.record.Record.{Record}
use Rattle.rq_model.specs.declared.record.Record.TheVariants as records
use Rattle.rq_model.specs.declared.record.Deed.{Deed}
use Rattle.rq_model.specs.declared.record.Deed.TheVariants.{Append, UnlinkHead, Close, Mark}
use Rattle.rq_model.specs.declared.txn.Sub.{Sub}
use Rattle.rq_model.specs.Deeds.{deed_by}
use Rattle.rq_page.specs.Sizes.{Sizes, address, client_count, client_at, page_count, sender_at, tags_from, with_tags}
use Rattle.rq_page.specs.Slots.{Slot, held_in, IsSlotOf}
use Rattle.rq_page.specs.Slots.Slot.{Free, Sender, Client}
use Rattle.rq_page.specs.Clients.{new_client}
use Rattle.rq_page.specs.Directories.{new_directory}
use Rattle.rq_page.proofs.Growing.{held_kept, slot_kept}
use Rattle.rq_views.specs.Log.{Slots, Write, Places, Act, Wrote, Unwrote, act, slots_after, writes_after, stands_after, state_of, Item, IsNewest}
use Rattle.rq_views.specs.Log.Item.{PageOp, PageUndo, OpEnd, OpVoid, CompEnd, Commit, AbortEnd, Restart}
use Rattle.rq_views.specs.Plans.{Turn, IsPlan, IsMark}
use Rattle.rq_views.specs.Plans.Turn.{Did, Undid}
use Rattle.rq_views.specs.Legal.{Placed, Begins, Undoes, open_deeds, MayFollow, IsLegalLog, onto}
use Rattle.rq_views.specs.Items.{items, item_of, layout_of, formatted_at, formatted_tag, operation, told_deed}
use Rattle.rq_views.specs.InStore.{InStore, InStoreOne, IsDeedOf}
use Rattle.rq_views.proofs.Overlay.{put_off}
use Rattle.rq_views.proofs.Stands.{page_of_slot}

-- ---- places that differ in how many clients there are, and in what a formatted store holds

module _ (l : Places) (clients : ℕ) (formatted : Slots) where
  abbrev more : Places
  more = record l { clients = clients; formatted = formatted }

  writes_kept : (log : List Item) (o : Sub) → (state_of more log).writes o ≡ (state_of l log).writes o
  writes_kept [] o = refl
  writes_kept (r ∷ log) o = ap (writes_after (act r) o) (writes_kept log o)

  stands_kept : (log : List Item) (o : Sub) (p : ℕ) → (state_of more log).stands o p ≡ (state_of l log).stands o p
  stands_kept [] o p = refl
  stands_kept (r ∷ log) o p = ap (stands_after l.page (act r) o p) (stands_kept log o p)

  slots_same : (x : Act) (new old : Slots) (a : ℕ) → new a ≡ old a → slots_after x new a ≡ slots_after x old a
  slots_same (Wrote o w) new old a e = ap (λ x. if a == w.at then w.after else x) e
  slots_same (Unwrote o at after) new old a e = ap (λ x. if a == at then after else x) e
  slots_same _ new old a e = e

  -- a log leaves the same wherever a formatted store holds the same
  pub slots_kept : (log : List Item) (a : ℕ) → formatted a ≡ l.formatted a → (state_of more log).slots a ≡ (state_of l log).slots a
  slots_kept [] a e = e
  slots_kept (r ∷ log) a e = slots_same (act r) (state_of more log).slots (state_of l log).slots a (slots_kept log a e)

  mark_kept : (s : ℕ) (closed : Bool) (ws : List Write) → IsMark l s closed ws → IsMark more s closed ws
  mark_kept s closed ws h = record { directory = h.directory; writes = h.writes }

  plan_kept : (t : Turn) (ws : List Write) → IsPlan l t ws → IsPlan more t ws
  plan_kept (Did (Append s n tag previous body)) ws h = record {
    directory = h.directory;
    new = h.new;
    old = h.old;
    used = h.used;
    sequence = h.sequence;
    previous_is = h.previous_is;
    old_is = h.old_is;
    writes = h.writes;
  }
  plan_kept (Did (UnlinkHead s n tag body)) ws h = record {
    directory = h.directory;
    cell = h.cell;
    next = h.next;
    used = h.used;
    sender = h.sender;
    sequence = h.sequence;
    tag_is = h.tag_is;
    body_is = h.body_is;
    next_is = h.next_is;
    writes = h.writes;
  }
  plan_kept (Did (Close s)) ws h = mark_kept s _ ws h
  plan_kept (Did (Mark c tag previous)) ws h = record { held = h.held; own = h.own; previous_is = h.previous_is; apart = h.apart; writes = h.writes }
  plan_kept (Undid (Append s n tag previous body)) ws h = record {
    directory = h.directory;
    cell = h.cell;
    front = h.front;
    used = h.used;
    sender = h.sender;
    sequence = h.sequence;
    front_is = h.front_is;
    writes = h.writes;
  }
  plan_kept (Undid (UnlinkHead s n tag body)) ws h = record {
    directory = h.directory;
    new = h.new;
    old = h.old;
    used = h.used;
    some_received = h.some_received;
    sequence = h.sequence;
    old_is = h.old_is;
    writes = h.writes;
  }
  plan_kept (Undid (Close s)) ws h = mark_kept s _ ws h
  plan_kept (Undid (Mark c tag previous)) ws h = record { held = h.held; own = h.own; some = h.some; apart = h.apart; writes = h.writes }

  begins_kept : (ws : List Write) → Begins l ws → Begins more ws
  begins_kept ws h = record { turn = h.turn; owed = h.owed; plan = plan_kept h.turn (onto h.owed ws) h.plan }

  undoes_kept : (ps : List Placed) (u : ℕ) (ws : List Write) → Undoes l ps u ws → Undoes more ps u ws
  undoes_kept [] u ws h = absurd h
  undoes_kept (p ∷ ps) u ws h = (h.0, plan_kept (Undid p.deed) ws h.1)

  -- the slot that the record writes was formatted alike
  abbrev pub AgreesOne : Item → Type 0
  AgreesOne (PageOp o w) = formatted w.at ≡ l.formatted w.at
  AgreesOne _ = Unit {0}

  abbrev pub Agree : List Item → Type 0
  Agree [] = Unit {0}
  Agree (r ∷ log) = AgreesOne r × Agree log

  follows_kept : (log : List Item) (r : Item) → AgreesOne r → MayFollow l log r → MayFollow more log r
  follows_kept log (PageOp o w) e h = record {
    write = record {
      before = h.write.before ∙ sym (slots_kept log w.at e);
      alone = λ u off. stands_kept log u (l.page w.at) ∙ h.write.alone u off;
    };
    uncrossed = h.uncrossed;
    going = h.going;
    forward = h.forward;
    begins = subst (λ (ws : List Write). Begins more (w ∷ ws)) (sym (writes_kept log o)) (begins_kept (w ∷ (state_of l log).writes o) h.begins);
    running = h.running;
  }
  follows_kept log (PageUndo o u at after) e h = record {
    newest = subst (λ (ws : List Write). IsNewest ws at after) (sym (writes_kept log o)) h.newest;
    lsn = h.lsn;
    going = h.going;
  }
  follows_kept log (OpEnd o d) e h = record {
    plan = subst (λ (ws : List Write). IsPlan more (Did d) ws) (sym (writes_kept log o)) (plan_kept (Did d) ((state_of l log).writes o) h.plan);
    going = h.going;
    forward = h.forward;
    running = h.running;
  }
  follows_kept log (OpVoid o) e h = record { all_undone = writes_kept log o ∙ h.all_undone; begun = h.begun; going = h.going }
  follows_kept log (CompEnd o u) e h = record {
    plan = subst (λ (ws : List Write). Undoes more (open_deeds o.txn log) u ws) (sym (writes_kept log o)) (undoes_kept (open_deeds o.txn log) u ((state_of l log).writes o) h.plan);
    going = h.going;
    forward = h.forward;
    running = h.running;
  }
  follows_kept log (Commit t) e h = h
  follows_kept log (AbortEnd t) e h = h
  follows_kept log (Restart i) e h = h

  pub legal_kept : (log : List Item) → Agree log → IsLegalLog l log → IsLegalLog more log
  legal_kept [] e h = tt
  legal_kept (r ∷ log) e h = (follows_kept log r e.0 h.0, legal_kept log e.1 h.1)

-- ---- a store that gets tag pages

no_tag : (z : Sizes) (a : ℕ) → a / 16 < tags_from z → formatted_tag z a ≡ Free
no_tag z a h =
    let below : nat_le (tags_from z) (a / 16) ≡ false = grind (arith, nat_tests) in
    let none : (nat_lt 0 (a % 16) && nat_le (tags_from z) (a / 16) && nat_lt (a / 16) (page_count z)) ≡ false = grind (arith, nat_tests) in
    ap (λ (b : Bool). cond b (Client (new_client (client_at z (a / 16) (a % 16)))) Free) none

module _ (z : Sizes) (n : ℕ) where
  abbrev grown : Sizes
  grown = with_tags n z

  pub formatted_kept : (a : ℕ) → a / 16 < tags_from z → formatted_at grown a ≡ formatted_at z a
  formatted_kept a h =
      ap (λ (x : Slot). cond (nat_lt 0 (a / 16) && nat_le (a / 16) z.directory && nat_lt 0 (a % 16)) (Sender (sender_at (a / 16) (a % 16)) new_directory) x)
      (no_tag grown a h ∙ sym (no_tag z a h))

  -- a log leaves the same in each slot that is on no tag page
  pub left_kept : (log : List Item) (a : ℕ) → a / 16 < tags_from z → (state_of (layout_of grown) log).slots a ≡ (state_of (layout_of z) log).slots a
  left_kept log a h = slots_kept (layout_of z) (client_count grown) (formatted_at grown) log a (formatted_kept a h)

  module _ (none : z.tags ≡ 0) where
    -- each slot of the store is on a page that is no tag page
    pub page_below : (page slot : ℕ) (bytes : List ℕ) → IsSlotOf z page slot bytes → page < tags_from z
    page_below page slot bytes h = let within = (page_of_slot z page slot bytes h).1 in omega (arith, within, none)

    pub slot_grown : (page slot : ℕ) (bytes : List ℕ) → IsSlotOf z page slot bytes → IsSlotOf grown page slot bytes
    slot_grown page slot bytes h = slot_kept z n page slot bytes (page_below page slot bytes h) h

    deed_grown : (d : Deed) → IsDeedOf z d → IsDeedOf grown d
    deed_grown (Append s k tag previous body) h = h
    deed_grown (UnlinkHead s k tag body) h = h
    deed_grown (Close s) h = h
    deed_grown (Mark c tag previous) h = let below = h.0 in absurd (omega (arith, below, none))

    one_grown : (r : Record) → InStoreOne z r → InStoreOne grown r
    one_grown (records.PageOp t k page slot before after) h = slot_grown page slot after h
    one_grown (records.PageUndo t k undone page slot after) h = slot_grown page slot after h
    one_grown (records.OpEnd t k level deed) h = deed_grown (told_deed (deed_by level deed)) h
    one_grown (records.OpVoid t k) h = h
    one_grown (records.CompEnd t k undone) h = h
    one_grown (records.Commit t) h = h
    one_grown (records.AbortEnd t) h = h
    one_grown (records.Restart i) h = h
    one_grown (records.Base many i) h = h

    pub store_grown : (log : List Record) → InStore z log → InStore grown log
    store_grown [] h = tt
    store_grown (r ∷ log) h = (one_grown r h.0, store_grown log h.1)

    -- its records come to the same items
    item_grown : (r : Record) → InStoreOne z r → item_of grown r ≡ item_of z r
    item_grown (records.PageOp t k page slot before after) h =
        let below = page_below page slot after h in
        ap (λ (x : Slot). PageOp (operation t k) (record { at = address page slot; before = x; after = held_in grown page after })) (held_kept z n page before below)
        ∙ ap (λ (x : Slot). PageOp (operation t k) (record { at = address page slot; before = held_in z page before; after = x })) (held_kept z n page after below)
    item_grown (records.PageUndo t k undone page slot after) h = ap (PageUndo (operation t k) undone (address page slot)) (held_kept z n page after (page_below page slot after h))
    item_grown (records.OpEnd t k level deed) h = refl
    item_grown (records.OpVoid t k) h = refl
    item_grown (records.CompEnd t k undone) h = refl
    item_grown (records.Commit t) h = refl
    item_grown (records.AbortEnd t) h = refl
    item_grown (records.Restart i) h = refl
    item_grown (records.Base many i) h = refl

    pub items_grown : (log : List Record) → InStore z log → items grown log ≡ items z log
    items_grown [] h = refl
    items_grown (r ∷ log) h = ap (λ (i : Item). i ∷ items grown log) (item_grown r h.0) ∙ ap (λ (is : List Item). item_of z r ∷ is) (items_grown log h.1)

    agrees_one : (r : Record) → InStoreOne z r → AgreesOne (layout_of z) (client_count grown) (formatted_at grown) (item_of z r)
    agrees_one (records.PageOp t k page slot before after) h =
        let below = page_below page slot after h in
        let high = h.high in
        formatted_kept (address page slot) (omega (arith, below, high))
    agrees_one (records.PageUndo t k undone page slot after) h = tt
    agrees_one (records.OpEnd t k level deed) h = tt
    agrees_one (records.OpVoid t k) h = tt
    agrees_one (records.CompEnd t k undone) h = tt
    agrees_one (records.Commit t) h = tt
    agrees_one (records.AbortEnd t) h = tt
    agrees_one (records.Restart i) h = tt
    agrees_one (records.Base many i) h = tt

    agree : (log : List Record) → InStore z log → Agree (layout_of z) (client_count grown) (formatted_at grown) (items z log)
    agree [] h = tt
    agree (r ∷ log) h = (agrees_one r h.0, agree log h.1)

    -- a legal log is one still
    pub legal_grown : (log : List Record) → InStore z log → IsLegalLog (layout_of z) (items z log) → IsLegalLog (layout_of grown) (items grown log)
    legal_grown log store h = subst (λ (is : List Item). IsLegalLog (layout_of grown) is) (sym (items_grown log store)) (legal_kept (layout_of z) (client_count grown) (formatted_at grown) (items z log) (agree log store) h)

    -- it leaves in each slot of the other pages what it left there
    pub left_grown : (log : List Record) (a : ℕ) → InStore z log → a / 16 < tags_from z → (state_of (layout_of grown) (items grown log)).slots a ≡ (state_of (layout_of z) (items z log)).slots a
    left_grown log a store h = ap (λ (is : List Item). (state_of (layout_of grown) is).slots a) (items_grown log store) ∙ left_kept (items z log) a h

    -- no record of it writes a tag page
    off : (page slot a : ℕ) (bytes : List ℕ) → tags_from z ≤ a / 16 → IsSlotOf z page slot bytes → a ≢ address page slot
    off page slot a bytes h is e = let below = page_below page slot bytes is in let high = is.high in omega (arith, h, below, high, e)

    -- so the slots of the tag pages are as they were formatted
    pub tags_unwritten : (log : List Record) (a : ℕ) → InStore z log → tags_from z ≤ a / 16 → (state_of (layout_of grown) (items grown log)).slots a ≡ formatted_at grown a
    tags_unwritten [] a store h = refl
    tags_unwritten (records.PageOp t k page slot before after ∷ log) a store h =
        put_off (state_of (layout_of grown) (items grown log)).slots (address page slot) (held_in grown page after) a (off page slot a after h store.0) ∙ tags_unwritten log a store.1 h
    tags_unwritten (records.PageUndo t k undone page slot after ∷ log) a store h =
        put_off (state_of (layout_of grown) (items grown log)).slots (address page slot) (held_in grown page after) a (off page slot a after h store.0) ∙ tags_unwritten log a store.1 h
    tags_unwritten (records.OpEnd t k level deed ∷ log) a store h = tags_unwritten log a store.1 h
    tags_unwritten (records.OpVoid t k ∷ log) a store h = tags_unwritten log a store.1 h
    tags_unwritten (records.CompEnd t k undone ∷ log) a store h = tags_unwritten log a store.1 h
    tags_unwritten (records.Commit t ∷ log) a store h = tags_unwritten log a store.1 h
    tags_unwritten (records.AbortEnd t ∷ log) a store h = tags_unwritten log a store.1 h
    tags_unwritten (records.Restart i ∷ log) a store h = tags_unwritten log a store.1 h
    tags_unwritten (records.Base many i ∷ log) a store h = tags_unwritten log a store.1 h
