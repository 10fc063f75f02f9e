-- For a legal log of a store the slots show, of each client whose slot no operation under way has written, the fold of its marks.
use Rattle.rq_page.specs.declared.cell.Cell.{Cell}
use Rattle.rq_page.specs.declared.client.ClientSlot.{ClientSlot}
use Rattle.rq_model.specs.declared.record.Deed.{Deed}
use Rattle.rq_model.specs.declared.record.Deed.TheVariants.{Append, UnlinkHead, Close, Mark}
use Rattle.rq_model.specs.declared.record.Record.{Record}
use Rattle.rq_model.specs.declared.record.Record.TheVariants as records
use Rattle.rq_model.specs.declared.txn.Sub.{Sub}
use Rattle.rq_model.specs.Vocabulary.{client_group}
use Rattle.rq_model.specs.Deeds.{deed_by}
use Rattle.std.proofs.Common.{◌≡◌, ◌≢◌, ℕ, ◌+◌, ◌-◌, ◌/◌, ◌%◌, ◌<◌, ◌==◌, ◌&&◌, inl, inr, List, [], ◌∷◌, true, false, nat_lt, nat_le, refl, sym, ap, subst, ◌∙◌, arith, Option, None, Some}
use Rattle.std.proofs.lemmas.List.{length-append}
use Rattle.std.proofs.lemmas.Bool.{cases_eq, cond-true, cond-false, eq-eqb}
use Rattle.std.proofs.lemmas.Bool.Decides.{nat_tests}
use Rattle.rq_page.specs.Clients.{new_client}
use Rattle.rq_page.specs.Sizes.{Sizes, IsInRange, page_count, tags_from, sender_count, client_count, client_slot_at}
use Rattle.rq_page.specs.Slots.{Slot}
use Rattle.rq_page.specs.Slots.Slot.{Free, Used, Sender, Client}
use Rattle.rq_page.proofs.Addresses.{clients_have_slots}
use Rattle.rq_views.specs.Chain.{View, view_appended, view_tail_unlinked}
use Rattle.rq_views.specs.Groups.{TellsView}
use Rattle.rq_views.specs.InStore.{InStore, IsDeedOf}
use Rattle.rq_views.specs.Items.{items, operation, told_deed, formatted_at, layout_of}
use Rattle.rq_views.specs.Legal.{Placed, open_deeds, undoing, view, view_after, Undoes, IsLegalLog}
use Rattle.rq_views.specs.Log.{Slots, Write, applied, HasBefores, Untouched, Places, state_of}
use Rattle.rq_views.specs.Plans.{ShowsTag, IsTagged, IsUntagged, IsPlan, Turn, client_write, relinked, turn_sender, with_turn}
use Rattle.rq_views.specs.Plans.Turn.{Did, Undid}
use Rattle.rq_views.proofs.Chains.{no_eq}
use Rattle.rq_views.proofs.Counting.{AllInStore, deeds_in_store, length_but_last}
use Rattle.rq_views.proofs.Overlay.{put_at, put_off, untouched}
use Rattle.rq_views.proofs.Views.{good}

-- what stands in no slot of client c
abbrev pub IsForeignTag : ℕ → Slot → Type 0
IsForeignTag c Free = Unit {0}
IsForeignTag c (Used x) = Unit {0}
IsForeignTag c (Sender s d) = Unit {0}
IsForeignTag c (Client k) = k.client ≢ c

-- no write is over the slot of client c
abbrev pub SparesTag : ℕ → List Write → Type 0
SparesTag c [] = Unit {0}
SparesTag c (w ∷ ws) = IsForeignTag c w.before × SparesTag c ws

relinked_spares : (c at : ℕ) (o : Option Cell) (f : Cell → Cell) (ws : List Write) → SparesTag c ws → SparesTag c (relinked at o f ws)
relinked_spares c at None f ws h = h
relinked_spares c at (Some x) f ws h = (tt, h)

same_group : {c k : ℕ} → client_group c ≡ client_group k → c ≡ k
same_group e = omega (arith, e)

-- an operation's writes are over the slot of no client but its own
pub plan_spares_tag : (l : Places) (c : ℕ) (t : Turn) (ws : List Write) → turn_sender t ≢ client_group c → IsPlan l t ws → SparesTag c ws
plan_spares_tag l c (Did (Append s n tag previous body)) ws ne p = subst (SparesTag c) (sym p.writes) (tt, relinked_spares c p.directory.tail p.old _ _ (tt, tt))
plan_spares_tag l c (Did (UnlinkHead s n tag body)) ws ne p = subst (SparesTag c) (sym p.writes) (tt, relinked_spares c p.cell.next p.next _ _ (tt, tt))
plan_spares_tag l c (Did (Close s)) ws ne p = subst (SparesTag c) (sym p.writes) (tt, tt)
plan_spares_tag l c (Did (Mark k tag previous)) ws ne p = subst (SparesTag c) (sym p.writes) (λ e. ne (ap client_group (sym p.own ∙ e)), tt)
plan_spares_tag l c (Undid (Append s n tag previous body)) ws ne p = subst (SparesTag c) (sym p.writes) (tt, relinked_spares c p.cell.prev p.front _ _ (tt, tt))
plan_spares_tag l c (Undid (UnlinkHead s n tag body)) ws ne p = subst (SparesTag c) (sym p.writes) (tt, relinked_spares c p.directory.head p.old _ _ (tt, tt))
plan_spares_tag l c (Undid (Close s)) ws ne p = subst (SparesTag c) (sym p.writes) (tt, tt)
plan_spares_tag l c (Undid (Mark k tag previous)) ws ne p = subst (SparesTag c) (sym p.writes) (λ e. ne (ap client_group (sym p.own ∙ e)), tt)

-- writes that spare a client leave its slot
pub client_stays : (c : ℕ) (ws : List Write) (q : Slots) (a : ℕ) (k : ClientSlot) → k.client ≡ c → SparesTag c ws → HasBefores ws q → q a ≡ Client k → applied ws q a ≡ Client k
client_stays c [] q a k own h f at = at
client_stays c (w ∷ ws) q a k own h f at =
    let ih = client_stays c ws q a k own h.1 f.1 at in
    elim (cases_eq a w.at) [
      | inl e ↦ absurd (let foreign : IsForeignTag c (Client k) = subst (IsForeignTag c) (f.0 ∙ ap (applied ws q) (sym e) ∙ ih) h.0 in foreign own)
      | inr ne ↦ put_off (applied ws q) w.at w.after a ne ∙ ih
    ]

-- and what the slot shows
pub tag_stays : (l : Places) (q : Slots) (ws : List Write) (c : ℕ) (v : View) → SparesTag c ws → HasBefores ws q → ShowsTag l q c v → ShowsTag l (applied ws q) c v
tag_stays l q ws c v h f k = record {
  held = k.held;
  at = client_stays c ws q (l.client_slot_at c) k.held k.own h f k.at;
  own = k.own;
  count = k.count;
  tag = k.tag;
  open_one = k.open_one;
  none_taken = k.none_taken;
}

client_is : (j k : ClientSlot) → Client j ≡ Client k → j ≡ k
client_is j k e = cc

-- what a client's write is over stands in its slot
held_is : (l : Places) (q : Slots) (c : ℕ) (v : View) (j k : ClientSlot) → j.client ≡ c → HasBefores (client_write l j k ∷ []) q → (h : ShowsTag l q c v) → j ≡ h.held
held_is l q c v j k own f h = client_is j h.held (f.0 ∙ ap (λ i. q (l.client_slot_at i)) own ∙ h.at)

mark_over : (l : Places) (q : Slots) (c tag : ℕ) (v : View) (j : ClientSlot) → j.client ≡ c → HasBefores (client_write l j (record j { count = j.count + 1; tag = tag }) ∷ []) q
    → ShowsTag l q c v → ShowsTag l (applied (client_write l j (record j { count = j.count + 1; tag = tag }) ∷ []) q) c (view_appended v tag [])
mark_over l q c tag v j own f h =
    let new : ClientSlot = record j { count = j.count + 1; tag = tag } in
    let same : j.count ≡ h.held.count = ap (λ (k : ClientSlot). k.count) (held_is l q c v j new own f h) in
    let one = length-append v.messages ((tag, []) ∷ []) in
    record {
      held = new;
      at = put_at q (l.client_slot_at j.client) (Client new) (l.client_slot_at c) (ap l.client_slot_at (sym own));
      own = own;
      count = omega (arith, same, one, h.count);
      tag = refl;
      open_one = h.open_one;
      none_taken = h.none_taken;
    }

-- a mark is counted, and its tag is the last
pub mark_shows : (l : Places) (q : Slots) (ws : List Write) (c tag previous : ℕ) (v : View) → IsTagged l c tag previous ws → HasBefores ws q → ShowsTag l q c v → ShowsTag l (applied ws q) c (view_appended v tag [])
mark_shows l q ws c tag previous v p f h = subst (λ ws. ShowsTag l (applied ws q) c (view_appended v tag [])) (sym p.writes) (mark_over l q c tag v p.held p.own (subst (λ ws. HasBefores ws q) p.writes f) h)

-- it tells the view that it was made over
pub mark_tells : (l : Places) (q : Slots) (ws : List Write) (c tag previous : ℕ) (v : View) → IsTagged l c tag previous ws → HasBefores ws q → ShowsTag l q c v → TellsView (Mark c tag previous) v
mark_tells l q ws c tag previous v p f h =
    let j = p.held in
    let same = held_is l q c v j (record j { count = j.count + 1; tag = tag }) p.own (subst (λ ws. HasBefores ws q) p.writes f) h in
    (p.previous_is ∙ ap (λ (k : ClientSlot). k.tag) same ∙ h.tag, h.open_one)

unmark_over : (l : Places) (q : Slots) (c previous : ℕ) (v : View) (j : ClientSlot) → j.client ≡ c → HasBefores (client_write l j (record j { count = j.count - 1; tag = previous }) ∷ []) q
    → ShowsTag l q c v → ShowsTag l (applied (client_write l j (record j { count = j.count - 1; tag = previous }) ∷ []) q) c (view_tail_unlinked v previous)
unmark_over l q c previous v j own f h =
    let new : ClientSlot = record j { count = j.count - 1; tag = previous } in
    let same : j.count ≡ h.held.count = ap (λ (k : ClientSlot). k.count) (held_is l q c v j new own f h) in
    let one = length_but_last v.messages in
    record {
      held = new;
      at = put_at q (l.client_slot_at j.client) (Client new) (l.client_slot_at c) (ap l.client_slot_at (sym own));
      own = own;
      count = omega (arith, same, one, h.count);
      tag = refl;
      open_one = h.open_one;
      none_taken = h.none_taken;
    }

-- a mark taken back is counted no longer, and the tag before it is the last
pub unmark_shows : (l : Places) (q : Slots) (ws : List Write) (c previous : ℕ) (v : View) → IsUntagged l c previous ws → HasBefores ws q → ShowsTag l q c v → ShowsTag l (applied ws q) c (view_tail_unlinked v previous)
unmark_shows l q ws c previous v p f h = subst (λ ws. ShowsTag l (applied ws q) c (view_tail_unlinked v previous)) (sym p.writes) (unmark_over l q c previous v p.held p.own (subst (λ ws. HasBefores ws q) p.writes f) h)

-- a sender of the store is no client's group
not_group : (z : Sizes) (s c : ℕ) → IsInRange z → s < sender_count z → s ≡ client_group c → ⊥
not_group z s c range lt e = omega (arith, range.directory_high, lt, e)

abbrev pub deed_of : Turn → Deed
deed_of (Did d) = d
deed_of (Undid d) = d

-- an operation of the client's own group
own_tag : (z : Sizes) (q : Slots) (ws : List Write) (t : Turn) (c : ℕ) (v : View) → IsInRange z → IsDeedOf z (deed_of t) → turn_sender t ≡ client_group c → IsPlan (layout_of z) t ws
    → HasBefores ws q → ShowsTag (layout_of z) q c v → ShowsTag (layout_of z) (applied ws q) c (with_turn t v)
own_tag z q ws (Did (Append s n tag previous body)) c v range d e p f h = absurd (not_group z s c range d e)
own_tag z q ws (Did (UnlinkHead s n tag body)) c v range d e p f h = absurd (not_group z s c range d e)
own_tag z q ws (Did (Close s)) c v range d e p f h = absurd (not_group z s c range d e)
own_tag z q ws (Did (Mark k tag previous)) c v range d e p f h = mark_shows (layout_of z) q ws c tag previous v (subst (λ i. IsTagged (layout_of z) i tag previous ws) (same_group e) p) f h
own_tag z q ws (Undid (Append s n tag previous body)) c v range d e p f h = absurd (not_group z s c range d e)
own_tag z q ws (Undid (UnlinkHead s n tag body)) c v range d e p f h = absurd (not_group z s c range d e)
own_tag z q ws (Undid (Close s)) c v range d e p f h = absurd (not_group z s c range d e)
own_tag z q ws (Undid (Mark k tag previous)) c v range d e p f h = unmark_shows (layout_of z) q ws c previous v (subst (λ i. IsUntagged (layout_of z) i previous ws) (same_group e) p) f h

-- one whole operation over slots that show the client's marks
pub tag_law : (z : Sizes) (q : Slots) (ws : List Write) (t : Turn) (c : ℕ) (v : View) → IsInRange z → IsDeedOf z (deed_of t) → IsPlan (layout_of z) t ws
    → HasBefores ws q → ShowsTag (layout_of z) q c v → ShowsTag (layout_of z) (applied ws q) c (view_after (client_group c) (Some t) v)
tag_law z q ws t c v range d p f h = elim (cases_eq (turn_sender t) (client_group c)) [
  | inl e ↦ subst (ShowsTag (layout_of z) (applied ws q) c) (sym (cond-true (turn_sender t == client_group c) (with_turn t v) v (eq-eqb _ _ e))) (own_tag z q ws t c v range d e p f h)
  | inr ne ↦ subst (ShowsTag (layout_of z) (applied ws q) c) (sym (cond-false (turn_sender t == client_group c) (with_turn t v) v (no_eq _ _ ne)))
      (tag_stays (layout_of z) q ws c v (plan_spares_tag (layout_of z) c t ws ne p) f h)
]

undone_tag : (z : Sizes) (q : Slots) (ws : List Write) (ps : List Placed) (u c : ℕ) (v : View) → IsInRange z → AllInStore z ps → Undoes (layout_of z) ps u ws
    → HasBefores ws q → ShowsTag (layout_of z) q c v → ShowsTag (layout_of z) (applied ws q) c (view_after (client_group c) (undoing ps) v)
undone_tag z q ws [] u c v range fine p f h = absurd p
undone_tag z q ws (p ∷ ps) u c v range fine k f h = tag_law z q ws (Undid p.deed) c v range fine.0 k.1 f h

-- a client of a formatted store has marked nothing
formatted_client : (z : Sizes) (c : ℕ) → c < client_count z → formatted_at z (client_slot_at z c) ≡ Client (new_client c)
formatted_client z c lt =
    let a = client_slot_at z c in
    let p = clients_have_slots z c lt in
    let p0 = p.0 in
    let p1 = p.1 in
    let p2 = p.2 in
    let none : (nat_lt 0 (a / 16) && nat_le (a / 16) z.directory && nat_lt 0 (a % 16)) ≡ false = grind (arith, nat_tests) in
    let there : (nat_lt 0 (a % 16) && nat_le (tags_from z) (a / 16) && nat_lt (a / 16) (page_count z)) ≡ true = grind (arith, nat_tests) in
    rw none (rw there (ap (λ k. Client (new_client k)) p.4))

-- the quiet slots show the fold of each client's marks, whatever is under way
pub quiet_tags : (z : Sizes) (log : List Record) (c : ℕ) → IsInRange z → IsLegalLog (layout_of z) (items z log) → InStore z log → c < client_count z
    → ShowsTag (layout_of z) (state_of (layout_of z) (items z log)).quiet c (view (items z log) (client_group c))
quiet_tags z [] c range g k lt = record { held = new_client c; at = formatted_client z c lt; own = refl; count = refl; tag = refl; open_one = refl; none_taken = refl }
quiet_tags z (records.OpEnd t n level deed ∷ log) c range g k lt =
    tag_law z (state_of (layout_of z) (items z log)).quiet ((state_of (layout_of z) (items z log)).writes (operation t n)) (Did (told_deed (deed_by level deed))) c (view (items z log) (client_group c)) range k.0 g.0.plan
    ((good (layout_of z) (items z log) g.1).fits (operation t n)) (quiet_tags z log c range g.1 k.1 lt)
quiet_tags z (records.CompEnd t n undone ∷ log) c range g k lt =
    undone_tag z (state_of (layout_of z) (items z log)).quiet ((state_of (layout_of z) (items z log)).writes (operation t n)) (open_deeds t (items z log)) undone c (view (items z log) (client_group c)) range (deeds_in_store z t log k.1) g.0.plan
    ((good (layout_of z) (items z log) g.1).fits (operation t n)) (quiet_tags z log c range g.1 k.1 lt)
quiet_tags z (_ ∷ log) c range g k lt = quiet_tags z log c range g.1 k.1 lt

-- where no operation under way has written the client's slot, the slots as they are show it too
pub idle_tags : (z : Sizes) (log : List Record) (c : ℕ) → IsInRange z → IsLegalLog (layout_of z) (items z log) → InStore z log → c < client_count z
    → ((o : Sub) → Untouched (client_slot_at z c) ((state_of (layout_of z) (items z log)).writes o))
    → ShowsTag (layout_of z) (state_of (layout_of z) (items z log)).slots c (view (items z log) (client_group c))
idle_tags z log c range g k lt free =
    let s = state_of (layout_of z) (items z log) in
    let a = client_slot_at z c in
    let h = quiet_tags z log c range g k lt in
    let same : s.slots a ≡ s.quiet a = elim ((good (layout_of z) (items z log) g).each a) [
      | inl x ↦ x.2 ∙ untouched (s.writes x.0) s.quiet a (free x.0)
      | inr x ↦ x.1
    ] in
    record { held = h.held; at = same ∙ h.at; own = h.own; count = h.count; tag = h.tag; open_one = h.open_one; none_taken = h.none_taken }
