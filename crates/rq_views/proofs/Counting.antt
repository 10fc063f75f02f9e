-- Of a legal log of a store, the cells that whole operations use are the messages of all chains.
use Rattle.rq_page.specs.declared.cell.Cell.{Cell}
use Rattle.rq_page.specs.declared.directory.Directory.{Directory}
use Rattle.rq_model.specs.declared.record.Deed.{Deed}
use Rattle.rq_model.specs.declared.record.Deed.TheVariants.{Append, UnlinkHead, Close, Mark}
use Rattle.rq_model.specs.declared.record.Record.{Record}
use Rattle.rq_model.specs.declared.record.Record.TheVariants as records
use Rattle.rq_model.specs.declared.txn.Sub.{Sub}
use Rattle.rq_model.specs.declared.txn.Txn.{Txn}
use Rattle.std.proofs.Common.{◌≡◌, ◌≢◌, ℕ, ◌+◌, ◌-◌, ◌/◌, ◌%◌, ◌<◌, ◌≤◌, ◌==◌, ◌&&◌, ◌⊎◌, inl, inr, List, [], ◌∷◌, ◌++◌, length, map, Bool, true, false, cond, nat_lt, nat_le, refl, sym, ap, subst, ◌∙◌, arith, Option, None, Some}
use Rattle.std.specs.List.{sum_by}
use Rattle.std.proofs.lemmas.List.{length-append, length-drop}
use Rattle.std.proofs.lemmas.List.Sums.{length-filter}
use Rattle.std.proofs.lemmas.Bool.{cases_Bool, cases_eq, cases_order, cond-true, cond-false, eq-eqb}
use Rattle.rq_model.specs.Vocabulary.{same_txn}
use Rattle.rq_model.specs.Deeds.{deed_by, deed_level}
use Rattle.rq_model.specs.Tests.{below}
use Rattle.rq_model.proofs.Counts.{sum_same, sum_change, sum_none}
use Rattle.rq_page.specs.Sizes.{Sizes, IsCellAddress, page_count, tags_from, cell_count, cell_at, place_of, sender_count}
use Rattle.rq_page.specs.Slots.{Slot}
use Rattle.rq_page.specs.Slots.Slot.{Free, Used, Sender, Client}
use Rattle.rq_page.proofs.Addresses.{places_are_cells, cells_rise}
use Rattle.rq_views.specs.Chain.{Node, first, last, message, View, all_but_last}
use Rattle.rq_views.specs.Log.{Slots, Write, put, applied, HasBefores, Places, state_of}
use Rattle.rq_views.specs.Plans.{ShowsAt, relinked, with_next, with_prev, directory_write, directory_head_unlinked, directory_tail_unlinked, Turn, IsPlan, deed_sender, turn_sender, with_turn}
use Rattle.rq_views.specs.Plans.Turn.{Did, Undid}
use Rattle.rq_views.specs.Legal.{Placed, rest_placed, open_deeds, undoing, view_after, view, Undoes, IsLegalLog}
use Rattle.rq_views.specs.Items.{items, operation, told_deed, formatted_at, layout_of}
use Rattle.rq_views.specs.Stored.{is_used, count_used}
use Rattle.rq_views.specs.InStore.{InStore, IsDeedOf, IsInPlace, AllStand, WritesStand}
use Rattle.rq_views.proofs.Chains.{no_eq}
use Rattle.rq_views.proofs.Overlay.{put_at, put_off}
use Rattle.rq_views.proofs.ChainLaws.{used_sender, free_sender, through, shows_here}
use Rattle.rq_views.proofs.Views.{good, quiet_views}
use Rattle.rq_views.proofs.Stands.{applied_stands, writes_stand, quiet_stand, store_is_layout}

-- what a slot adds to the count
abbrev pub used_one : Slot → ℕ
used_one x = cond (is_used x) 1 0

count_is : (z : Sizes) (q : Slots) → count_used z q ≡ sum_by (λ i. used_one (q (cell_at z i))) (below (cell_count z))
count_is z q = length-filter (λ i. is_used (q (cell_at z i))) (below (cell_count z))

pub same_place : (z : Sizes) (i j : ℕ) → cell_at z i ≡ cell_at z j → i ≡ j
same_place z i j e = elim (cases_order i j) [
  | inl y ↦ y
  | inr n ↦ elim n [ inl lt ↦ absurd (let h = cells_rise z i j lt in omega (arith, h, e)) | inr gt ↦ absurd (let h = cells_rise z j i gt in omega (arith, h, e)) ]
]

-- a write of a cell
count_cell : (z : Sizes) (q : Slots) (at : ℕ) (x : Slot) → IsCellAddress z at → count_used z (put q at x) + used_one (q at) ≡ count_used z q + used_one x
count_cell z q at x is =
    let p = places_are_cells z at is in
    let k = place_of z at in
    let f : ℕ → ℕ = λ i. used_one (put q at x (cell_at z i)) in
    let g : ℕ → ℕ = λ i. used_one (q (cell_at z i)) in
    let other : (i : ℕ) → i ≢ k → f i ≡ g i = (λ i ne. ap used_one (put_off q at x (cell_at z i) (λ e. ne (same_place z i k (e ∙ sym p.1))))) in
    let here : f k ≡ used_one x = ap used_one (put_at q at x (cell_at z k) p.1) in
    let there : g k ≡ used_one (q at) = ap (λ a. used_one (q a)) p.1 in
    let c = sum_change f g (cell_count z) k p.0 other in
    let a = count_is z (put q at x) in
    let b = count_is z q in
    omega arith

-- a write that neither uses nor frees
count_even : (z : Sizes) (q : Slots) (at : ℕ) (x : Slot) → used_one x ≡ used_one (q at) → count_used z (put q at x) ≡ count_used z q
count_even z q at x e =
    let same : (a : ℕ) → used_one (put q at x a) ≡ used_one (q a) = (λ a. elim (cases_eq a at) [
      | inl y ↦ ap used_one (put_at q at x a y) ∙ e ∙ ap (λ b. used_one (q b)) (sym y)
      | inr n ↦ ap used_one (put_off q at x a n)
    ]) in
    count_is z (put q at x) ∙ sum_same (λ i. used_one (put q at x (cell_at z i))) (λ i. used_one (q (cell_at z i))) (cell_count z) (λ i lt. same (cell_at z i)) ∙ sym (count_is z q)

-- a slot in its place is that of a cell, or no message stands in it
cell_or_none : (z : Sizes) (a : ℕ) (x : Slot) → IsInPlace z a x → IsCellAddress z a ⊎ (used_one x ≡ 0)
cell_or_none z a Free h = inr refl
cell_or_none z a (Used c) h = inl h
cell_or_none z a (Sender s d) h = inr refl
cell_or_none z a (Client k) h = inr refl

-- a write counts what it uses and no longer what it was over
pub count_put : (z : Sizes) (q : Slots) (at : ℕ) (x : Slot) → IsInPlace z at (q at) → IsInPlace z at x → count_used z (put q at x) + used_one (q at) ≡ count_used z q + used_one x
count_put z q at x h k = elim (cell_or_none z at x k) [
  | inl c ↦ count_cell z q at x c
  | inr n ↦ elim (cell_or_none z at (q at) h) [ inl c ↦ count_cell z q at x c | inr m ↦ let c = count_even z q at x (n ∙ sym m) in omega arith ]
]

abbrev pub used_before : List Write → ℕ
used_before [] = 0
used_before (w ∷ ws) = used_one w.before + used_before ws

abbrev pub used_after : List Write → ℕ
used_after [] = 0
used_after (w ∷ ws) = used_one w.after + used_after ws

-- and so do writes that fit
pub count_writes : (z : Sizes) (ws : List Write) (q : Slots) → AllStand z q → WritesStand z ws → HasBefores ws q → count_used z (applied ws q) + used_before ws ≡ count_used z q + used_after ws
count_writes z [] q h k f = refl
count_writes z (w ∷ ws) q h k f =
    let r = applied ws q in
    let c : count_used z (put r w.at w.after) + used_one (r w.at) ≡ count_used z r + used_one w.after = count_put z r w.at w.after (applied_stands z ws q h k.1 w.at) k.0 in
    let e : used_one w.before ≡ used_one (r w.at) = ap used_one f.0 in
    let ih = count_writes z ws q h k.1 f.1 in
    omega arith

-- how many messages a whole operation adds to its chain, and how many it takes from it
abbrev pub gained : Turn → ℕ
gained (Did (Append s n tag previous body)) = 1
gained (Undid (UnlinkHead s n tag body)) = 1
gained _ = 0

abbrev pub lost : Turn → ℕ
lost (Did (UnlinkHead s n tag body)) = 1
lost (Undid (Append s n tag previous body)) = 1
lost _ = 0

-- a link's write counts nothing
relinked_counts : (at : ℕ) (o : Option Cell) (f : Cell → Cell) (ws : List Write) → used_after (relinked at o f ws) + used_before ws ≡ used_before (relinked at o f ws) + used_after ws
relinked_counts at None f ws = omega arith
relinked_counts at (Some c) f ws = omega arith

abbrev Balanced : Turn → List Write → Type 0
Balanced t ws = used_after ws + lost t ≡ used_before ws + gained t

plan_counts : (l : Places) (t : Turn) (ws : List Write) → IsPlan l t ws → Balanced t ws
plan_counts l (Did (Append s n tag previous body)) ws p =
    let d = p.directory in
    let w : Write = record { at = p.new; before = Free; after = Used (record { sender = s; sequence = d.sent + 1; tag = tag; body = body; next = 0; prev = d.tail }) } in
    let e = relinked_counts d.tail p.old (with_next p.new) (w ∷ []) in
    subst (Balanced (Did (Append s n tag previous body))) (sym p.writes) (omega arith)
plan_counts l (Did (UnlinkHead s n tag body)) ws p =
    let d = p.directory in
    let w : Write = record { at = d.head; before = Used p.cell; after = Free } in
    let e = relinked_counts p.cell.next p.next (with_prev 0) (w ∷ []) in
    subst (Balanced (Did (UnlinkHead s n tag body))) (sym p.writes) (omega arith)
plan_counts l (Did (Close s)) ws p = subst (Balanced (Did (Close s))) (sym p.writes) refl
plan_counts l (Did (Mark c tag previous)) ws p = subst (Balanced (Did (Mark c tag previous))) (sym p.writes) refl
plan_counts l (Undid (Append s n tag previous body)) ws p =
    let d = p.directory in
    let w : Write = record { at = d.tail; before = Used p.cell; after = Free } in
    let e = relinked_counts p.cell.prev p.front (with_next 0) (w ∷ []) in
    subst (Balanced (Undid (Append s n tag previous body))) (sym p.writes) (omega arith)
plan_counts l (Undid (UnlinkHead s n tag body)) ws p =
    let d = p.directory in
    let w : Write = record { at = p.new; before = Free; after = Used (record { sender = s; sequence = d.received; tag = tag; body = body; next = d.head; prev = 0 }) } in
    let e = relinked_counts d.head p.old (with_prev p.new) (w ∷ []) in
    subst (Balanced (Undid (UnlinkHead s n tag body))) (sym p.writes) (omega arith)
plan_counts l (Undid (Close s)) ws p = subst (Balanced (Undid (Close s))) (sym p.writes) refl
plan_counts l (Undid (Mark c tag previous)) ws p = subst (Balanced (Undid (Mark c tag previous))) (sym p.writes) refl

-- the directory slot that an unlink's last write is over stood before the operation
directory_there : (l : Places) (q : Slots) (s : ℕ) (d e : Directory) (at : ℕ) (o : Option Cell) (f : Cell → Cell) (b : ℕ) (c : Cell) → HasBefores (directory_write l s d e ∷ relinked at o f (record { at = b; before = Used c; after = Free } ∷ [])) q → Sender s d ≡ q (l.directory_at s)
directory_there l q s d e at None f b c h = (through q b Free (Sender s d) (l.directory_at s) (free_sender s d) h.0).1
directory_there l q s d e at (Some x) f b c h =
    let t = through (put q b Free) at (Used (f x)) (Sender s d) (l.directory_at s) (used_sender (f x) s d) h.0 in
    (through q b Free (Sender s d) (l.directory_at s) (free_sender s d) t.1).1

first_there : (ns : List Node) → 0 < first ns 0 → 0 < length (map message ns)
first_there [] h = h
first_there (n ∷ ns) h = omega arith

last_there : (ns : List Node) → 0 < last 0 ns → 0 < length (map message ns)
last_there [] h = h
last_there (n ∷ ns) h = omega arith

-- an unlink finds a message in its chain
pub plan_there : (l : Places) (q : Slots) (ws : List Write) (t : Turn) (v : View) → IsPlan l t ws → HasBefores ws q → ShowsAt l q (turn_sender t) v → lost t ≤ length v.messages
plan_there l q ws (Did (Append s n tag previous body)) v p f h = omega arith
plan_there l q ws (Did (UnlinkHead s n tag body)) v p f h =
    let d = p.directory in
    let k = shows_here l q s v d (directory_there l q s d (directory_head_unlinked d p.cell) p.cell.next p.next (with_prev 0) d.head p.cell (subst (λ x. HasBefores x q) p.writes f)) h in
    let used : 0 < first k.nodes 0 = subst (λ x. 0 < x) k.head p.used in
    subst (λ (x : List (ℕ × List ℕ)). 0 < length x) (sym k.messages) (first_there k.nodes used)
plan_there l q ws (Did (Close s)) v p f h = omega arith
plan_there l q ws (Did (Mark c tag previous)) v p f h = omega arith
plan_there l q ws (Undid (Append s n tag previous body)) v p f h =
    let d = p.directory in
    let k = shows_here l q s v d (directory_there l q s d (directory_tail_unlinked d p.cell previous) p.cell.prev p.front (with_next 0) d.tail p.cell (subst (λ x. HasBefores x q) p.writes f)) h in
    let used : 0 < last 0 k.nodes = subst (λ x. 0 < x) k.tail p.used in
    subst (λ (x : List (ℕ × List ℕ)). 0 < length x) (sym k.messages) (last_there k.nodes used)
plan_there l q ws (Undid (UnlinkHead s n tag body)) v p f h = omega arith
plan_there l q ws (Undid (Close s)) v p f h = omega arith
plan_there l q ws (Undid (Mark c tag previous)) v p f h = omega arith

pub length_but_last : (xs : List (ℕ × List ℕ)) → length (all_but_last xs) ≡ length xs - 1
length_but_last [] = refl
length_but_last (x ∷ []) = refl
length_but_last (x ∷ y ∷ xs) = let h : length (all_but_last (y ∷ xs)) ≡ length (y ∷ xs) - 1 = length_but_last (y ∷ xs) in omega arith

-- what a whole operation makes of the number of messages in its sender's chain
pub view_counts : (l : Places) (ws : List Write) (t : Turn) (v : View) → IsPlan l t ws → turn_sender t < l.senders → lost t ≤ length v.messages → length (with_turn t v).messages + lost t ≡ length v.messages + gained t
view_counts l ws (Did (Append s n tag previous body)) v p lt h = let e : length (v.messages ++ (tag, body) ∷ []) ≡ length v.messages + 1 = length-append v.messages ((tag, body) ∷ []) in omega arith
view_counts l ws (Did (UnlinkHead s n tag body)) v p lt h = let e = length-drop 1 v.messages in omega arith
view_counts l ws (Did (Close s)) v p lt h = refl
view_counts l ws (Did (Mark c tag previous)) v p lt h = absurd (omega (arith, p.apart, lt))
view_counts l ws (Undid (Append s n tag previous body)) v p lt h = let e = length_but_last v.messages in omega arith
view_counts l ws (Undid (UnlinkHead s n tag body)) v p lt h = omega arith
view_counts l ws (Undid (Close s)) v p lt h = refl
view_counts l ws (Undid (Mark c tag previous)) v p lt h = absurd (omega (arith, p.apart, lt))

-- the operation is on one of the first n groups, or on none of these, and then adds and takes no message
abbrev pub IsTurnOf : ℕ → Turn → Type 0
IsTurnOf n t = (turn_sender t < n) ⊎ ((n ≤ turn_sender t) × (lost t ≡ 0) × (gained t ≡ 0))

-- it takes no more than its chain has
pub turn_there : (n : ℕ) (t : Turn) (k : ℕ) → IsTurnOf n t → (turn_sender t < n → lost t ≤ k) → lost t ≤ k
turn_there n t k (inl lt) h = h lt
turn_there n t k (inr none) h = omega (arith, none.1)

-- and what it makes of the sum over all chains
pub turn_sums : (l : Places) (ws : List Write) (t : Turn) (vs : ℕ → View) → IsPlan l t ws → IsTurnOf l.senders t → lost t ≤ length (vs (turn_sender t)).messages
    → sum_by (λ s. length (view_after s (Some t) (vs s)).messages) (below l.senders) + lost t ≡ sum_by (λ s. length (vs s).messages) (below l.senders) + gained t
turn_sums l ws t vs p (inl lt) h =
    let r = turn_sender t in
    let f : ℕ → ℕ = λ s. length (view_after s (Some t) (vs s)).messages in
    let g : ℕ → ℕ = λ s. length (vs s).messages in
    let other : (i : ℕ) → i ≢ r → f i ≡ g i = (λ i ne. ap (λ (v : View). length v.messages) (cond-false (r == i) (with_turn t (vs i)) (vs i) (no_eq r i (λ e. ne (sym e))))) in
    let own : f r ≡ length (with_turn t (vs r)).messages = ap (λ (v : View). length v.messages) (cond-true (r == r) (with_turn t (vs r)) (vs r) (eq-eqb r r refl)) in
    let k = view_counts l ws t (vs r) p lt h in
    let c = sum_change f g l.senders r lt other in
    omega arith
turn_sums l ws t vs p (inr none) h =
    let r = turn_sender t in
    let f : ℕ → ℕ = λ s. length (view_after s (Some t) (vs s)).messages in
    let g : ℕ → ℕ = λ s. length (vs s).messages in
    let far : l.senders ≤ r = none.0 in
    let other : (i : ℕ) → i < l.senders → f i ≡ g i = (λ i lt. ap (λ (v : View). length v.messages) (cond-false (r == i) (with_turn t (vs i)) (vs i) (no_eq r i (λ e. omega (arith, e, lt, far))))) in
    let c = sum_same f g l.senders other in
    omega (arith, c, none.1, none.2)

-- a deed of chains is of one of the store's senders
pub of_sender : (z : Sizes) (d : Deed) → IsDeedOf z d → deed_level d ≡ 1 → deed_sender d < sender_count z
of_sender z (Append s n tag previous body) h e = h
of_sender z (UnlinkHead s n tag body) h e = h
of_sender z (Close s) h e = h
of_sender z (Mark c tag previous) h e = absurd (omega (arith, e))

-- the group of a mark's client is no sender's
pub of_client : (z : Sizes) (d : Deed) → IsDeedOf z d → deed_level d ≡ 2 → sender_count z ≤ deed_sender d
of_client z (Append s n tag previous body) h e = absurd (omega (arith, e))
of_client z (UnlinkHead s n tag body) h e = absurd (omega (arith, e))
of_client z (Close s) h e = absurd (omega (arith, e))
of_client z (Mark c tag previous) h e = omega (arith, h.1)

-- a deed of the store is one of chains or a mark
pub of_store : (z : Sizes) (d : Deed) → IsDeedOf z d → ((deed_level d ≡ 1) × (deed_sender d < sender_count z)) ⊎ ((deed_level d ≡ 2) × (sender_count z ≤ deed_sender d))
of_store z (Append s n tag previous body) h = inl (refl, h)
of_store z (UnlinkHead s n tag body) h = inl (refl, h)
of_store z (Close s) h = inl (refl, h)
of_store z (Mark c tag previous) h = inr (refl, omega (arith, h.1))

-- an operation that does a deed of the store is on one of its chains, or on none
pub did_of : (z : Sizes) (d : Deed) → IsDeedOf z d → IsTurnOf (sender_count z) (Did d)
did_of z (Append s n tag previous body) h = inl h
did_of z (UnlinkHead s n tag body) h = inl h
did_of z (Close s) h = inl h
did_of z (Mark c tag previous) h = inr (omega (arith, h.1), refl, refl)

-- and so is one that takes it back
pub undid_of : (z : Sizes) (d : Deed) → IsDeedOf z d → IsTurnOf (sender_count z) (Undid d)
undid_of z (Append s n tag previous body) h = inl h
undid_of z (UnlinkHead s n tag body) h = inl h
undid_of z (Close s) h = inl h
undid_of z (Mark c tag previous) h = inr (omega (arith, h.1), refl, refl)

-- every deed is of the store
abbrev pub AllInStore : Sizes → List Placed → Type 0
AllInStore z [] = Unit {0}
AllInStore z (p ∷ ps) = IsDeedOf z p.deed × AllInStore z ps

choose_store : (z : Sizes) (b : Bool) (ps rs : List Placed) → AllInStore z ps → AllInStore z rs → AllInStore z (cond b ps rs)
choose_store z true ps rs h k = h
choose_store z false ps rs h k = k

rest_store : (z : Sizes) (ps : List Placed) → AllInStore z ps → AllInStore z (rest_placed ps)
rest_store z [] h = tt
rest_store z (p ∷ ps) h = h.1

-- the deeds of a log of the store are
pub deeds_in_store : (z : Sizes) (t : Txn) (log : List Record) → InStore z log → AllInStore z (open_deeds t (items z log))
deeds_in_store z t [] h = tt
deeds_in_store z t (records.OpEnd u n level deed ∷ log) h =
    let ps = open_deeds t (items z log) in
    let p : Placed = record { lsn = length (items z log) + 1; deed = told_deed (deed_by level deed) } in
    choose_store z (same_txn u t) (p ∷ ps) ps (h.0, deeds_in_store z t log h.1) (deeds_in_store z t log h.1)
deeds_in_store z t (records.CompEnd u n undone ∷ log) h =
    let ps = open_deeds t (items z log) in
    choose_store z (same_txn u t) (rest_placed ps) ps (rest_store z ps (deeds_in_store z t log h.1)) (deeds_in_store z t log h.1)
deeds_in_store z t (records.Commit u ∷ log) h = choose_store z (same_txn u t) [] (open_deeds t (items z log)) tt (deeds_in_store z t log h.1)
deeds_in_store z t (_ ∷ log) h = deeds_in_store z t log h.1

-- how many messages all chains hold
abbrev pub count_messages : Sizes → List Record → ℕ
count_messages z log = sum_by (λ s. length (view (items z log) s).messages) (below (sender_count z))

abbrev quiet_of : Sizes → List Record → Slots
quiet_of z log = (state_of (layout_of z) (items z log)).quiet

-- a whole operation's writes
turn_counts : (z : Sizes) (log : List Record) (o : Sub) (t : Turn) → IsLegalLog (layout_of z) (items z log) → InStore z log → IsTurnOf (sender_count z) t → IsPlan (layout_of z) t ((state_of (layout_of z) (items z log)).writes o)
    → count_used z (quiet_of z log) ≡ count_messages z log
    → count_used z (applied ((state_of (layout_of z) (items z log)).writes o) (quiet_of z log)) ≡ sum_by (λ s. length (view_after s (Some t) (view (items z log) s)).messages) (below (sender_count z))
turn_counts z log o t legal store of plan ih =
    let l = layout_of z in
    let q = quiet_of z log in
    let ws = (state_of l (items z log)).writes o in
    let f : HasBefores ws q = (good l (items z log) legal).fits o in
    let v = view (items z log) (turn_sender t) in
    let a : count_used z (applied ws q) + used_before ws ≡ count_used z q + used_after ws = count_writes z ws q (quiet_stand z log store) (writes_stand z log o store) f in
    let b : used_after ws + lost t ≡ used_before ws + gained t = plan_counts l t ws plan in
    let there : lost t ≤ length v.messages = turn_there (sender_count z) t (length v.messages) of (λ lt. plan_there l q ws t v plan f (quiet_views l (items z log) (turn_sender t) (store_is_layout z) legal lt)) in
    let c = turn_sums l ws t (view (items z log)) plan of there in
    omega arith

undone_counts : (z : Sizes) (log : List Record) (o : Sub) (u : ℕ) (ps : List Placed) → IsLegalLog (layout_of z) (items z log) → InStore z log → AllInStore z ps → Undoes (layout_of z) ps u ((state_of (layout_of z) (items z log)).writes o)
    → count_used z (quiet_of z log) ≡ count_messages z log
    → count_used z (applied ((state_of (layout_of z) (items z log)).writes o) (quiet_of z log)) ≡ sum_by (λ s. length (view_after s (undoing ps) (view (items z log) s)).messages) (below (sender_count z))
undone_counts z log o u [] legal store fine plan ih = absurd plan
undone_counts z log o u (p ∷ ps) legal store fine plan ih = turn_counts z log o (Undid p.deed) legal store (undid_of z p.deed fine.0) plan.1 ih

formatted_counts : (z : Sizes) → count_used z (formatted_at z) ≡ 0
formatted_counts z =
    let none : (a : ℕ) → used_one (formatted_at z a) ≡ 0 = (λ a. elim (cases_Bool (nat_lt 0 (a / 16) && nat_le (a / 16) z.directory && nat_lt 0 (a % 16))) [
      | inl y ↦ rw y refl
      | inr n ↦ rw n (elim (cases_Bool (nat_lt 0 (a % 16) && nat_le (tags_from z) (a / 16) && nat_lt (a / 16) (page_count z))) [ inl y ↦ rw y refl | inr m ↦ rw m refl ])
    ]) in
    count_is z (formatted_at z) ∙ sum_same (λ i. used_one (formatted_at z (cell_at z i))) (λ i. 0) (cell_count z) (λ i lt. none (cell_at z i)) ∙ sum_none (cell_count z)

-- the cells that whole operations use are the messages of all chains
pub quiet_counts : (z : Sizes) (log : List Record) → IsLegalLog (layout_of z) (items z log) → InStore z log
    → count_used z (state_of (layout_of z) (items z log)).quiet ≡ sum_by (λ s. length (view (items z log) s).messages) (below (sender_count z))
quiet_counts z [] h k = formatted_counts z ∙ sym (sum_none (sender_count z))
quiet_counts z (records.OpEnd t n level deed ∷ log) h k = turn_counts z log (operation t n) (Did (told_deed (deed_by level deed))) h.1 k.1 (did_of z (told_deed (deed_by level deed)) k.0) h.0.plan (quiet_counts z log h.1 k.1)
quiet_counts z (records.CompEnd t n undone ∷ log) h k = undone_counts z log (operation t n) undone (open_deeds t (items z log)) h.1 k.1 (deeds_in_store z t log k.1) h.0.plan (quiet_counts z log h.1 k.1)
quiet_counts z (_ ∷ log) h k = quiet_counts z log h.1 k.1
