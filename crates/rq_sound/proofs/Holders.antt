-- The messages in a group's chain are the committed ones, less what its receiving holder took, and then what its sending
-- holder sent.
use Rattle.std.proofs.Common.{◌≡◌, ℕ, zero, suc, ◌+◌, ◌-◌, ◌/◌, ◌<◌, ◌++◌, List, [], ◌∷◌, drop, take, length, map, reverse, refl, sym, ◌∙◌, ap, subst, Bool, true, false, cond, nat_eq, ◌&&◌, ◌||◌, Option, Some, None, inl, inr, arith}
use Rattle.std.specs.List.{filter_map}
use Rattle.std.proofs.lemmas.Bool.{cases_Bool, eqb-true, false≢true, false_from_ne_true, true≢false, and_from, or_from, or_left, or_parts, or_right}
use Rattle.std.proofs.lemmas.List.{append-nil, reverse-append, take-append-drop, length-append, length-drop, length-map, map-append, drop-map, take-map}
use Rattle.std.proofs.lemmas.List.Elements.{filter_map-append}
use Rattle.std.proofs.lemmas.Option.{same_Some}
use Rattle.std.proofs.Math.Bool.{and-false}
use Rattle.rq_model.specs.declared.message.Message.{Message}
use Rattle.rq_model.specs.declared.record.Deed.{Deed}
use Rattle.rq_model.specs.declared.record.Deed.TheVariants.{Append, UnlinkHead, Close, Mark}
use Rattle.rq_model.specs.declared.txn.Sub.{Sub}
use Rattle.rq_model.specs.declared.txn.Txn.{Txn}
use Rattle.rq_model.specs.Commits.{committed_of, op_of, ops_told}
use Rattle.rq_model.specs.Content.{Said, added, added_one, closed, deeds, removed, removed_one, said, tag_after}
use Rattle.rq_model.specs.History.{Group}
use Rattle.rq_model.specs.Ledger.{any_ends, rest_in}
use Rattle.rq_model.specs.Rules.{any_use, uses_send, uses_receive}
use Rattle.rq_model.specs.Vocabulary.{In, Op, mark_of, same_txn, sent_for, taken_from}
use Rattle.rq_model.specs.Vocabulary.Op.{Take}
use Rattle.rq_model.proofs.Lists.{same_self}
use Rattle.rq_model.proofs.Told.{told_ends, told_taken, told_sent}
use Rattle.rq_page.specs.declared.cell.Cell.{Cell}
use Rattle.rq_page.specs.Sizes.{Sizes, directory_at, sender_count}
use Rattle.rq_views.specs.Chain.{Cells, Linked, Node, View, first, message}
use Rattle.rq_views.specs.Committed.{IsViewOf, message_of}
use Rattle.rq_views.specs.Groups.{Alone, KeepsGroups, TellsView, committed, on_receiving_end, on_sending_end, side, with_all}
use Rattle.rq_views.specs.Items.{items, layout_of, operation}
use Rattle.rq_views.specs.Legal.{Placed, no_view, open_deeds, under_way, view}
use Rattle.rq_views.specs.Log.{Slots, Write, cells_of}
use Rattle.rq_views.specs.Plans.{ShowsAt, Spares}
use Rattle.rq_views.proofs.Committed.{say, takes_form}
use Rattle.rq_views.proofs.Deeds.{Sound}
use Rattle.rq_views.proofs.GroupRule.{held}
use Rattle.rq_views.proofs.Holding.{committed_is_group, tag_and_body, taken_there, view_holds}
use Rattle.rq_views.proofs.Idle.{idle_writes}
use Rattle.rq_views.proofs.Stands.{store_is_layout}
use Rattle.rq_views.proofs.Views.{plan_spares, quiet_views, views}
use Rattle.rq_views.proofs.Rules.{unused, sends_same, takes_same}
use Rattle.rq_level.specs.Writes.{writes_of}
use Rattle.rq_groups.specs.declared.Held.{Held}
use Rattle.rq_groups.specs.Ends.{has_held}
use Rattle.rq_txn.specs.Rows.{Row, Under, found_row, latched_by, latched_in, latched_under}
use Rattle.rq_store.specs.Fitting.{left_by}
use Rattle.rq_store.specs.Rows.{is_under}
use Rattle.rq_store.specs.State.{State, op_done}
use Rattle.rq_store.proofs.Grouping.{groups_of}
use Rattle.rq_store.proofs.Placed.{told_placed}
use Rattle.rq_store.proofs.RowLists.{found_in}
use Rattle.rq_sound.specs.Groups.{slots_now}
use Rattle.rq_sound.specs.Holders.{NoneIsOn, ShowsGroup, ViewsAreOfHolders, chain_from, chain_in, chain_of, done_by, done_in, group_of_holders, holder_of, holder_sends, holder_takes, link_of, of_holders, told_by}
use Rattle.rq_sound.specs.Rows.{turn_of}
use Rattle.rq_sound.specs.Sound.{IsSound}
use Rattle.rq_sound.specs.Standing.{FollowsPlan, IsAsPlanned}
use Rattle.rq_sound.proofs.Groups.{slots_are}
use Rattle.rq_sound.proofs.Standings.{directory_latched, aim_sender}

-- what the slots show of a group is the chain that they hold
cells_told : (m : Cells) (g p q : ℕ) (ns : List Node) → Linked m g p q ns 0 → chain_from m (length ns) (first ns 0) ≡ map (message_of g) (map message ns)
cells_told m g p q [] h = refl
cells_told m g p q (n ∷ ns) h =
    ap (λ (c : Option Cell). told_by c ++ chain_from m (length ns) (link_of c)) h.1
    ∙ ap (λ l. message_of g (message n) ∷ l) (cells_told m g n.at (q + 1) ns h.2)

chain_shown : (z : Sizes) (q : Slots) (g : ℕ) (v : View) → ShowsAt (layout_of z) q g v → chain_in q g ≡ map (message_of g) v.messages
chain_shown z q g v h =
    let d = h.directory in
    let k = h.shows in
    let sent = k.sent in
    let n : d.sent - d.received ≡ length k.nodes = omega (arith, sent) in
    ap (chain_of (cells_of q)) h.at
    ∙ ap (λ i. chain_from (cells_of q) i d.head) n
    ∙ ap (chain_from (cells_of q) (length k.nodes)) k.head
    ∙ cells_told (cells_of q) g 0 (d.received + 1) k.nodes k.linked
    ∙ ap (map (message_of g)) (sym k.messages)

group_chain : (z : Sizes) (q : Slots) (g : ℕ) (group : Group) → ShowsGroup z q g group → chain_in q g ≡ group.rest
group_chain z q g group h = chain_shown z q g h.view h.shown ∙ sym h.is.rest

take_next : {X : Type 0} (k : ℕ) (xs : List X) (x : X) (rest : List X) → drop k xs ≡ x ∷ rest → take (suc k) xs ≡ take k xs ++ x ∷ []
take_next zero [] x rest e = cc
take_next zero (y ∷ ys) x rest e = let same : y ≡ x = cc in ap (λ z. z ∷ []) same
take_next (suc k) [] x rest e = cc
take_next (suc k) (y ∷ ys) x rest e = ap (λ l. y ∷ l) (take_next k ys x rest e)

own_one : (g : ℕ) (m : Message) → nat_eq m.sender g ≡ true → message_of g (tag_and_body m) ≡ m
own_one g m e = let is : g ≡ m.sender = sym (eqb-true m.sender g e) in ap (λ (s : ℕ). record { sender = s; tag = m.tag; body = m.body }) is

abbrev Back : ℕ → List Message → Type 0
Back g ms = map (message_of g) (map tag_and_body ms) ≡ ms

back_more : (g : ℕ) (m : Message) (ms : List Message) → Back g ms → Back g (cond (nat_eq m.sender g) (ms ++ m ∷ []) ms)
back_more g m ms h = elim (cases_Bool (nat_eq m.sender g)) [
  | inl y ↦ rw y (
      ap (map (message_of g)) (map-append tag_and_body ms (m ∷ []))
      ∙ map-append (message_of g) (map tag_and_body ms) (tag_and_body m ∷ [])
      ∙ ap (λ l. l ++ message_of g (tag_and_body m) ∷ []) h
      ∙ ap (λ x. ms ++ x ∷ []) (own_one g m y))
  | inr n ↦ rw n h
]

back_one : (g : ℕ) (d : Said) (ms : List Message) → Back g ms → Back g (added_one g d ms)
back_one g (Said.Added m) ms h = back_more g m ms h
back_one g (Said.Removed m) ms h = h
back_one g (Said.Ended r) ms h = h
back_one g (Said.Marked c tag) ms h = back_more g (mark_of c tag) ms h

back : (g : ℕ) (ds : List Said) → Back g (added g ds)
back g [] = refl
back g (d ∷ ds) = back_one g d (added g ds) (back g ds)

-- deeds of the one end alone count there
none_added_one : (g : ℕ) (d : Deed) (ms : List Message) → on_sending_end g d ≡ false → added_one g (said d) ms ≡ ms
none_added_one g (Append r n tag previous body) ms e = rw e refl
none_added_one g (UnlinkHead r n tag body) ms e = refl
none_added_one g (Close r) ms e = refl
none_added_one g (Mark c tag previous) ms e = rw e refl

none_added : (g : ℕ) (ps : List Placed) → side (on_sending_end g) ps ≡ [] → added g (say ps) ≡ []
none_added g [] e = refl
none_added g (p ∷ ps) e = elim (cases_Bool (on_sending_end g p.deed)) [
  | inl y ↦ (let bad : p.deed ∷ side (on_sending_end g) ps ≡ [] = rw y at e in absurd (cc))
  | inr n ↦ none_added_one g p.deed (added g (say ps)) n ∙ none_added g ps (rw n at e)
]

-- what was taken is the front of what there was
abbrev TellsFront : Deed → List (ℕ × List ℕ) → Type 0
TellsFront (Append r q tag previous body) ms = Unit {0}
TellsFront (UnlinkHead r q tag body) ms = (rest : List (ℕ × List ℕ)) × (ms ≡ (tag, body) ∷ rest)
TellsFront (Close r) ms = Unit {0}
TellsFront (Mark c tag previous) ms = Unit {0}

front_of : (d : Deed) (v : View) → TellsView d v → TellsFront d v.messages
front_of (Append r q tag previous body) v h = tt
front_of (UnlinkHead r q tag body) v h = (h.0, h.1)
front_of (Close r) v h = tt
front_of (Mark c tag previous) v h = tt

take_none_more : (g : ℕ) (op : Op) (more : List Op) (n : ℕ) (ms : List (ℕ × List ℕ)) → taken_from g op ≡ None → filter_map (taken_from g) more ≡ map (message_of g) (take n ms)
    → filter_map (taken_from g) (more ++ op ∷ []) ≡ map (message_of g) (take (n + 0) ms)
take_none_more g op more n ms none h =
    let same : n ≡ n + 0 = omega arith in
    filter_map-append (taken_from g) more (op ∷ []) ∙ rw none (append-nil (filter_map (taken_from g) more)) ∙ h ∙ ap (λ i. map (message_of g) (take i ms)) same

take_one : (g : ℕ) (d : Deed) (more : List Op) (n : ℕ) (ms front : List (ℕ × List ℕ)) → front ≡ drop n ms
    → filter_map (taken_from g) more ≡ map (message_of g) (take n ms) → (on_receiving_end g d ≡ true → TellsFront d front)
    → filter_map (taken_from g) (more ++ op_of (said d) ∷ []) ≡ map (message_of g) (take (n + removed_one g (said d)) ms)
take_one g (Append r q tag previous body) more n ms front e h t = take_none_more g _ more n ms refl h
take_one g (Close r) more n ms front e h t = take_none_more g _ more n ms refl h
take_one g (Mark c tag previous) more n ms front e h t = take_none_more g _ more n ms refl h
take_one g (UnlinkHead r q tag body) more n ms front e h t =
    let m : Message = record { sender = r; tag = tag; body = body } in
    let parts = filter_map-append (taken_from g) more (Take m ∷ []) in
    elim (cases_Bool (nat_eq r g)) [
      | inl y ↦
          let f = t y in
          let one : filter_map (taken_from g) (Take m ∷ []) ≡ m ∷ [] = rw y refl in
          let count : removed_one g (said (UnlinkHead r q tag body)) ≡ 1 = rw y refl in
          let next = take_next n ms (tag, body) f.0 (sym e ∙ f.1) in
          parts
          ∙ ap (λ l. filter_map (taken_from g) more ++ l) one
          ∙ ap (λ l. l ++ m ∷ []) h
          ∙ ap (λ x. map (message_of g) (take n ms) ++ x ∷ []) (sym (own_one g m y))
          ∙ sym (map-append (message_of g) (take n ms) ((tag, body) ∷ []))
          ∙ ap (map (message_of g)) (sym next)
          ∙ ap (λ i. map (message_of g) (take i ms)) (let more : suc n ≡ n + removed_one g (said (UnlinkHead r q tag body)) = omega (arith, count) in more)
      | inr off ↦
          let none : filter_map (taken_from g) (Take m ∷ []) ≡ [] = rw off refl in
          let count : n ≡ n + removed_one g (said (UnlinkHead r q tag body)) = (let z : removed_one g (said (UnlinkHead r q tag body)) ≡ 0 = rw off refl in omega (arith, z)) in
          parts ∙ ap (λ l. filter_map (taken_from g) more ++ l) none ∙ append-nil (filter_map (taken_from g) more) ∙ h ∙ ap (λ i. map (message_of g) (take i ms)) count
    ]

takes_are : (g : ℕ) (ps : List Placed) (c : View) → Sound (side (on_receiving_end g) ps) c
    → filter_map (taken_from g) (ops_told (say ps)) ≡ map (message_of g) (take (removed g (say ps)) c.messages)
takes_are g [] c s = refl
takes_are g (p ∷ ps) c s =
    let f = on_receiving_end g in
    let rest : Sound (side f ps) c = elim (cases_Bool (f p.deed)) [ inl y ↦ (rw y at s).1 | inr n ↦ rw n at s ] in
    let told : f p.deed ≡ true → TellsFront p.deed (with_all (side f ps) c).messages = λ y. front_of p.deed (with_all (side f ps) c) (rw y at s).0 in
    take_one g p.deed (ops_told (say ps)) (removed g (say ps)) c.messages (with_all (side f ps) c).messages (ap (λ (v : View). v.messages) (takes_form g ps c)) (takes_are g ps c rest) told

abbrev no_messages : List (ℕ × List ℕ)
no_messages = []

take_none : (n : ℕ) → take n no_messages ≡ []
take_none zero = refl
take_none (suc n) = refl

none_taken : (g : ℕ) (ps : List Placed) → side (on_receiving_end g) ps ≡ [] → filter_map (taken_from g) (ops_told (say ps)) ≡ []
none_taken g ps e =
    takes_are g ps no_view (subst (λ ds. Sound ds no_view) (sym e) tt)
    ∙ ap (map (message_of g)) (take_none (removed g (say ps)))

-- who is found as the holder of an end holds it, and where none is found nobody does
held_of : (g : ℕ) (hs : List Held) (t : Txn) → holder_of g hs ≡ Some t → has_held t g hs ≡ true
held_of g [] t e = cc
held_of g (h ∷ hs) t e = elim (cases_Bool (nat_eq h.sender g)) [
  | inl y ↦
      let is : h.txn ≡ t = same_Some h.txn t (rw y at e) in
      or_left (same_txn h.txn t && nat_eq h.sender g) (has_held t g hs) (and_from _ _ (ap (same_txn h.txn) (sym is) ∙ same_self h.txn) y)
  | inr n ↦ or_right (same_txn h.txn t && nat_eq h.sender g) (has_held t g hs) (held_of g hs t (rw n at e))
]

none_held : (g : ℕ) (hs : List Held) (t : Txn) → holder_of g hs ≡ None → has_held t g hs ≡ false
none_held g [] t e = refl
none_held g (h ∷ hs) t e = elim (cases_Bool (nat_eq h.sender g)) [
  | inl y ↦ (let bad : Some h.txn ≡ None = rw y at e in cc)
  | inr n ↦ or_from _ _ (ap (λ b. same_txn h.txn t && b) n ∙ and-false (same_txn h.txn t)) (none_held g hs t (rw n at e))
]

found_holder : (g : ℕ) (hs : List Held) → ((t u : Txn) → has_held t g hs ≡ true → has_held u g hs ≡ true → t ≡ u) → (t : Txn) → has_held t g hs ≡ true → holder_of g hs ≡ Some t
found_holder g hs one t h = at (holder_of g hs) refl where
  at : (o : Option Txn) → holder_of g hs ≡ o → holder_of g hs ≡ Some t
  at None e = absurd (false≢true (sym (none_held g hs t e) ∙ h))
  at (Some u) e = e ∙ ap (λ x. Some x) (one u t (held_of g hs u e) h)

not_under : (rows : List Row) (p : ℕ) (r : Row) → In r rows → latched_in rows p ≡ false → latched_under r.under p ≡ false
not_under [] p r i e = absurd i
not_under (q ∷ rows) p r i e =
    let parts = or_parts (latched_under q.under p) (latched_in rows p) e in
    elim i [ inl same ↦ ap (λ (x : Row). latched_under x.under p) same ∙ parts.0 | inr j ↦ not_under rows p r j parts.1 ]

module _ (s : State) (k : IsSound s) where
  abbrev deeds_of : Txn → List Placed
  deeds_of t = open_deeds t (items s.sizes s.records)

  -- what the log tells of a transaction is what its row has
  done_is : (t : Txn) → ops_told (say (deeds_of t)) ≡ done_in (found_row t s.rows)
  done_is t = at (found_row t s.rows) refl where
    at : (o : Option Row) → found_row t s.rows ≡ o → ops_told (say (deeds_of t)) ≡ done_in (found_row t s.rows)
    at None e = ap (λ ps. ops_told (say ps)) (k.standing.others t e).settled ∙ sym (ap done_in e)
    at (Some r) e =
        let i = found_in t s.rows r e in
        ap (λ u. ops_told (say (deeds_of u))) (sym i.1) ∙ ap (λ ps. ops_told (say ps)) (k.standing.each r i.0).done ∙ told_placed r.finished ∙ sym (ap done_in e)

  -- nobody
  abbrev stranger : Txn
  stranger = record { incarnation = 0; count = 0 }

  not_found : found_row stranger s.rows ≡ None
  not_found = at (found_row stranger s.rows) refl where
    at : (o : Option Row) → found_row stranger s.rows ≡ o → found_row stranger s.rows ≡ None
    at None e = e
    at (Some r) e =
        let i = found_in stranger s.rows r e in
        let a = (k.standing.each r i.0).of_incarnation in
        let b = k.some in
        let c : r.txn.incarnation ≡ 0 = ap (λ (t : Txn). t.incarnation) i.1 in
        absurd (omega (arith, a, b, c))

  -- one end of a group
  module _ (g : ℕ) (f : Deed → Bool) (uses : Said → Bool) (same : (d : Deed) → uses (said d) ≡ f d) (hs : List Held)
      (one : (t u : Txn) → has_held t g hs ≡ true → has_held u g hs ≡ true → t ≡ u)
      (holds : (r : Row) → In r s.rows → any_use uses (deeds (λ u. same_txn u r.txn) s.records) ≡ true → has_held r.txn g hs ≡ true) where
    row_unheld : (r : Row) → In r s.rows → has_held r.txn g hs ≡ false → side f (deeds_of r.txn) ≡ []
    row_unheld r i n = unused uses f same s.sizes r.txn s.records k.log.reads (false_from_ne_true (any_use uses (deeds (λ u. same_txn u r.txn) s.records)) (λ y. true≢false (sym (holds r i y) ∙ n)))

    unheld : (u : Txn) → has_held u g hs ≡ false → side f (deeds_of u) ≡ []
    unheld u n = at (found_row u s.rows) refl where
      at : (o : Option Row) → found_row u s.rows ≡ o → side f (deeds_of u) ≡ []
      at None e = ap (side f) (k.standing.others u e).settled
      at (Some r) e =
          let i = found_in u s.rows r e in
          subst (λ t. side f (deeds_of t) ≡ []) i.1 (row_unheld r i.0 (ap (λ t. has_held t g hs) i.1 ∙ n))

    -- who holds it, or nobody, is alone with its deeds there
    abbrev Who : Type 0
    Who = (t : Txn) × Alone f t (items s.sizes s.records) × (ops_told (say (deeds_of t)) ≡ done_by (holder_of g hs) s.rows)

    who : Who
    who = at (holder_of g hs) refl where
      at : (o : Option Txn) → holder_of g hs ≡ o → Who
      at None e = (stranger, λ u n. unheld u (none_held g hs u e), done_is stranger ∙ ap done_in not_found ∙ sym (ap (λ o. done_by o s.rows) e))
      at (Some t) e =
          (t, λ u n. unheld u (false_from_ne_true (has_held u g hs) (λ y. n (one u t y (held_of g hs t e)))), done_is t ∙ sym (ap (λ o. done_by o s.rows) e))

  module _ (g : ℕ) where
    sends_held : (r : Row) → In r s.rows → any_use (uses_send g) (deeds (λ u. same_txn u r.txn) s.records) ≡ true → has_held r.txn g s.ends.sending ≡ true
    sends_held r i = (k.standing.each r i).held.sends g

    takes_held : (r : Row) → In r s.rows → any_use (uses_receive g) (deeds (λ u. same_txn u r.txn) s.records) ≡ true → has_held r.txn g s.ends.receiving ≡ true
    takes_held r i = (k.standing.each r i).held.takes g

    abbrev sender : Txn
    sender = (who g (on_sending_end g) (uses_send g) (sends_same g) s.ends.sending (λ t u a b. k.standing.sending.one t u g a b) sends_held).0

    sender_alone : Alone (on_sending_end g) sender (items s.sizes s.records)
    sender_alone = (who g (on_sending_end g) (uses_send g) (sends_same g) s.ends.sending (λ t u a b. k.standing.sending.one t u g a b) sends_held).1

    sender_did : ops_told (say (deeds_of sender)) ≡ done_by (holder_of g s.ends.sending) s.rows
    sender_did = (who g (on_sending_end g) (uses_send g) (sends_same g) s.ends.sending (λ t u a b. k.standing.sending.one t u g a b) sends_held).2

    abbrev taker : Txn
    taker = (who g (on_receiving_end g) (uses_receive g) (takes_same g) s.ends.receiving (λ t u a b. k.standing.receiving.one t u g a b) takes_held).0

    taker_alone : Alone (on_receiving_end g) taker (items s.sizes s.records)
    taker_alone = (who g (on_receiving_end g) (uses_receive g) (takes_same g) s.ends.receiving (λ t u a b. k.standing.receiving.one t u g a b) takes_held).1

    taker_did : ops_told (say (deeds_of taker)) ≡ done_by (holder_of g s.ends.receiving) s.rows
    taker_did = (who g (on_receiving_end g) (uses_receive g) (takes_same g) s.ends.receiving (λ t u a b. k.standing.receiving.one t u g a b) takes_held).2

    abbrev groups : KeepsGroups (items s.sizes s.records)
    groups = groups_of s.sizes s.records k.log

    abbrev rest : List (ℕ × List ℕ)
    rest = (committed (items s.sizes s.records) g).messages

    rest_is : rest_in (committed_of s.records) g ≡ map (message_of g) rest
    rest_is = (committed_is_group s.sizes g s.records k.log.rules k.log.reads).rest

    sends_are : added g (say (deeds_of sender)) ≡ holder_sends s g
    sends_are = sym (told_sent g (say (deeds_of sender))) ∙ ap (filter_map (sent_for g)) sender_did

    count_is : removed g (say (deeds_of taker)) ≡ length (holder_takes s g)
    count_is = sym (told_taken g (say (deeds_of taker))) ∙ ap (λ l. length (filter_map (taken_from g) l)) taker_did

    messages_are : map (message_of g) (view (items s.sizes s.records) g).messages ≡ of_holders s g
    messages_are =
        let n = removed g (say (deeds_of taker)) in
        let ms = added g (say (deeds_of sender)) in
        let shown = (view_holds g (items s.sizes s.records) sender taker groups sender_alone taker_alone).messages in
        ap (map (message_of g)) shown
        ∙ map-append (message_of g) (drop n rest) (map tag_and_body ms)
        ∙ ap (λ l. map (message_of g) (drop n rest) ++ l) (back g (say (deeds_of sender)) ∙ sends_are)
        ∙ ap (λ l. l ++ holder_sends s g) (sym (drop-map (message_of g) n rest) ∙ ap (λ i. drop i (map (message_of g) rest)) count_is ∙ ap (drop (length (holder_takes s g))) (sym rest_is))

    abbrev now : View
    now = view (items s.sizes s.records) g

    group_is : IsViewOf g (group_of_holders s g) now
    group_is =
        let n = removed g (say (deeds_of taker)) in
        let ms = added g (say (deeds_of sender)) in
        let held_so = view_holds g (items s.sizes s.records) sender taker groups sender_alone taker_alone in
        let c = committed_is_group s.sizes g s.records k.log.rules k.log.reads in
        let sends : ms ≡ holder_sends s g = sends_are in
        let closes : closed g (say (deeds_of sender)) ≡ any_ends g (done_by (holder_of g s.ends.sending) s.rows) = sym (told_ends g (say (deeds_of sender))) ∙ ap (any_ends g) sender_did in
        let count = ap length held_so.messages ∙ length-append (drop n rest) (map tag_and_body ms) in
        let dropped = length-drop n rest in
        let mapped : length (map tag_and_body ms) ≡ length (holder_sends s g) = length-map ms tag_and_body ∙ ap length sends in
        let there = taken_there g (items s.sizes s.records) taker groups in
        let received = held_so.received in
        let was = c.received in
        let sent = c.sent in
        let took = count_is in
        record {
          closed = held_so.closed ∙ ap (λ b. b || (committed (items s.sizes s.records) g).closed) closes ∙ ap (λ b. any_ends g (done_by (holder_of g s.ends.sending) s.rows) || b) c.closed;
          received = omega (arith, received, was, took);
          sent = omega (arith, sent, received, was, took, count, dropped, mapped, there);
          last_tag = held_so.last_tag ∙ ap (λ l. tag_after (committed (items s.sizes s.records) g).last_tag l) sends ∙ ap (λ t. tag_after t (holder_sends s g)) c.last_tag;
          rest = sym messages_are;
        }

    pub shown_whole : g < sender_count s.sizes → ShowsGroup s.sizes (left_by s.sizes s.records).quiet g (group_of_holders s g)
    shown_whole below = record {
      view = now;
      shown = quiet_views (layout_of s.sizes) (items s.sizes s.records) g (store_is_layout s.sizes) k.log.legal below;
      is = group_is;
    }

    pub taken_first : holder_takes s g ≡ take (length (holder_takes s g)) (rest_in (committed_of s.records) g)
    taken_first =
        let sound = (held g (items s.sizes s.records) groups).takes taker in
        ap (filter_map (taken_from g)) (sym taker_did)
        ∙ takes_are g (deeds_of taker) (committed (items s.sizes s.records) g) sound
        ∙ sym (take-map (message_of g) (removed g (say (deeds_of taker))) rest)
        ∙ ap (λ i. take i (map (message_of g) rest)) count_is
        ∙ ap (take (length (holder_takes s g))) (sym rest_is)

    pub others_took_none : (r : Row) → In r s.rows → has_held r.txn g s.ends.receiving ≡ false → filter_map (taken_from g) (map op_done r.finished) ≡ []
    others_took_none r i n =
        let e = row_unheld g (on_receiving_end g) (uses_receive g) (takes_same g) s.ends.receiving (λ t u a b. k.standing.receiving.one t u g a b) takes_held r i n in
        let told : ops_told (say (deeds_of r.txn)) ≡ map op_done r.finished = ap (λ ps. ops_told (say ps)) (k.standing.each r i).done ∙ told_placed r.finished in
        ap (filter_map (taken_from g)) (sym told) ∙ none_taken g (deeds_of r.txn) e

    pub others_sent_none : (r : Row) → In r s.rows → has_held r.txn g s.ends.sending ≡ false → filter_map (sent_for g) (map op_done r.finished) ≡ []
    others_sent_none r i n =
        let e = row_unheld g (on_sending_end g) (uses_send g) (sends_same g) s.ends.sending (λ t u a b. k.standing.sending.one t u g a b) sends_held r i n in
        let told : ops_told (say (deeds_of r.txn)) ≡ map op_done r.finished = ap (λ ps. ops_told (say ps)) (k.standing.each r i).done ∙ told_placed r.finished in
        ap (filter_map (sent_for g)) (sym told) ∙ told_sent g (say (deeds_of r.txn)) ∙ none_added g (deeds_of r.txn) e

    -- an operation under way that is not of the group has written over none of its slots
    module _ (off : NoneIsOn g s.rows) where
      abbrev Leaves : Sub → Type 0
      Leaves o = Spares g ((left_by s.sizes s.records).writes o)

      quiet : (o : Sub) → under_way o (items s.sizes s.records) ≡ false → Leaves o
      quiet o e = subst (Spares g) (sym (idle_writes (layout_of s.sizes) (items s.sizes s.records) o k.log.legal e)) tt

      part_spares : (xs ys : List Write) → Spares g (xs ++ ys) → Spares g ys
      part_spares [] ys h = h
      part_spares (x ∷ xs) ys h = part_spares xs ys h.1

      going : (q : Row) (u : Under) → In q s.rows → q.under ≡ Some u → Leaves (operation q.txn u.number)
      going q u i e =
          let h : FollowsPlan s.sizes s.records s.ends q.txn u = (subst (IsAsPlanned s.sizes s.records s.ends q) e (k.standing.each q i).going).0 in
          let whole = writes_of s.sizes u.writes in
          let all = plan_spares (layout_of s.sizes) g (turn_of u.aim) (reverse whole) (λ same. off q u i e (sym (aim_sender u.aim) ∙ same)) h.plan in
          let split : reverse whole ≡ reverse (drop u.made whole) ++ reverse (take u.made whole) = ap reverse (sym (take-append-drop u.made whole)) ∙ reverse-append (take u.made whole) (drop u.made whole) in
          subst (Spares g) (sym h.written) (part_spares (reverse (drop u.made whole)) (reverse (take u.made whole)) (subst (Spares g) split all))

      of_row : (o : Sub) (q : Row) → In q s.rows → q.txn ≡ o.txn → (w : Option Under) → q.under ≡ w → Leaves o
      of_row o q i e None u = quiet o (ap (λ (t : Txn). under_way (operation t o.number) (items s.sizes s.records)) (sym e) ∙ (k.standing.each q i).idle o.number (ap (is_under o.number) u))
      of_row o q i e (Some v) u = elim (cases_Bool (nat_eq v.number o.number)) [
        | inr n ↦ quiet o (ap (λ (t : Txn). under_way (operation t o.number) (items s.sizes s.records)) (sym e) ∙ (k.standing.each q i).idle o.number (ap (is_under o.number) u ∙ n))
        | inl y ↦ subst Leaves (ap (λ (t : Txn). operation t v.number) e ∙ ap (operation o.txn) (eqb-true v.number o.number y)) (going q v i u)
      ]

      all_leave : (o : Sub) → Leaves o
      all_leave o = at (found_row o.txn s.rows) refl where
        at : (w : Option Row) → found_row o.txn s.rows ≡ w → Leaves o
        at None f = quiet o ((k.standing.others o.txn f).idle o.number)
        at (Some q) f = let i = found_in o.txn s.rows q f in of_row o q i.0 i.1 q.under refl

      pub shown_now : g < sender_count s.sizes → ShowsGroup s.sizes (slots_now s) g (group_of_holders s g)
      shown_now below =
          let shown = views (layout_of s.sizes) (items s.sizes s.records) g (store_is_layout s.sizes) k.log.legal below all_leave in
          record { view = now; shown = subst (λ (q : Slots). ShowsAt (layout_of s.sizes) q g now) (sym (slots_are s k)) shown; is = group_is }

    pub none_is_on : g < sender_count s.sizes → latched_in s.rows (directory_at g / 16) ≡ false → NoneIsOn g s.rows
    none_is_on below off r u i e same =
        let h : FollowsPlan s.sizes s.records s.ends r.txn u = (subst (IsAsPlanned s.sizes s.records s.ends r) e (k.standing.each r i).going).0 in
        let on = directory_latched s.sizes s.records s.ends r.txn u h (subst (λ n. n < sender_count s.sizes) (sym same) below) in
        let not : latched_by u (directory_at g / 16) ≡ false = sym (ap (λ o. latched_under o (directory_at g / 16)) e) ∙ not_under s.rows (directory_at g / 16) r i off in
        true≢false (sym on ∙ ap (λ n. latched_by u (directory_at n / 16)) same ∙ not)

pub views_held : ViewsAreOfHolders
views_held = record {
  shown_whole = λ s g k below. shown_whole s k g below;
  shown_now = λ s g k below off. shown_now s k g off below;
  whole = λ s g k below. group_chain s.sizes (left_by s.sizes s.records).quiet g (group_of_holders s g) (shown_whole s k g below);
  now = λ s g k below off. group_chain s.sizes (slots_now s) g (group_of_holders s g) (shown_now s k g off below);
  unlatched = λ s g k below off. none_is_on s k g below off;
  taken = λ s g k. taken_first s k g;
  no_other_takes = λ s g r k i n. others_took_none s k g r i n;
  no_other_sends = λ s g r k i n. others_sent_none s k g r i n;
  receiver = λ s t g k h. found_holder g s.ends.receiving (λ t u a b. k.standing.receiving.one t u g a b) t h;
  sender = λ s t g k h. found_holder g s.ends.sending (λ t u a b. k.standing.sending.one t u g a b) t h;
}
