-- The worked logs of marks are legal, and come to this; what is no plan of a mark.
use Rattle.std.proofs.Common.{◌≡◌, ℕ, ◌+◌, ◌-◌, ◌<◌, List, inl, inr, [], ◌∷◌, length, false, refl, sym, ap, ◌∙◌, subst, arith}
use Rattle.std.proofs.lemmas.Bool.{cases_Bool, eqb-true, false≢true}
use Rattle.rq_model.specs.declared.record.Deed.TheVariants.{Mark}
use Rattle.rq_model.specs.declared.txn.Txn.{Txn}
use Rattle.rq_model.specs.Vocabulary.{client_group, same_txn}
use Rattle.rq_page.specs.declared.client.ClientSlot.{ClientSlot}
use Rattle.rq_page.specs.Slots.Slot.{Client}
use Rattle.rq_views.specs.Chain.{View}
use Rattle.rq_views.specs.Groups.{on_sending_end, Alone, TellsView, MayTurn, KeepsGroups}
use Rattle.rq_views.specs.Legal.{view}
use Rattle.rq_views.specs.Log.{Item, Slots, Write, state_of}
use Rattle.rq_views.specs.Numbers.{AreNumbered}
use Rattle.rq_views.specs.Plans.{IsPlan, IsTagged, IsUntagged, ShowsTag, client_write}
use Rattle.rq_views.specs.Plans.Turn.{Did, Undid}
use Rattle.rq_views.specs.WorkedItems.{t1, t2, of, a1, b1, tagged, counts, tag_a, tag_b, untag_a, marked_one, marked_two, unmarked_one}
use Rattle.rq_views.specs.Worked.{Tells, WorkedMarks}
use Rattle.rq_views.proofs.Rows.{Rests, first, ends, takes_back, begins, now, started}

-- the plans
pub tags_a : IsTagged tagged 0 7 0 (tag_a ∷ [])
tags_a = record { held = record { client = 0; count = 0; tag = 0 }; own = refl; previous_is = refl; apart = omega arith; writes = refl }

tags_b : IsTagged tagged 1 9 0 (tag_b ∷ [])
tags_b = record { held = record { client = 1; count = 0; tag = 0 }; own = refl; previous_is = refl; apart = omega arith; writes = refl }

untags_a : IsUntagged tagged 0 0 (untag_a ∷ [])
untags_a = record { held = record { client = 0; count = 1; tag = 7 }; own = refl; some = omega arith; apart = omega arith; writes = refl }

one_rests : Rests tagged marked_one
one_rests = ends
    (first started a1 tag_a (now _ _ _ refl refl refl refl refl) (begins (Did (Mark 0 7 0)) [] _ tags_a))
    (Mark 0 7 0) (record { plan = tags_a; going = refl; forward = refl; running = refl })

two_rests : Rests tagged marked_two
two_rests = ends
    (first one_rests b1 tag_b (now _ _ _ refl refl refl refl refl) (begins (Did (Mark 1 9 0)) [] _ tags_b))
    (Mark 1 9 0) (record { plan = tags_b; going = refl; forward = refl; running = refl })

back_rests : Rests tagged unmarked_one
back_rests = takes_back
    (first two_rests (of t1 2) untag_a (now _ _ _ refl refl refl refl refl) (begins (Undid (Mark 0 7 0)) [] _ untags_a))
    3 (record { plan = (refl, untags_a); going = refl; forward = refl; running = refl })

may_mark : (log : List Item) (t : Txn) (c tag previous : ℕ) → Alone (on_sending_end (client_group c)) t log
    → TellsView (Mark c tag previous) (view log (client_group c)) → (s : ℕ) → MayTurn log t (Mark c tag previous) s
may_mark log t c tag previous alone told s = record {
  sends = λ y. subst (λ k. Alone (on_sending_end k) t log × TellsView (Mark c tag previous) (view log k)) (eqb-true (client_group c) s y) (alone, told);
  takes = λ y. absurd (false≢true y);
}

back_groups : KeepsGroups unmarked_one
back_groups = (
  (λ e. cc),
  (
    tt,
    (
      may_mark _ t2 1 9 0 (λ u n. elim (cases_Bool (same_txn t1 u)) [ inl y ↦ rw y refl | inr m ↦ rw m refl ]) (refl, refl),
      (tt, (may_mark _ t1 0 7 0 (λ u n. refl) (refl, refl), (tt, (tt, tt)))),
    ),
  ),
)

back_numbers : AreNumbered unmarked_one
back_numbers = (tt, ((λ e. refl), (tt, ((λ e. refl), (tt, ((λ e. refl), (tt, tt)))))))

-- slots that hold this show it
shows : (q : Slots) (c n tag : ℕ) (v : View) → q (tagged.client_slot_at c) ≡ counts c n tag → n ≡ length v.messages
    → tag ≡ v.last_tag → v.closed ≡ false → v.received ≡ 0 → ShowsTag tagged q c v
shows q c n tag v at e f g h = record {
  held = record { client = c; count = n; tag = tag };
  at = at;
  own = refl;
  count = e;
  tag = f;
  open_one = g;
  none_taken = h;
}

-- and so a log over whose slots nothing is under way
tells : (log : List Item) (c n tag : ℕ) (v : View) → view log (client_group c) ≡ v
    → (state_of tagged log).slots (tagged.client_slot_at c) ≡ counts c n tag
    → (state_of tagged log).quiet (tagged.client_slot_at c) ≡ counts c n tag → n ≡ length v.messages → tag ≡ v.last_tag
    → v.closed ≡ false → v.received ≡ 0 → Tells log c v
tells log c n tag v told at quiet e f g h = record {
  told = told;
  shown = shows (state_of tagged log).slots c n tag v at e f g h;
  quiet = shows (state_of tagged log).quiet c n tag v quiet e f g h;
}

held_is : (j k : ClientSlot) → Client j ≡ Client k → j ≡ k
held_is j k e = cc

pub worked_marks : WorkedMarks
worked_marks = record {
  legal = back_rests.legal;
  groups = back_groups;
  numbers = back_numbers;
  begun = tells _ 0 0 0 _ refl refl refl refl refl refl refl;
  one_first = tells _ 0 1 7 _ refl refl refl refl refl refl refl;
  one_second = tells _ 1 0 0 _ refl refl refl refl refl refl refl;
  two_first = tells _ 0 1 7 _ refl refl refl refl refl refl refl;
  two_second = tells _ 1 1 9 _ refl refl refl refl refl refl refl;
  back_first = tells _ 0 0 0 _ refl refl refl refl refl refl refl;
  back_second = tells _ 1 1 9 _ refl refl refl refl refl refl refl;
  back_other = tells _ 14 0 0 _ refl refl refl refl refl refl refl;
  taking_back = shows _ 0 1 7 _ refl refl refl refl refl;
  not_shown = λ h. (let e : 0 ≡ h.held.count = ap (λ (k : ClientSlot). k.count) (held_is (record { client = 0; count = 0; tag = 0 }) h.held h.at) in omega (arith, e, h.count));
  sender_shows = refl;
  claims = refl;
}

-- the one write of a client is this
write_is : (v w : Write) → v ∷ [] ≡ w ∷ [] → v ≡ w
write_is v w e = cc

over : (w : Write) (j k m : ClientSlot) → w.before ≡ Client m → w ∷ [] ≡ client_write tagged j k ∷ [] → m ≡ j
over w j k m e h = held_is m j (sym e ∙ ap (λ (x : Write). x.before) (write_is w (client_write tagged j k) h))

left : (w : Write) (j k m : ClientSlot) → w.after ≡ Client m → w ∷ [] ≡ client_write tagged j k ∷ [] → m ≡ k
left w j k m e h = held_is m k (sym e ∙ ap (λ (x : Write). x.after) (write_is w (client_write tagged j k) h))

pub other_tag : (previous : ℕ) → 0 < previous → IsPlan tagged (Did (Mark 0 7 previous)) (tag_a ∷ []) → ⊥
other_tag previous pos p =
    let j = p.held in
    let e = over tag_a j (record j { count = j.count + 1; tag = 7 }) (record { client = 0; count = 0; tag = 0 }) refl p.writes in
    let t : 0 ≡ j.tag = ap (λ (k : ClientSlot). k.tag) e in
    omega (arith, pos, t, p.previous_is)

pub other_client : IsPlan tagged (Did (Mark 1 7 0)) (tag_a ∷ []) → ⊥
other_client p =
    let j = p.held in
    let e = over tag_a j (record j { count = j.count + 1; tag = 7 }) (record { client = 0; count = 0; tag = 0 }) refl p.writes in
    let t : 0 ≡ j.client = ap (λ (k : ClientSlot). k.client) e in
    omega (arith, t, p.own)

pub not_counted : IsPlan tagged (Did (Mark 0 7 0)) (record tag_a { after = counts 0 0 7 } ∷ []) → ⊥
not_counted p =
    let j = p.held in
    let e = left (record tag_a { after = counts 0 0 7 }) j (record j { count = j.count + 1; tag = 7 }) (record { client = 0; count = 0; tag = 7 }) refl p.writes in
    let t : 0 ≡ j.count + 1 = ap (λ (k : ClientSlot). k.count) e in
    omega (arith, t)

pub none_back : IsPlan tagged (Undid (Mark 0 7 0)) (record tag_a { after = counts 0 0 0 } ∷ []) → ⊥
none_back p =
    let j = p.held in
    let e = over (record tag_a { after = counts 0 0 0 }) j (record j { count = j.count - 1; tag = 0 }) (record { client = 0; count = 0; tag = 0 }) refl p.writes in
    let t : 0 ≡ j.count = ap (λ (k : ClientSlot). k.count) e in
    omega (arith, t, p.some)
