-- The first of two messages is received, and put back at the tail.
use Rattle.std.proofs.Common.{◌≡◌, ◌∙◌, ◌+◌, ◌==◌, ◌<◌, ◌≤◌, if◌then◌else◌, false, ℕ, cond, nat_eq, length, List, Some, [], ◌∷◌, None, arith, ap, inl, inr, Ok, refl, subst, sym}
use Rattle.std.proofs.lemmas.List.Elements.{All-from_recursion}
use Rattle.rq_model.specs.declared.record.Record.TheVariants.{OpEnd}
use Rattle.rq_page.specs.declared.cell.Cell.{Cell}
use Rattle.rq_page.specs.declared.cell.CellSlot.{CellSlot}
use Rattle.rq_page.specs.declared.cell.CellSlot.TheVariants as cells
use Rattle.rq_page.specs.declared.directory.Directory.{Directory}
use Rattle.rq_page.specs.Cells.{cell_bytes, cell_front, cell_slot_in}
use Rattle.rq_page.specs.Sizes.{IsLink}
use Rattle.rq_page.specs.Slots.{IsSlotOf, Slot, held_in, of_cell_slot}
use Rattle.rq_page.specs.Slots.Slot.{Client, Free, Sender, Used}
use Rattle.rq_page.proofs.Spellings.{spelling_tells}
use Rattle.rq_views.specs.Chain.{View}
use Rattle.rq_views.specs.Items.{layout_of}
use Rattle.rq_views.specs.Log.{Slots, Write, applied}
use Rattle.rq_views.specs.Plans.{directory_write, unlink_head_writes}
use Rattle.rq_views.specs.Stored.{IsStoreSlot}
use Rattle.rq_views.specs.WorkedItems.{t1}
use Rattle.rq_level.specs.ChainPlans.{along, link_of, to_head, to_next}
use Rattle.rq_level.specs.Given.{IsGiven}
use Rattle.rq_level.specs.LevelState.{is_free_slot}
use Rattle.rq_level.specs.Meaning.{meaning_of}
use Rattle.rq_level.specs.TakenBack.{AreOverHeld, ShowsOf, newest_first}
use Rattle.rq_level.specs.Writes.{AreSlotWrites, IsSlotWrite}
use Rattle.rq_level.specs.declared.slots.Given.{Given}
use Rattle.rq_level.specs.declared.writes.Plan.{Plan}
use Rattle.rq_cases.specs.Leveled.{IsPutAtTail, IsReceiveFirst, first_at_tail, first_behind, first_cell, first_taken, receive_first, receive_first_back, relink_second, second_alone, second_before, second_cell, two_kept, two_sent}
use Rattle.rq_cases.specs.Store.{count_sent, free_cell, group, sizes}
use Rattle.rq_cases.specs.WrongLevels.{IsAsked, PutsBackElsewhere}
use Rattle.rq_cases.proofs.Pages.{free_told}

-- ---- what the slots hold

at_first : IsLink sizes 33
at_first = inr (record { above = omega arith; below = omega arith; slot = omega arith })

at_second : IsLink sizes 34
at_second = inr (record { above = omega arith; below = omega arith; slot = omega arith })

cell_tells : (c : Cell) (slot : ℕ) → 1 ≤ slot → slot ≤ 15 → c.sender ≡ 0 → 1 ≤ c.sequence → c.sequence < 3 → c.tag < 9 → length c.body ≡ 1 → c.next < 35 → c.prev < 35 → IsLink sizes c.next → IsLink sizes c.prev
    → (held_in sizes 2 (cell_bytes c) ≡ Used c) × IsSlotOf sizes 2 slot (cell_bytes c)
cell_tells c slot low high sender one sequence tag body next prev n p = spelling_tells sizes 2 slot (Used c) low high (record {
  numbers = record {
    sender = omega (arith, sender);
    numbered = one;
    sequence = omega (arith, sequence);
    tag = omega (arith, tag);
    next = omega (arith, next);
    prev = omega (arith, prev);
    body = omega (arith, body);
  };
  sender = omega (arith, sender);
  next = n;
  prev = p;
})

group_tells : (d : Directory) → d.sent < 3 → d.received < d.sent + 1 → d.last_tag < 9 → d.head < 35 → d.tail < 35 → IsLink sizes d.head → IsLink sizes d.tail
    → (held_in sizes 1 (group d) ≡ Sender 0 d) × IsSlotOf sizes 1 1 (group d)
group_tells d sent received tag head tail h t = spelling_tells sizes 1 1 (Sender 0 d) (omega arith) (omega arith) (record {
  numbers = record {
    sender = omega arith;
    sent = omega (arith, sent);
    received = omega (arith, sent, received);
    last_tag = omega (arith, tag);
    head = omega (arith, head);
    tail = omega (arith, tail);
  };
  own = refl;
  head = h;
  tail = t;
})

first_tells : (held_in sizes 2 (cell_bytes first_cell) ≡ Used first_cell) × IsSlotOf sizes 2 1 (cell_bytes first_cell)
first_tells = cell_tells first_cell 1 (omega arith) (omega arith) refl (omega arith) (omega arith) (omega arith) refl (omega arith) (omega arith) at_second (inl refl)

second_tells : (held_in sizes 2 (cell_bytes second_cell) ≡ Used second_cell) × IsSlotOf sizes 2 2 (cell_bytes second_cell)
second_tells = cell_tells second_cell 2 (omega arith) (omega arith) refl (omega arith) (omega arith) (omega arith) refl (omega arith) (omega arith) (inl refl) at_first

alone_tells : (held_in sizes 2 (cell_bytes second_alone) ≡ Used second_alone) × IsSlotOf sizes 2 2 (cell_bytes second_alone)
alone_tells = cell_tells second_alone 2 (omega arith) (omega arith) refl (omega arith) (omega arith) (omega arith) refl (omega arith) (omega arith) (inl refl) (inl refl)

behind_tells : (held_in sizes 2 (cell_bytes first_behind) ≡ Used first_behind) × IsSlotOf sizes 2 1 (cell_bytes first_behind)
behind_tells = cell_tells first_behind 1 (omega arith) (omega arith) refl (omega arith) (omega arith) (omega arith) refl (omega arith) (omega arith) (inl refl) at_second

before_tells : (held_in sizes 2 (cell_bytes second_before) ≡ Used second_before) × IsSlotOf sizes 2 2 (cell_bytes second_before)
before_tells = cell_tells second_before 2 (omega arith) (omega arith) refl (omega arith) (omega arith) (omega arith) refl (omega arith) (omega arith) at_first (inl refl)

two_tell : (held_in sizes 1 (group two_sent) ≡ Sender 0 two_sent) × IsSlotOf sizes 1 1 (group two_sent)
two_tell = group_tells two_sent (omega arith) (omega arith) (omega arith) (omega arith) (omega arith) at_first at_second

taken_tell : (held_in sizes 1 (group first_taken) ≡ Sender 0 first_taken) × IsSlotOf sizes 1 1 (group first_taken)
taken_tell = group_tells first_taken (omega arith) (omega arith) (omega arith) (omega arith) (omega arith) at_second at_second

tail_tells : (held_in sizes 1 (group first_at_tail) ≡ Sender 0 first_at_tail) × IsSlotOf sizes 1 1 (group first_at_tail)
tail_tells = group_tells first_at_tail (omega arith) (omega arith) (omega arith) (omega arith) (omega arith) at_second at_first

-- ---- the receive

at_group : IsStoreSlot sizes 17
at_group = record { page_low = omega arith; page_high = omega arith; slot = omega arith }

first_there : IsStoreSlot sizes 33
first_there = record { page_low = omega arith; page_high = omega arith; slot = omega arith }

second_there : IsStoreSlot sizes 34
second_there = record { page_low = omega arith; page_high = omega arith; slot = omega arith }

-- where a slot leads
abbrev head_of : Slot → ℕ
head_of Free = 0
head_of (Used c) = 0
head_of (Sender s d) = d.head
head_of (Client x) = 0

abbrev next_of : Slot → ℕ
next_of Free = 0
next_of (Used c) = c.next
next_of (Sender s d) = 0
next_of (Client x) = 0

leads_so : (x : CellSlot) → link_of (λ c. c.next) x ≡ next_of (of_cell_slot x)
leads_so cells.Free = refl
leads_so (cells.Used c) = refl

head_is : to_head (group two_sent) ≡ 33
head_is = ap head_of two_tell.0

next_is : to_next (cell_bytes first_cell) ≡ 34
next_is = leads_so (cell_slot_in (cell_bytes first_cell)) ∙ ap next_of first_tells.0

used : (c : Cell) → is_free_slot (cell_bytes c) ≡ false
unfolding cell_bytes cell_front
used c = refl

abbrev two_given : List Given
two_given = record { at = 17; bytes = group two_sent } ∷ record { at = 33; bytes = cell_bytes first_cell } ∷ []

asked : IsAsked (meaning_of 1) two_kept receive_first.asked receive_first.given
unfolding meaning_of
asked = record {
  of = All-from_recursion (IsGiven sizes) receive_first.given (record { place = at_group; bytes = two_tell.1 }, (record { place = first_there; bytes = first_tells.1 }, (record { place = second_there; bytes = second_tells.1 }, tt)));
  noted = All-from_recursion (λ (g : Given). (meaning_of 1).note two_kept g.at g.bytes ≡ two_kept) receive_first.given (refl, (rw (used first_cell) refl, (rw (used second_cell) refl, tt)));
  gathered = (
    refl,
    (
      subst (λ (h : ℕ). ◌≡◌ (cond (nat_eq h 0) None (along (to_next ∷ []) h (record { at = 17; bytes = group two_sent } ∷ []))) (Some 33)) (sym head_is) refl,
      (
        subst (λ (h : ℕ). ◌≡◌ (cond (nat_eq h 0) None (along (to_next ∷ []) h two_given)) (Some 34)) (sym head_is)
            (subst (λ (n : ℕ). ◌≡◌ (cond (nat_eq n 0) None (along [] n two_given)) (Some 34)) (sym next_is) refl),
        tt,
      ),
    ),
  );
}

abbrev receive_writes : List Write
receive_writes = unlink_head_writes (layout_of sizes) 0 two_sent first_cell (Some second_cell)

newest_received : (q : Plan) → IsReceiveFirst q → newest_first sizes q ≡ receive_writes
newest_received q h = rw (h.writes_are, two_tell.0, taken_tell.0, first_tells.0, second_tells.0, alone_tells.0, free_told.0) refl

received : (q : Plan) → IsReceiveFirst q → (meaning_of 1).plans two_kept receive_first.asked receive_first.given [] (Ok q) two_kept
unfolding meaning_of
received q h = record {
  can = record {
    below = omega arith;
    directory = two_sent;
    directory_is = two_tell.0;
    some = omega arith;
    used = omega arith;
    cell = first_cell;
    head_is = first_tells.0;
    next = Some second_cell;
    beside = second_tells.0;
  };
  writes = newest_received q h;
  slots = subst (AreSlotWrites sizes) (sym h.writes_are) (All-from_recursion (IsSlotWrite sizes) (record free_cell { before = cell_bytes first_cell } ∷ relink_second ∷ record count_sent { before = group two_sent; after = group first_taken } ∷ []) (record { place = first_there; before = first_tells.1; after = free_told.1 }, (record { place = second_there; before = second_tells.1; after = alone_tells.1 }, (record { place = at_group; before = two_tell.1; after = taken_tell.1 }, tt))));
  deed = h.deed_is;
  reads = rw (h.deed_is) refl;
  reply = h.reply_is;
  kept = refl;
}

-- ---- what takes it back

abbrev back_writes : List Write
back_writes =
    directory_write (layout_of sizes) 0 first_taken first_at_tail
    ∷ record { at = 34; before = Used second_alone; after = Used second_before }
    ∷ record { at = 33; before = Free; after = Used first_behind } ∷ []

newest_back : (p : Plan) → IsPutAtTail p → newest_first sizes p ≡ back_writes
newest_back p h = rw (h.writes_are, tail_tells.0, taken_tell.0, behind_tells.0, before_tells.0, alone_tells.0, free_told.0) refl

-- the slots before both
abbrev held : Slots
held a = (if a == 17 then Sender 0 two_sent else (if a == 33 then Used first_cell else (if a == 34 then Used second_cell else Free)))

abbrev view : View
view = record { closed = false; received = 0; last_tag = 8; messages = (7, 104 ∷ []) ∷ (8, 105 ∷ []) ∷ [] }

shows : ShowsOf (layout_of sizes) held 0 view
shows = record {
  sender = λ low. record {
    directory = two_sent;
    at = refl;
    shows = record {
      nodes = record { at = 33; tag = 7; body = 104 ∷ [] } ∷ record { at = 34; tag = 8; body = 105 ∷ [] } ∷ [];
      linked = (omega arith, refl, (omega arith, refl, tt));
      head = refl;
      tail = refl;
      sent = refl;
      closed = refl;
      received = refl;
      last_tag = refl;
      messages = refl;
    };
  };
  client = λ c e. absurd (omega (arith, e));
}

pub elsewhere : (q p : Plan) → IsReceiveFirst q → IsPutAtTail p → PutsBackElsewhere sizes receive_first q two_kept receive_first_back p
elsewhere q p h b = record {
  right = record { asked = asked; plans = received q h };
  sizes = refl;
  sizes_back = refl;
  sender = 0;
  below = omega arith;
  sequence = 1;
  tag = 7;
  body = 104 ∷ [];
  told = rw (h.deed_is) refl;
  txn = t1;
  number = 1;
  asked = ap (OpEnd t1 1 1) (sym h.deed_is);
  held = held;
  view = view;
  shows = shows;
  others = (8, 105 ∷ []) ∷ [];
  messages = refl;
  over = subst (AreOverHeld held) (sym (newest_received q h)) (All-from_recursion (λ (w : Write). w.before ≡ held w.at) receive_writes (refl, (refl, (refl, tt))));
  over_back =
      subst (λ (ws : List Write). AreOverHeld (applied ws held) (newest_first sizes p)) (sym (newest_received q h))
      (subst (AreOverHeld (applied receive_writes held)) (sym (newest_back p b)) (All-from_recursion (λ (w : Write). w.before ≡ applied receive_writes held w.at) back_writes (refl, (refl, (refl, tt)))));
  directory = first_at_tail;
  directory_is = ap (λ (ws : List Write). applied (newest_first sizes p) (applied ws held) 17) (newest_received q h) ∙ ap (λ (ws : List Write). applied ws (applied receive_writes held) 17) (newest_back p b);
  first = second_before;
  first_is = ap (λ (ws : List Write). applied (newest_first sizes p) (applied ws held) 34) (newest_received q h) ∙ ap (λ (ws : List Write). applied ws (applied receive_writes held) 34) (newest_back p b);
  another = λ e. (let tags : 8 ≡ 7 = ap (λ (m : ℕ × List ℕ). m.0) e in absurd (omega (arith, tags)));
}
