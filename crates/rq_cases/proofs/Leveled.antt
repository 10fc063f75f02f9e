-- Plans of levels that are as they should be, and wrong ones.
use Rattle.std.proofs.Common.{◌≡◌, ◌≢◌, ◌∙◌, ◌<◌, false, ℕ, cond, drop, nat_eq, List, Some, [], ◌∷◌, None, arith, ap, inl, inr, map, Ok, refl, slice_index_or, subst, sym, ◌==◌, ◌/◌, ◌%◌, if◌then◌else◌, Option, ◌^◌, length, Bool, replicate, slice_set, suc, true, zero}
use Rattle.std.proofs.lemmas.Bool.{false≢true, true≢false, cases_eq, ne_eqb}
use Rattle.std.proofs.lemmas.List.Elements.{All-from_recursion}
use Rattle.rq_model.specs.declared.record.Deed.TheVariants.{Append, UnlinkHead, Close, Mark}
use Rattle.rq_model.specs.Deeds.{spelled_deed}
use Rattle.rq_model.specs.Vocabulary.{In}
use Rattle.rq_page.specs.Cells.{cell_bytes, cell_front, free_bytes}
use Rattle.rq_page.specs.Directories.{directory_in, new_directory}
use Rattle.rq_page.specs.declared.directory.DirectorySlot.{DirectorySlot}
use Rattle.rq_page.specs.declared.client.ClientSlot.{ClientSlot}
use Rattle.rq_page.proofs.DirectoryBytes.{directory_in-directory_bytes}
use Rattle.rq_page.proofs.Spellings.{spelling_tells}
use Rattle.rq_page.specs.Slots.{IsSlotOf, held_in}
use Rattle.rq_page.specs.Slots.Slot.{Client}
use Rattle.rq_page.specs.Clients.{client_bytes}
use Rattle.rq_views.specs.WorkedItems.{cell, t1}
use Rattle.rq_level.specs.Asked.{AsksForNone, IsGathered, job_back, TakesCell}
use Rattle.rq_level.specs.ChainPlans.{along, to_next, to_prev}
use Rattle.rq_level.specs.Given.{IsGiven}
use Rattle.rq_level.specs.declared.slots.Given.{Given}
use Rattle.rq_level.specs.Lawful.{IsLawful}
use Rattle.rq_level.specs.Meaning.{meaning_of}
use Rattle.rq_level.specs.Ops.{Job}
use Rattle.rq_level.specs.Writes.{AreSlotWrites, IsSlotWrite}
use Rattle.rq_level.specs.LevelState.{IsLowest, LevelState, flag_at, is_cell_address, is_free_slot, noted, noted_cell, nothing_kept, reserved_at}
use Rattle.rq_level.specs.PagePlans.{IsOneWrite}
use Rattle.rq_views.specs.Stored.{IsStoreSlot}
use Rattle.rq_level.specs.declared.writes.Plan.{Plan}
use Rattle.rq_level.specs.declared.writes.SlotWrite.{SlotWrite}
use Rattle.rq_level.proofs.ChainLaws.{free_first}
use Rattle.rq_level.specs.declared.writes.Replies.{Replies}
use Rattle.rq_level.specs.declared.writes.Replies.TheVariants as replies
use Rattle.rq_cases.specs.Leveled.{IsMark, IsReceive, IsReceiveBack, IsSend, IsSendBack, IsWriteBack, LevelsAreJudged, WrongPlansAreRefused, all_free, chains_kept, count_again, count_mark, count_none, first_chosen, free_one_byte, linked_free, mark, marked, receive, receive_back, send, send_back, unmarked, write_back, close_another, free_again, receive_first, receive_first_back, second_kept, two_kept}
use Rattle.rq_cases.specs.Store.{count_sent, count_taken, fill_cell, free_cell, group, one_sent, one_taken, sizes, tagged, formatted_pages}
use Rattle.rq_cases.specs.WrongLevels.{FreesByOneByte, IsAsked, IsRight, IsRightBack, WrongLevels, also_plans, also_undoes, noted_but_free, noted_by}
use Rattle.rq_cases.proofs.Pages.{cell_told, free_told, new_told, sent_told, taken_told, are_formatted, range}
use Rattle.rq_cases.proofs.WrongLevels.{wrong_levels}
use Rattle.std.proofs.lemmas.Bool.Decides.{nat_tests}
use Rattle.rq_page.specs.declared.directory.Directory.{Directory}
use Rattle.rq_page.specs.Formatted.{formatted_slot}
use Rattle.rq_page.specs.Sizes.{Sizes, cell_at, place_of}
use Rattle.rq_page.proofs.FormattedSlots.{formatted_holds}
use Rattle.rq_level.proofs.Superblock.{sizes_told}
use Rattle.rq_store.specs.Fitting.{image_in}
use Rattle.rq_cases.proofs.TwoMessages.{elsewhere}

-- the slot of a cell with a message is none of a free one
used_first : is_free_slot (cell_bytes (cell 0)) ≡ false
unfolding cell_bytes cell_front
used_first = refl

-- where sender 0's slot tells that its chain begins
told_there : directory_in (group one_sent) ≡ record { sender = 0; directory = one_sent }
told_there = directory_in-directory_bytes (record { sender = 0; directory = one_sent }) (record {
  sender = omega arith;
  sent = omega arith;
  received = omega arith;
  last_tag = omega arith;
  head = omega arith;
  tail = omega arith;
})

at_group : IsStoreSlot sizes 17
at_group = record { page_low = omega arith; page_high = omega arith; slot = omega arith }

at_cell : IsStoreSlot sizes 33
at_cell = record { page_low = omega arith; page_high = omega arith; slot = omega arith }

-- to free the first cell, and to fill it
frees : IsSlotWrite sizes free_cell
frees = record { place = at_cell; before = cell_told.1; after = free_told.1 }

fills : IsSlotWrite sizes fill_cell
fills = record { place = at_cell; before = free_told.1; after = cell_told.1 }

-- where each cell is free, the first is the lowest
first_is_lowest : IsLowest sizes all_free [] 33
first_is_lowest = record {
  place = 0;
  below = omega arith;
  at = refl;
  may = refl;
  others = λ i low. absurd (omega (arith, low));
}

-- ---- a receive

asked_receive : IsAsked (meaning_of 1) chains_kept receive.asked receive.given
unfolding meaning_of
asked_receive = record {
  of = All-from_recursion (IsGiven sizes) receive.given (record { place = at_group; bytes = sent_told.1 }, (record { place = at_cell; bytes = cell_told.1 }, tt));
  noted = All-from_recursion (λ (g : Given). (meaning_of 1).note chains_kept g.at g.bytes ≡ chains_kept) receive.given (refl, (rw used_first refl, tt));
  gathered = (refl, (subst (λ (h : ℕ). ◌≡◌ (cond (nat_eq h 0) None (along (to_next ∷ []) h (record { at = 17; bytes = group one_sent } ∷ []))) (Some 33)) (sym (ap (λ (x : DirectorySlot). x.directory.head) told_there)) refl, tt));
}

taken : (q : Plan) → IsReceive q → (meaning_of 1).plans chains_kept receive.asked receive.given [] (Ok q) chains_kept
unfolding meaning_of
taken q h = record {
  can = record {
    below = omega arith;
    directory = one_sent;
    directory_is = sent_told.0;
    some = omega arith;
    used = omega arith;
    cell = cell 0;
    head_is = cell_told.0;
    next = None;
    beside = refl;
  };
  writes = rw (h.writes_are, sent_told.0, taken_told.0, cell_told.0, free_told.0) refl;
  slots = subst (AreSlotWrites sizes) (sym h.writes_are) (All-from_recursion (IsSlotWrite sizes) (free_cell ∷ count_taken ∷ []) (frees, (record { place = at_group; before = sent_told.1; after = taken_told.1 }, tt)));
  deed = h.deed_is;
  reads = rw (h.deed_is) refl;
  reply = h.reply_is;
  kept = refl;
}

received_right : (q : Plan) → IsReceive q → IsRight 1 receive q chains_kept
received_right q h = record { asked = asked_receive; plans = taken q h }

-- ---- what takes the receive back

asked_receive_back : IsAsked (meaning_of 1) all_free (job_back receive_back.asked) receive_back.given
unfolding meaning_of
asked_receive_back = record {
  of = All-from_recursion (IsGiven sizes) receive_back.given (record { place = at_group; bytes = taken_told.1 }, tt);
  noted = All-from_recursion (λ (g : Given). (meaning_of 1).note all_free g.at g.bytes ≡ all_free) receive_back.given (refl, tt);
  gathered = (refl, tt);
}

returned : (q : Plan) → IsReceiveBack q → (meaning_of 1).undoes all_free receive_back.asked receive_back.given [] (Ok q) first_chosen
unfolding meaning_of
returned q h = record {
  can = record {
    below = omega arith;
    directory = one_taken;
    directory_is = taken_told.0;
    some = omega arith;
    sequence = refl;
    old = None;
    beside = refl;
  };
  new = 33;
  lowest = first_is_lowest;
  writes = rw (h.writes_are, sent_told.0, taken_told.0, cell_told.0, free_told.0) refl;
  slots = subst (AreSlotWrites sizes) (sym h.writes_are) (All-from_recursion (IsSlotWrite sizes) (fill_cell ∷ count_again ∷ []) (fills, (record { place = at_group; before = taken_told.1; after = sent_told.1 }, tt)));
  inverse = record { deed = h.deed_is; reply = h.reply_is };
  kept = refl;
}

returned_right : (q : Plan) → IsReceiveBack q → IsRightBack 1 receive_back q first_chosen
returned_right q h = record { asked = asked_receive_back; undoes = returned q h }

-- ---- a send

asked_send : IsAsked (meaning_of 1) all_free send.asked send.given
unfolding meaning_of
asked_send = record {
  of = All-from_recursion (IsGiven sizes) send.given (record { place = at_group; bytes = new_told.1 }, tt);
  noted = All-from_recursion (λ (g : Given). (meaning_of 1).note all_free g.at g.bytes ≡ all_free) send.given (refl, tt);
  gathered = (refl, tt);
}

sent : (q : Plan) → IsSend q → (meaning_of 1).plans all_free send.asked send.given [] (Ok q) first_chosen
unfolding meaning_of
sent q h = record {
  can = record {
    below = omega arith;
    directory = new_directory;
    directory_is = new_told.0;
    room = omega arith;
    old = None;
    beside = refl;
  };
  new = 33;
  lowest = first_is_lowest;
  writes = rw (h.writes_are, new_told.0, sent_told.0, cell_told.0, free_told.0) refl;
  slots = subst (AreSlotWrites sizes) (sym h.writes_are) (All-from_recursion (IsSlotWrite sizes) (fill_cell ∷ count_sent ∷ []) (fills, (record { place = at_group; before = new_told.1; after = sent_told.1 }, tt)));
  deed = h.deed_is;
  reads = rw (h.deed_is) refl;
  reply = h.reply_is;
  kept = refl;
}

sent_right : (q : Plan) → IsSend q → IsRight 1 send q first_chosen
sent_right q h = record { asked = asked_send; plans = sent q h }

-- ---- what takes the send back

asked_send_back : IsAsked (meaning_of 1) chains_kept (job_back send_back.asked) send_back.given
unfolding meaning_of
asked_send_back = record {
  of = asked_receive.of;
  noted = asked_receive.noted;
  gathered = (refl, (subst (λ (h : ℕ). ◌≡◌ (cond (nat_eq h 0) None (along (to_prev ∷ []) h (record { at = 17; bytes = group one_sent } ∷ []))) (Some 33)) (sym (ap (λ (x : DirectorySlot). x.directory.tail) told_there)) refl, tt));
}

unsent : (q : Plan) → IsSendBack q → (meaning_of 1).undoes chains_kept send_back.asked send_back.given [] (Ok q) chains_kept
unfolding meaning_of
unsent q h = record {
  can = record {
    below = omega arith;
    directory = one_sent;
    directory_is = sent_told.0;
    some = omega arith;
    sequence = refl;
    used = omega arith;
    cell = cell 0;
    tail_is = cell_told.0;
    last = refl;
    front = None;
    beside = refl;
  };
  writes = rw (h.writes_are, sent_told.0, new_told.0, cell_told.0, free_told.0) refl;
  slots = subst (AreSlotWrites sizes) (sym h.writes_are) (All-from_recursion (IsSlotWrite sizes) (free_cell ∷ count_none ∷ []) (frees, (record { place = at_group; before = sent_told.1; after = new_told.1 }, tt)));
  inverse = record { deed = h.deed_is; reply = h.reply_is };
  kept = refl;
}

unsent_right : (q : Plan) → IsSendBack q → IsRightBack 1 send_back q chains_kept
unsent_right q h = record { asked = asked_send_back; undoes = unsent q h }

-- ---- a slot write that is taken back

asked_back : IsAsked (meaning_of 0) nothing_kept (job_back write_back.asked) []
unfolding meaning_of
asked_back = record { of = tt; noted = All-from_recursion (λ (g : Given). (meaning_of 0).note nothing_kept g.at g.bytes ≡ nothing_kept) [] tt; gathered = tt }

back : (q : Plan) → IsWriteBack q → (meaning_of 0).undoes nothing_kept write_back.asked [] [] (Ok q) nothing_kept
unfolding meaning_of
back q h = (record { write = subst (IsOneWrite 33 (cell_bytes (cell 0)) free_bytes) (sym h.writes_are) (refl, refl, refl); deed = h.deed_is; reply = h.reply_is }, refl)

back_right : (q : Plan) → IsWriteBack q → IsRightBack 0 write_back q nothing_kept
back_right q h = record { asked = asked_back; undoes = back q h }

-- ---- the mark

told_client : (x : ClientSlot) → x.client ≡ 0 → x.count < 2 → x.tag < 100 → (held_in tagged 3 (client_bytes x) ≡ Client x) × IsSlotOf tagged 3 1 (client_bytes x)
told_client x own count tag = spelling_tells tagged 3 1 (Client x) (omega arith) (omega arith) (record { numbers = record { client = omega (arith, own); count = omega (arith, count); tag = omega (arith, tag) }; own = own })

at_client : IsStoreSlot tagged 49
at_client = record { page_low = omega arith; page_high = omega arith; slot = omega arith }

none_told : (held_in tagged 3 (client_bytes unmarked) ≡ Client unmarked) × IsSlotOf tagged 3 1 (client_bytes unmarked)
none_told = told_client unmarked refl (omega arith) (omega arith)

one_told : (held_in tagged 3 (client_bytes marked) ≡ Client marked) × IsSlotOf tagged 3 1 (client_bytes marked)
one_told = told_client marked refl (omega arith) (omega arith)

asked_mark : IsAsked (meaning_of 2) mark.kept mark.asked mark.given
unfolding meaning_of
asked_mark = record {
  of = All-from_recursion (IsGiven tagged) mark.given (record { place = at_client; bytes = none_told.1 }, tt);
  noted = All-from_recursion (λ (g : Given). (meaning_of 2).note mark.kept g.at g.bytes ≡ mark.kept) mark.given (refl, tt);
  gathered = (refl, tt);
}

counted : (q : Plan) → IsMark q → (meaning_of 2).plans mark.kept mark.asked mark.given [] (Ok q) mark.kept
unfolding meaning_of
counted q h = record {
  can = record { below = omega arith; held = unmarked; held_is = none_told.0; own = refl; room = omega arith };
  writes = rw (h.writes_are, none_told.0, one_told.0) refl;
  slots = subst (AreSlotWrites tagged) (sym h.writes_are) (All-from_recursion (IsSlotWrite tagged) (count_mark ∷ []) (record { place = at_client; before = none_told.1; after = one_told.1 }, tt));
  deed = h.deed_is;
  reads = rw (h.deed_is) refl;
  reply = h.reply_is;
  kept = refl;
}

counted_right : (q : Plan) → IsMark q → IsRight 2 mark q mark.kept
counted_right q h = record { asked = asked_mark; plans = counted q h }

-- a plan with these in place of what it has
abbrev plan_with : Plan → (writes : List SlotWrite) → (deed : List ℕ) → Replies → length writes < 2 ^ 63 → Plan
plan_with p writes deed reply few = record p {
  writes = record p.writes { items = writes; len = length writes; cap = length writes; ok = (refl, omega arith); small = few };
  deed = deed;
  reply = reply;
}

pub levels : LevelsAreJudged
levels = record {
  some_has = λ p writes deed reply few. (plan_with p writes deed reply few, record { writes_are = refl; deed_is = refl; reply_is = refl });
  send_is_right = sent_right;
  send_back_is_right = unsent_right;
  receive_is_right = received_right;
  receive_back_is_right = returned_right;
  write_back_is_right = back_right;
  mark_is_right = counted_right;
}

-- ---- wrong plans

-- whether the first cell is chosen, and whether it is free
chosen_first : all_free ≡ first_chosen → ⊥
chosen_first e = false≢true (ap (λ (k : LevelState). flag_at k.reserved 0) e)

free_not_used : all_free ≡ chains_kept → ⊥
free_not_used e = true≢false (ap (λ (k : LevelState). flag_at k.free 0) e)

-- the freed cell is noted as free
noted_free : noted chains_kept 33 free_bytes ≡ all_free
noted_free = rw (free_first) refl

-- a cell of which the first byte is cleared has a length yet
one_byte_more : 0 ∷ drop 1 (cell_bytes (cell 0)) ≢ free_bytes
unfolding cell_bytes cell_front free_bytes
one_byte_more e = absurd (omega (arith, ap (λ (bytes : List ℕ). slice_index_or bytes 3 0) e))

freed_so : (p : Plan) (w : SlotWrite) → p.writes.items ≡ free_one_byte ∷ w ∷ [] → FreesByOneByte sizes p
freed_so p w writes = record {
  write = free_one_byte;
  there = subst (In free_one_byte) (sym writes) (inl refl);
  cell = refl;
  rest = drop 1 (cell_bytes (cell 0));
  after = refl;
  another = one_byte_more;
}

-- the cell that the slot of sender 0 names is free
asked_linked : (m : Job) → IsGathered (meaning_of 1) (Some sizes) m linked_free → IsAsked (meaning_of 1) all_free m linked_free
unfolding meaning_of
asked_linked m gathered = record {
  of = All-from_recursion (IsGiven sizes) linked_free (record { place = at_group; bytes = sent_told.1 }, (record { place = at_cell; bytes = free_told.1 }, tt));
  noted = All-from_recursion (λ (g : Given). (meaning_of 1).note all_free g.at g.bytes ≡ all_free) linked_free (refl, (rw free_first refl, tt));
  gathered = gathered;
}

linked_tail : IsGathered (meaning_of 1) (Some sizes) send.asked linked_free
unfolding meaning_of
linked_tail = (refl, (subst (λ (h : ℕ). ◌≡◌ (cond (nat_eq h 0) None (along [] h (record { at = 17; bytes = group one_sent } ∷ []))) (Some 33)) (sym (ap (λ (x : DirectorySlot). x.directory.tail) told_there)) refl, tt))

linked_head : IsGathered (meaning_of 1) (Some sizes) (job_back receive_back.asked) linked_free
unfolding meaning_of
linked_head = (refl, (subst (λ (h : ℕ). ◌≡◌ (cond (nat_eq h 0) None (along [] h (record { at = 17; bytes = group one_sent } ∷ []))) (Some 33)) (sym (ap (λ (x : DirectorySlot). x.directory.head) told_there)) refl, tt))

-- ---- cells that are used by now

-- the slots of the formatted store, but for the group of sender 0, and with a message in the first cell
abbrev filled : Directory → ℕ → List ℕ
filled d a = (if a == 17 then group d else (if a == 33 then cell_bytes (cell 0) else formatted_slot sizes (a / 16) (a % 16)))

not_at : (a b : ℕ) (x y : List ℕ) → a ≢ b → (if a == b then x else y) ≡ y
not_at a b x y off = grind (arith, nat_tests)

filled_at : (d : Directory) → IsSlotOf sizes 1 1 (group d) → (a : ℕ) → IsStoreSlot sizes a → IsSlotOf sizes (a / 16) (a % 16) (filled d a)
filled_at d there a h = elim (cases_eq a 17) [
  | inl e ↦ subst (λ (b : ℕ). IsSlotOf sizes (b / 16) (b % 16) (filled d b)) (sym e) there
  | inr off ↦ elim (cases_eq a 33) [
    | inl e ↦ subst (λ (b : ℕ). IsSlotOf sizes (b / 16) (b % 16) (filled d b)) (sym e) cell_told.1
    | inr other ↦
        let slot = (formatted_holds sizes (a / 16) (a % 16) range h.page_low h.page_high h.slot (omega arith)).0 in
        let same = not_at a 17 (group d) _ off ∙ not_at a 33 (cell_bytes (cell 0)) (formatted_slot sizes (a / 16) (a % 16)) other in
        subst (IsSlotOf sizes (a / 16) (a % 16)) (sym same) slot
  ]
]

filled_slots : (d : Directory) → IsSlotOf sizes 1 1 (group d) → (z : Sizes) (a : ℕ) → all_free.sizes ≡ Some z → IsStoreSlot z a → IsSlotOf z (a / 16) (a % 16) (filled d a)
filled_slots d there z a told =
    let same : sizes ≡ z = cc in
    subst (λ (y : Sizes). IsStoreSlot y a → IsSlotOf y (a / 16) (a % 16) (filled d a)) same (filled_at d there a)

-- where nothing is chosen, no choice is lost
none_set : (n i : ℕ) → slice_set (replicate n false) i false ≡ replicate n false
none_set zero i = refl
none_set (suc n) zero = refl
none_set (suc n) (suc i) = ap (λ (flags : List Bool). false ∷ flags) (none_set n i)

still_free : (cell free : Bool) (place : ℕ) → (let k : LevelState = record (cond cell (noted_cell sizes all_free place free) all_free) { free = all_free.free } in k) ≡ all_free
still_free true free place = ap (λ (flags : List Bool). let k : LevelState = record all_free { reserved = flags } in k) (none_set 15 place)
still_free false free place = refl

-- their sizes are those of the store
noted_filled : (d : Directory) (a : ℕ) → noted_by noted_but_free all_free a (filled d a) ≡ all_free
noted_filled d a = elim (cases_eq a 1) [
  | inl e ↦
      let told = sizes_told sizes (image_in formatted_pages 0) (formatted_slot sizes 0 1) range (are_formatted 0 (omega arith)) (sym ((are_formatted 0 (omega arith)).slots 1 (omega arith) (omega arith))) in
      subst (λ (b : ℕ). noted_by noted_but_free all_free b (filled d b) ≡ all_free) (sym e) (ap (λ (o : Option Sizes). let k : LevelState = record all_free { sizes = o } in k) told)
  | inr off ↦ rw (ne_eqb a 1 off) (still_free (is_cell_address sizes a) (is_free_slot (filled d a)) (place_of sizes a))
]

-- a group's slot is no cell that may be taken
no_cell_given : (bytes : List ℕ) → AsksForNone all_free [] (record { at = 17; bytes = bytes } ∷ [])
no_cell_given bytes z a told lowest =
    let same : sizes ≡ z = cc in
    let at : a ≡ cell_at sizes lowest.place = lowest.at ∙ ap (λ (y : Sizes). cell_at y lowest.place) (sym same) in
    rw (ne_eqb 17 a (λ e. omega (arith, at, e))) refl

-- ---- cases

-- the first write of each plan
first_of : (q : Plan) (w v : SlotWrite) → q.writes.items ≡ w ∷ v ∷ [] → In w q.writes.items
first_of q w v writes = subst (In w) (sym writes) (inl refl)

-- no cell that may be taken is where the slot of sender 1 stands
no_cell_there : (latched : List ℕ) → TakesCell chains_kept latched close_another → ⊥
no_cell_there latched takes =
    let same : takes.sizes ≡ sizes = cc in
    let at : 18 ≡ cell_at sizes takes.lowest.place = takes.lowest.at ∙ ap (λ (z : Sizes). cell_at z takes.lowest.place) same in
    absurd (omega (arith, at))

free_is_none : free_bytes ≢ cell_bytes (cell 0)
free_is_none e = true≢false (sym free_first ∙ ap is_free_slot e ∙ used_first)

pub wrong_plans : WrongPlansAreRefused
wrong_plans = record {
  refused_send_keeps_its_choice = λ q h. wrong.choice_of_a_refused_send send q first_chosen (sent_right q h) (λ e. chosen_first (sym e));
  refused_back_keeps_its_choice = λ q h. wrong.choice_of_a_refused_back receive_back q first_chosen (returned_right q h) (λ e. chosen_first (sym e));
  receive_writes_four = λ q p h but writes. wrong.four_writes 1 receive q p chains_kept (received_right q h) but (rw writes (omega arith));
  write_back_writes_four = λ q p h but writes. wrong.four_writes_back 0 write_back q p nothing_kept (back_right q h) but (rw writes (omega arith));
  receive_closes_another = λ q p h but writes. wrong.not_given receive q p chains_kept close_another (received_right q h) but (writes ∙ ap (λ (ws : List SlotWrite). close_another ∷ ws) (sym h.writes_are)) refl (no_cell_there []);
  receive_frees_a_free_cell = λ q p h but writes. wrong.another_image 1 receive q p chains_kept free_again (count_taken ∷ []) (cell_bytes (cell 0)) (received_right q h) but writes refl free_is_none;
  write_back_compares_nothing = λ q p h but writes. wrong.not_compared write_back q p nothing_kept free_again t1 1 2 1 free_bytes (cell_bytes (cell 0)) (back_right q h) but refl writes refl refl free_is_none;
  send_by_flags_of_the_opening = λ q h. wrong.flags_of_the_opening send q first_chosen fill_cell (filled new_directory) (sent_right q h) (first_of q fill_cell count_sent h.writes_are) refl used_first (no_cell_given (group new_directory)) (record { slots = filled_slots new_directory new_told.1; noted = noted_filled new_directory })
      (All-from_recursion (λ (g : Given). g.bytes ≡ filled new_directory g.at) send.given (refl, tt));
  receive_back_by_flags_of_the_opening = λ q h. wrong.back_by_flags_of_the_opening receive_back q first_chosen fill_cell (filled one_taken) t1 1 (spelled_deed (UnlinkHead 0 1 7 (104 ∷ []))) (returned_right q h) refl (first_of q fill_cell count_again h.writes_are) refl used_first (no_cell_given (group one_taken)) (record { slots = filled_slots one_taken taken_told.1; noted = noted_filled one_taken })
      (All-from_recursion (λ (g : Given). g.bytes ≡ filled one_taken g.at) receive_back.given (refl, tt));
  receive_leaves_its_group = λ q p h but writes. wrong.leaves_a_slot 1 receive q p chains_kept (record { at = 17; bytes = group one_sent }) (received_right q h) but (inl refl)
      (λ i. not_there (subst (λ (ws : List SlotWrite). In 17 (map (λ (w : SlotWrite). w.at) ws)) writes i));
  send_back_does_nothing = λ q p h but writes. wrong.nothing_is_undone 1 send_back q p chains_kept (record { at = 17; bytes = group one_sent }) (record { at = 33; bytes = cell_bytes (cell 0) } ∷ []) (unsent_right q h) but refl writes;
  send_takes_a_linked_cell = λ p. wrong.takes_a_linked_cell sizes (record send { given = linked_free }) p first_chosen 33 free_bytes (asked_linked send.asked linked_tail) refl first_is_lowest refl (λ e. chosen_first (sym e));
  receive_back_takes_a_linked_cell = λ p. wrong.puts_back_into_a_linked_cell sizes (record receive_back { given = linked_free }) p first_chosen 33 free_bytes (asked_linked (job_back receive_back.asked) linked_head) refl first_is_lowest refl (λ e. chosen_first (sym e));
  send_forgets_its_choice = λ q h. wrong.forgets_its_choice sizes send q first_chosen fill_cell (sent_right q h) refl (first_of q fill_cell count_sent h.writes_are) refl chosen_first;
  receive_back_forgets_its_choice = λ q h. wrong.forgets_its_choice_back sizes receive_back q first_chosen fill_cell t1 1 (spelled_deed (UnlinkHead 0 1 7 (104 ∷ []))) (returned_right q h) refl refl (first_of q fill_cell count_again h.writes_are) refl chosen_first;
  receive_frees_by_one_byte = λ q p h but writes. wrong.frees_by_one_byte sizes receive q p chains_kept (received_right q h) refl but (freed_so p count_taken writes);
  send_back_frees_by_one_byte = λ q p h but writes. wrong.frees_back_by_one_byte sizes send_back q p chains_kept t1 1 (spelled_deed (Append 0 1 7 0 (104 ∷ []))) (unsent_right q h) refl refl but (freed_so p count_none writes);
  mark_tells_a_close = λ q h. wrong.deed_of_another mark q mark.kept 0 (counted_right q h);
  send_back_tells_a_deed = λ q h. wrong.inverse_with_a_deed 1 send_back q chains_kept (spelled_deed (Close 0)) (unsent_right q h) (λ e. absurd (cc));
  mark_says_undone = λ q h. wrong.reply_of_another 2 mark q mark.kept (Mark 0 70 0) replies.Undone (counted_right q h) (rw (h.deed_is) refl) (λ e. absurd (cc));
  write_back_says_undone = λ q h. wrong.back_replies_something_else 0 write_back q nothing_kept replies.Undone (back_right q h) (λ e. absurd (cc));
  receive_back_puts_at_the_tail = λ q p h b. wrong.put_back_at_the_tail sizes receive_first q two_kept receive_first_back p (reserved_at sizes second_kept 33) (elsewhere q p h b);
  receive_frees_too_early = λ q h lawful. wrong.frees_too_early receive q chains_kept free_cell (count_taken ∷ []) (received_right q h) h.writes_are used_first noted_other
      (subst (λ (k : LevelState). IsLawful 1 (also_plans receive q k (meaning_of 1))) (sym noted_free) lawful);
  send_back_frees_too_early = λ q h lawful. wrong.frees_back_too_early send_back q chains_kept free_cell (count_none ∷ []) (unsent_right q h) h.writes_are used_first noted_other
      (subst (λ (k : LevelState). IsLawful 1 (also_undoes send_back q k (meaning_of 1))) (sym noted_free) lawful);
  tags_do_a_receive = λ q. wrong.job_of_another 2 receive q chains_kept (omega arith);
  tags_take_a_receive_back = λ q h. wrong.takes_back_of_another 2 1 receive_back q first_chosen t1 1 (spelled_deed (UnlinkHead 0 1 7 (104 ∷ []))) (returned_right q h) refl (omega arith);
}
  where
    wrong : WrongLevels
    wrong = wrong_levels

    noted_other : noted chains_kept 33 free_bytes ≢ chains_kept
    noted_other e = free_not_used (sym noted_free ∙ e)

    not_there : In {X = ℕ} 17 (33 ∷ []) → ⊥
    not_there i = elim i [ inl e ↦ omega (arith, e) | inr m ↦ absurd m ]
