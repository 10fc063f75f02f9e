-- What the levels of chains and of tags plan, over the slots as they are.
use Rattle.std.proofs.Common.{zero, suc, drop, ◌≡◌, ℕ, ◌/◌, ◌%◌, ◌<◌, ◌++◌, ◌&&◌, cond, List, [], ◌∷◌, map, reverse, refl, sym, ◌∙◌, ap, subst, Bool, true, false, not, nat_eq, Option, Some, None, inl, inr}
use Rattle.std.proofs.lemmas.Bool.{and_from, and_parts, lt-ltb, cases_Bool, eqb-true, false≢true, not-true, or_cases, true≢false, eq-eqb, or_left, or_right}
use Rattle.std.proofs.lemmas.List.{reverse-append}
use Rattle.rq_model.specs.declared.refusal.Refusal.{Refusal}
use Rattle.rq_model.specs.declared.refusal.Refusal.TheVariants as why
use Rattle.rq_model.specs.declared.record.Deed.TheVariants.{UnlinkHead}
use Rattle.rq_model.specs.Vocabulary.{has_number}
use Rattle.rq_page.specs.declared.cell.Cell.{Cell}
use Rattle.rq_page.specs.declared.client.ClientSlot.{ClientSlot}
use Rattle.rq_page.specs.Sizes.{IsCellAddress, Sizes, cell_at, cell_count, client_slot_at, directory_at, place_of}
use Rattle.rq_page.specs.declared.cell.CellSlot.{CellSlot}
use Rattle.rq_page.specs.declared.cell.CellSlot.TheVariants as cells
use Rattle.rq_page.specs.declared.layout.PageKind.{PageKind}
use Rattle.rq_page.specs.Cells.{cell_slot_in}
use Rattle.rq_page.specs.Slots.{held_for, held_in, of_cell_slot}
use Rattle.rq_page.specs.Slots.Slot.{Client, Free, Used, Sender}
use Rattle.rq_page.proofs.Addresses.{cells_have_places, kind_cells, places_are_cells}
use Rattle.rq_views.specs.Log.{Write}
use Rattle.rq_views.specs.Items.{layout_of}
use Rattle.rq_views.specs.Plans.{client_write, relinked}
use Rattle.rq_views.specs.Stored.{is_used, slot_at}
use Rattle.rq_level.specs.declared.slots.Given.{Given}
use Rattle.rq_level.specs.declared.writes.Plan.{Plan}
use Rattle.rq_level.specs.declared.writes.SlotWrite.{SlotWrite}
use Rattle.rq_level.specs.ChainPlans.{Beside, IsMarked, RefusesOther, RefusesTaking}
use Rattle.rq_level.specs.TagPlans.{RefusesTag}
use Rattle.rq_level.specs.Given.{has_page}
use Rattle.rq_level.specs.LevelState.{LevelState, IsLowest, NoneToTake, SomeFree, flag_at}
use Rattle.rq_level.specs.Writes.{writes_of}
use Rattle.rq_store.specs.Fitting.{left_by}
use Rattle.rq_store.specs.Plans.{Stands_at}
use Rattle.rq_txn.specs.Rows.{Row, Under, latched_in, latched_under}
use Rattle.rq_store.specs.State.{State}
use Rattle.rq_sound.specs.Sound.{IsSound}
use Rattle.rq_sound.specs.Groups.{slots_now}
use Rattle.rq_sound.specs.Plans.{AreOff, AreUnlatched, IsMarking}
use Rattle.rq_sound.specs.Levels.{IsGathered, KeepsCells, AreLatched, LevelsPlanFromSlots, to_write, to_write_under, IsForLatches, LevelsRefuseExactly}
use Rattle.rq_sound.specs.Latching.{AllFreeLatched}
use Rattle.rq_sound.proofs.Contracts.{planned}

off_parts : (s : State) (xs ys : List Write) → AreOff s (xs ++ ys) → AreOff s xs × AreOff s ys
off_parts s [] ys h = (tt, h)
off_parts s (x ∷ xs) ys h = let p = off_parts s xs ys h.1 in ((h.0, p.0), p.1)

off_back : (s : State) (ws : List Write) → AreOff s (reverse ws) → AreOff s ws
off_back s [] h = tt
off_back s (w ∷ ws) h =
    let p = off_parts s (reverse ws) (w ∷ []) (subst (AreOff s) (reverse-append (w ∷ []) ws) h) in
    (p.1.0, off_back s ws p.0)

off_pages : (s : State) (us : List SlotWrite) → AreOff s (writes_of s.sizes us) → AreUnlatched s us
off_pages s [] h p on = absurd (false≢true on)
off_pages s (w ∷ us) h p on = elim (or_cases (nat_eq (w.at / 16) p) (has_page p (map (λ x. x.at / 16) us)) on) [
  | inl y ↦ subst (λ n. latched_in s.rows n ≡ false) (eqb-true (w.at / 16) p y) h.0
  | inr y ↦ off_pages s us h.1 p y
]

pub are_off : (s : State) (us : List SlotWrite) (ws : List Write) → reverse (writes_of s.sizes us) ≡ ws → AreOff s ws → AreUnlatched s us
are_off s us ws is h = off_pages s us (off_back s (writes_of s.sizes us) (subst (AreOff s) (sym is) h))

pub relinked_off : (s : State) (at : ℕ) (o : Option Cell) (f : Cell → Cell) (ws : List Write) → ((c : Cell) → o ≡ Some c → latched_in s.rows (at / 16) ≡ false) → AreOff s ws → AreOff s (relinked at o f ws)
relinked_off s at None f ws h k = k
relinked_off s at (Some c) f ws h k = (h c refl, k)

-- a cell's slot that is not used is free, whatever the pages hold
unused_free : (x : CellSlot) → is_used (of_cell_slot x) ≡ false → of_cell_slot x ≡ Free
unused_free cells.Free n = refl
unused_free (cells.Used c) n = absurd (true≢false n)

cell_unused : (s : State) (a : ℕ) → IsCellAddress s.sizes a → is_used (slots_now s a) ≡ false → slots_now s a ≡ Free
cell_unused s a cell n =
    let here : slots_now s a ≡ of_cell_slot (cell_slot_in (slot_at s.images a)) =
    ap (λ b. cond b (held_in s.sizes (a / 16) (slot_at s.images a)) Free) (lt-ltb 0 (a % 16) cell.slot)
    ∙ ap (λ (k : Option PageKind). held_for k (slot_at s.images a)) (kind_cells s.sizes (a / 16) cell.above cell.below) in
    here ∙ unused_free (cell_slot_in (slot_at s.images a)) (ap is_used (sym here) ∙ n)

-- the cell that the level takes is free, on a page that nobody has latched
pub lowest_is : (s : State) (k : LevelState) (latched : List ℕ) (a : ℕ) → KeepsCells s k → AreLatched s latched → IsLowest s.sizes k latched a → IsCellAddress s.sizes a × (slots_now s a ≡ Free) × (latched_in s.rows (a / 16) ≡ false)
lowest_is s k latched a c on h =
    let at = h.at in
    let one = and_parts (flag_at k.free h.place) (not (flag_at k.reserved h.place) && not (has_page (cell_at s.sizes h.place / 16) latched)) h.may in
    let two = and_parts (not (flag_at k.reserved h.place)) (not (has_page (cell_at s.sizes h.place / 16) latched)) one.1 in
    let cell : IsCellAddress s.sizes a = subst (IsCellAddress s.sizes) (sym at) (cells_have_places s.sizes h.place h.below).0 in
    let unused : is_used (slots_now s a) ≡ false = ap (λ n. is_used (slots_now s n)) at ∙ not-true (is_used (slots_now s (cell_at s.sizes h.place))) (sym (c.free h.place h.below) ∙ one.0) in
    let off : latched_in s.rows (a / 16) ≡ false = ap (λ n. latched_in s.rows (n / 16)) at ∙ sym (on (cell_at s.sizes h.place / 16)) ∙ not-true (has_page (cell_at s.sizes h.place / 16) latched) two.1 in
    (cell, cell_unused s a cell unused, off)

-- what an operation has yet to write is on a page that it has latched
page_of_write : (a : ℕ) (us : List SlotWrite) → has_number a (map (λ w. w.at) us) ≡ true → has_page (a / 16) (map (λ w. w.at / 16) us) ≡ true
page_of_write a [] h = absurd (false≢true h)
page_of_write a (w ∷ us) h = elim (or_cases (nat_eq w.at a) (has_number a (map (λ x. x.at) us)) h) [
  | inl y ↦ or_left (nat_eq (w.at / 16) (a / 16)) (has_page (a / 16) (map (λ x. x.at / 16) us)) (eq-eqb (w.at / 16) (a / 16) (ap (λ n. n / 16) (eqb-true w.at a y)))
  | inr m ↦ or_right (nat_eq (w.at / 16) (a / 16)) (has_page (a / 16) (map (λ x. x.at / 16) us)) (page_of_write a us m)
]

page_in_rest : (p n : ℕ) (us : List SlotWrite) → has_page p (map (λ w. w.at / 16) (drop n us)) ≡ true → has_page p (map (λ w. w.at / 16) us) ≡ true
page_in_rest p zero us h = h
page_in_rest p (suc n) [] h = h
page_in_rest p (suc n) (w ∷ us) h = or_right (nat_eq (w.at / 16) p) (has_page p (map (λ x. x.at / 16) us)) (page_in_rest p n us h)

under_latched : (o : Option Under) (a : ℕ) → to_write_under o a ≡ true → latched_under o (a / 16) ≡ true
under_latched None a h = absurd (false≢true h)
under_latched (Some u) a h = page_in_rest (a / 16) u.made u.writes (page_of_write a (drop u.made u.writes) h)

pub writes_latched : (rows : List Row) (a : ℕ) → to_write rows a ≡ true → latched_in rows (a / 16) ≡ true
writes_latched [] a h = absurd (false≢true h)
writes_latched (r ∷ rows) a h = elim (or_cases (to_write_under r.under a) (to_write rows a) h) [
  | inl y ↦ or_left (latched_under r.under (a / 16)) (latched_in rows (a / 16)) (under_latched r.under a y)
  | inr m ↦ or_right (latched_under r.under (a / 16)) (latched_in rows (a / 16)) (writes_latched rows a m)
]

-- where it finds none to take, each free cell is on a latched page
pub none_takes : (s : State) (k : LevelState) (latched : List ℕ) → KeepsCells s k → AreLatched s latched → NoneToTake s.sizes k latched → AllFreeLatched s
none_takes s k latched c on none a cell free =
    let i = places_are_cells s.sizes a cell in
    let place = place_of s.sizes a in
    let is_free : flag_at k.free place ≡ true = c.free place i.0 ∙ ap (λ n. not (is_used (slots_now s n))) i.1 ∙ ap (λ x. not (is_used x)) free in
    elim (cases_Bool (flag_at k.reserved place)) [
      | inl y ↦ ap (λ n. latched_in s.rows (n / 16)) (sym i.1) ∙ writes_latched s.rows (cell_at s.sizes place) (c.chosen place i.0 y)
      | inr m ↦ elim (cases_Bool (has_page (cell_at s.sizes place / 16) latched)) [
        | inl y ↦ ap (λ n. latched_in s.rows (n / 16)) (sym i.1) ∙ sym (on (cell_at s.sizes place / 16)) ∙ y
        | inr n ↦ absurd (true≢false (sym (and_from _ _ is_free (and_from _ _ (ap not m) (ap not n))) ∙ none place i.0))
      ]
    ]

free_known : (s : State) (k : LevelState) (a : ℕ) → IsSound s → KeepsCells s k → IsCellAddress s.sizes a → (left_by s.sizes s.records).slots a ≡ Free → SomeFree s.sizes k
free_known s k a sound c cell free =
    let i = places_are_cells s.sizes a cell in
    let here : slots_now s a ≡ Free = sound.pages a ∙ free in
    (place_of s.sizes a, i.0, c.free (place_of s.sizes a) i.0 ∙ ap (λ n. not (is_used (slots_now s n))) i.1 ∙ ap (λ x. not (is_used x)) here)

some_known : (s : State) (k : LevelState) → IsSound s → KeepsCells s k → s.cells_in_use < cell_count s.sizes → SomeFree s.sizes k
some_known s k sound c less = let a = planned.send_finds s sound less in free_known s k a.0 sound c a.1 a.2

-- why a level refuses an operation that takes a cell, where the slots hold what it needs
refuses_taking : (s : State) (k : LevelState) (latched : List ℕ) (g : ℕ) (Can : Type 0) (r : Refusal) → KeepsCells s k → AreLatched s latched → SomeFree s.sizes k → Can → RefusesTaking s.sizes k latched g Can r → IsForLatches s r
refuses_taking s k latched g Can why.NoMemory c on some can h = tt
refuses_taking s k latched g Can why.Latched c on some can h = none_takes s k latched c on h.0
refuses_taking s k latched g Can (why.Damaged d) c on some can h = true≢false (sym some.2 ∙ h.1 can some.0 some.1)
refuses_taking s k latched g Can r c on some can h = absurd h

refuses_tag : (z : Sizes) (c : ℕ) (Can : Type 0) (r : Refusal) → Can → RefusesTag z c Can r → r ≡ why.NoMemory
refuses_tag z c Can why.NoMemory can h = refl
refuses_tag z c Can (why.Damaged d) can h = absurd (h.1 can)
refuses_tag z c Can r can h = absurd h

refuses_other : (g : ℕ) (Can : Type 0) (r : Refusal) → Can → RefusesOther g Can r → r ≡ why.NoMemory
refuses_other g Can why.NoMemory can h = refl
refuses_other g Can (why.Damaged d) can h = absurd (h.1 can)
refuses_other g Can r can h = absurd h

pub levels_refuse : LevelsRefuseExactly
levels_refuse = record {
  sends = λ s k given latched g r sound c on less can h. refuses_taking s k latched g _ r c on (some_known s k sound c less) can h;
  returns = λ s k given latched row rest lsn number g n tag body r sound c on m newest can h.
      let a = planned.put_back_finds s row rest (record { lsn = lsn; number = number; deed = UnlinkHead g n tag body }) sound m newest refl in
      refuses_taking s k latched g _ r c on (free_known s k a.0 sound c a.1 a.2) can h;
  receives = λ z given g r can h. refuses_other g _ r can h;
  marks = λ z given g closed r can h. refuses_other g _ r can h;
  unsends = λ z given g n r can h. refuses_other g _ r can h;
  tags = λ z given c r can h. refuses_tag z c _ r can h;
  untags = λ z given c tag r can h. refuses_tag z c _ r can h;
}

module _ (s : State) (given : List Given) (h : IsGathered s given) where
  beside_is : (a : ℕ) (o : Option Cell) → Beside s.sizes given a o → Stands_at (slots_now s) a o
  beside_is a None e = e
  beside_is a (Some c) e = h.as_is a (Used c) e

  beside_off : (a : ℕ) (o : Option Cell) → Beside s.sizes given a o → (c : Cell) → o ≡ Some c → latched_in s.rows (a / 16) ≡ false
  beside_off a None e c is = cc
  beside_off a (Some x) e c is = h.unlatched a (Used x) e

  marked : (g : ℕ) (closed : Bool) (p : Plan) → IsMarked s.sizes given g closed p → IsMarking s.sizes (slots_now s) p.writes.items g closed × AreUnlatched s p.writes.items
  marked g closed p m =
      let d = m.can.directory in (
        record { directory = d; directory_is = h.as_is (directory_at g) (Sender g d) m.can.directory_is; writes = m.writes },
        are_off s p.writes.items _ m.writes (h.unlatched (directory_at g) (Sender g d) m.can.directory_is, tt),
      )

-- the slot of a client is on a page that nobody has latched
client_off : (s : State) (c : ℕ) (held new : ClientSlot) (p : Plan) → held.client ≡ c → latched_in s.rows (client_slot_at s.sizes c / 16) ≡ false → reverse (writes_of s.sizes p.writes.items) ≡ client_write (layout_of s.sizes) held new ∷ []
    → AreUnlatched s p.writes.items
client_off s c held new p own off writes = are_off s p.writes.items _ writes (ap (λ n. latched_in s.rows (client_slot_at s.sizes n / 16)) own ∙ off, tt)

pub levels_plan : LevelsPlanFromSlots
levels_plan = record {
  lowest = lowest_is;
  none_to_take = none_takes;
  some_free = some_known;
  sent = λ s k given latched g tag body p after h c on m.
      let d = m.can.directory in
      let x = lowest_is s k latched m.new c on m.lowest in (
        record {
          directory = d;
          new = m.new;
          old = m.can.old;
          directory_is = h.as_is (directory_at g) (Sender g d) m.can.directory_is;
          sequence = refl;
          previous_is = refl;
          cell = x.0;
          free = x.1;
          beside = beside_is s given h d.tail m.can.old m.can.beside;
          writes = m.writes;
        },
        are_off s p.writes.items _ m.writes
            (h.unlatched (directory_at g) (Sender g d) m.can.directory_is, relinked_off s d.tail m.can.old _ _ (beside_off s given h d.tail m.can.old m.can.beside) (x.2, tt)),
      );
  received = λ s k given g p after h m.
      let d = m.can.directory in
      let c = m.can.cell in (
        record {
          directory = d;
          cell = c;
          next = m.can.next;
          directory_is = h.as_is (directory_at g) (Sender g d) m.can.directory_is;
          sequence = refl;
          tag_is = refl;
          body_is = refl;
          head_is = h.as_is d.head (Used c) m.can.head_is;
          beside = beside_is s given h c.next m.can.next m.can.beside;
          writes = m.writes;
        },
        are_off s p.writes.items _ m.writes
            (h.unlatched (directory_at g) (Sender g d) m.can.directory_is, relinked_off s c.next m.can.next _ _ (beside_off s given h c.next m.can.next m.can.beside) (h.unlatched d.head (Used c) m.can.head_is, tt)),
      );
  closed = λ s k given g p after h m. marked s given h g true p m.marked;
  unsent = λ s k given g n tag previous body p after h m.
      let d = m.can.directory in
      let c = m.can.cell in (
        record {
          directory = d;
          cell = c;
          front = m.can.front;
          directory_is = h.as_is (directory_at g) (Sender g d) m.can.directory_is;
          tail_is = h.as_is d.tail (Used c) m.can.tail_is;
          beside = beside_is s given h c.prev m.can.front m.can.beside;
          writes = m.writes;
        },
        are_off s p.writes.items _ m.writes
            (h.unlatched (directory_at g) (Sender g d) m.can.directory_is, relinked_off s c.prev m.can.front _ _ (beside_off s given h c.prev m.can.front m.can.beside) (h.unlatched d.tail (Used c) m.can.tail_is, tt)),
      );
  returned = λ s k given latched g n tag body p after h c on m.
      let d = m.can.directory in
      let x = lowest_is s k latched m.new c on m.lowest in (
        record {
          directory = d;
          new = m.new;
          old = m.can.old;
          directory_is = h.as_is (directory_at g) (Sender g d) m.can.directory_is;
          cell = x.0;
          free = x.1;
          beside = beside_is s given h d.head m.can.old m.can.beside;
          writes = m.writes;
        },
        are_off s p.writes.items _ m.writes
            (h.unlatched (directory_at g) (Sender g d) m.can.directory_is, relinked_off s d.head m.can.old _ _ (beside_off s given h d.head m.can.old m.can.beside) (x.2, tt)),
      );
  reopened = λ s k given g p after h m. marked s given h g false p m.marked;
  tagged = λ s k given c tag p after h m.
      let at = h.as_is (client_slot_at s.sizes c) (Client m.can.held) m.can.held_is in
      let off = h.unlatched (client_slot_at s.sizes c) (Client m.can.held) m.can.held_is in (
        record { held = m.can.held; held_is = at; own = m.can.own; previous_is = refl; writes = m.writes },
        client_off s c m.can.held _ p m.can.own off m.writes,
      );
  untagged = λ s k given c tag previous p after h m.
      let at = h.as_is (client_slot_at s.sizes c) (Client m.can.held) m.can.held_is in
      let off = h.unlatched (client_slot_at s.sizes c) (Client m.can.held) m.can.held_is in (
        record { held = m.can.held; held_is = at; own = m.can.own; some = m.can.some; writes = m.writes },
        client_off s c m.can.held _ p m.can.own off m.writes,
      );
}
