-- A write of an operation under way is made.
use Rattle.std.proofs.Common.{◌≡◌, ℕ, ◌+◌, ◌/◌, ◌%◌, ◌<◌, ◌≤◌, ◌||◌, ◌&&◌, List, [], ◌∷◌, length, take, drop, reverse, refl, sym, ◌∙◌, ap, subst, true, false, not, nat_eq, Option, Some, inl, inr, arith}
use Rattle.std.specs.List.{slice_get}
use Rattle.std.proofs.lemmas.Bool.{cases_Bool, true≢false, false≢true, or_from, eq-eqb, eqb-true}
use Rattle.std.proofs.lemmas.Option.{same_Some}
use Rattle.std.proofs.lemmas.List.{reverse-append}
use Rattle.rq_model.specs.declared.txn.Txn.{Txn}
use Rattle.rq_model.specs.declared.txn.Sub.{Sub}
use Rattle.rq_model.specs.declared.record.Record.{Record}
use Rattle.rq_page.specs.Sizes.{Sizes, address}
use Rattle.rq_page.specs.Slots.{IsSlotOf, held_in}
use Rattle.rq_views.specs.Log.{Write, same_op}
use Rattle.rq_views.specs.Log.Item.{PageOp}
use Rattle.rq_views.specs.Items.{items, layout_of, operation}
use Rattle.rq_views.specs.Legal.{MayFollow, onto, began, over}
use Rattle.rq_views.specs.Plans.{IsPlan}
use Rattle.rq_views.specs.Owed.{Owes}
use Rattle.rq_level.specs.Writes.{write_of, writes_of}
use Rattle.rq_level.specs.declared.writes.SlotWrite.{SlotWrite}
use Rattle.rq_views.proofs.Overlay.{Good}
use Rattle.rq_views.proofs.Owes.{owes_next}
use Rattle.rq_views.proofs.Views.{good}
use Rattle.rq_views.proofs.Holders.{not_txn}
use Rattle.rq_groups.specs.Ends.{HeldEnds}
use Rattle.rq_model.specs.Incarnations.{incarnation_of}
use Rattle.rq_store.specs.Fitting.{left_by}
use Rattle.rq_store.specs.Steps.{page_op}
use Rattle.rq_store.specs.Whole.{IsWhole}
use Rattle.rq_txn.specs.declared.Aim.{Aim}
use Rattle.rq_txn.specs.Rows.{Under, Row, found_row, change_row, row_stepped, under_stepped, latched_by}
use Rattle.rq_store.specs.Rows.{is_under, unmade}
use Rattle.rq_txn.specs.declared.Aim.TheVariants.{Doing, Undoing}
use Rattle.rq_sound.specs.Rows.{turn_of}
use Rattle.rq_sound.specs.Standing.{FollowsPlan, IsAsPlanned, IsAimOf, IsRow, AreStanding}
use Rattle.rq_sound.specs.Counted.{AreCounted}
use Rattle.rq_store.proofs.Owing.{onto_whole, address_is}
use Rattle.rq_sound.proofs.Going.{other_steps, own_steps, page_latched, page_is, get_written, take_next, drop_next}
use Rattle.rq_sound.proofs.Beside.{says_page}
use Rattle.rq_store.proofs.Others.{other_number}
use Rattle.rq_sound.proofs.Counted.{counted_step}
use Rattle.rq_sound.proofs.OwnRecord.{row, of_order, running, going, next_number, greatest_now, others_apart}
use Rattle.rq_sound.proofs.Standings.{stands_changed}

pub aim_stepped : (r : Row) (a : Aim) → IsAimOf r a → IsAimOf (row_stepped r) a
aim_stepped r (Doing d) h = h
aim_stepped r (Undoing lsn d) h = h

module _ (z : Sizes) (log : List Record) (ends : HeldEnds) (rows : List Row) (i b cells : ℕ) (waiting : List ℕ) (whole : IsWhole z log) (k : AreStanding z log ends rows i b) (c : AreCounted z log rows cells waiting)
    (incarnation : incarnation_of log ≡ i) (some : 1 ≤ i) (r : Row) (u : Under) (w : SlotWrite) (at_row : found_row r.txn rows ≡ Some r) (under : r.under ≡ Some u) (next : slice_get u.writes u.made ≡ Some w) (more : u.made < length u.writes)
    (old_slot : IsSlotOf z (w.at / 16) (w.at % 16) w.before) (slot : IsSlotOf z (w.at / 16) (w.at % 16) w.after) where
  abbrev t : Txn
  t = r.txn

  abbrev x : Record
  x = page_op t u.number w

  abbrev o : Sub
  o = operation t u.number

  abbrev wr : Write
  wr = record { at = address (w.at / 16) (w.at % 16); before = held_in z (w.at / 16) w.before; after = held_in z (w.at / 16) w.after }

  wr_is : wr ≡ write_of z w
  wr_is = ap (λ (a : ℕ). record { at = a; before = held_in z (w.at / 16) w.before; after = held_in z (w.at / 16) w.after }) (address_is w.at)

  abbrev all : List Write
  all = writes_of z u.writes

  next_is : slice_get all u.made ≡ Some wr
  next_is = get_written (write_of z) u.writes u.made w next ∙ ap (λ (y : Write). Some y) (sym wr_is)

  own : IsRow z log ends i b r
  own = row z log ends rows i b k incarnation some r at_row

  g : FollowsPlan z log ends t u × (r.number ≡ u.number) × IsAimOf r u.aim
  g = going z log ends rows i b k incarnation some r at_row u under

  abbrev page : ℕ → ℕ
  page = (layout_of z).page

  slots_good : Good page (left_by z log)
  slots_good = good (layout_of z) (items z log) whole.legal

  on_latched : latched_by u (w.at / 16) ≡ true
  on_latched = page_latched u.writes u.made w next

  owes_here : Owes page (left_by z log) o (latched_by u) (wr ∷ drop (u.made + 1) all)
  owes_here = subst (λ ws. Owes page (left_by z log) o (latched_by u) ws) (drop_next all u.made wr next_is) g.0.owes

  made_is : reverse (take (u.made + 1) all) ≡ wr ∷ reverse (take u.made all)
  made_is = ap reverse (take_next all u.made wr next_is) ∙ reverse-append (take u.made all) (wr ∷ [])

  may : MayFollow (layout_of z) (items z log) (PageOp o wr)
  may = record {
    write = owes_next page (left_by z log) slots_good o (latched_by u) wr (drop (u.made + 1) all) owes_here;
    uncrossed = g.0.uncrossed (page wr.at) (ap (latched_by u) (page_is w.at) ∙ on_latched);
    going = g.0.going;
    forward = g.0.forward;
    begins = record {
      turn = turn_of u.aim;
      owed = drop (u.made + 1) all;
      plan = subst (λ ws. IsPlan (layout_of z) (turn_of u.aim) ws) (sym (onto_whole all (u.made + 1)) ∙ ap (onto (drop (u.made + 1) all)) (made_is ∙ ap (λ l. wr ∷ l) (sym g.0.written))) g.0.plan;
    };
    running = running z log ends rows i b k incarnation some r at_row;
  }

  pub whole_step : IsWhole z (x ∷ log)
  whole_step = record {
    legal = (may, whole.legal);
    told = (tt, whole.told);
    rules = (tt, (λ v e. absurd (false≢true e)), whole.rules);
    reads = (tt, whole.reads);
    in_store = (slot, whole.in_store);
    befores = (old_slot, whole.befores);
    based = (tt, whole.based);
    behind = (own.behind, whole.behind);
    order = (of_order z log ends rows i b k incarnation some r at_row, whole.order);
    room = (tt, whole.room);
    numbers = (next_number z log ends rows i b k incarnation some r at_row u under, whole.numbers);
  }

  abbrev stepped : Under
  stepped = record u { made = u.made + 1 }

  going_now : FollowsPlan z (x ∷ log) ends t stepped
  going_now = own_steps z log ends t u w next more slots_good g.0

  not_zero : nat_eq (u.made + 1) 0 ≡ false
  not_zero = elim (cases_Bool (nat_eq (u.made + 1) 0)) [ inl y ↦ (let e : u.made + 1 ≡ 0 = eqb-true (u.made + 1) 0 y in absurd (omega (arith, e))) | inr n ↦ n ]

  logged : unmade (under_stepped r.under) ≡ 0
  logged = ap (λ (y : Option Under). unmade (under_stepped y)) under ∙ rw not_zero refl

  own_now : IsRow z (x ∷ log) ends i b (row_stepped r)
  own_now = record {
    of_incarnation = own.of_incarnation;
    counted = own.counted;
    running = own.running;
    forward = own.forward;
    done = own.done;
    held = record { sends = own.held.sends; takes = own.held.takes };
    behind = own.behind;
    numbered = (let e = greatest_now z log ends rows i b k incarnation some r at_row u under in let f = logged in omega (arith, e, f));
    idle = λ n m.
        let was : is_under n r.under ≡ false = ap (is_under n) under ∙ sym (ap (λ (y : Option Under). is_under n (under_stepped y)) under) ∙ m in
        let off : nat_eq u.number n ≡ false = sym (ap (is_under n) under) ∙ was in
        let other : same_op (operation t u.number) (operation t n) ≡ false = other_number t t u.number n (λ e. true≢false (sym (eq-eqb u.number n e) ∙ off)) in
        ap (λ b. (b || began (operation t n) (items z log)) && not (over (operation t n) (items z log))) other ∙ own.idle n was;
    going = subst (λ (y : Option Under). IsAsPlanned z (x ∷ log) ends (row_stepped r) (under_stepped y)) (sym under) (going_now, g.1, aim_stepped r u.aim g.2);
  }

  stepped_is : (v : Under) → (row_stepped r).under ≡ Some v → (y : Under) × (r.under ≡ Some y) × ((p : ℕ) → latched_by v p ≡ latched_by y p)
  stepped_is v e = (u, under, (λ p. ap (λ (y : Under). latched_by y p) (sym (same_some stepped v (sym (ap under_stepped under) ∙ e))))) where
    same_some : (a b : Under) → Some a ≡ Some b → a ≡ b
    same_some a b e = same_Some a b e

  pub stands_step : AreStanding z (x ∷ log) ends (change_row t row_stepped rows) i b
  stands_step = stands_changed z log (x ∷ log) ends rows i b k t r row_stepped at_row (λ q. refl)
      (λ q n. says_page z log t q u.number w (not_txn t q n))
      (λ q j n v e h. other_steps z log ends q.txn v t u.number (not_txn t q.txn n) (not_txn q.txn t (λ s. n (sym s))) slots_good h w (others_apart z log ends rows i b k incarnation some r at_row u under q j n v e (w.at / 16) on_latched))
      own_now stepped_is (λ q n h. or_from _ _ (not_txn t q n) h)

  pub counts_step : AreCounted z (x ∷ log) (change_row t row_stepped rows) cells waiting
  counts_step = counted_step z log rows cells waiting t r u w whole c k.distinct at_row under next may.write.before slot
