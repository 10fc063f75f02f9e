-- What is counted stays so at each call, and leaves room for what is put back.
use Rattle.std.proofs.Common.{◌≡◌, ◌≢◌, ℕ, ◌+◌, ◌-◌, ◌/◌, ◌%◌, ◌≤◌, ◌++◌, List, [], ◌∷◌, length, take, map, reverse, refl, sym, ◌∙◌, ap, subst, nat_eq, Option, Some, None, inl, inr, arith}
use Rattle.std.specs.List.{sum_by, filter_map, slice_get}
use Rattle.std.proofs.lemmas.Bool.{cases_Bool, eqb-true}
use Rattle.std.proofs.lemmas.List.{length-map, take_all, length-append, map-append}
use Rattle.std.proofs.lemmas.List.Elements.{filter_map-append}
use Rattle.std.proofs.lemmas.List.Sums.{sum_by_push}
use Rattle.rq_model.specs.declared.txn.Txn.{Txn}
use Rattle.rq_model.specs.declared.txn.Sub.{Sub}
use Rattle.rq_model.specs.declared.record.Deed.{Deed}
use Rattle.rq_model.specs.declared.record.Deed.TheVariants.{Append, UnlinkHead, Close, Mark}
use Rattle.rq_model.specs.declared.record.Record.{Record}
use Rattle.rq_model.specs.declared.record.Record.TheVariants.{AbortEnd}
use Rattle.rq_model.specs.Vocabulary.{In, Op, taken_from}
use Rattle.rq_model.specs.Content.{said}
use Rattle.rq_model.specs.Commits.{op_of}
use Rattle.rq_model.specs.Deeds.{TellsItself}
use Rattle.rq_page.specs.Sizes.{Sizes, cell_count, address}
use Rattle.rq_page.specs.Slots.{IsSlotOf, held_in}
use Rattle.rq_views.specs.Log.{Slots, Write, put, applied, HasBefores}
use Rattle.rq_views.specs.Items.{items, layout_of, operation}
use Rattle.rq_views.specs.Legal.{Placed, open_deeds}
use Rattle.rq_views.specs.Plans.{deed_sender}
use Rattle.rq_views.specs.Stored.{count_used}
use Rattle.rq_views.specs.InStore.{WritesStand}
use Rattle.rq_level.specs.Writes.{write_of, writes_of}
use Rattle.rq_level.specs.declared.writes.SlotWrite.{SlotWrite}
use Rattle.rq_views.proofs.Counting.{used_one, gained, lost, count_put}
use Rattle.rq_views.proofs.Stands.{slots_stand, quiet_stand, writes_stand, slot_stands}
use Rattle.rq_views.proofs.Views.{good}
use Rattle.rq_txn.specs.declared.Finished.{Finished}
use Rattle.rq_groups.specs.Ends.{HeldEnds}
use Rattle.rq_groups.specs.Waiting.{waits}
use Rattle.rq_store.specs.State.{op_done}
use Rattle.rq_store.specs.Rows.{HasWaiting}
use Rattle.rq_views.specs.Claims.{takes_of, appends_of}
use Rattle.rq_views.proofs.Claims.{did_counts, undid_counts}
use Rattle.rq_store.specs.Settled.{takes_one}
use Rattle.rq_store.specs.Fitting.{left_by}
use Rattle.rq_store.specs.Steps.{page_op, op_end, took}
use Rattle.rq_store.specs.Whole.{IsWhole}
use Rattle.rq_txn.specs.declared.Aim.{Aim}
use Rattle.rq_txn.specs.Rows.{Under, Row, deed_of, found_row, change_row, without_row, AreDistinct, row_started, under_stepped, row_stepped, row_finished, row_undone, row_aborting}
use Rattle.rq_txn.specs.declared.Aim.TheVariants.{Doing, Undoing}
use Rattle.rq_store.proofs.RowLists.{found_in, changed, gone}
use Rattle.rq_store.proofs.RowSums.{rows_one, rows_sum, rows_without}
use Rattle.rq_sound.specs.Rows.{turn_of, comp_end}
use Rattle.rq_sound.specs.Standing.{FollowsPlan}
use Rattle.rq_sound.specs.Counted.{AreCounted, IsCovered, CoversAim, appends_aim, appending, appending_in, takes_all, appends_one, appends_all, uses_before, uses_after, made_of, before_in, after_in, takes_in}
use Rattle.rq_sound.proofs.UsedCells.{plan_counts, count_made}
use Rattle.rq_sound.proofs.Going.{take_next, get_written}

took_more : (g : ℕ) (fs : List Finished) (f : Finished) → length (filter_map (taken_from g) (map op_done (fs ++ f ∷ []))) ≡ length (filter_map (taken_from g) (map op_done fs)) + took g f.deed
took_more g fs f =
    let a : length (filter_map (taken_from g) (map op_done (fs ++ f ∷ []))) ≡ length (filter_map (taken_from g) (map op_done fs ++ op_done f ∷ [])) = ap (λ (l : List Op). length (filter_map (taken_from g) l)) (map-append op_done fs (f ∷ [])) in
    let b : length (filter_map (taken_from g) (map op_done fs ++ op_done f ∷ [])) ≡ length (filter_map (taken_from g) (map op_done fs) ++ filter_map (taken_from g) (op_done f ∷ [])) = ap length (filter_map-append (taken_from g) (map op_done fs) (op_done f ∷ [])) in
    let c = length-append (filter_map (taken_from g) (map op_done fs)) (filter_map (taken_from g) (op_done f ∷ [])) in
    let h = one g f.deed in
    omega (arith, a, b, c, h)
  where
    one : (g : ℕ) (d : Deed) → length (filter_map (taken_from g) (op_of (said d) ∷ [])) ≡ took g d
    one g (Append q n tag previous body) = refl
    one g (UnlinkHead q n tag body) = elim (cases_Bool (nat_eq q g)) [ inl y ↦ rw y refl | inr n ↦ rw n refl ]
    one g (Close q) = refl
    one g (Mark c tag previous) = refl

-- what a deed is to take waits
enough : (g : ℕ) (ws : List ℕ) (d : Deed) → HasWaiting ws d → took g d ≤ waits ws g
enough g ws (Append q n tag previous body) h = omega arith
enough g ws (UnlinkHead q n tag body) h = elim (cases_Bool (nat_eq q g)) [
  | inl y ↦ rw y (let e = eqb-true q g y in let w : waits ws q ≡ waits ws g = ap (waits ws) e in omega (arith, h, w))
  | inr n ↦ rw n (omega arith)
]
enough g ws (Close q) h = omega arith
enough g ws (Mark c tag previous) h = omega arith

took_none : (g : ℕ) (d : Deed) → deed_sender d ≢ g → took g d ≡ 0
took_none g (Append q n tag previous body) ne = refl
took_none g (UnlinkHead q n tag body) ne = elim (cases_Bool (nat_eq q g)) [ inl y ↦ absurd (ne (eqb-true q g y)) | inr n ↦ rw n refl ]
took_none g (Close q) ne = refl
took_none g (Mark c tag previous) ne = refl

-- of an operation whose writes are all made, the quiet slots take them in
module _ (z : Sizes) (log : List Record) (ends : HeldEnds) (t : Txn) (u : Under) (whole : IsWhole z log) (made : u.made ≡ length u.writes) (g : FollowsPlan z log ends t u) where
  abbrev o : Sub
  o = operation t u.number

  abbrev ws : List Write
  ws = writes_of z u.writes

  all_made : take u.made ws ≡ ws
  all_made = ap (λ n. take n ws) (made ∙ sym (length-map u.writes (write_of z))) ∙ take_all (length ws) ws (omega arith)

  pub writes_are : (left_by z log).writes o ≡ reverse ws
  writes_are = g.written ∙ ap reverse all_made

  abbrev quiet : Slots
  quiet = (left_by z log).quiet

  pub quiet_now : count_used z (applied ((left_by z log).writes o) quiet) + sum_by uses_before (take u.made ws) ≡ count_used z quiet + sum_by uses_after (take u.made ws)
  quiet_now =
      let stand = subst (λ vs. WritesStand z vs) writes_are (writes_stand z log o whole.in_store) in
      let fits = subst (λ vs. HasBefores vs quiet) writes_are ((good (layout_of z) (items z log) whole.legal).fits o) in
      let a = count_made z ws quiet (quiet_stand z log whole.in_store) stand fits in
      let b : count_used z (applied ((left_by z log).writes o) quiet) ≡ count_used z (applied (reverse ws) quiet) = ap (λ vs. count_used z (applied vs quiet)) writes_are in
      let c : sum_by uses_before (take u.made ws) ≡ sum_by uses_before ws = ap (sum_by uses_before) all_made in
      let d : sum_by uses_after (take u.made ws) ≡ sum_by uses_after ws = ap (sum_by uses_after) all_made in
      omega (arith, a, b, c, d)

  pub quiet_moved : count_used z (applied ((left_by z log).writes o) quiet) + lost (turn_of u.aim) ≡ count_used z quiet + gained (turn_of u.aim)
  quiet_moved =
      let a = quiet_now in
      let b = plan_counts (layout_of z) (turn_of u.aim) ws g.plan in
      let c : sum_by uses_before (take u.made ws) ≡ sum_by uses_before ws = ap (sum_by uses_before) all_made in
      let d : sum_by uses_after (take u.made ws) ≡ sum_by uses_after ws = ap (sum_by uses_after) all_made in
      omega (arith, a, b, c, d)

same_appending : (o : Option Under) → appending (under_stepped o) ≡ appending o
same_appending None = refl
same_appending (Some u) = refl

same_covered : (ws : List ℕ) (o : Option Under) → IsCovered ws o → IsCovered ws (under_stepped o)
same_covered waiting None h = h
same_covered waiting (Some u) h = h

-- a write is made
module _ (z : Sizes) (log : List Record) (rows : List Row) (cells : ℕ) (waiting : List ℕ) (t : Txn) (r : Row) (u : Under) (w : SlotWrite) (whole : IsWhole z log) (c : AreCounted z log rows cells waiting) (distinct : AreDistinct rows)
    (at_row : found_row t rows ≡ Some r) (under : r.under ≡ Some u) (next : slice_get u.writes u.made ≡ Some w) (before : held_in z (w.at / 16) w.before ≡ (left_by z log).slots (address (w.at / 16) (w.at % 16))) (slot : IsSlotOf z (w.at / 16) (w.at % 16) w.after) where
  abbrev wr : Write
  wr = record { at = address (w.at / 16) (w.at % 16); before = held_in z (w.at / 16) w.before; after = held_in z (w.at / 16) w.after }

  next_is : slice_get (writes_of z u.writes) u.made ≡ Some wr
  next_is = get_written (write_of z) u.writes u.made w next ∙ ap (λ (y : Write). Some y) (ap (λ (a : ℕ). record { at = a; before = held_in z (w.at / 16) w.before; after = held_in z (w.at / 16) w.after }) (let e : w.at ≡ address (w.at / 16) (w.at % 16) = omega arith in e))

  more : (f : Write → ℕ) → sum_by f (made_of z (under_stepped r.under)) ≡ sum_by f (made_of z r.under) + f wr
  more f =
      ap (λ (o : Option Under). sum_by f (made_of z (under_stepped o))) under
      ∙ ap (sum_by f) (take_next (writes_of z u.writes) u.made wr next_is)
      ∙ sum_by_push f (take u.made (writes_of z u.writes)) wr
      ∙ ap (λ (o : Option Under). sum_by f (made_of z o) + f wr) (sym under)

  room_now : count_used z (put (left_by z log).slots wr.at wr.after) + sum_by (before_in z) (change_row t row_stepped rows) ≡ count_used z (left_by z log).quiet + sum_by (after_in z) (change_row t row_stepped rows)
  room_now =
      let q = (left_by z log).slots in
      let a : count_used z (put q wr.at wr.after) + used_one (q wr.at) ≡ count_used z q + used_one wr.after = count_put z q wr.at wr.after (slots_stand z log whole.in_store wr.at) (slot_stands z (w.at / 16) (w.at % 16) w.after slot) in
      let b : used_one (q wr.at) ≡ uses_before wr = ap used_one (sym before) in
      let d = rows_one (before_in z) t row_stepped rows r distinct at_row in
      let e = rows_one (after_in z) t row_stepped rows r distinct at_row in
      let f = more uses_before in
      let h = more uses_after in
      let k = c.room in
      omega (arith, a, b, d, e, f, h, k)

  pub counted_step : AreCounted z (page_op t u.number w ∷ log) (change_row t row_stepped rows) cells waiting
  counted_step =
      let a : sum_by appends_all (change_row t row_stepped rows) ≡ sum_by appends_all rows = rows_sum appends_all t row_stepped rows (λ q i e. refl) in
      let b : sum_by appending_in (change_row t row_stepped rows) ≡ sum_by appending_in rows = rows_sum appending_in t row_stepped rows (λ q i e. same_appending q.under) in
      let d : sum_by takes_all (change_row t row_stepped rows) ≡ sum_by takes_all rows = rows_sum takes_all t row_stepped rows (λ q i e. refl) in
      let k1 = c.committed in
      let k3 = c.used in
      record {
        committed = omega (arith, a, b, k1);
        used = omega (arith, b, d, k3);
        room = room_now;
        bound = c.bound;
        waited = λ g m. ap (λ n. waits waiting g + n) (rows_sum (takes_in g) t row_stepped rows (λ q i e. refl)) ∙ c.waited g m;
        covered = λ q i. elim (changed t row_stepped rows r q distinct at_row i) [
          | inl e ↦ subst (λ (y : Row). IsCovered waiting y.under) (sym e) (same_covered waiting r.under (c.covered r (found_in t rows r at_row).0))
          | inr h ↦ c.covered q h.0
        ];
      }

-- an operation starts
module _ (z : Sizes) (log : List Record) (rows : List Row) (cells : ℕ) (waiting : List ℕ) (t : Txn) (r : Row) (u : Under) (c : AreCounted z log rows cells waiting) (distinct : AreDistinct rows)
    (at_row : found_row t rows ≡ Some r) (idle : r.under ≡ None) (made : u.made ≡ 0) (bound : cells + appends_aim u.aim ≤ cell_count z) (covers : CoversAim waiting u.aim) where
  none_made : (f : Write → ℕ) → sum_by f (take u.made (writes_of z u.writes)) ≡ sum_by f (made_of z r.under)
  none_made f = ap (λ n. sum_by f (take n (writes_of z u.writes))) made ∙ ap (λ (o : Option Under). sum_by f (made_of z o)) (sym idle)

  pub counted_start : AreCounted z log (change_row t (row_started u) rows) (cells + appends_aim u.aim) waiting
  counted_start =
      let g = row_started u in
      let a = rows_one appends_all t g rows r distinct at_row in
      let b = rows_one appending_in t g rows r distinct at_row in
      let d = rows_one takes_all t g rows r distinct at_row in
      let e = rows_one (before_in z) t g rows r distinct at_row in
      let f = rows_one (after_in z) t g rows r distinct at_row in
      let h : appending r.under ≡ 0 = ap appending idle in
      let i = none_made uses_before in
      let j = none_made uses_after in
      let k1 = c.committed in
      let k3 = c.used in
      let k4 = c.room in
      record {
        committed = omega (arith, a, b, h, k1);
        used = omega (arith, b, d, h, k3);
        room = omega (arith, e, f, i, j, k4);
        bound = bound;
        waited = λ g m. (let x = rows_one (takes_in g) t (row_started u) rows r distinct at_row in let y = c.waited g m in omega (arith, x, y));
        covered = λ q i. elim (changed t (row_started u) rows r q distinct at_row i) [
          | inl e ↦ subst (λ (y : Row). IsCovered waiting y.under) (sym e) covers
          | inr h ↦ c.covered q h.0
        ];
      }

-- what other operations under way are to take waits still
still_covered : (ws vs : List ℕ) (d : Deed) (o : Option Under) → ((g : ℕ) → waits vs g ≡ waits ws g - took g d) → ((v : Under) → o ≡ Some v → deed_sender d ≢ deed_sender (deed_of v.aim)) → IsCovered ws o → IsCovered vs o
still_covered ws vs d None fewer ne h = tt
still_covered ws vs d (Some v) fewer ne h = at v.aim refl h where
  waiting : (e : Deed) → deed_sender d ≢ deed_sender e → HasWaiting ws e → HasWaiting vs e
  waiting (Append g n tag previous body) n2 h = tt
  waiting (UnlinkHead g n tag body) n2 h = let a = fewer g in let b = took_none g d n2 in omega (arith, a, b, h)
  waiting (Close g) n2 h = tt
  waiting (Mark c tag previous) n2 h = tt

  at : (a : Aim) → v.aim ≡ a → CoversAim ws a → CoversAim vs a
  at (Doing e) is h = waiting e (λ same. ne v refl (same ∙ sym (ap (λ a. deed_sender (deed_of a)) is))) h
  at (Undoing lsn e) is h = tt

-- an operation ends whose writes are all made
module _ (z : Sizes) (log : List Record) (ends : HeldEnds) (rows : List Row) (cells : ℕ) (waiting ws : List ℕ) (t : Txn) (r : Row) (u : Under) (d : Deed) (whole : IsWhole z log) (c : AreCounted z log rows cells waiting) (distinct : AreDistinct rows)
    (at_row : found_row t rows ≡ Some r) (under : r.under ≡ Some u) (aim : u.aim ≡ Doing d) (made : u.made ≡ length u.writes) (g : FollowsPlan z log ends t u) (reads : TellsItself d)
    (fewer : (g : ℕ) → waits ws g ≡ waits waiting g - took g d) (apart : (q : Row) → In q rows → q.txn ≢ t → (v : Under) → q.under ≡ Some v → deed_sender d ≢ deed_sender (deed_of v.aim)) where
  abbrev f : Finished
  f = record { lsn = length log + 1; number = u.number; deed = d }

  abbrev to : Row → Row
  to = row_finished f

  covers : HasWaiting waiting d
  covers = subst (CoversAim waiting) aim (subst (IsCovered waiting) under (c.covered r (found_in t rows r at_row).0))

  moved : count_used z (applied ((left_by z log).writes (operation t u.number)) (left_by z log).quiet) + takes_of d ≡ count_used z (left_by z log).quiet + appends_of d
  moved =
      let a = quiet_moved z log ends t u whole made g in
      let b : lost (turn_of u.aim) ≡ takes_of d = ap (λ a. lost (turn_of a)) aim ∙ (did_counts d).0 in
      let e : gained (turn_of u.aim) ≡ appends_of d = ap (λ a. gained (turn_of a)) aim ∙ (did_counts d).1 in
      omega (arith, a, b, e)

  pub counted_finish : AreCounted z (op_end t u.number d ∷ log) (change_row t to rows) cells ws
  counted_finish =
      let a = rows_one appends_all t to rows r distinct at_row in
      let b = rows_one appending_in t to rows r distinct at_row in
      let e = rows_one takes_all t to rows r distinct at_row in
      let h = rows_one (before_in z) t to rows r distinct at_row in
      let i = rows_one (after_in z) t to rows r distinct at_row in
      let a1 : appends_all (to r) ≡ appends_all r + appends_of d = sum_by_push appends_one r.finished f in
      let b1 : appending_in r ≡ appends_of d = ap appending under ∙ ap appends_aim aim in
      let e1 : takes_all (to r) ≡ takes_all r + takes_of d = sum_by_push takes_one r.finished f in
      let h1 : before_in z r ≡ sum_by uses_before (take u.made (writes_of z u.writes)) = ap (λ (o : Option Under). sum_by uses_before (made_of z o)) under in
      let i1 : after_in z r ≡ sum_by uses_after (take u.made (writes_of z u.writes)) = ap (λ (o : Option Under). sum_by uses_after (made_of z o)) under in
      let q = quiet_now z log ends t u whole made g in
      let m = moved in
      let k1 = c.committed in
      let k3 = c.used in
      let k4 = c.room in
      record {
        committed = omega (arith, a, b, a1, b1, k1);
        used = omega (arith, b, e, b1, e1, k3, m);
        room = omega (arith, h, i, h1, i1, q, k4);
        bound = c.bound;
        waited = λ g m. (
            let x = rows_one (takes_in g) t to rows r distinct at_row in
            let x1 : takes_in g (to r) ≡ takes_in g r + took g d = took_more g r.finished f in
            let y = c.waited g m in
            let v = fewer g in
            let n = enough g waiting d covers in
            omega (arith, x, x1, y, v, n)
            );
        covered = λ q i. elim (changed t to rows r q distinct at_row i) [
          | inl e ↦ subst (λ (y : Row). IsCovered ws y.under) (sym e) tt
          | inr h ↦ still_covered waiting ws d q.under fewer (apart q h.0 h.1) (c.covered q h.0)
        ];
      }

more_covered : (ws vs : List ℕ) (o : Option Under) → ((g : ℕ) → waits ws g ≤ waits vs g) → IsCovered ws o → IsCovered vs o
more_covered ws vs None more h = tt
more_covered ws vs (Some v) more h = at v.aim h where
  waiting : (e : Deed) → HasWaiting ws e → HasWaiting vs e
  waiting (Append g n tag previous body) h = tt
  waiting (UnlinkHead g n tag body) h = let a = more g in omega (arith, a, h)
  waiting (Close g) h = tt
  waiting (Mark c tag previous) h = tt

  at : (a : Aim) → CoversAim ws a → CoversAim vs a
  at (Doing e) h = waiting e h
  at (Undoing lsn e) h = tt

-- a compensation ends whose writes are all made
module _ (z : Sizes) (log : List Record) (ends : HeldEnds) (rows : List Row) (cells : ℕ) (waiting ws : List ℕ) (t : Txn) (r : Row) (u : Under) (lsn : ℕ) (d : Deed) (fs : List Finished) (whole : IsWhole z log) (c : AreCounted z log rows cells waiting) (distinct : AreDistinct rows)
    (at_row : found_row t rows ≡ Some r) (under : r.under ≡ Some u) (aim : u.aim ≡ Undoing lsn d) (made : u.made ≡ length u.writes) (g : FollowsPlan z log ends t u)
    (number : ℕ) (newest : r.finished ≡ fs ++ record { lsn = lsn; number = number; deed = d } ∷ []) (rest : List Placed) (done : open_deeds t (items z log) ≡ record { lsn = lsn; deed = d } ∷ rest)
    (more : (g : ℕ) → waits ws g ≡ waits waiting g + took g d) where
  abbrev back : Row → Row
  back = row_undone fs

  moved_back : count_used z (applied ((left_by z log).writes (operation t u.number)) (left_by z log).quiet) + appends_of d ≡ count_used z (left_by z log).quiet + takes_of d
  moved_back =
      let a = quiet_moved z log ends t u whole made g in
      let b : lost (turn_of u.aim) ≡ appends_of d = ap (λ a. lost (turn_of a)) aim ∙ (undid_counts d).0 in
      let e : gained (turn_of u.aim) ≡ takes_of d = ap (λ a. gained (turn_of a)) aim ∙ (undid_counts d).1 in
      omega (arith, a, b, e)

  pub counted_undo : AreCounted z (comp_end t u.number lsn ∷ log) (change_row t back rows) (cells - appends_of d) ws
  counted_undo =
      let f : Finished = record { lsn = lsn; number = number; deed = d } in
      let a = rows_one appends_all t back rows r distinct at_row in
      let b = rows_one appending_in t back rows r distinct at_row in
      let e = rows_one takes_all t back rows r distinct at_row in
      let h = rows_one (before_in z) t back rows r distinct at_row in
      let i = rows_one (after_in z) t back rows r distinct at_row in
      let a1 : appends_all r ≡ appends_all (back r) + appends_of d = ap (sum_by appends_one) newest ∙ sum_by_push appends_one fs f in
      let b1 : appending_in r ≡ 0 = ap appending under ∙ ap appends_aim aim in
      let e1 : takes_all r ≡ takes_all (back r) + takes_of d = ap (sum_by takes_one) newest ∙ sum_by_push takes_one fs f in
      let h1 : before_in z r ≡ sum_by uses_before (take u.made (writes_of z u.writes)) = ap (λ (o : Option Under). sum_by uses_before (made_of z o)) under in
      let i1 : after_in z r ≡ sum_by uses_after (take u.made (writes_of z u.writes)) = ap (λ (o : Option Under). sum_by uses_after (made_of z o)) under in
      let q = quiet_now z log ends t u whole made g in
      let m = moved_back in
      let k1 = c.committed in
      let k3 = c.used in
      let k4 = c.room in
      let k5 = c.bound in
      record {
        committed = omega (arith, a, b, a1, b1, k1);
        used = omega (arith, a, b, e, a1, b1, e1, k1, k3, m);
        room = omega (arith, h, i, h1, i1, q, k4);
        bound = omega (arith, k5);
        waited = λ g m. (
            let x = rows_one (takes_in g) t back rows r distinct at_row in
            let x1 : takes_in g r ≡ takes_in g (back r) + took g d = ap (λ (l : List Finished). length (filter_map (taken_from g) (map op_done l))) newest ∙ took_more g fs f in
            let y = c.waited g m in
            let v = more g in
            omega (arith, x, x1, y, v)
            );
        covered = λ q i. elim (changed t back rows r q distinct at_row i) [
          | inl e ↦ subst (λ (y : Row). IsCovered ws y.under) (sym e) tt
          | inr h ↦ more_covered waiting ws q.under (λ g. (let v = more g in omega (arith, v))) (c.covered q h.0)
        ];
      }

-- a transaction that has undone all ends
module _ (z : Sizes) (log : List Record) (rows : List Row) (cells : ℕ) (waiting : List ℕ) (t : Txn) (r : Row) (c : AreCounted z log rows cells waiting) (distinct : AreDistinct rows) (at_row : found_row t rows ≡ Some r) (idle : r.under ≡ None) (empty : r.finished ≡ []) where
  out : (f : Row → ℕ) → f r ≡ 0 → sum_by f (without_row t rows) ≡ sum_by f rows
  out f e = let a = rows_without f t rows r distinct at_row in omega (arith, a, e)

  pub counted_abort : AreCounted z (AbortEnd t ∷ log) (without_row t rows) cells waiting
  counted_abort =
      let a = out appends_all (ap (sum_by appends_one) empty) in
      let b = out appending_in (ap appending idle) in
      let e = out takes_all (ap (sum_by takes_one) empty) in
      let h = out (before_in z) (ap (λ (o : Option Under). sum_by uses_before (made_of z o)) idle) in
      let i = out (after_in z) (ap (λ (o : Option Under). sum_by uses_after (made_of z o)) idle) in
      let k1 = c.committed in
      let k3 = c.used in
      let k4 = c.room in
      record {
        committed = omega (arith, a, b, k1);
        used = omega (arith, b, e, k3);
        room = omega (arith, h, i, k4);
        bound = c.bound;
        waited = λ g m. (let x = out (takes_in g) (ap (λ (l : List Finished). length (filter_map (taken_from g) (map op_done l))) empty) in let y = c.waited g m in omega (arith, x, y));
        covered = λ q i. c.covered q (gone t rows q i).0;
      }

-- it starts to abort
pub counted_aborting : (z : Sizes) (log : List Record) (rows : List Row) (cells : ℕ) (waiting : List ℕ) (t : Txn) (r : Row) → AreCounted z log rows cells waiting → AreDistinct rows → found_row t rows ≡ Some r → AreCounted z log (change_row t row_aborting rows) cells waiting
counted_aborting z log rows cells waiting t r c distinct at_row =
    let same : (f : Row → ℕ) → ((q : Row) → f (row_aborting q) ≡ f q) → sum_by f (change_row t row_aborting rows) ≡ sum_by f rows = (λ f e. rows_sum f t row_aborting rows (λ q i k. e q)) in
    let a = same appends_all (λ q. refl) in
    let b = same appending_in (λ q. refl) in
    let e = same takes_all (λ q. refl) in
    let h = same (before_in z) (λ q. refl) in
    let i = same (after_in z) (λ q. refl) in
    let k1 = c.committed in
    let k3 = c.used in
    let k4 = c.room in
    record {
      committed = omega (arith, a, b, k1);
      used = omega (arith, b, e, k3);
      room = omega (arith, h, i, k4);
      bound = c.bound;
      waited = λ g m. (let x = same (takes_in g) (λ q. refl) in let y = c.waited g m in omega (arith, x, y));
      covered = λ q i. elim (changed t row_aborting rows r q distinct at_row i) [
        | inl e ↦ subst (λ (y : Row). IsCovered waiting y.under) (sym e) (c.covered r (found_in t rows r at_row).0)
        | inr h ↦ c.covered q h.0
      ];
    }
