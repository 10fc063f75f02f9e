-- Aborts, slot writes, begins and forces are steps of the model.
use Rattle.std.proofs.Common.{◌≡◌, ℕ, suc, ◌+◌, ◌-◌, ◌<◌, ◌≤◌, ◌^◌, ◌++◌, ◌&&◌, ◌||◌, List, [], ◌∷◌, length, map, refl, sym, ◌∙◌, ap, subst, Bool, true, false, not, nat_lt, nat_eq, Option, Some, None, arith}
use Rattle.std.specs.Prelude.{IsTrue}
use Rattle.std.proofs.lemmas.Bool.{and_from, eq-eqb, false_from_ne_true}
use Rattle.std.proofs.lemmas.Option.{slice_get_within}
use Rattle.std.proofs.lemmas.List.{map-append}
use Rattle.rq_model.specs.declared.txn.Txn.{Txn}
use Rattle.rq_model.specs.declared.record.Deed.{Deed}
use Rattle.rq_model.specs.History.{Entry, Job, Call}
use Rattle.rq_model.specs.Ledger.{Open, Ledger, change, found, fresh_one, runs, stepped as open_stepped}
use Rattle.rq_model.specs.Legal.{OnFound}
use Rattle.rq_model.specs.Replay.{Reply}
use Rattle.rq_model.specs.Tests.{NoneHolds, has_done, has_under, is_busy, log_full, newest, ready_tests, steps_left, turned, undo_cost}
use Rattle.rq_model.specs.Vocabulary.{Op, is_some, first, last}
use Rattle.rq_txn.specs.declared.Finished.{Finished}
use Rattle.rq_groups.specs.declared.Held.{Held}
use Rattle.rq_groups.specs.Ends.{has_held, held_by}
use Rattle.rq_groups.specs.Waiting.{waits}
use Rattle.rq_level.specs.declared.writes.SlotWrite.{SlotWrite}
use Rattle.rq_store.specs.State.{op_done, phase_of, State, ledger_of, open_of, open_ones_of, job_under, job_of_aim, left_under}
use Rattle.rq_store.specs.Steps.{took, page_op}
use Rattle.rq_store.proofs.Ends.{none_held}
use Rattle.rq_store.proofs.Within.{all_within}
use Rattle.rq_store.proofs.Owing.{one_longer}
use Rattle.rq_txn.specs.declared.Aim.{Aim}
use Rattle.rq_txn.specs.Rows.{Under, Row, found_row, fresh_row, row_stepped, under_stepped}
use Rattle.rq_store.specs.Settled.{AreEnds}
use Rattle.rq_store.proofs.RowLists.{found_in, some_not_none}
use Rattle.rq_txn.specs.declared.Aim.TheVariants as aims
use Rattle.rq_sound.specs.Standing.{IsAsPlanned}
use Rattle.rq_sound.specs.Sound.{IsSound}
use Rattle.rq_sound.specs.Starts.{MayUndo}
use Rattle.rq_sound.specs.Calls.{next_txn, begun, started, stepped, undone, aborting, aborted, forced, IsIdle, IsNextWrite, IsReady}
use Rattle.rq_sound.specs.ModelSteps.{IsModelStep}
use Rattle.rq_sound.specs.Theorems.{AbortsAreSteps}
use Rattle.rq_store.proofs.Opens.{found_open, open_found, busy_under}
use Rattle.rq_sound.proofs.Ledgers.{opens_change, aborting_after, aborted_after}
use Rattle.rq_sound.proofs.Contracts.{calls_keep, undo_entry, undo_start_entry}

last_done : (fs : List Finished) (f : Finished) → last (map op_done (fs ++ f ∷ [])) ≡ Some (op_done f)
last_done fs f = ap last (map-append op_done fs (f ∷ [])) ∙ at_end (map op_done fs) (op_done f) where
  at_end : (xs : List Op) (x : Op) → last (xs ++ x ∷ []) ≡ Some x
  at_end [] x = refl
  at_end (y ∷ ys) x = from y ys x where
    from : (y : Op) (ys : List Op) (x : Op) → last (y ∷ ys ++ x ∷ []) ≡ Some x
    from y [] x = refl
    from y (z ∷ zs) x = from z zs x

module _ (s : State) (k : IsSound s) (running : s.failed ≡ false) where
  abbrev l : Ledger
  l = ledger_of s

  pub runs_now : not (runs (phase_of s.failed)) ≡ false
  runs_now = ap (λ b. not (runs (phase_of b))) running

  pub at_open : (r : Row) → found_row r.txn s.rows ≡ Some r → found r.txn l.open_ones ≡ Some (open_of s.ends r)
  at_open r e = found_open s.ends r.txn s.rows ∙ ap (open_found s.ends) e

  -- a transaction with nothing under way
  pub is_ready : (r : Row) (a : Bool) → IsIdle s r → turned a (Some (open_of s.ends r)) ≡ false → NoneHolds (ready_tests l r.txn a)
  is_ready r a m open_one =
      let e = at_open r m.at_row in (
        runs_now,
        (ap (λ o. not (is_some o)) e, (ap (turned a) e ∙ open_one, (ap is_busy e ∙ busy_under r.under ∙ ap (λ (o : Option Under). is_some o) m.idle, tt))),
      )

  start_abort : (r : Row) → IsIdle s r → r.aborting ≡ false → IsModelStep s (Call.Start_abort r.txn) Reply.Gave_aborting (aborting s r)
  start_abort r m open_one = record {
    entry = Entry.Aborting r.txn;
    says = refl;
    legal = is_ready r false m open_one;
    after = aborting_after s r.txn;
    sound = calls_keep.starts_abort s r k m;
    goes_on = (0, refl);
    stays_forced = omega arith;
  }

  -- what a row with this operation under way shows to the tests
  number_is : (r : Row) (u : Under) → found_row r.txn s.rows ≡ Some r → r.under ≡ Some u → r.number ≡ u.number
  number_is r u e under = (subst (IsAsPlanned s.sizes s.records s.ends r) under (k.standing.each r (found_in r.txn s.rows r e).0).going).1

  pub under_here : (r : Row) (u : Under) → found_row r.txn s.rows ≡ Some r → r.under ≡ Some u → not (has_under u.number (found r.txn l.open_ones)) ≡ false
  under_here r u e under =
      ap (λ o. not (has_under u.number o)) (at_open r e)
      ∙ ap not (and_from (is_some (job_under r.under)) (nat_eq r.number u.number) (busy_under r.under ∙ ap (λ (o : Option Under). is_some o) under) (eq-eqb r.number u.number (number_is r u e under)))

  start_inverse : (r : Row) (u : Under) (rest : List Finished) (f : Finished) → MayUndo s r u rest f → log_full l (undo_cost (Some (op_done f))) ≡ false
      → IsModelStep s (Call.Undo_next r.txn) (Reply.Gave_sub r.txn (r.number + 1)) (started s r u s.ends)
  start_inverse r u rest f m room =
      let at : IsIdle s r = record { at_row = m.planned.at_row; idle = m.planned.idle } in
      let h = is_ready r true at (ap not m.aborting) in
      let done : last (map op_done r.finished) ≡ Some (op_done f) = ap (λ (fs : List Finished). last (map op_done fs)) m.newest ∙ last_done rest f in
      let newest_is : newest (found r.txn l.open_ones) ≡ Some (op_done f) = ap newest (at_open r at.at_row) ∙ done in
      record {
        entry = Entry.Started r.txn (r.number + 1) Job.Undoing;
        says = (refl, refl);
        legal = (
          (h.0, (h.1.0, (h.1.1.0, (h.1.1.1.0, (ap (λ n. is_some n && log_full l (undo_cost n)) newest_is ∙ room, tt))))),
          subst (λ o. OnFound o (λ (q : Open). (r.number + 1 ≡ q.number + 1) × IsTrue (is_some (last q.ops)))) (sym (at_open r at.at_row)) (refl, subst (λ o. IsTrue (is_some o)) (sym done) refl),
        );
        after = undo_start_entry s k r u rest f m;
        sound = calls_keep.starts_inverse s r u rest f k m;
        goes_on = (0, refl);
        stays_forced = omega arith;
      }

  step : (r : Row) (u : Under) (w : SlotWrite) (images : List (List ℕ)) → IsNextWrite s r u w images
      → IsModelStep s (Call.Step r.txn u.number) (Reply.Gave_lsn (length s.records + 1)) (stepped s r u w images)
  step r u w images m =
      let more = slice_get_within u.writes u.made w m.next in
      let opens = opens_change r.txn s.ends s.ends row_stepped open_stepped s.rows (λ q i e. open_after q) (λ q i n. refl) in
      record {
        entry = Entry.Stepped r.txn u.number (length s.records + 1);
        says = refl;
        legal = (
          (runs_now, (under_here r u m.at_row m.under, tt)),
          subst (λ o. OnFound o (λ (q : Open). 0 < q.left)) (sym (at_open r m.at_row)) (subst (λ (o : Option Under). 0 < left_under o) (sym m.under) (omega (arith, more))),
          refl,
        );
        after =
            ap (λ (os : List Open). record l { open_ones = os; records = length (stepped s r u w images).records }) opens
            ∙ ap (λ (n : ℕ). record l { open_ones = change r.txn open_stepped (open_ones_of s.ends s.rows); records = n }) (one_longer (page_op r.txn u.number w) s.records);
        sound = calls_keep.steps s r u w images k m;
        goes_on = (1, refl);
        stays_forced = omega arith;
      }
    where
      job_after : (o : Option Under) → job_under (under_stepped o) ≡ job_under o
      job_after None = refl
      job_after (Some v) = refl

      left_after : (o : Option Under) → left_under (under_stepped o) ≡ left_under o - 1
      left_after None = refl
      left_after (Some v) = omega arith

      open_after : (q : Row) → open_of s.ends (row_stepped q) ≡ open_stepped (open_of s.ends q)
      open_after q =
          ap (λ (j : Option Job). record (open_of s.ends q) { under = j; left = left_under (under_stepped q.under) }) (job_after q.under)
          ∙ ap (λ (n : ℕ). record (open_of s.ends q) { left = n }) (left_after q.under)

  pub none_to_make : (r : Row) (u : Under) → r.under ≡ Some u → u.made ≡ length u.writes → left_under r.under ≡ 0
  none_to_make r u under made = ap left_under under ∙ omega (arith, made)

  all_made : (r : Row) (u : Under) (aim : Aim) → IsReady s r u aim → IsModelStep s (Call.Step r.txn u.number) Reply.Gave_ready s
  all_made r u aim m = record {
    entry = Entry.Ready r.txn u.number;
    says = refl;
    legal = (
      (runs_now, (under_here r u m.at_row m.under, tt)),
      subst (λ o. OnFound o (λ (q : Open). q.left ≡ 0)) (sym (at_open r m.at_row)) (none_to_make r u m.under m.made),
    );
    after = refl;
    sound = k;
    goes_on = (0, refl);
    stays_forced = omega arith;
  }

  undo : (r : Row) (u : Under) (lsn : ℕ) (d : Deed) (ws : List ℕ) → IsReady s r u (aims.Undoing lsn d) → ((g : ℕ) → waits ws g ≡ waits s.waiting g + took g d)
      → IsModelStep s (Call.Finish r.txn u.number) Reply.Gave_undone (undone s r u lsn d ws)
  undo r u lsn d ws m more =
      let e = at_open r m.at_row in
      record {
        entry = Entry.Undid r.txn u.number;
        says = refl;
        legal = (
          (runs_now, (under_here r u m.at_row m.under, (ap steps_left e ∙ ap (λ n. nat_lt 0 n) (none_to_make r u m.under m.made), tt))),
          subst (λ o. OnFound o (λ (q : Open). q.under ≡ Some Job.Undoing)) (sym e) (ap job_under m.under ∙ ap (λ a. Some (job_of_aim a)) m.aim_is),
        );
        after = undo_entry s k r u lsn d ws m;
        sound = calls_keep.undoes s r u lsn d ws k m more;
        goes_on = (1, refl);
        stays_forced = omega arith;
      }

  none_left : (r : Row) → IsIdle s r → r.aborting ≡ true → r.finished ≡ [] → IsModelStep s (Call.Undo_next r.txn) Reply.Gave_nothing_left s
  none_left r m aborts empty =
      let h = is_ready r true m (ap not aborts) in
      let done : last (map op_done r.finished) ≡ None = ap (λ (fs : List Finished). last (map op_done fs)) empty in
      let newest_is : newest (found r.txn l.open_ones) ≡ None = ap newest (at_open r m.at_row) ∙ done in
      record {
        entry = Entry.None_left r.txn;
        says = refl;
        legal = (
          (h.0, (h.1.0, (h.1.1.0, (h.1.1.1.0, (ap (λ n. is_some n && log_full l (undo_cost n)) newest_is, tt))))),
          subst (λ o. OnFound o (λ (q : Open). last q.ops ≡ None)) (sym (at_open r m.at_row)) done,
        );
        after = refl;
        sound = k;
        goes_on = (0, refl);
        stays_forced = omega arith;
      }

  end_abort : (r : Row) → IsIdle s r → r.aborting ≡ true → r.finished ≡ [] → log_full l 1 ≡ false → IsModelStep s (Call.End_abort r.txn) Reply.Gave_aborted (aborted s r)
  end_abort r m aborts empty room =
      let h = is_ready r true m (ap not aborts) in
      let e = at_open r m.at_row in
      let done : has_done (found r.txn l.open_ones) ≡ false = ap has_done e ∙ ap (λ (fs : List Finished). is_some (first (map op_done fs))) empty in
      record {
        entry = Entry.Aborted r.txn;
        says = refl;
        legal = (h.0, (h.1.0, (h.1.1.0, (ap (λ b. b || has_done (found r.txn l.open_ones)) h.1.1.1.0 ∙ done, (room, tt)))));
        after = aborted_after s r.txn;
        sound = calls_keep.ends_abort s r k m empty;
        goes_on = (1, refl);
        stays_forced = omega arith;
      }

  force : IsModelStep s Call.Force (Reply.Gave_forced (length s.records)) (forced s)
  force = record {
    entry = Entry.Forced (length s.records);
    says = refl;
    legal = ((runs_now, tt), refl);
    after = ap (λ (n : ℕ). record l { forced = length s.records; durable = n }) (all_within s.records (length s.records) (omega arith));
    sound = calls_keep.forces s k;
    goes_on = (0, refl);
    stays_forced = k.forced;
  }

  -- the next transaction has no row, and holds nothing
  not_there : found_row (next_txn s) s.rows ≡ None
  not_there = at (found_row (next_txn s) s.rows) refl where
    at : (o : Option Row) → found_row (next_txn s) s.rows ≡ o → o ≡ None
    at None e = refl
    at (Some r) e =
        let i = found_in (next_txn s) s.rows r e in
        let c : r.txn.count ≤ s.begins = (k.standing.each r i.0).counted in
        let v : r.txn.count ≡ s.begins + 1 = ap (λ (t : Txn). t.count) i.1 in
        absurd (omega (arith, c, v))

  no_end : (hs : List Held) → AreEnds s.rows hs → held_by (next_txn s) hs ≡ []
  no_end hs a = none_held (next_txn s) hs (λ e. false_from_ne_true (has_held (next_txn s) e hs) (λ y. some_not_none (found_row (next_txn s) s.rows) (a.living (next_txn s) e y) not_there))

  open_fresh : open_of s.ends (fresh_row (next_txn s)) ≡ fresh_one (next_txn s)
  open_fresh =
      ap (λ (g : List ℕ). record (fresh_one (next_txn s)) { sending = g; receiving = held_by (next_txn s) s.ends.receiving }) (no_end s.ends.sending k.standing.sending)
      ∙ ap (λ (g : List ℕ). record (fresh_one (next_txn s)) { receiving = g }) (no_end s.ends.receiving k.standing.receiving)

  begin : (not (nat_lt (length s.rows) 4096) || nat_eq s.begins (2 ^ 64 - 1)) ≡ false → IsModelStep s Call.Begin (Reply.Gave_txn (next_txn s)) (begun s)
  begin room = record {
    entry = Entry.Begun (next_txn s);
    says = refl;
    legal = ((runs_now, (ap (λ n. not (nat_lt n 4096) || nat_eq s.begins (2 ^ 64 - 1)) (as_many s.rows) ∙ room, tt)), refl, refl);
    after = ap (λ (o : Open). record l { open_ones = o ∷ open_ones_of s.ends s.rows; begins = s.begins + 1 }) open_fresh;
    sound = calls_keep.begins s k;
    goes_on = (0, refl);
    stays_forced = omega arith;
  } where
    as_many : (rows : List Row) → length (open_ones_of s.ends rows) ≡ length rows
    as_many [] = refl
    as_many (r ∷ rows) = ap suc (as_many rows)

pub abort_steps : AbortsAreSteps
abort_steps = record {
  begins = λ s k running room. begin s k running room;
  starts_abort = λ s r k running m open_one. start_abort s k running r m open_one;
  starts_inverse = λ s r u rest f k running m room. start_inverse s k running r u rest f m room;
  steps = λ s r u w images k running m. step s k running r u w images m;
  all_made = λ s r u aim k running m. all_made s k running r u aim m;
  undoes = λ s r u lsn d ws k running m more. undo s k running r u lsn d ws m more;
  none_left = λ s r k running m aborts empty. none_left s k running r m aborts empty;
  ends_abort = λ s r k running m aborts empty room. end_abort s k running r m aborts empty room;
  forces = λ s k running. force s k running;
}
