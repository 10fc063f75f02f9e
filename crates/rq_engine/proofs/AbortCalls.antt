-- What the calls of an abort answer, from what their bodies found and made.
use Rattle.std.proofs.Common.{◌≡◌, ℕ, ◌+◌, ◌-◌, ◌<◌, ◌≤◌, ◌&&◌, ◌||◌, ◌++◌, List, [], ◌∷◌, length, refl, sym, ◌∙◌, ap, subst, Bool, true, false, not, Option, Some, None, IfSome, option_map, arith, inl, inr}
use Rattle.std.proofs.lemmas.Bool.{cases_Bool, false≢true, or_right}
use Rattle.std.proofs.lemmas.Option.{same_Some}
use Rattle.rq_model.specs.declared.txn.Txn.{Txn}
use Rattle.rq_model.specs.declared.txn.Sub.{Sub}
use Rattle.rq_model.specs.Commits.{op_of}
use Rattle.rq_model.specs.Content.{said}
use Rattle.rq_model.specs.declared.record.Deed.{Deed}
use Rattle.rq_model.specs.declared.record.Deed.TheVariants.{Append, Close, Mark, UnlinkHead}
use Rattle.rq_model.specs.declared.record.Record.{Record}
use Rattle.rq_model.specs.declared.record.Record.TheVariants.{AbortEnd}
use Rattle.rq_model.specs.declared.refusal.Refusal.TheVariants as why
use Rattle.rq_model.specs.History.Call.{End_abort, Finish, Start_abort, Undo_next}
use Rattle.rq_model.specs.Ledger.{found, runs}
use Rattle.rq_model.specs.Legal.{OnFound}
use Rattle.rq_model.specs.Tests.{IsUnready, NoneHolds, Passes, has_done, is_aborting, is_busy, log_full, newest, ready_tests, undo_cost}
use Rattle.rq_model.specs.Replay.Reply.{Gave_aborted, Gave_aborting, Gave_nothing_left, Gave_sub, Gave_undone}
use Rattle.rq_model.specs.Vocabulary.{In, first, front, is_some, last, last_or, same_txn}
use Rattle.rq_model.proofs.Lists.{same_is}
use Rattle.rq_views.specs.Claims.{appends_of, takes_of}
use Rattle.rq_views.specs.Plans.{deed_sender}
use Rattle.rq_views.specs.Stored.{slots_in}
use Rattle.rq_txn.specs.declared.Aim.TheVariants.{Doing, Undoing}
use Rattle.rq_txn.specs.declared.Finished.{Finished}
use Rattle.rq_txn.specs.Rows.{AreDistinct, Row, Under, change_row, deed_of, finished_at, found_row, row_aborting, row_ended, row_finished, row_started, row_taken_back, row_undone, without_row}
use Rattle.rq_txn.proofs.Finding.{change_none}
use Rattle.rq_groups.specs.Ends.{HeldEnds, released}
use Rattle.rq_store.specs.State.{State, job_under, ledger_of, op_done, open_of, phase_of, size_of}
use Rattle.rq_store.proofs.RowLists.{found_in}
use Rattle.rq_planner.specs.Answered.{IsNewestDeed}
use Rattle.rq_sound.specs.Counted.{appends_aim}
use Rattle.rq_sound.specs.Plans.{AreUnlatched}
use Rattle.rq_sound.specs.Rows.{comp_end}
use Rattle.rq_sound.specs.Sound.{IsSound}
use Rattle.rq_sound.specs.ModelSteps.{IsModelStep}
use Rattle.rq_sound.proofs.AbortSteps.{abort_steps}
use Rattle.rq_sound.proofs.Planned.{plans_start}
use Rattle.rq_sound.proofs.Refusals.{tests_read}
use Rattle.rq_sound.specs.Inverses.{MayBeUndone}
use Rattle.rq_sound.proofs.Inverses.{may_be_undone as newest_may}
use Rattle.rq_engine.specs.Aborts.{IsTurnedBack, IsUndoPlan, UndoIsLatched, newest_of}
use Rattle.rq_engine.specs.Answers.{HasNothingUnderWay, IsUnderWay, Refuses}
use Rattle.rq_engine.specs.Moves.{with_taken}
use Rattle.rq_engine.proofs.Calls.{AllMade, going_of}
use Rattle.rq_engine.proofs.Latches.{undo_busy}
use Rattle.rq_engine.specs.Invariant.{IsConsistent}
use Rattle.rq_engine.proofs.Keeping.{kept_aborted, kept_aborting}
use Rattle.rq_engine.proofs.Refusals.{found_none, found_of, found_some, no_memory, not_full, refuse}
use Rattle.rq_engine.proofs.Standing.{at_own, going_at, refused_steps}
use Rattle.rq_engine.proofs.Waits.{waits-with_taken}

-- ---- which tests hold

module _ (s : State) (t : Txn) where
  -- a transaction that is not aborting, or has an operation under way
  pub back_unknown : s.failed ≡ false → found_row t s.rows ≡ None → IsUnready (ledger_of s) t true why.UnknownTransaction
  back_unknown e f = record { first = rw (e, found_none s t f) refl; plain = refl }

  pub not_aborting : (r : Row) → s.failed ≡ false → found_row t s.rows ≡ Some r → r.aborting ≡ false → IsUnready (ledger_of s) t true why.NotOpen
  not_aborting r e f a = record { first = rw (e, found_some s t r f, a) refl; plain = refl }

  pub back_unfinished : (r : Row) → s.failed ≡ false → found_row t s.rows ≡ Some r → r.aborting ≡ true → is_some r.under ≡ true → IsUnready (ledger_of s) t true why.Unfinished
  back_unfinished r e f a b = record { first = rw (e, found_some s t r f, a, busy r b) refl; plain = refl } where
    busy : (r : Row) → is_some r.under ≡ true → is_busy (Some (open_of s.ends r)) ≡ true
    busy r h = job r.under h where
      job : (o : Option Under) → is_some o ≡ true → is_some (job_under o) ≡ true
      job None h = absurd (false≢true h)
      job (Some u) h = refl

  pub back_ready : (r : Row) → s.failed ≡ false → found_row t s.rows ≡ Some r → r.aborting ≡ true → r.under ≡ None → NoneHolds (ready_tests (ledger_of s) t true)
  back_ready r e f a b = (ap (λ x. not (runs (phase_of x))) e, (ap (λ o. not (is_some o)) (found_some s t r f), (ap (λ o. not (is_aborting o)) (found_some s t r f) ∙ ap not a, (ap is_busy (found_some s t r f) ∙ ap (λ o. is_some (job_under o)) b, tt))))

-- ---- what was done last

last_none : (fs : List Finished) → last fs ≡ None → fs ≡ []
last_none [] e = refl
last_none (f ∷ fs) e = cc e

last_some : (fs : List Finished) (f : Finished) → last fs ≡ Some f → fs ≡ front fs ++ f ∷ []
last_some [] f e = cc e
last_some (g ∷ fs) f e = at g fs f e where
  at : (g : Finished) (fs : List Finished) (f : Finished) → Some (last_or g fs) ≡ Some f → g ∷ fs ≡ front (g ∷ fs) ++ f ∷ []
  at g [] f e = let same : g ≡ f = cc e in ap (λ y. y ∷ []) same
  at g (h ∷ fs) f e = ap (λ l. g ∷ l) (at h fs f e)

-- what is found newest in the state inside, is so of the state
pub is_newest_of : (s inside : State) (t : Txn) (o found : Option Finished) → inside ≡ s → o ≡ newest_of inside t → o ≡ found → newest_of s t ≡ found
is_newest_of s inside t o found same e is = ap (λ (x : State). newest_of x t) (sym same) ∙ sym e ∙ is

-- what takes a deed back is counted as a few records
pub cost_few : (d : Deed) → undo_cost (Some (op_of (said d))) ≤ 4
cost_few (Append sender sequence tag previous body) = omega arith
cost_few (UnlinkHead sender sequence tag body) = omega arith
cost_few (Close sender) = omega arith
cost_few (Mark client tag previous) = omega arith

-- what is so of all is so of the last
pub last_kept : (P : Finished → Type 0) (fs : List Finished) (o : Option Finished) → last fs ≡ o → ((f : Finished) → In f fs → P f) → IfSome o P
last_kept P fs o e h = subst (λ (x : Option Finished). IfSome x P) e (at fs h) where
  at : (fs : List Finished) → ((f : Finished) → In f fs → P f) → IfSome (last fs) P
  at [] h = tt
  at (f ∷ fs) h = from f fs h where
    from : (f : Finished) (fs : List Finished) → ((x : Finished) → In x (f ∷ fs) → P x) → P (last_or f fs)
    from f [] h = h f (inl refl)
    from f (g ∷ fs) h = from g fs (λ x i. h x (inr i))

pub turned_back : (s : State) (t : Txn) (r : Row) (o : Option Finished) → found_row t s.rows ≡ Some r → (r.under ≡ None) × (r.number + 1 ≡ r.number + 1) × (r.aborting ≡ true) × (last r.finished ≡ o) → IsTurnedBack s t (r.number + 1) o
turned_back s t r o e h = subst (λ (x : Option Row). OnFound x (λ q. (q.under ≡ None) × (r.number + 1 ≡ q.number + 1) × (q.aborting ≡ true) × (last q.finished ≡ o))) (sym e) h

-- the row of a transaction that aborts, with nothing under way
module _ (s : State) (t : Txn) (n : ℕ) (o : Option Finished) (h : IsTurnedBack s t n o) where
  abbrev turned_row : (r : Row) × (found_row t s.rows ≡ Some r) × ((r.under ≡ None) × (n ≡ r.number + 1) × (r.aborting ≡ true) × (last r.finished ≡ o))
  turned_row = found_of (λ r. (r.under ≡ None) × (n ≡ r.number + 1) × (r.aborting ≡ true) × (last r.finished ≡ o)) (found_row t s.rows) h

  pub turned_idle : HasNothingUnderWay s t n
  turned_idle = subst (λ (x : Option Row). OnFound x (λ r. (r.under ≡ None) × (n ≡ r.number + 1))) (sym turned_row.1) (turned_row.2.0, turned_row.2.1)

  pub turned_newest : OnFound (found_row t s.rows) (λ r. last r.finished ≡ o)
  turned_newest = subst (λ (x : Option Row). OnFound x (λ r. last r.finished ≡ o)) (sym turned_row.1) turned_row.2.3

  -- what the model finds it did last
  pub newest_found : newest (found t (ledger_of s).open_ones) ≡ option_map op_done o
  newest_found = at_own s t turned_row.0 (λ q. newest (found q (ledger_of s).open_ones) ≡ option_map op_done o) turned_row.1
      (λ e. tests_read.newest_is s turned_row.0 e ∙ ap (option_map op_done) turned_row.2.3)

-- ---- an abort begins

pub abort_kept : (s : State) (f : Bool) (o res n : ℕ) (t : Txn) → IsConsistent s f o res → HasNothingUnderWay s t n → IsConsistent (record s { rows = change_row t row_aborting s.rows }) f o res
abort_kept s f o res n t k h =
    let r = found_of (λ r. (r.under ≡ None) × (n ≡ r.number + 1)) (found_row t s.rows) h in
    kept_aborting s f o res k t r.0 r.1

pub abort_done : (s : State) (t : Txn) (n : ℕ) → s.failed ≡ false → NoneHolds (ready_tests (ledger_of s) t false) → HasNothingUnderWay s t n
    → IsSound s → IsModelStep s (Start_abort t) Gave_aborting (record s { rows = change_row t row_aborting s.rows })
abort_done s t n running tested h k =
    let r = found_of (λ r. (r.under ≡ None) × (n ≡ r.number + 1)) (found_row t s.rows) h in
    let forward : r.0.aborting ≡ false = sym (ap is_aborting (found_some s t r.0 r.1)) ∙ tested.1.1.0 in
    at_own s t r.0 (λ q. IsModelStep s (Start_abort q) Gave_aborting (record s { rows = change_row q row_aborting s.rows })) r.1
    (λ e. abort_steps.starts_abort s r.0 k running (record { at_row = e; idle = r.2.0 }) forward)

-- ---- and ends

pub end_unfinished : (s : State) (t : Txn) (n : ℕ) (f : Finished) → s.failed ≡ false → NoneHolds (ready_tests (ledger_of s) t true) → IsTurnedBack s t n (Some f) → Refuses s (End_abort t) why.Unfinished
end_unfinished s t n f running h back k =
    let r = turned_row s t n (Some f) back in
    let some : has_done (found t (ledger_of s).open_ones) ≡ true =
    at_own s t r.0 (λ q. has_done (found q (ledger_of s).open_ones) ≡ true) r.1 (λ e. tests_read.done_is s r.0 e ∙ not_empty r.0.finished r.2.3) in
    let done : (is_busy (found t (ledger_of s).open_ones) || has_done (found t (ledger_of s).open_ones)) ≡ true = or_right (is_busy (found t (ledger_of s).open_ones)) _ some in
    refuse s (End_abort t) why.Unfinished refl tt (rw (h.0, h.1.0, h.1.1.0, done) refl) k
  where
    not_empty : (fs : List Finished) → last fs ≡ Some f → is_some (first fs) ≡ true
    not_empty [] e = cc e
    not_empty (g ∷ fs) e = refl

-- all is undone
module _ (s : State) (t : Txn) (n : ℕ) (h : NoneHolds (ready_tests (ledger_of s) t true)) (back : IsTurnedBack s t n None) where
  all_undone : (is_busy (found t (ledger_of s).open_ones) || has_done (found t (ledger_of s).open_ones)) ≡ false
  all_undone =
      let r = turned_row s t n None back in
      let none : has_done (found t (ledger_of s).open_ones) ≡ false =
      at_own s t r.0 (λ q. has_done (found q (ledger_of s).open_ones) ≡ false) r.1 (λ e. tests_read.done_is s r.0 e ∙ ap (λ fs. is_some (first fs)) (last_none r.0.finished r.2.3)) in
      rw (h.1.1.1.0, none) refl

  pub end_full : log_full (ledger_of s) 1 ≡ true → Refuses s (End_abort t) why.LogFull
  end_full full k = refuse s (End_abort t) why.LogFull refl tt (rw (h.0, h.1.0, h.1.1.0, all_undone, full) refl) k

  -- memory is wanting
  pub end_memory : s.failed ≡ false → log_full (ledger_of s) 1 ≡ false → Refuses s (End_abort t) why.NoMemory
  end_memory running room = no_memory s (End_abort t) running (λ _. (h.0, (h.1.0, (h.1.1.0, (all_undone, (room, tt)))))) (λ _. refl)

pub aborted_kept : (s : State) (f : Bool) (o res n : ℕ) (t : Txn) (x : Record) (ends : HeldEnds) → IsConsistent s f o res → HasNothingUnderWay s t n → log_full (ledger_of s) 1 ≡ false
    → IsConsistent (record s { rows = without_row t s.rows; ends = ends; records = x ∷ s.records }) f o res
aborted_kept s f o res n t x ends k h room =
    let r = found_of (λ r. (r.under ≡ None) × (n ≡ r.number + 1)) (found_row t s.rows) h in
    kept_aborted s f o res k t r.0 r.1 x ends r.2.0 (not_full s 1 room)

pub aborted_done : (s : State) (t : Txn) (n : ℕ) → s.failed ≡ false → IsTurnedBack s t n None → log_full (ledger_of s) 1 ≡ false → IsSound s
    → IsModelStep s (End_abort t) Gave_aborted (record s { rows = without_row t s.rows; ends = record { sending = released t s.ends.sending; receiving = released t s.ends.receiving }; records = AbortEnd t ∷ s.records })
aborted_done s t n running back room k =
    let r = turned_row s t n None back in
    at_own s t r.0 (λ q. IsModelStep s (End_abort q) Gave_aborted (record s { rows = without_row q s.rows; ends = record { sending = released q s.ends.sending; receiving = released q s.ends.receiving }; records = AbortEnd q ∷ s.records })) r.1
    (λ e. abort_steps.ends_abort s r.0 k running (record { at_row = e; idle = r.2.0 }) r.2.2 (last_none r.0.finished r.2.3) room)

-- ---- inverses

pub none_done : (s : State) (t : Txn) (n : ℕ) → s.failed ≡ false → IsTurnedBack s t n None → IsSound s → IsModelStep s (Undo_next t) Gave_nothing_left s
none_done s t n running back k =
    let r = turned_row s t n None back in
    at_own s t r.0 (λ q. IsModelStep s (Undo_next q) Gave_nothing_left s) r.1
    (λ e. abort_steps.none_left s r.0 k running (record { at_row = e; idle = r.2.0 }) r.2.2 (last_none r.0.finished r.2.3))

module _ (s : State) (t : Txn) (n : ℕ) (f : Finished) (h : NoneHolds (ready_tests (ledger_of s) t true)) (back : IsTurnedBack s t n (Some f)) where
  pub some_left : is_some (newest (found t (ledger_of s).open_ones)) ≡ true
  some_left = ap (λ o. is_some o) (newest_found s t n (Some f) back)

  pub cost_found : undo_cost (newest (found t (ledger_of s).open_ones)) ≡ undo_cost (Some (op_done f))
  cost_found = ap undo_cost (newest_found s t n (Some f) back)

  pub undo_full : log_full (ledger_of s) (undo_cost (Some (op_done f))) ≡ true → Refuses s (Undo_next t) why.LogFull
  undo_full full k =
      let test : (is_some (newest (found t (ledger_of s).open_ones)) && log_full (ledger_of s) (undo_cost (newest (found t (ledger_of s).open_ones)))) ≡ true =
      rw (some_left) (ap (log_full (ledger_of s)) cost_found ∙ full) in
      refuse s (Undo_next t) why.LogFull refl tt (rw (h.0, h.1.0, h.1.1.0, h.1.1.1.0, test) refl) k

  pub undo_passes : log_full (ledger_of s) (undo_cost (Some (op_done f))) ≡ false → Passes (size_of s.sizes) (ledger_of s) (Undo_next t)
  undo_passes room =
      let test : (is_some (newest (found t (ledger_of s).open_ones)) && log_full (ledger_of s) (undo_cost (newest (found t (ledger_of s).open_ones)))) ≡ false =
      rw (some_left) (ap (log_full (ledger_of s)) cost_found ∙ room) in
      (h.0, (h.1.0, (h.1.1.0, (h.1.1.1.0, (test, tt)))))

  -- an inverse that memory is wanting for
  pub undo_memory : s.failed ≡ false → log_full (ledger_of s) (undo_cost (Some (op_done f))) ≡ false → Refuses s (Undo_next t) why.NoMemory
  undo_memory running room = no_memory s (Undo_next t) running (λ _. undo_passes room) (λ _. some_left)

  -- it is the newest deed of a transaction with nothing under way
  pub is_newest : IsNewestDeed s f.deed
  is_newest =
      let r : (r : Row) × (found_row t s.rows ≡ Some r) × ((r.under ≡ None) × (n ≡ r.number + 1) × (r.aborting ≡ true) × (last r.finished ≡ Some f)) = turned_row s t n (Some f) back in
      record {
        row = r.0;
        older = front r.0.finished;
        lsn = f.lsn;
        number = f.number;
        idle = record { at_row = ap (λ (q : Txn). found_row q s.rows) (found_in t s.rows r.0 r.1).1 ∙ r.1; idle = r.2.0 };
        last = last_some r.0.finished f r.2.3;
      }

  -- what it needs is there
  pub may_be_undone : IsSound s → MayBeUndone s f.deed
  may_be_undone k = newest_may s is_newest.row is_newest.older (record { lsn = is_newest.lsn; number = is_newest.number; deed = f.deed }) k is_newest.idle is_newest.last

  -- an inverse that meets a latched page
  pub undo_refused : (IsSound s → MayBeUndone s f.deed) → log_full (ledger_of s) (undo_cost (Some (op_done f))) ≡ false → UndoIsLatched s f.deed → Refuses s (Undo_next t) why.Latched
  undo_refused may room on k = (refused_steps s k (Undo_next t) why.Latched (undo_passes room, some_left) refl, undo_busy s k f.deed (may k) on)

  -- an inverse that has started
  pub undo_done : (new : State) (u : Under) → s.failed ≡ false → u.number ≡ n → AreUnlatched s u.writes → IsUndoPlan s.sizes (slots_in s.sizes s.images) u f → log_full (ledger_of s) (undo_cost (Some (op_done f))) ≡ false
      → new ≡ record s { rows = change_row t (row_started u) s.rows } → IsSound s → IsModelStep s (Undo_next t) (Gave_sub t n) new
  undo_done new u running number off plan room is k =
      let r = turned_row s t n (Some f) back in
      let newest = last_some r.0.finished f r.2.3 in
      let none : appends_aim u.aim ≡ 0 = ap appends_aim plan.aim in
      let cells : s.cells_in_use + appends_aim u.aim ≡ s.cells_in_use = omega (arith, none) in
      subst (λ (x : State). IsModelStep s (Undo_next t) (Gave_sub t n) x) (sym is)
      (subst (λ (m : ℕ). IsModelStep s (Undo_next t) (Gave_sub t m) (record s { rows = change_row t (row_started u) s.rows })) (sym r.2.1)
      (at_own s t r.0 (λ q. IsModelStep s (Undo_next q) (Gave_sub q (r.0.number + 1)) (record s { rows = change_row q (row_started u) s.rows })) r.1 (λ e.
      subst (λ (c : ℕ). IsModelStep s (Undo_next r.0.txn) (Gave_sub r.0.txn (r.0.number + 1)) (record s { rows = change_row r.0.txn (row_started u) s.rows; cells_in_use = c })) cells
      (abort_steps.starts_inverse s r.0 u (front r.0.finished) f k running
      (plans_start.inverses s r.0 u (front r.0.finished) f k (record { idle = record { at_row = e; idle = r.2.0 }; number = number ∙ r.2.1; made = plan.made; aim_is = plan.aim; free = off }) plan.plan r.2.2 newest)
      room))))

-- ---- and end

same_change : (t : Txn) (f g : Row → Row) (rows : List Row) (r : Row) → AreDistinct rows → found_row t rows ≡ Some r → f r ≡ g r → change_row t f rows ≡ change_row t g rows
same_change t f g [] r d e same = refl
same_change t f g (x ∷ rows) r d e same = elim (cases_Bool (same_txn x.txn t)) [
  | inl y ↦
      let is : x ≡ r = same_Some x r (rw y at e) in
      let none : found_row t rows ≡ None = subst (λ q. found_row q rows ≡ None) (same_is x.txn t y) d.0 in
      let here : f x ≡ g x = ap f is ∙ same ∙ ap g (sym is) in
      rw y (ap (λ z. z ∷ change_row t f rows) here ∙ ap (λ l. g x ∷ l) (change_none t f rows none ∙ sym (change_none t g rows none)))
  | inr n ↦ rw n (ap (λ l. x ∷ l) (same_change t f g rows r d.1 (rw n at e) same))
]

-- its deed is finished
pub ended_rows : (s : State) (f : Bool) (o res : ℕ) → IsConsistent s f o res → (sub : Sub) (d : Deed) (lsn : ℕ) → IsUnderWay s sub (AllMade (Doing d)) → change_row sub.txn (row_ended lsn) s.rows ≡ change_row sub.txn (row_finished (record { lsn = lsn; number = sub.number; deed = d })) s.rows
ended_rows s f o res k sub d lsn h =
    let g = going_of s sub (AllMade (Doing d)) h in
    same_change sub.txn (row_ended lsn) (row_finished (record { lsn = lsn; number = sub.number; deed = d })) s.rows g.row k.distinct g.found
    (ap (λ o. record g.row { finished = g.row.finished ++ finished_at lsn o; under = None }) g.is
    ∙ ap (λ n. row_finished (record { lsn = lsn; number = n; deed = deed_of g.under.aim }) g.row) g.number
    ∙ ap (λ a. row_finished (record { lsn = lsn; number = sub.number; deed = deed_of a }) g.row) g.so.1)

pub undone_done : (s new : State) (sub : Sub) (lsn : ℕ) (d : Deed) → s.failed ≡ false → (takes_of d ≡ 1 → deed_sender d < length s.waiting) → IsUnderWay s sub (AllMade (Undoing lsn d))
    → new ≡ record s { rows = change_row sub.txn row_taken_back s.rows; records = comp_end sub.txn sub.number lsn ∷ s.records; cells_in_use = s.cells_in_use - appends_of d; waiting = with_taken d s.waiting }
    → IsSound s → IsModelStep s (Finish sub.txn sub.number) Gave_undone new
undone_done s new sub lsn d running within h is k =
    let g = going_of s sub (AllMade (Undoing lsn d)) h in
    let made = (going_at s k sub.txn g.row g.under g.found g.is).0 in
    let all = g.so.0 in
    let rows = same_change sub.txn (row_undone (front g.row.finished)) row_taken_back s.rows g.row k.standing.distinct g.found refl in
    let a = at_own s sub.txn g.row (λ q. IsModelStep s (Finish q g.under.number) Gave_undone (record s { rows = change_row q (row_undone (front g.row.finished)) s.rows; records = comp_end q g.under.number lsn ∷ s.records; cells_in_use = s.cells_in_use - appends_of d; waiting = with_taken d s.waiting })) g.found
    (λ e. abort_steps.undoes s g.row g.under lsn d (with_taken d s.waiting) k running (record { at_row = e; under = g.is; aim_is = g.so.1; made = omega (arith, made, all) }) (λ p. waits-with_taken d s.waiting p within)) in
    let b = subst (λ (n : ℕ). IsModelStep s (Finish sub.txn n) Gave_undone (record s { rows = change_row sub.txn (row_undone (front g.row.finished)) s.rows; records = comp_end sub.txn n lsn ∷ s.records; cells_in_use = s.cells_in_use - appends_of d; waiting = with_taken d s.waiting })) g.number a in
    subst (λ (x : State). IsModelStep s (Finish sub.txn sub.number) Gave_undone x) (sym is)
    (subst (λ (rs : List Row). IsModelStep s (Finish sub.txn sub.number) Gave_undone (record s { rows = rs; records = comp_end sub.txn sub.number lsn ∷ s.records; cells_in_use = s.cells_in_use - appends_of d; waiting = with_taken d s.waiting })) rows b)
