-- The records by which one lost transaction after the other is undone, of a store that is shown.
use Rattle.std.proofs.Common.{◌≡◌, ℕ, zero, suc, ◌+◌, ◌<◌, ◌≤◌, ◌^◌, nat_eq, true, false, List, [], ◌∷◌, length, take, get_or, Option, Some, None, inl, inr, refl, sym, ◌∙◌, ap, subst, arith}
use Rattle.std.specs.List.{slice_get}
use Rattle.std.proofs.lemmas.Bool.{cases_lt, and_parts, or_cases, eqb-true, false≢true}
use Rattle.std.proofs.lemmas.List.{length-map}
use Rattle.rq_disk.specs.Device.{Images}
use Rattle.rq_model.specs.declared.record.Record.{Record}
use Rattle.rq_model.specs.declared.record.Record.TheVariants as records
use Rattle.rq_model.specs.declared.refusal.Refusal.{Refusal}
use Rattle.rq_model.specs.declared.refusal.Refusal.TheVariants as why
use Rattle.rq_model.specs.declared.refusal.Damage.TheVariants as damage
use Rattle.rq_model.specs.declared.txn.Sub.{Sub}
use Rattle.rq_model.specs.declared.txn.Txn.{Txn}
use Rattle.rq_model.specs.Deeds.{deed_by}
use Rattle.rq_model.specs.Unended.{lost}
use Rattle.rq_model.specs.Vocabulary.{In, same_txn}
use Rattle.rq_page.specs.Sizes.{Sizes}
use Rattle.rq_pool.specs.Pooled.{IsPool, Pooled}
use Rattle.rq_views.specs.Items.{items, item_of, layout_of, operation}
use Rattle.rq_views.specs.Legal.{IsLegalLog, began, is_of, of_op}
use Rattle.rq_views.specs.Log.{Item, Places}
use Rattle.rq_views.specs.Numbers.{AreNumbered, greatest, number_in}
use Rattle.rq_views.specs.Plans.Turn.{Undid}
use Rattle.rq_views.specs.Stored.{slots_in}
use Rattle.rq_views.proofs.Numbers.{all_begun, began_within}
use Rattle.rq_level.specs.declared.writes.SlotWrite.{SlotWrite}
use Rattle.rq_level.specs.Writes.{IsSlotWrite}
use Rattle.rq_txn.specs.Rows.{Row}
use Rattle.rq_store.specs.State.{State}
use Rattle.rq_store.specs.Steps.{page_op}
use Rattle.rq_store.specs.Whole.{IsWhole}
use Rattle.rq_sound.specs.Plans.{IsPlannedFrom}
use Rattle.rq_sound.specs.Rows.{comp_end}
use Rattle.rq_sound.specs.Sound.{IsSound}
use Rattle.rq_analysis.specs.OpenWorkView.{OpenWorkView, open_work_of, without_txn}
use Rattle.rq_sound.specs.Inverses.{InverseTakesLowest}
use Rattle.rq_analysis.specs.declared.dues.PendingUndo.{PendingUndo}
use Rattle.rq_analysis.specs.Choices.{least_free}
use Rattle.rq_analysis.specs.Dues.{any_due, but_own, deed_due, dues}
use Rattle.rq_analysis.specs.Moves.{newest_store}
use Rattle.rq_analysis.specs.Numbers.{number_of, numbers}
use Rattle.rq_analysis.specs.Walk.{IsBetween, IsWithin, ShowsUndone}
use Rattle.rq_analysis.proofs.Choosing.{chosen_back, least_there}
use Rattle.rq_analysis.proofs.Logging.{write_whole}
use Rattle.rq_analysis.proofs.Moving.{moves_sound}
use Rattle.rq_analysis.proofs.Numbering.{kept, none_below}
use Rattle.rq_analysis.proofs.Owing.{rest_due}
use Rattle.rq_planner.specs.Backs.{IsTakingBack}
use Rattle.rq_analysis.proofs.Planning.{due_may, due_reads}
use Rattle.rq_analysis.proofs.Recovering.{behind}
use Rattle.rq_analysis.proofs.Walking.{aborts_go_on}
use Rattle.rq_restart.specs.declared.analysis.Analysis.{Analysis}
use Rattle.rq_restart.specs.Aborting.{AbortStops, AbortsFrom, CannotBeTaken, HasAborted, IsAbortingFrom, IsBadStep, IsMaking, IsNotUndone, IsOnItsWay, IsPlannedOn, IsShown, IsShownWithin, IsTakenNext, OfStore, PlanStops, RepeatedSince, with_writes}
use Rattle.rq_restart.specs.Aborting.IsAborting.{Between as BetweenRounds}
use Rattle.rq_restart.specs.Aborting.IsBadStep.{BadDue}
use Rattle.rq_restart.specs.Aborting.IsOnItsWay.{Between, Within}
use Rattle.rq_restart.specs.Again.{NotToldFor}
use Rattle.rq_restart.specs.Checked.{IsEnded}
use Rattle.rq_disk.specs.declared.device.LogDevice.{Ghosts}
use Rattle.rq_disk.specs.declared.device.PageDevice as page_device
use Rattle.rq_restart.specs.Found.{IsAnalysisOf}
use Rattle.rq_restart.specs.Repeating.{Belongs, IsRecordRedone, Repeats, paged}
use Rattle.rq_restart.specs.Undoing.{FailsWith, StepStops, failures}
use Rattle.rq_restart.proofs.Aborts.{aborting_none, aborts_end, active_lost, closing_aborts, making_aborts, one_gone, one_stops, planned_here}
use Rattle.rq_restart.proofs.Aborts as aborts
use Rattle.rq_restart.proofs.DueLists.{nobody_left, one_next, own_stay}
use Rattle.rq_restart.proofs.Planning.{lowest_is, plan_is, shows_can}
use Rattle.rq_model.specs.Bases.{marked}
use Rattle.rq_store.specs.Fitting.{image_in, told_by}
use Rattle.rq_store.specs.Opening.{Redoes}
use Rattle.rq_engine.specs.Earlier.{rebased}
use Rattle.rq_restart.proofs.Pasts.{dues_on, length_on, numbers_on, past_more, work_on}
use Rattle.rq_restart.proofs.Showing.{HoldsLog, belongs_next, between_holds, put_next, within_holds}

-- ---- numbers

one_is : (t : Txn) (n : ℕ) (o : Option Sub) → is_of (operation t n) o ≡ true → number_in t o ≡ n
one_is t n None e = absurd (false≢true e)
one_is t n (Some o) e =
    let k = and_parts (same_txn o.txn t) (nat_eq o.number n) e in
    rw k.0 (eqb-true o.number n k.1)

-- a record raises it by one at most
rises : (l : Places) (t : Txn) (r : Item) (log : List Item) → IsLegalLog l (r ∷ log) → AreNumbered (r ∷ log) → greatest t (r ∷ log) ≤ greatest t log + 1
rises l t r log g h = elim (cases_lt (greatest t log + 1) (greatest t (r ∷ log))) [
  | inr low ↦ low
  | inl high ↦
      let n : ℕ = greatest t log + 1 in
      let y : began (operation t n) (r ∷ log) ≡ true = all_begun l t n (r ∷ log) g h (omega arith) (omega (arith, high)) in
      elim (or_cases (is_of (operation t n) (of_op r)) (began (operation t n) log) y) [
        | inl own ↦ (let e = one_is t n (of_op r) own in absurd (omega (arith, e, high)))
        | inr older ↦ (let w = began_within t n log older in absurd (omega (arith, w)))
      ]
]

few_numbers : (l : Places) (t : Txn) (log : List Item) → IsLegalLog l log → AreNumbered log → greatest t log ≤ length log
few_numbers l t [] g h = omega arith
few_numbers l t (r ∷ log) g h = (let a = rises l t r log g h in let b = few_numbers l t log g.1 h.1 in omega (arith, a, b))

-- the next that is found is one of those that have no end
pub least_in : (log : List Record) (f : Analysis) → IsAnalysisOf f log → (t : Txn) → least_free f.dues f.open_work.active ≡ Some t → In t (open_work_of log).active
least_in log f are t e = subst (In t) (ap (λ h. h.active) are.open_work) (least_there f.dues f.open_work.active t e)

-- who is next by what is found is next by the log
pub least_of : (log : List Record) (f : Analysis) → IsAnalysisOf f log → (o : Option Txn) → least_free f.dues f.open_work.active ≡ o → least_free (dues log) (open_work_of log).active ≡ o
least_of log f are o e = ap (λ (h : OpenWorkView). least_free (dues log) h.active) (sym are.open_work) ∙ ap (λ l. least_free l f.open_work.active) (sym are.dues) ∙ e

-- ---- a store that is shown

module _ {P : Type 0} (z : Sizes) (log : List Record) (old : Pooled P) (f : Analysis) (are : IsAnalysisOf f log) where
  abbrev shown : List Record → State → Type 0
  shown = IsShown log old

  module _ (x : List Record) (base : State) (k : IsSound base) (same : base.sizes ≡ z) (b : shown x base) where
    abbrev all : List Record
    all = rebased x log

    holds : HoldsLog base.sizes old.images all
    holds = between_holds base old.images all k b.1

    whole_shown : IsWhole z all
    whole_shown = subst (λ y. IsWhole y all) same holds.whole

    dues_shown : dues all ≡ f.dues
    dues_shown = dues_on x log b.0 holds.whole.based ∙ sym are.dues

    -- those that are found to have no end are lost
    pub found_lost : f.open_work.active ≡ lost all
    found_lost = ap (λ h. h.active) are.open_work ∙ ap (λ (h : OpenWorkView). h.active) (sym (work_on x log b.0 holds.whole.based)) ∙ active_lost z all whole_shown

    least_is : (o : Option Txn) → least_free f.dues f.open_work.active ≡ o → least_free (dues all) (lost all) ≡ o
    least_is o e = ap (λ ts. least_free (dues all) ts) (sym found_lost) ∙ ap (λ ds. least_free ds f.open_work.active) dues_shown ∙ e

  pub shown_way : OfStore z shown (λ e base. IsOnItsWay base (rebased e log))
  shown_way x base k same b = Between old.images b.1

  -- the end of the next that has nothing due
  module _ (t : Txn) (e : least_free f.dues f.open_work.active ≡ Some t) where
    then : (x : List Record) (base : State) → IsSound base → base.sizes ≡ z → shown x base → IsBetween base old.images (records.AbortEnd t ∷ rebased x log)
    then x base k same b = aborts_go_on.ends base old.images (rebased x log) t k b.1 (least_is x base k same b (Some t) e)

    pub end_belongs : OfStore z shown (λ x base. Belongs z log (records.AbortEnd t) (paged old))
    end_belongs x base k same b =
        let h = holds x base k same b in
        let w = (between_holds base old.images (records.AbortEnd t ∷ rebased x log) k (then x base k same b)).whole in
        subst (λ l. Belongs z l (records.AbortEnd t) (paged old)) b.0
        (subst (λ y. Belongs y (marked (rebased x log)) (records.AbortEnd t) (paged old)) same (belongs_next base.sizes old.images (rebased x log) (records.AbortEnd t) h w refl))

    pub end_shown : (new : Pooled P) → new ≡ old → OfStore z shown (IsShown (records.AbortEnd t ∷ log) new)
    end_shown new is x base k same b = (
      past_more x log (records.AbortEnd t) refl refl b.0,
      subst (λ (p : Pooled P). IsBetween base p.images (records.AbortEnd t ∷ rebased x log)) (sym is) (then x base k same b),
    )

    turn : least_free (dues log) (open_work_of log).active ≡ Some t
    turn = least_of log f are (Some t) e

    pub end_gone : (new : Pooled P) → new ≡ old → IsRecordRedone z log (records.AbortEnd t) (paged old) (paged new) → HasAborted z log old (records.AbortEnd t ∷ log) new
    end_gone new is one =
        one_gone z (AbortsFrom z log old (records.AbortEnd t ∷ log)) log (records.AbortEnd t) old new shown (IsShown (records.AbortEnd t ∷ log) new) (aborts_end z (RepeatedSince z log (paged old)) log t turn) refl one (end_shown new is)

    pub end_stops : (x : Refusal) → StepStops (length log) (Belongs z log (records.AbortEnd t) (paged old)) x → AbortStops z (IsAbortingFrom z log old) log old shown x
    end_stops x step =
        one_stops z (IsAbortingFrom z log old) log (records.AbortEnd t) old shown (aborting_none z (RepeatedSince z log (paged old)) log) (BetweenRounds (aborts_end z (RepeatedSince z log (paged old)) log t turn)) x step shown_way end_belongs

  -- what is due first
  module _ (d : PendingUndo) (ds : List PendingUndo) (first : f.dues ≡ d ∷ ds) (none : least_free f.dues f.open_work.active ≡ None) where
    first_is : dues log ≡ d ∷ ds
    first_is = sym are.dues ∙ first

    module _ (x : List Record) (base : State) (k : IsSound base) (same : base.sizes ≡ z) (b : shown x base) where
      first_on : dues (rebased x log) ≡ d ∷ ds
      first_on = dues_shown x base k same b ∙ first

      row : (r : Row) × (r.txn ≡ d.txn) × In r (newest_store base b.1.stores).rows
      row =
          let s = newest_store base b.1.stores in
          let sound : IsSound s = moves_sound base b.1.stores k (behind base b.1.stores b.1.come.turns) in
          let records = b.1.come.records_are in
          let h = chosen_back s sound b.1.come.lost d ds (subst (λ l. least_free (dues l) (lost l) ≡ None) (sym records) (least_is x base k same b None none)) (ap dues records ∙ first_on) in
          (h.0, h.3, h.4.row)

    -- it can be planned
    pub begin_shown : (ws : List SlotWrite) (n : ℕ) → IsTakingBack z (slots_in z old.images) (deed_by d.level d.deed) ws → n ≡ number_of d.txn f.numbers + 1 → OfStore z shown (IsShownWithin log old d n ws 0)
    begin_shown ws n back number x base k same b =
        let all : List Record = rebased x log in
        let planned : IsPlannedFrom base.sizes (slots_in base.sizes old.images) ws (Undid (deed_due d)) = subst (λ y. IsPlannedFrom y (slots_in y old.images) ws (Undid (deed_due d))) (sym same) (plan_is z (slots_in z old.images) d ws back) in
        let e : number_of d.txn (numbers all) + 1 ≡ n = ap (λ m. number_of d.txn m + 1) (numbers_on x log b.0 ∙ sym are.numbers) ∙ sym number in
        let lowest : InverseTakesLowest base.sizes (slots_in base.sizes old.images) [] (deed_due d) ws = subst (λ y. InverseTakesLowest y (slots_in y old.images) [] (deed_due d) ws) (sym same) (lowest_is z (slots_in z old.images) d ws back) in (
          b.0,
          subst (λ m. IsWithin base old.images all d.txn m d.lsn (deed_due d) ws 0) e
              (aborts_go_on.begins base old.images all d ds ws k b.1 (least_is x base k same b None none) (first_on x base k same b) planned lowest),
        )

    not_planned : IsNotUndone z old.images d → OfStore z shown (λ x base. ⊥)
    not_planned bad x base k same b =
        let all : List Record = rebased x log in
        let may : ShowsUndone base.sizes old.images all (deed_due d) = due_may base old.images all d ds k b.1 (least_is x base k same b None none) (first_on x base k same b) in
        let read = due_reads z all d (whole_shown x base k same b) (subst (In d) (sym (first_on x base k same b)) (inl refl)) in
        bad (deed_due d) read.0 (shows_can z old.images all (deed_due d) read.1 (subst (λ y. ShowsUndone y old.images all (deed_due d)) same may))

    -- nobody without an end has nothing due
    nobody_is : least_free (dues log) (open_work_of log).active ≡ None
    nobody_is = least_of log f are None none

    pub taken_next : (n : ℕ) → n ≡ number_of d.txn f.numbers + 1 → IsTakenNext log d n
    taken_next n number = record { older = ds; first = first_is; nobody = nobody_is; number = number ∙ ap (λ m. number_of d.txn m + 1) are.numbers }

    -- it cannot be taken back
    pub bad_due : (lsn : ℕ) → lsn ≡ d.lsn → CannotBeTaken z old.images log d → (start : Images) → Repeats z log start (paged old) → IsBadStep z (IsAbortingFrom z log old) start log lsn
    bad_due lsn place why start h = BadDue d ds old.images (paged old) first_is nobody_is place refl h why

    pub plan_stops : (e : Refusal) → PlanStops z old.images d e → AbortStops z (IsAbortingFrom z log old) log old shown e
    plan_stops why.NoMemory s = tt
    plan_stops why.DiskRead s = tt
    plan_stops (why.Damaged (damage.Record lsn)) s = record {
      last = log;
      aborting = aborting_none z (RepeatedSince z log (paged old)) log;
      bad = bad_due lsn s.0 (inl s.1);
      none = not_planned s.1;
    }
    plan_stops _ s = absurd s

    -- its inverse has a number
    pub few_operations : 2 ^ 64 ≤ number_of d.txn f.numbers + 1 → length log < 2 ^ 50 → OfStore z shown (λ x base. ⊥)
    few_operations many few x base k same b =
        let all : List Record = rebased x log in
        let s = newest_store base b.1.stores in
        let moves = behind base b.1.stores b.1.come.turns in
        let sound : IsSound s = moves_sound base b.1.stores k moves in
        let r = row x base k same b in
        let its = sound.standing.each r.0 r.2 in
        let running = its.running in
        let e : number_of r.0.txn (numbers s.records) ≡ greatest r.0.txn (items s.sizes s.records) =
        kept s.sizes s.records r.0.txn (none_below s.sizes r.0.txn s.records its.behind) running in
        let low : greatest r.0.txn (items s.sizes s.records) ≤ length (items s.sizes s.records) = few_numbers (layout_of s.sizes) r.0.txn (items s.sizes s.records) sound.log.legal sound.log.numbers in
        let count : length (items s.sizes s.records) ≡ length s.records = length-map s.records (item_of s.sizes) in
        let long : length s.records ≡ length log = ap (λ (l : List Record). length l) b.1.come.records_are ∙ length_on x log b.0 (holds x base k same b).whole.based in
        let same_number : number_of d.txn f.numbers ≡ number_of r.0.txn (numbers s.records) =
        ap (number_of d.txn) (are.numbers ∙ sym (numbers_on x log b.0)) ∙ ap (λ l. number_of d.txn (numbers l)) (sym b.1.come.records_are) ∙ ap (λ t. number_of t (numbers s.records)) (sym r.1) in
        omega (arith, many, few, e, low, count, long, same_number)

-- once what was due first is taken back, its transaction, which has nothing more due and no end, ends next
pub ends_next : (f h : Analysis) (d : PendingUndo) → least_free (d ∷ h.dues) f.open_work.active ≡ None → h.open_work.active ≡ f.open_work.active → any_due d.txn h.dues ≡ false → In d.txn f.open_work.active → least_free h.dues h.open_work.active ≡ Some d.txn
ends_next f h d none active off there = ap (least_free h.dues) active ∙ one_next d h.dues f.open_work.active off none there

-- ---- an inverse under way

module _ {P : Type 0} (z : Sizes) (log : List Record) (old : Pooled P) (d : PendingUndo) (n : ℕ) (ws : List SlotWrite) (made : ℕ) where
  abbrev within : List Record → State → Type 0
  within = IsShownWithin log old d n ws made

  pub within_way : OfStore z within (λ e base. IsOnItsWay base (rebased e log))
  within_way x base k same i = Within old.images d.txn n d.lsn (deed_due d) ws made i.1

  -- pages with the same images show it
  pub within_alike : (now : List Record) (new : Pooled P) → now ≡ log → new.images ≡ old.images → OfStore z within (IsShownWithin now new d n ws made)
  within_alike now new is images x base k same i =
      subst (λ (rs : List Record). IsShownWithin rs new d n ws made x base) (sym is) (i.0, subst (λ (j : List (List ℕ)). IsWithin base j (rebased x log) d.txn n d.lsn (deed_due d) ws made) (sym images) i.1)

  -- its next write
  module _ (w : SlotWrite) (next : slice_get ws made ≡ Some w) (is_slot : IsSlotWrite z w) where
    whole : (x : List Record) (base : State) → IsSound base → base.sizes ≡ z → within x base → IsWhole base.sizes (page_op d.txn n w ∷ rebased x log)
    whole x base k same i =
        let s : IsSlotWrite base.sizes w = subst (λ y. IsSlotWrite y w) (sym same) is_slot in
        write_whole base old.images (rebased x log) d.txn n d.lsn (deed_due d) ws made w k i.1 next s.before s.after

    pub write_belongs : OfStore z within (λ x base. Belongs z log (page_op d.txn n w) (paged old))
    write_belongs x base k same i =
        let h = within_holds base old.images (rebased x log) d.txn n d.lsn (deed_due d) ws made k i.1 in
        subst (λ l. Belongs z l (page_op d.txn n w) (paged old)) i.0
        (subst (λ y. Belongs y (marked (rebased x log)) (page_op d.txn n w) (paged old)) same (belongs_next base.sizes old.images (rebased x log) (page_op d.txn n w) h (whole x base k same i) refl))

    pub write_shown : (new : Pooled P) → IsPool z new.images → IsRecordRedone z log (page_op d.txn n w) (paged old) (paged new) → OfStore z within (IsShownWithin (page_op d.txn n w ∷ log) new d n ws (made + 1))
    write_shown new pool one x base k same i =
        let all : List Record = rebased x log in
        let s : IsSlotWrite base.sizes w = subst (λ y. IsSlotWrite y w) (sym same) is_slot in
        let h = within_holds base old.images all d.txn n d.lsn (deed_due d) ws made k i.1 in
        let redone : Redoes (told_by (page_op d.txn n w)) (length all + 1) (image_in old.images) (image_in new.images) = subst (λ (m : ℕ). Redoes (told_by (page_op d.txn n w)) (m + 1) (image_in old.images) (image_in new.images)) (sym (length_on x log i.0 h.whole.based)) one.redone in (
          past_more x log (page_op d.txn n w) refl refl i.0,
          aborts_go_on.makes base old.images new.images all d.txn n d.lsn (deed_due d) ws made w k i.1 next s.before s.after
              (put_next base old.images new.images all d.txn n w h (whole x base k same i) (subst (λ y. IsPool y new.images) (sym same) pool) redone),
        )

-- its end
abbrev all_made : {P : Type 0} → List Record → Pooled P → PendingUndo → ℕ → List SlotWrite → List Record → State → Type 0
all_made log old d n ws = IsShownWithin log old d n ws (length ws)

module _ {P : Type 0} (z : Sizes) (log : List Record) (old : Pooled P) (d : PendingUndo) (n : ℕ) (ws : List SlotWrite) where
  closed : (x : List Record) (base : State) → IsSound base → all_made log old d n ws x base → IsBetween base old.images (comp_end d.txn n d.lsn ∷ rebased x log)
  closed x base k i = aborts_go_on.closes base old.images (rebased x log) d.txn n d.lsn (deed_due d) ws k i.1

  pub close_belongs : OfStore z (all_made log old d n ws) (λ x base. Belongs z log (comp_end d.txn n d.lsn) (paged old))
  close_belongs x base k same i =
      let all : List Record = rebased x log in
      let h = within_holds base old.images all d.txn n d.lsn (deed_due d) ws (length ws) k i.1 in
      let w = (between_holds base old.images (comp_end d.txn n d.lsn ∷ all) k (closed x base k i)).whole in
      subst (λ l. Belongs z l (comp_end d.txn n d.lsn) (paged old)) i.0
      (subst (λ y. Belongs y (marked all) (comp_end d.txn n d.lsn) (paged old)) same (belongs_next base.sizes old.images all (comp_end d.txn n d.lsn) h w refl))

  pub close_shown : (new : Pooled P) → new ≡ old → OfStore z (all_made log old d n ws) (IsShown (comp_end d.txn n d.lsn ∷ log) new)
  close_shown new is x base k same i = (
    past_more x log (comp_end d.txn n d.lsn) refl refl i.0,
    subst (λ (p : Pooled P). IsBetween base p.images (comp_end d.txn n d.lsn ∷ rebased x log)) (sym is) (closed x base k i),
  )

-- what is due first is planned to be taken back, over pages that are as they were
pub record IsPlannedFirst {P : Type 0} (z : Sizes) (log : List Record) (old mid : Pooled P) (f : Analysis) (d : PendingUndo) (ws : List SlotWrite) (n : ℕ) : Type 0 where
  pub found : IsAnalysisOf f log
  pub older : List PendingUndo
  pub first : f.dues ≡ d ∷ older
  pub none : least_free f.dues f.open_work.active ≡ None
  pub back : IsTakingBack z (slots_in z old.images) (deed_by d.level d.deed) ws
  pub number : n ≡ number_of d.txn f.numbers + 1
  pub images : mid.images ≡ old.images

module _ {P : Type 0} {z : Sizes} {log : List Record} {old mid : Pooled P} {f : Analysis} {d : PendingUndo} {ws : List SlotWrite} {n : ℕ} (k : IsPlannedFirst z log old mid f d ws n) where
  abbrev begun : List Record → State → Type 0
  begun = IsShownWithin log mid d n ws 0

  pub begun_shown : OfStore z (IsShown log old) begun
  begun_shown x base sound same b = within_alike z log old d n ws 0 log mid refl k.images x base sound same (begin_shown z log old f k.found d k.older k.first k.none ws n k.back k.number x base sound same b)

  planned : IsPlannedOn z (RepeatedSince z log (paged old) log) d ws
  planned = planned_here z log (paged old) d ws k.back

  next : IsTakenNext log d n
  next = taken_next z log old f k.found d k.older k.first k.none n k.number

  -- behind some writes of it
  pub making_on : (rs : List Record) → IsMaking d.txn n ws log rs → IsAbortingFrom z log old rs
  making_on rs = making_aborts z (RepeatedSince z log (paged old)) log rs d n ws next planned

  -- behind all of them
  module _ (now : List Record) (made : with_writes d.txn n (take (length ws) ws) log ≡ now) where
    pub taken : AbortsFrom z log old (comp_end d.txn n d.lsn ∷ now)
    taken = closing_aborts z (RepeatedSince z log (paged old)) log now d n ws next planned (aborts.all_made d.txn n ws log now made)

    -- its end was not made
    pub closing_stops : (new : Pooled P) (e : Refusal) → StepStops (length now) (Belongs new.sizes now (comp_end d.txn n d.lsn) (paged new)) e → AbortStops new.sizes (IsAbortingFrom z log old) now new (all_made now new d n ws) e
    closing_stops new e step =
        one_stops new.sizes (IsAbortingFrom z log old) now (comp_end d.txn n d.lsn) new (all_made now new d n ws) (making_on now (record { made = length ws; are = made })) (BetweenRounds taken) e step (within_way new.sizes now new d n ws (length ws)) (close_belongs new.sizes now new d n ws)

-- ---- what is found behind a record

-- as a loop finds it
pub get_there : (ws : List SlotWrite) (i : ℕ) (w : SlotWrite) → i < length ws → w ≡ get_or ws i w → slice_get ws i ≡ Some w
get_there [] i w lt e = absurd (omega (arith, lt))
get_there (x ∷ ws) zero w lt e = ap (λ y. Some y) (sym e)
get_there (x ∷ ws) (suc i) w lt e = get_there ws i w (omega (arith, lt)) e

-- a write leaves what is due, and the transactions that have no end
pub write_rest : (log now : List Record) (f h : Analysis) (t : Txn) (n : ℕ) (w : SlotWrite) → IsAnalysisOf f log → IsAnalysisOf h now → now ≡ page_op t n w ∷ log → (h.dues ≡ f.dues) × (h.open_work.active ≡ f.open_work.active)
write_rest log now f h t n w are then grown = (
  then.dues ∙ ap dues grown ∙ sym are.dues,
  ap (λ (x : OpenWorkView). x.active) (then.open_work ∙ ap open_work_of grown) ∙ ap (λ (x : OpenWorkView). x.active) (sym are.open_work),
)

-- the end of an inverse takes off what was due first
pub close_rest : (log now : List Record) (f h : Analysis) (d : PendingUndo) (older : List PendingUndo) (n lsn : ℕ) → IsAnalysisOf f log → IsAnalysisOf h now → now ≡ comp_end d.txn n lsn ∷ log → f.dues ≡ d ∷ older → (h.dues ≡ older) × (h.open_work.active ≡ f.open_work.active)
close_rest log now f h d older n lsn are then grown first = (
  then.dues ∙ ap dues grown ∙ rest_due log d older n lsn (sym are.dues ∙ first),
  ap (λ (x : OpenWorkView). x.active) (then.open_work ∙ ap open_work_of grown) ∙ ap (λ (x : OpenWorkView). x.active) (sym are.open_work),
)

-- the end of a transaction with nothing due leaves what is due, and takes it off those that have no end
pub end_rest : (log now : List Record) (f h : Analysis) (t : Txn) → IsAnalysisOf f log → IsAnalysisOf h now → now ≡ records.AbortEnd t ∷ log → any_due t f.dues ≡ false → (h.dues ≡ f.dues) × (h.open_work.active ≡ without_txn t f.open_work.active)
end_rest log now f h t are then grown off = (
  then.dues ∙ ap dues grown ∙ ap (but_own t) (sym are.dues) ∙ own_stay t f.dues off,
  ap (λ (x : OpenWorkView). x.active) (then.open_work ∙ ap open_work_of grown) ∙ ap (λ (x : OpenWorkView). without_txn t x.active) (sym are.open_work),
)

-- where nothing is due, and nobody has an end left to be made, all have ended
pub all_ended : (log : List Record) (f : Analysis) → IsAnalysisOf f log → f.dues ≡ [] → least_free f.dues f.open_work.active ≡ None → IsEnded log
all_ended log f are nothing none = ap (λ (x : OpenWorkView). x.active) (sym are.open_work) ∙ nobody_left f.open_work.active (ap (λ ds. least_free ds f.open_work.active) (sym nothing) ∙ none)

-- what is to be taken back is not told again where the log is full or the device fails
pub told_stops : {P L : Type 0} (z : Sizes) (log : List Record) (old : Pooled P) (f : Analysis) → IsAnalysisOf f log → (g : Ghosts L) (was now : L) (lsn : ℕ) (e : Refusal) → NotToldFor g e lsn (length log) was now → g.honest now → AbortStops z (IsAbortingFrom z log old) log old (IsShown log old) e
told_stops z log old f are g was now lsn why.LogFull n h = record { last = log; aborting = aborting_none z (RepeatedSince z log (paged old)) log; full = n.0; way = shown_way z log old f are }
told_stops z log old f are g was now lsn why.DiskRead n h = tt
told_stops z log old f are g was now lsn (why.Damaged (damage.Record m)) n h = absurd (n.2 h)
told_stops z log old f are g was now lsn _ n h = absurd n

pub told_fails : {P L : Type 0} (p : page_device.Ghosts P) (g : Ghosts L) (pages : P) (was now : L) (lsn count : ℕ) (e : Refusal) → NotToldFor g e lsn count was now → FailsWith p pages pages e (failures g.faults was now)
told_fails p g pages was now lsn count why.LogFull n = (refl, n.1)
told_fails p g pages was now lsn count why.DiskRead n = inr (refl, n)
told_fails p g pages was now lsn count (why.Damaged (damage.Record m)) n = (refl, n.1)
told_fails p g pages was now lsn count _ n = absurd n
