-- What a record tells that is read again.
use Rattle.std.proofs.Common.{◌≡◌, ◌≢◌, ◌↔◌, inl, inr, ℕ, ◌/◌, ◌%◌, ◌^◌, ◌<◌, ◌≤◌, ◌&&◌, true, false, nat_lt, List, [], ◌∷◌, ◌++◌, length, Result, Ok, Err, Option, Some, None, refl, sym, ◌∙◌, ap, subst, arith, append_assoc}
use Rattle.std.specs.Prelude.{IfOk, IfErr, IfNone, IfSome}
use Rattle.std.specs.List.{filter}
use Rattle.std.proofs.lemmas.Bool.{and_from, and_parts, cases_Bool, false≢true, lt-ltb, ltb-true}
use Rattle.rq_model.specs.declared.record.Record.{Record}
use Rattle.rq_model.specs.declared.record.Record.TheVariants as records
use Rattle.rq_model.specs.declared.refusal.Refusal.{Refusal}
use Rattle.rq_model.specs.declared.refusal.Refusal.TheVariants as why
use Rattle.rq_model.specs.declared.refusal.Damage.TheVariants as damage
use Rattle.rq_model.specs.declared.txn.Sub.{Sub}
use Rattle.rq_model.specs.declared.txn.Txn.{Txn}
use Rattle.rq_model.specs.Bases.{is_base, standing}
use Rattle.rq_model.proofs.Bases.{length_standing, standing_plain}
use Rattle.rq_model.specs.Vocabulary.{In, first}
use Rattle.rq_model.proofs.Lists.{In-filter}
use Rattle.rq_disk.specs.declared.device.LogDevice.{Ghosts}
use Rattle.rq_log.specs.Places.{IsAt, IsPlace, NotReadAgainFor, StandsAt}
use Rattle.rq_log.specs.Places as log_places
use Rattle.rq_log.specs.Spelled.{AreSpelled, spelled, spelled_all}
use Rattle.rq_log.proofs.Keeping.{few_bytes}
use Rattle.rq_views.specs.Items.{operation}
use Rattle.rq_views.specs.Legal.{is_of}
use Rattle.rq_views.proofs.Overlay.{same_is, same_self}
use Rattle.rq_analysis.specs.declared.dues.PendingUndo.{PendingUndo}
use Rattle.rq_analysis.specs.declared.open_work.UndoableWrite.{UndoableWrite}
use Rattle.rq_analysis.specs.declared.open_work.NextUndo.TheVariants.{Write}
use Rattle.rq_analysis.proofs.Lists.{first_in}
use Rattle.rq_analysis.specs.OpenWorkView.{OpenWorkView, lsn_undoable, open_work_of, undoable_at, undoable_by}
use Rattle.rq_analysis.specs.Pages.{IsNextUndo, IsUndoneNext, undo_of}
use Rattle.rq_analysis.specs.Rules.{op_of}
use Rattle.rq_analysis.specs.Pages.IsNextUndo.{Undoes}
use Rattle.rq_restart.specs.declared.analysis.Analysis.{Analysis}
use Rattle.rq_restart.specs.declared.places.Place.{Place}
use Rattle.rq_analysis.specs.Dues.{end_due}
use Rattle.rq_restart.specs.Again.{HasRecord, IsLikeUndo, IsToldByOwn, NotGivenFor, NotMadeFor, NotReadFor, NotToldFor, NotUndoneFor, WroteOver, due_told, told_again, undo_told}
use Rattle.rq_level.specs.declared.writes.SlotWrite.{SlotWrite}
use Rattle.rq_planner.specs.PageUndos.{NotPutBackFor, PutsBackWrite}
use Rattle.rq_restart.specs.Aborting.{blamed_on}
use Rattle.rq_restart.specs.Found.{IsAnalysisOf}
use Rattle.rq_restart.specs.Places.{AreRising, OpenPlaces}
use Rattle.rq_restart.proofs.Placing.{due_found, due_there, ends_rise, write_found, write_there, writes_rise}
use Rattle.rq_restart.proofs.Undos.{undoable_range}

-- where a value is sure, so is what follows from it
pub ok_under : {A E : Type 0} (sure : Type 0) (x : Result A E) (a : A) (Q : A → Type 0) → (sure → x ≡ Ok a) → Q a → IfOk x (λ r. sure → Q r)
ok_under {A} {E} sure (Ok r) a Q is q = λ h. let e : ◌≡◌ {A = Result A E} (Ok r) (Ok a) = is h in let same : a ≡ r = cc in subst Q same q
ok_under sure (Err e) a Q is q = tt

pub none_map : {A : Type 0} (x : Option A) (P Q : Type 0) → (P → Q) → IfNone x P → IfNone x Q
none_map None P Q f h = f h
none_map (Some a) P Q f h = tt

pub some_map : {A : Type 0} (x : Option A) (P Q : A → Type 0) → ((a : A) → P a → Q a) → IfSome x P → IfSome x Q
some_map None P Q f h = tt
some_map (Some a) P Q f h = f a h

-- the same of what is so of each of these
pub ok_due : {E : Type 0} (sure : Type 0) (x : Result PendingUndo E) (ds : List PendingUndo) (t : Txn) (lsn : ℕ) → (sure → (e : PendingUndo) → In e ds → e.txn ≡ t → e.lsn ≡ lsn → x ≡ Ok e)
    → IfOk x (λ d. sure → (e : PendingUndo) → In e ds → e.txn ≡ t → e.lsn ≡ lsn → d ≡ e)
ok_due {E} sure (Ok d) ds t lsn f = λ h e i of at. let k : ◌≡◌ {A = Result PendingUndo E} (Ok d) (Ok e) = f h e i of at in cc
ok_due sure (Err e) ds t lsn f = tt

-- and why there is none
pub err_told : {A L : Type 0} (g : Ghosts L) (old new : L) (lsn count n : ℕ) → n ≡ lsn → (x : Result A Refusal) (a : A) → IfErr x (λ e. e ≡ why.Damaged (damage.Record n)) → (g.honest new → x ≡ Ok a) → g.faults new ≡ g.faults old → IfErr x (λ e. NotToldFor g e lsn count old new)
err_told g old new lsn count n at (Ok r) a named is same = tt
err_told {A} g old new lsn count n at (Err e) a named is same = subst (λ x. NotToldFor g x lsn count old new) (sym named) (at, same, λ h. let bad : ◌≡◌ {A = Result A Refusal} (Err e) (Ok a) = is h in cc)

-- ---- a log that has room

pub few_spelled : (log : List Record) → AreSpelled log → length log ≤ 2 ^ 50 → length (spelled log) < 2 ^ 64
few_spelled log are few =
    let a = few_bytes (standing log) are in
    let b = length_standing log in
    omega (arith, a, b, few)

module _ (log : List Record) (place : ℕ) where
  at_place : (r : Record) → IsAt log place r → IsPlace log place
  at_place r k = (k.0 ++ r ∷ [], k.1, k.2 ∙ sym (append_assoc k.0 (r ∷ []) k.1), k.3)

  pub given : (r : Record) (next : ℕ) → StandsAt log place (Some (r, next)) → (s : Record) → IsAt log place s → r ≡ s
  given r next k s at = (let e : ◌≡◌ {A = Option (Record × ℕ)} (Some (r, next)) (Some (s, length (spelled_all (s ∷ at.1)))) = k.next at.0 at.1 s at.2 at.3 in let pair : (r, next) ≡ (s, length (spelled_all (s ∷ at.1))) = cc in ap (λ (x : Record × ℕ). x.0) pair)

  pub none_given : StandsAt log place None → (s : Record) → IsAt log place s → ⊥
  none_given k s at = (let e : ◌≡◌ {A = Option (Record × ℕ)} None (Some (s, length (spelled_all (s ∷ at.1)))) = k.next at.0 at.1 s at.2 at.3 in cc)

  pub why_not_given : {L : Type 0} (g : Ghosts L) (old new : L) (lsn : ℕ) → length (spelled log) < 2 ^ 64 → (e : Refusal) → log_places.NotToldFor g e log place old new → NotGivenFor g (told_again lsn e) lsn log place old new
  why_not_given g old new lsn few why.DiskRead h = h.0
  why_not_given g old new lsn few (why.Damaged (damage.Record n)) h = (refl, h.1, λ honest r at. h.2 honest few (at_place r at))
  why_not_given g old new lsn few _ h = absurd h

-- a record that stands there is given, unless the device fails
pub not_told : {L : Type 0} (g : Ghosts L) (old new : L) (lsn place : ℕ) (log : List Record) (r : Record) → IsAt log place r → (e : Refusal) → NotGivenFor g e lsn log place old new → NotToldFor g e lsn (length log) old new
not_told g old new lsn place log r at why.LogFull h = h
not_told g old new lsn place log r at why.DiskRead h = h
not_told g old new lsn place log r at (why.Damaged (damage.Record n)) h = (h.0, h.1, λ honest. h.2 honest r at)
not_told g old new lsn place log r at _ h = absurd h

-- one that is not of the operation of its place is not the one that stands there
pub not_own : (by : Sub) (told stands : Record) → is_of by (op_of told) ≡ false → told ≡ stands → op_of stands ≡ Some by → ⊥
not_own by told stands other is own = false≢true (sym other ∙ ap (is_of by) (ap op_of is ∙ own) ∙ same_self by)

-- what one of the operation tells is told so
pub told_own : {A : Type 0} (x : Result A Refusal) (tell : Place → Record → Result A Refusal) (p : Place) (r : Record) (places : List Place) (lsn : ℕ) → In p places → p.lsn ≡ lsn → is_of p.by (op_of r) ≡ true → IfOk x (λ a. tell p r ≡ Ok a) → IfOk x (IsToldByOwn A tell places lsn)
told_own (Ok a) tell p r places lsn among at own told = record { read = r; is_own = record { place = p; among = among; at = at; own = own }; told = told }
told_own (Err e) tell p r places lsn among at own told = tt

pub tells_itself : {A E : Type 0} (x : Result A E) → IfOk x (λ a. x ≡ Ok a)
tells_itself (Ok a) = refl
tells_itself (Err e) = tt

-- ---- the newest write of all

module _ (f : Analysis) (log : List Record) (are : IsAnalysisOf f log) (lsn : ℕ) (next : IsUndoneNext f.open_work (Write lsn)) where
  abbrev pub p : UndoableWrite
  p = next.0

  there : In p (open_work_of log).undoable
  there = subst (λ (h : OpenWorkView). In p h.undoable) are.open_work (subst (In p) (sym next.2.first) (inl refl))

  pub write_is_kept : ((q : Place) → In q f.places.writes → q.lsn ≢ lsn) → ⊥
  write_is_kept none = write_found log p there (λ q i e. none q (subst (λ (s : OpenPlaces). In q s.writes) (sym are.places) i) (e ∙ next.1))

  module _ (kept : Place) (among : In kept f.places.writes) (same : kept.lsn ≡ lsn) where
    pub stands : (kept.by ≡ p.by) × ((after : List ℕ) × IsAt log kept.place (records.PageOp p.by.txn p.by.number p.page p.slot p.before after))
    stands = write_there log p kept there (subst (λ (s : OpenPlaces). In kept s.writes) are.places among) (same ∙ sym next.1)

    abbrev pub told : Record
    told = records.PageOp p.by.txn p.by.number p.page p.slot p.before stands.1.0

    pub write_at : IsAt log kept.place told
    write_at = stands.1.1

    undone_is : (page slot : ℕ) (bytes : List ℕ) → records.PageUndo kept.by.txn kept.by.number kept.lsn page slot bytes ≡ records.PageUndo p.by.txn p.by.number p.lsn page slot bytes
    undone_is page slot bytes = ap (λ (o : Sub). records.PageUndo o.txn o.number kept.lsn page slot bytes) stands.0 ∙ ap (λ n. records.PageUndo p.by.txn p.by.number n page slot bytes) (same ∙ sym next.1)

    -- whatever is read, the record that is made is its operation's
    pub write_like : (r : Record) → IfOk (undo_told kept r) (λ u. IsLikeUndo f.open_work u)
    write_like (records.PageOp t n page slot before after) = elim (cases_Bool (nat_lt 0 slot && nat_lt slot 16)) [
      | inl y ↦ rw y (
          let k = and_parts (nat_lt 0 slot) (nat_lt slot 16) y in
          let low = ltb-true 0 slot k.0 in
          let high = ltb-true slot 16 k.1 in (
            undo_of p,
            Undoes p next.2.older next.2.none next.2.first refl,
            (page, slot, before, (omega (arith, low), omega (arith, high)), undone_is page slot before),
          )
          )
      | inr n ↦ rw n tt
    ]
    write_like _ = tt

    pub write_named : (r : Record) → IfErr (undo_told kept r) (λ e. e ≡ why.Damaged (damage.Record kept.lsn))
    write_named (records.PageOp t n page slot before after) = elim (cases_Bool (nat_lt 0 slot && nat_lt slot 16)) [ inl y ↦ rw y tt | inr n ↦ rw n refl ]
    write_named _ = refl

    -- and where the record is the one that stands there it is the one that is next
    module _ (spelled_is : AreSpelled log) where
      in_range : (nat_lt 0 p.slot && nat_lt p.slot 16) ≡ true
      in_range =
          let k = undoable_range log spelled_is p there in
          let low = k.2.0 in
          let high = k.2.1 in
          and_from (nat_lt 0 p.slot) (nat_lt p.slot 16) (lt-ltb 0 p.slot (omega (arith, low))) (lt-ltb p.slot 16 (omega (arith, high)))

      pub write_told : undo_told kept told ≡ Ok (undo_of p)
      write_told = rw in_range (ap (λ r. Ok r) (undone_is p.page p.slot p.before))

      pub write_next : IsNextUndo f.open_work (undo_of p)
      write_next = Undoes p next.2.older next.2.none next.2.first refl

  -- so it can be read again
  pub write_has : (ps : List Place) → ps ≡ f.places.writes → HasRecord log ps lsn
  write_has ps e =
      subst (λ l. HasRecord log l lsn) (sym e) (record {
        rise = subst (λ (s : OpenPlaces). AreRising s.writes) (sym are.places) (writes_rise log);
        kept = write_is_kept;
        stands = λ q i same. (told q i same, write_at q i same, ap (λ (o : Sub). Some o) (sym (stands q i same).0));
      })

-- ---- how it is undone

-- what is so of the one is so of the other, which is the same where there is one
pub ok_of : {A E : Type 0} (x y : Result A E) (P : A → Type 0) → IfOk x (λ r. y ≡ Ok r) → IfOk y P → IfOk x P
ok_of (Ok r) y P is h = subst (λ z. IfOk z P) is h
ok_of (Err e) y P is h = tt

module _ {L : Type 0} (g : Ghosts L) (old new : L) (lsn count : ℕ) where
  pub not_undone : (e : Refusal) → NotToldFor g e lsn count old new → NotUndoneFor g e lsn count old new
  not_undone why.LogFull h = h
  not_undone why.DiskRead h = h
  not_undone (why.Damaged (damage.Record n)) h = h
  not_undone _ h = absurd h

  pub err_of : (x y : Result Record Refusal) → IfErr x (NotMadeFor y) → count < 2 ^ 50 → g.faults new ≡ g.faults old → IfErr y (λ e. NotToldFor g e lsn count old new) → IfErr x (λ e. NotUndoneFor g e lsn count old new)
  err_of (Ok r) y is few same h = tt
  err_of (Err e) (Ok r) is few same h = subst (λ z. NotUndoneFor g z lsn count old new) (sym is) (few, same)
  err_of (Err e) (Err wrong) is few same h = not_undone e (subst (λ z. NotToldFor g z lsn count old new) (sym is) h)

-- the write that puts back what the record found makes the record that is told
pub put_back_told : (kept : Place) (r : Record) (w : SlotWrite) → PutsBackWrite r w → undo_told kept r ≡ Ok (records.PageUndo kept.by.txn kept.by.number kept.lsn (w.at / 16) (w.at % 16) w.after)
put_back_told kept (records.PageOp t n page slot before after) w h =
    let low = h.0 in
    let high = h.1 in
    let at = h.2 in
    let in_page : (nat_lt 0 slot && nat_lt slot 16) ≡ true = and_from (nat_lt 0 slot) (nat_lt slot 16) (lt-ltb 0 slot (omega (arith, low))) (lt-ltb slot 16 (omega (arith, high))) in
    let of_page : page ≡ w.at / 16 = omega (arith, at, high) in
    let of_slot : slot ≡ w.at % 16 = omega (arith, at, high) in
    rw in_page (ap (λ p. Ok (records.PageUndo kept.by.txn kept.by.number kept.lsn p slot before)) of_page ∙ ap (λ s. Ok (records.PageUndo kept.by.txn kept.by.number kept.lsn (w.at / 16) s before)) of_slot ∙ ap (λ b. Ok (records.PageUndo kept.by.txn kept.by.number kept.lsn (w.at / 16) (w.at % 16) b)) (sym h.4))
put_back_told kept _ w h = absurd h

pub not_put_back : (kept : Place) (r : Record) (e : Refusal) → NotPutBackFor r e → NotMadeFor (undo_told kept r) (blamed_on kept.lsn e)
not_put_back kept (records.PageOp t n page slot before after) why.NoMemory h =
    let low = h.0 in
    let high = h.1 in
    rw (and_from (nat_lt 0 slot) (nat_lt slot 16) (lt-ltb 0 slot (omega (arith, low))) (lt-ltb slot 16 (omega (arith, high)))) refl
not_put_back kept _ why.NoMemory h = absurd h
not_put_back kept (records.PageOp t n page slot before after) (why.Damaged d) h = elim (cases_Bool (nat_lt 0 slot && nat_lt slot 16)) [
  | inl y ↦
      let k = and_parts (nat_lt 0 slot) (nat_lt slot 16) y in
      let low = ltb-true 0 slot k.0 in
      let high = ltb-true slot 16 k.1 in
      absurd (h (omega (arith, low), omega (arith, high)))
  | inr n ↦ rw n refl
]
not_put_back kept _ (why.Damaged d) h = refl
not_put_back kept r _ h = absurd h

-- ---- what is to be taken back

pub due_named : (p : Place) (r : Record) → IfErr (due_told p r) (λ e. e ≡ why.Damaged (damage.Record p.lsn))
due_named p (records.OpEnd t n level deed) = tt
due_named p _ = refl

pub due_like : (p : Place) (r : Record) → IfOk (due_told p r) (λ d. (d.txn ≡ p.by.txn) × (d.lsn ≡ p.lsn))
due_like p (records.OpEnd t n level deed) = (refl, refl)
due_like p _ = tt

module _ (f : Analysis) (log : List Record) (are : IsAnalysisOf f log) (t : Txn) (lsn : ℕ) (d : PendingUndo) (i : In d f.dues) (of : d.txn ≡ t) (at : d.lsn ≡ lsn) where
  pub due_is_kept : ((q : Place) → In q f.places.ends → q.lsn ≢ lsn) → ⊥
  due_is_kept none = due_found log d (subst (In d) are.dues i) (λ q j same. none q (subst (λ (s : OpenPlaces). In q s.ends) (sym are.places) j) (same ∙ at))

  module _ (kept : Place) (among : In kept f.places.ends) (same : kept.lsn ≡ lsn) where
    pub end_there : (kept.by ≡ operation d.txn d.number) × IsAt log kept.place (end_due d)
    end_there = due_there log d kept (subst (In d) are.dues i) (subst (λ (s : OpenPlaces). In kept s.ends) are.places among) (same ∙ sym at)

    pub due_is : due_told kept (end_due d) ≡ Ok d
    due_is = rw (end_there.0, same ∙ sym at) refl

  pub due_has : (ps : List Place) → ps ≡ f.places.ends → HasRecord log ps lsn
  due_has ps e =
      subst (λ l. HasRecord log l lsn) (sym e) (record {
        rise = subst (λ (s : OpenPlaces). AreRising s.ends) (sym are.places) (ends_rise log);
        kept = due_is_kept;
        stands = λ p i same. (end_due d, (end_there p i same).1, ap (λ (o : Sub). Some o) (sym (end_there p i same).0));
      })

-- ---- a PageUndo that is read

pub writes_of_rise : (f : Analysis) (older : List Record) → IsAnalysisOf f older → (ps : List Place) → ps ≡ f.places.writes → AreRising ps
writes_of_rise f older are ps e = subst AreRising (sym e) (subst (λ (s : OpenPlaces). AreRising s.writes) (sym are.places) (writes_rise older))

undoable_is : (w : UndoableWrite) (lsn : ℕ) (o : Sub) (page slot : ℕ) (bytes : List ℕ) → w.lsn ≡ lsn → w.by ≡ o → w.page ≡ page → w.slot ≡ slot → w.before ≡ bytes → w ≡ undoable_at lsn o page slot bytes
undoable_is w lsn o page slot bytes a b c d e =
    ap (λ n. undoable_at n w.by w.page w.slot w.before) a ∙ ap (λ (x : Sub). undoable_at lsn x w.page w.slot w.before) b
    ∙ ap (λ n. undoable_at lsn o n w.slot w.before) c ∙ ap (λ n. undoable_at lsn o page n w.before) d ∙ ap (λ l. undoable_at lsn o page slot l) e

module _ (f : Analysis) (older : List Record) (are : IsAnalysisOf f older) (o : Sub) (undone : ℕ) where
  abbrev pub newest : Option UndoableWrite
  newest = first (filter (undoable_by o) f.open_work.undoable)

  pub some_lsn : (x : Option UndoableWrite) → lsn_undoable x ≡ Some undone → (w : UndoableWrite) × (x ≡ Some w) × (w.lsn ≡ undone)
  some_lsn None e = (let bad : ◌≡◌ {A = Option ℕ} None (Some undone) = e in cc)
  some_lsn (Some w) e = (w, refl, (let is : ◌≡◌ {A = Option ℕ} (Some w.lsn) (Some undone) = e in let same : w.lsn ≡ undone = cc in same))

  module _ (e : lsn_undoable newest ≡ Some undone) where
    abbrev pub w : UndoableWrite
    w = (some_lsn newest e).0

    is_newest : newest ≡ Some w
    is_newest = (some_lsn newest e).1

    w_in : In w f.open_work.undoable × (undoable_by o w ≡ true)
    w_in = In-filter (undoable_by o) f.open_work.undoable w (first_in (filter (undoable_by o) f.open_work.undoable) w is_newest)

    there_now : In w (open_work_of older).undoable
    there_now = subst (λ (h : OpenWorkView). In w h.undoable) are.open_work w_in.0

    pub newest_is_kept : ((q : Place) → In q f.places.writes → q.lsn ≢ undone) → ⊥
    newest_is_kept none = write_found older w there_now (λ q i same. none q (subst (λ (s : OpenPlaces). In q s.writes) (sym are.places) i) (same ∙ (some_lsn newest e).2))

    module _ (kept : Place) (among : In kept f.places.writes) (same : kept.lsn ≡ undone) where
      pub newest_stands : (kept.by ≡ w.by) × ((after : List ℕ) × IsAt older kept.place (records.PageOp w.by.txn w.by.number w.page w.slot w.before after))
      newest_stands = write_there older w kept there_now (subst (λ (s : OpenPlaces). In kept s.writes) are.places among) (same ∙ sym (some_lsn newest e).2)

      abbrev pub newest_told : Record
      newest_told = records.PageOp w.by.txn w.by.number w.page w.slot w.before newest_stands.1.0

      -- it stands there behind one record more
      pub newest_at : (r : Record) → is_base r ≡ false → IsAt (r ∷ older) kept.place newest_told
      newest_at r plain = let k = newest_stands.1.1 in (r ∷ k.0, k.1, standing_plain r older plain ∙ ap (λ l. r ∷ l) k.2, k.3)

      pub put_back : (page slot : ℕ) (bytes : List ℕ) → WroteOver newest_told page slot bytes ↔ (newest ≡ Some (undoable_at undone o page slot bytes))
      put_back page slot bytes = (
        λ k. is_newest ∙ ap Some (undoable_is w undone o page slot bytes (some_lsn newest e).2 (same_is w.by o w_in.1) k.0 k.1 k.2),
        λ k. let is : Some w ≡ Some (undoable_at undone o page slot bytes) = sym is_newest ∙ k in
            let one : w ≡ undoable_at undone o page slot bytes = cc in
            (ap (λ (x : UndoableWrite). x.page) one, ap (λ (x : UndoableWrite). x.slot) one, ap (λ (x : UndoableWrite). x.before) one),
      )

-- the record that was read at a place is that which stands there, unless the device failed
pub not_read : {L : Type 0} (g : Ghosts L) (old new : L) (lsn place : ℕ) (log : List Record) (r : Record) → IsAt log place r → (e : Refusal) → NotReadAgainFor g e log place old new → NotReadFor g (told_again lsn e) lsn old new
not_read g old new lsn place log r at why.DiskRead h = h
not_read g old new lsn place log r at (why.Damaged (damage.Record n)) h = (refl, h.1, λ honest. h.2 honest r at)
not_read g old new lsn place log r at _ h = absurd h
