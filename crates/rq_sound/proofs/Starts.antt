-- An operation starts, beside others: a send, a receive, a close, a mark, or the inverse of what its transaction did last.
use Rattle.std.proofs.Common.{◌≡◌, ℕ, ◌+◌, ◌≤◌, ◌++◌, List, [], ◌∷◌, reverse, refl, sym, ◌∙◌, ap, subst, Bool, true, false, cond, nat_eq, Some, None, inl, inr, arith}
use Rattle.std.proofs.lemmas.Bool.{cases_Bool, eq-eqb}
use Rattle.rq_model.specs.declared.txn.Txn.{Txn}
use Rattle.rq_model.specs.declared.txn.Sub.{Sub}
use Rattle.rq_model.specs.declared.record.Deed.{Deed}
use Rattle.rq_model.specs.declared.record.Deed.TheVariants.{Append, UnlinkHead, Close, Mark}
use Rattle.rq_model.specs.declared.record.Record.{Record}
use Rattle.rq_model.specs.Vocabulary.{same_txn, client_group, is_some}
use Rattle.rq_model.specs.Content.{deeds}
use Rattle.rq_model.specs.Rules.{any_use, uses_send, uses_receive}
use Rattle.rq_page.specs.Sizes.{Sizes, cell_count}
use Rattle.rq_views.specs.Chain.{View}
use Rattle.rq_views.specs.Log.{Slots, Write, HasBefores, same_op, Places}
use Rattle.rq_views.specs.InStore.{IsDeedOf}
use Rattle.rq_views.specs.Items.{items, layout_of, operation}
use Rattle.rq_views.specs.Legal.{Placed, open_deeds, began, view}
use Rattle.rq_views.specs.Groups.{on_sending_end, on_receiving_end, side}
use Rattle.rq_views.specs.Plans.{IsPlan, deed_sender}
use Rattle.rq_views.specs.Plans.Turn.{Did, Undid}
use Rattle.rq_level.specs.Writes.{writes_of}
use Rattle.rq_txn.specs.declared.Aim.{Aim}
use Rattle.rq_txn.specs.Rows.{Under, Row, deed_of, found_row, change_row, row_started, latched_by, latched_in}
use Rattle.rq_store.specs.Settled.{AreEnds}
use Rattle.rq_txn.specs.declared.Aim.TheVariants.{Doing, Undoing}
use Rattle.rq_store.proofs.RowLists.{found_in}
use Rattle.rq_views.proofs.Tells.{append_tells, head_tells}
use Rattle.rq_views.proofs.Tags.{mark_tells}
use Rattle.rq_txn.specs.declared.Finished.{Finished}
use Rattle.rq_groups.specs.Ends.{HeldEnds, has_held, with_held, is_free_for}
use Rattle.rq_model.specs.Incarnations.{incarnation_of}
use Rattle.rq_store.specs.Rows.{placed, placed_one, HoldsFor, is_under, unmade}
use Rattle.rq_store.specs.Fitting.{left_by}
use Rattle.rq_store.specs.Whole.{IsWhole}
use Rattle.rq_sound.specs.Rows.{turn_of}
use Rattle.rq_sound.specs.Standing.{FollowsPlan, IsAimOf, IsRow, HoldsAll, TellsFor, ReadsFor, AreStanding}
use Rattle.rq_sound.specs.Counted.{AreCounted, CoversAim, appends_aim}
use Rattle.rq_sound.proofs.Going.{starts, nobody_stands, with_ends}
use Rattle.rq_views.proofs.Numbers.{beyond_unbegun}
use Rattle.rq_views.proofs.Rules.{unused, sends_same, takes_same}
use Rattle.rq_sound.proofs.Counted.{counted_start}
use Rattle.rq_sound.proofs.FreeCells.{all_one, in_latched, open_is, stored}
use Rattle.rq_sound.proofs.Own.{ShowsOwn}
use Rattle.rq_sound.proofs.OwnRecord.{row}
use Rattle.rq_sound.proofs.Standings.{stands_started, ends_taken}
use Rattle.rq_store.proofs.Ends.{held_more}

aim_started : (u : Under) (r : Row) (a : Aim) → IsAimOf r a → IsAimOf (row_started u r) a
aim_started u r (Doing d) h = h
aim_started u r (Undoing lsn d) h = h

-- Its transaction has nothing under way, its plan is of the slots as they are, nobody has latched its pages, and there
-- is a cell for what it sends.
pub record MayStart (z : Sizes) (log : List Record) (rows : List Row) (waiting : List ℕ) (cells : ℕ) (r : Row)
    (u : Under) : Type 0 where
  pub at_row : found_row r.txn rows ≡ Some r
  pub idle : r.under ≡ None
  pub number : u.number ≡ r.number + 1
  pub made : u.made ≡ 0
  pub aims : IsAimOf r u.aim
  pub free : (p : ℕ) → latched_by u p ≡ true → latched_in rows p ≡ false
  pub plan : IsPlan (layout_of z) (turn_of u.aim) (reverse (writes_of z u.writes))
  pub fits : HasBefores (reverse (writes_of z u.writes)) (left_by z log).slots
  pub told : TellsFor u.aim (view (items z log) (deed_sender (deed_of u.aim)))
  pub of_store : IsDeedOf z (deed_of u.aim)
  pub reads : ReadsFor u.aim
  pub covers : CoversAim waiting u.aim
  pub room : cells + appends_aim u.aim ≤ cell_count z

-- the ends once it has taken its own: it holds the one that its deed needs, and nobody lost one
pub record HasEnds (ends after : HeldEnds) (rows : List Row) (t : Txn) (d : Deed) : Type 0 where
  pub held : HoldsFor after t d
  pub sends : (q : Txn) (s : ℕ) → has_held q s ends.sending ≡ true → has_held q s after.sending ≡ true
  pub takes : (q : Txn) (s : ℕ) → has_held q s ends.receiving ≡ true → has_held q s after.receiving ≡ true
  pub sending : AreEnds rows after.sending
  pub receiving : AreEnds rows after.receiving

module _ (z : Sizes) (log : List Record) (ends after : HeldEnds) (rows : List Row) (i b cells : ℕ) (waiting : List ℕ) (whole : IsWhole z log) (k : AreStanding z log ends rows i b) (c : AreCounted z log rows cells waiting)
    (incarnation : incarnation_of log ≡ i) (some : 1 ≤ i) (r : Row) (u : Under) (m : MayStart z log rows waiting cells r u) (h : HasEnds ends after rows r.txn (deed_of u.aim)) where
  abbrev t : Txn
  t = r.txn

  own : IsRow z log ends i b r
  own = row z log ends rows i b k incarnation some r m.at_row

  kept : (q : Txn) (d : Deed) → HoldsFor ends q d → HoldsFor after q d
  kept q (Append s n tag previous body) e = h.sends q s e
  kept q (UnlinkHead s n tag body) e = h.takes q s e
  kept q (Close s) e = h.sends q s e
  kept q (Mark c tag previous) e = h.sends q (client_group c) e

  all_kept : (q : Txn) → HoldsAll ends q log → HoldsAll after q log
  all_kept q e = record { sends = λ s y. h.sends q s (e.sends s y); takes = λ s y. h.takes q s (e.takes s y) }

  fresh : began (operation t u.number) (items z log) ≡ false
  fresh = beyond_unbegun t u.number (items z log) (let n = m.number in let a = own.numbered in omega (arith, n, a))

  nobody : (p : ℕ) → latched_by u p ≡ true → (v : Sub) → same_op (operation t u.number) v ≡ false → (left_by z log).stands v p ≡ false
  nobody p on v e = nobody_stands z log ends (latched_in rows) p whole.legal (all_one z log ends rows i b cells waiting k c) (m.free p on) v

  goes : FollowsPlan z log after t u
  goes = starts z log after t u whole.legal fresh m.made nobody m.fits m.plan m.told h.held m.of_store m.reads

  abbrev zero_one : ℕ → ℕ
  zero_one n = cond (nat_eq n 0) 1 0

  not_logged : zero_one u.made ≡ 1
  not_logged = ap zero_one m.made

  own_now : IsRow z log after i b (row_started u r)
  own_now = record {
    of_incarnation = own.of_incarnation;
    counted = own.counted;
    running = own.running;
    forward = own.forward;
    done = own.done;
    held = all_kept t own.held;
    behind = own.behind;
    numbered = (let n = m.number in let a = own.numbered in let e : unmade r.under ≡ 0 = ap unmade m.idle in let f = not_logged in omega (arith, n, a, e, f));
    idle = λ n off. own.idle n (ap (is_under n) m.idle);
    going = (goes, refl, aim_started u r u.aim m.aims);
  }

  pub stands_start : AreStanding z log after (change_row t (row_started u) rows) i b
  stands_start = stands_started z log ends after rows i b k t r (row_started u) u m.at_row (λ q. refl) refl own_now kept all_kept h.sending h.receiving
      (λ q j n v e p on. in_latched z log ends rows i b cells waiting k c q rows v p j e (m.free p on)) (λ q v e g. with_ends z log ends after q v e g)

  pub counts_start : AreCounted z log (change_row t (row_started u) rows) (cells + appends_aim u.aim) waiting
  counts_start = counted_start z log rows cells waiting t r u c k.distinct m.at_row m.idle m.made m.room m.covers

-- what the plan of a deed tells, over slots that show its group
pub told_by_plan : (l : Places) (q : Slots) (d : Deed) (ws : List Write) (v : View) → IsPlan l (Did d) ws → HasBefores ws q → ShowsOwn l q d v → ((on_sending_end (deed_sender d) d ≡ true) → v.closed ≡ false) → TellsFor (Doing d) v
told_by_plan l q (Append s n tag previous body) ws v p f h not_closed = let a = append_tells l q ws s n tag previous body v p f h in (a.0, a.1, not_closed (eq-eqb s s refl))
told_by_plan l q (UnlinkHead s n tag body) ws v p f h not_closed = let a = head_tells l q ws s n tag body v p f h in (a.0.0, a.0.1, a.1)
told_by_plan l q (Close s) ws v p f h not_closed = not_closed (eq-eqb s s refl)
told_by_plan l q (Mark c tag previous) ws v p f h not_closed = mark_tells l q ws c tag previous v p f h

-- an end that is free is taken
pub takes_send : (ends : HeldEnds) (rows : List Row) (t : Txn) (s : ℕ) → AreEnds rows ends.sending → AreEnds rows ends.receiving → is_some (found_row t rows) ≡ true → is_free_for t s ends.sending ≡ true
    → (d : Deed) → HoldsFor (record { sending = with_held t s ends.sending; receiving = ends.receiving }) t d → HasEnds ends (record { sending = with_held t s ends.sending; receiving = ends.receiving }) rows t d
takes_send ends rows t s a b there free d held = record { held = held; sends = λ q e x. held_more t q s e ends.sending x; takes = λ q e x. x; sending = ends_taken t s rows ends.sending a there free; receiving = b }

pub takes_receive : (ends : HeldEnds) (rows : List Row) (t : Txn) (s : ℕ) → AreEnds rows ends.sending → AreEnds rows ends.receiving → is_some (found_row t rows) ≡ true → is_free_for t s ends.receiving ≡ true
    → (d : Deed) → HoldsFor (record { sending = ends.sending; receiving = with_held t s ends.receiving }) t d → HasEnds ends (record { sending = ends.sending; receiving = with_held t s ends.receiving }) rows t d
takes_receive ends rows t s a b there free d held = record { held = held; sends = λ q e x. x; takes = λ q e x. held_more t q s e ends.receiving x; sending = a; receiving = ends_taken t s rows ends.receiving b there free }

-- the ends that a transaction took for what it did are still its own
module _ (z : Sizes) (log : List Record) (ends : HeldEnds) (whole : IsWhole z log) (t : Txn) (all : HoldsAll ends t log) (p : Placed) (ps : List Placed) (is : open_deeds t (items z log) ≡ p ∷ ps) where
  used : (f : Deed → Bool) → f p.deed ≡ true → side f (open_deeds t (items z log)) ≡ [] → ⊥
  used f y e = let a : side f (p ∷ ps) ≡ [] = ap (side f) (sym is) ∙ e in let bad : p.deed ∷ side f ps ≡ [] = sym (ap (λ b. cond b (p.deed ∷ side f ps) (side f ps)) y) ∙ a in cc

  sends_held : (s : ℕ) → on_sending_end s p.deed ≡ true → has_held t s ends.sending ≡ true
  sends_held s y = elim (cases_Bool (any_use (uses_send s) (deeds (λ v. same_txn v t) log))) [
    | inl e ↦ all.sends s e
    | inr e ↦ absurd (used (on_sending_end s) y (unused (uses_send s) (on_sending_end s) (sends_same s) z t log whole.reads e))
  ]

  takes_held : (s : ℕ) → on_receiving_end s p.deed ≡ true → has_held t s ends.receiving ≡ true
  takes_held s y = elim (cases_Bool (any_use (uses_receive s) (deeds (λ v. same_txn v t) log))) [
    | inl e ↦ all.takes s e
    | inr e ↦ absurd (used (on_receiving_end s) y (unused (uses_receive s) (on_receiving_end s) (takes_same s) z t log whole.reads e))
  ]

  pub newest_held : (d : Deed) → p.deed ≡ d → HoldsFor ends t d
  newest_held (Append s n tag previous body) e = sends_held s (ap (on_sending_end s) e ∙ eq-eqb s s refl)
  newest_held (UnlinkHead s n tag body) e = takes_held s (ap (on_receiving_end s) e ∙ eq-eqb s s refl)
  newest_held (Close s) e = sends_held s (ap (on_sending_end s) e ∙ eq-eqb s s refl)
  newest_held (Mark c tag previous) e = let s = client_group c in sends_held s (ap (on_sending_end s) e ∙ eq-eqb s s refl)

-- the inverse of a transaction's newest deed may start, where its plan fits the slots and its pages are nobody's
pub may_undo : (z : Sizes) (log : List Record) (ends : HeldEnds) (rows : List Row) (i b cells : ℕ) (waiting : List ℕ) (whole : IsWhole z log) (k : AreStanding z log ends rows i b) (c : AreCounted z log rows cells waiting) (r : Row) (u : Under) (fs : List Finished) (f : Finished)
    → found_row r.txn rows ≡ Some r → r.under ≡ None → r.aborting ≡ true → r.finished ≡ fs ++ f ∷ [] → u.aim ≡ Undoing f.lsn f.deed → u.number ≡ r.number + 1 → u.made ≡ 0
    → ((p : ℕ) → latched_by u p ≡ true → latched_in rows p ≡ false) → IsPlan (layout_of z) (Undid f.deed) (reverse (writes_of z u.writes)) → HasBefores (reverse (writes_of z u.writes)) (left_by z log).slots
    → MayStart z log rows waiting cells r u × HasEnds ends ends rows r.txn (deed_of u.aim)
may_undo z log ends rows i b cells waiting whole k c r u fs f at_row idle aborting newest aim number made free plan fits =
    let here = (found_in r.txn rows r at_row).0 in
    let is = open_is z log ends rows i b cells waiting k c whole r here idle fs f newest in (
      record {
        at_row = at_row;
        idle = idle;
        number = number;
        made = made;
        aims = subst (IsAimOf r) (sym aim) (aborting, (fs, f.number, newest));
        free = free;
        plan = subst (λ a. IsPlan (layout_of z) (turn_of a) (reverse (writes_of z u.writes))) (sym aim) plan;
        fits = fits;
        told = subst (λ a. TellsFor a (view (items z log) (deed_sender (deed_of a)))) (sym aim) tt;
        of_store = subst (λ a. IsDeedOf z (deed_of a)) (sym aim) (stored z log ends rows i b cells waiting k c whole r here idle fs f newest);
        reads = subst ReadsFor (sym aim) tt;
        covers = subst (CoversAim waiting) (sym aim) tt;
        room = (let a : appends_aim u.aim ≡ 0 = ap appends_aim aim in let v = c.bound in omega (arith, a, v));
      },
      record {
        held = subst (λ a. HoldsFor ends r.txn (deed_of a)) (sym aim) (newest_held z log ends whole r.txn (k.each r here).held (placed_one f) (placed fs) is f.deed refl);
        sends = λ q s e. e;
        takes = λ q s e. e;
        sending = k.sending;
        receiving = k.receiving;
      },
    )
