-- The end of a compensation whose writes are all made.
use Rattle.std.proofs.Common.{◌≡◌, ◌≢◌, ℕ, ◌+◌, ◌-◌, ◌≤◌, ◌++◌, List, [], ◌∷◌, length, reverse, refl, sym, ◌∙◌, ap, subst, true, Some, None, arith}
use Rattle.std.proofs.lemmas.Bool.{cond-true, true≢false, false≢true, or_from}
use Rattle.rq_model.specs.declared.txn.Txn.{Txn}
use Rattle.rq_model.specs.declared.record.Deed.{Deed}
use Rattle.rq_model.specs.declared.record.Record.{Record}
use Rattle.rq_model.specs.Vocabulary.{In, same_txn}
use Rattle.rq_model.proofs.Lists.{same_self}
use Rattle.rq_page.specs.Sizes.{Sizes}
use Rattle.rq_views.specs.Items.{items, layout_of, operation}
use Rattle.rq_views.specs.Legal.{open_deeds, rest_placed, MayFollow, Undoes}
use Rattle.rq_views.specs.Log.Item.{CompEnd}
use Rattle.rq_views.specs.Plans.{IsPlan, deed_sender}
use Rattle.rq_views.specs.Plans.Turn.{Undid}
use Rattle.rq_level.specs.Writes.{writes_of}
use Rattle.rq_views.proofs.Views.{good}
use Rattle.rq_txn.specs.declared.Finished.{Finished}
use Rattle.rq_groups.specs.Ends.{HeldEnds}
use Rattle.rq_groups.specs.Waiting.{waits}
use Rattle.rq_model.specs.Incarnations.{incarnation_of}
use Rattle.rq_store.specs.Rows.{placed, placed_one}
use Rattle.rq_views.specs.Claims.{appends_of}
use Rattle.rq_views.proofs.Holders.{not_txn}
use Rattle.rq_store.specs.Fitting.{left_by}
use Rattle.rq_store.specs.Steps.{took}
use Rattle.rq_store.specs.Whole.{IsWhole}
use Rattle.rq_txn.specs.declared.Aim.{Aim}
use Rattle.rq_txn.specs.Rows.{Under, Row, deed_of, found_row, change_row, row_undone}
use Rattle.rq_txn.specs.declared.Aim.TheVariants.{Undoing}
use Rattle.rq_sound.specs.Rows.{turn_of, comp_end}
use Rattle.rq_sound.specs.Standing.{FollowsPlan, IsAimOf, IsRow, AreStanding}
use Rattle.rq_sound.specs.Counted.{AreCounted}
use Rattle.rq_store.proofs.Placed.{placed_more}
use Rattle.rq_sound.proofs.Going.{other_undoes}
use Rattle.rq_sound.proofs.Beside.{says_comp}
use Rattle.rq_sound.proofs.Counted.{writes_are, counted_undo}
use Rattle.rq_sound.proofs.OwnRecord.{row, of_order, running, going, greatest_now, idle_now, others_differ}
use Rattle.rq_sound.proofs.Standings.{stands_changed}

aim_is : (r : Row) (a : Aim) (lsn : ℕ) (d : Deed) → a ≡ Undoing lsn d → IsAimOf r a → (r.aborting ≡ true) × ((fs : List Finished) × (n : ℕ) × (r.finished ≡ fs ++ record { lsn = lsn; number = n; deed = d } ∷ []))
aim_is r a lsn d e h = subst (IsAimOf r) e h

module _ (z : Sizes) (log : List Record) (ends : HeldEnds) (rows : List Row) (i b cells : ℕ) (waiting ws : List ℕ) (whole : IsWhole z log) (k : AreStanding z log ends rows i b) (c : AreCounted z log rows cells waiting)
    (incarnation : incarnation_of log ≡ i) (some : 1 ≤ i) (r : Row) (u : Under) (lsn : ℕ) (d : Deed) (at_row : found_row r.txn rows ≡ Some r) (under : r.under ≡ Some u) (aim : u.aim ≡ Undoing lsn d) (made : u.made ≡ length u.writes)
    (more : (g : ℕ) → waits ws g ≡ waits waiting g + took g d) where
  abbrev t : Txn
  t = r.txn

  abbrev x : Record
  x = comp_end t u.number lsn

  own : IsRow z log ends i b r
  own = row z log ends rows i b k incarnation some r at_row

  g : FollowsPlan z log ends t u × (r.number ≡ u.number) × IsAimOf r u.aim
  g = going z log ends rows i b k incarnation some r at_row u under

  pub aborts : (r.aborting ≡ true) × ((fs : List Finished) × (n : ℕ) × (r.finished ≡ fs ++ record { lsn = lsn; number = n; deed = d } ∷ []))
  aborts = aim_is r u.aim lsn d aim g.2

  abbrev fs : List Finished
  fs = aborts.1.0

  abbrev f : Finished
  f = record { lsn = lsn; number = aborts.1.1; deed = d }

  open_is : open_deeds t (items z log) ≡ placed_one f ∷ placed fs
  open_is = own.done ∙ ap placed aborts.1.2 ∙ placed_more fs f

  plan_is : IsPlan (layout_of z) (Undid d) ((left_by z log).writes (operation t u.number))
  plan_is = subst (IsPlan (layout_of z) (Undid d)) (sym (writes_are z log ends t u whole made g.0)) (subst (λ a. IsPlan (layout_of z) (turn_of a) (reverse (writes_of z u.writes))) aim g.0.plan)

  may : MayFollow (layout_of z) (items z log) (CompEnd (operation t u.number) lsn)
  may = record {
    plan = subst (λ ps. Undoes (layout_of z) ps lsn ((left_by z log).writes (operation t u.number))) (sym open_is) (refl, plan_is);
    going = g.0.going;
    forward = g.0.forward;
    running = running z log ends rows i b k incarnation some r at_row;
  }

  pub whole_undo : IsWhole z (x ∷ log)
  whole_undo = record {
    legal = (may, whole.legal);
    told = (tt, whole.told);
    rules = (tt, (λ v e. absurd (false≢true e)), whole.rules);
    reads = (tt, whole.reads);
    in_store = (tt, whole.in_store);
    befores = (tt, whole.befores);
    based = (tt, whole.based);
    behind = (own.behind, whole.behind);
    order = (of_order z log ends rows i b k incarnation some r at_row, whole.order);
    room = (tt, whole.room);
    numbers = (tt, whole.numbers);
  }

  own_now : IsRow z (x ∷ log) ends i b (row_undone fs r)
  own_now = record {
    of_incarnation = own.of_incarnation;
    counted = own.counted;
    running = own.running;
    forward = λ e. absurd (true≢false (sym aborts.0 ∙ e));
    done = cond-true (same_txn t t) _ _ (same_self t) ∙ ap rest_placed open_is;
    held = record { sends = own.held.sends; takes = own.held.takes };
    behind = own.behind;
    numbered = (let e = greatest_now z log ends rows i b k incarnation some r at_row u under in omega (arith, e));
    idle = λ n m. idle_now z log ends rows i b k incarnation some r at_row u under n;
    going = tt;
  }

  differ : (q : Row) → In q rows → q.txn ≢ t → (v : Under) → q.under ≡ Some v → deed_sender d ≢ deed_sender (deed_of v.aim)
  differ q j n v e same = others_differ z log ends rows i b k incarnation some r at_row u under q j n v e (ap (λ a. deed_sender (deed_of a)) aim ∙ same)

  pub stands_undo : AreStanding z (x ∷ log) ends (change_row t (row_undone fs) rows) i b
  stands_undo = stands_changed z log (x ∷ log) ends rows i b k t r (row_undone fs) at_row (λ q. refl)
      (λ q n. says_comp z log t q u.number lsn (not_txn t q n))
      (λ q j n v e h. other_undoes z log ends q.txn v t u.number (not_txn t q.txn n) (not_txn q.txn t (λ s. n (sym s))) (good (layout_of z) (items z log) whole.legal) h lsn (placed_one f) (placed fs) open_is (differ q j n v e))
      own_now (λ v e. absurd (none_some v e)) (λ q n h. or_from _ _ (not_txn t q n) h)
    where
      none_some : (v : Under) → None ≡ Some v → ⊥
      none_some v e = cc

  pub counts_undo : AreCounted z (x ∷ log) (change_row t (row_undone fs) rows) (cells - appends_of d) ws
  counts_undo = counted_undo z log ends rows cells waiting ws t r u lsn d fs whole c k.distinct at_row under aim made g.0 aborts.1.1 aborts.1.2 (placed fs) open_is more
