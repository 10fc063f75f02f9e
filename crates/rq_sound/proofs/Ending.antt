-- The end of an operation whose writes are all made: a send, a receive, a close or a mark.
use Rattle.std.proofs.Common.{◌≡◌, ◌≢◌, ℕ, ◌+◌, ◌-◌, ◌<◌, ◌≤◌, ◌++◌, ◌||◌, List, [], ◌∷◌, length, reverse, refl, sym, ◌∙◌, ap, subst, true, false, Option, Some, None, inl, inr, arith}
use Rattle.std.proofs.lemmas.Bool.{cond-true, false≢true, or_from, or_cases, eqb-true}
use Rattle.std.proofs.lemmas.List.{length-map}
use Rattle.rq_model.specs.declared.txn.Txn.{Txn}
use Rattle.rq_model.specs.declared.record.Deed.{Deed}
use Rattle.rq_model.specs.declared.record.Deed.TheVariants.{Append, UnlinkHead, Close, Mark}
use Rattle.rq_model.specs.declared.record.Record.{Record}
use Rattle.rq_model.specs.Vocabulary.{In, client_group, same_txn}
use Rattle.rq_model.specs.Deeds.{deed_by, deed_level, spelled_deed, TellsItself}
use Rattle.rq_model.specs.Content.{said, deeds, kept, ending_by, removed, added, has_commit}
use Rattle.rq_model.specs.Rules.{any_use, uses_send, uses_receive, MayEnd, EndingMay}
use Rattle.rq_model.proofs.Lists.{same_self}
use Rattle.rq_page.specs.Sizes.{Sizes, cell_count}
use Rattle.rq_views.specs.InStore.{IsDeedOf}
use Rattle.rq_views.specs.Log.Item.{OpEnd}
use Rattle.rq_views.specs.Items.{items, item_of, layout_of, operation, told_deed, has_undone}
use Rattle.rq_views.specs.Legal.{open_deeds, MayFollow, view}
use Rattle.rq_views.specs.Groups.{TellsView}
use Rattle.rq_views.specs.Plans.{IsPlan, deed_sender}
use Rattle.rq_views.specs.Plans.Turn.{Did}
use Rattle.rq_level.specs.Writes.{writes_of}
use Rattle.rq_views.proofs.Views.{good}
use Rattle.rq_txn.specs.declared.Finished.{Finished}
use Rattle.rq_groups.specs.Ends.{HeldEnds, has_held}
use Rattle.rq_groups.specs.Waiting.{waits}
use Rattle.rq_model.specs.Incarnations.{incarnation_of}
use Rattle.rq_store.specs.Rows.{placed, placed_one, HoldsFor, HasWaiting}
use Rattle.rq_views.specs.Claims.{appends_of, claimed}
use Rattle.rq_views.proofs.Holders.{not_txn}
use Rattle.rq_store.specs.Steps.{op_end, took}
use Rattle.rq_store.specs.Whole.{IsWhole}
use Rattle.rq_txn.specs.declared.Aim.{Aim}
use Rattle.rq_txn.specs.Rows.{Under, Row, deed_of, found_row, change_row, row_finished}
use Rattle.rq_txn.specs.declared.Aim.TheVariants.{Doing}
use Rattle.rq_store.proofs.RowSums.{one_of_sum}
use Rattle.rq_sound.specs.Rows.{turn_of}
use Rattle.rq_sound.specs.Standing.{FollowsPlan, IsAimOf, IsRow, HoldsAll, TellsFor, ReadsFor, AreStanding}
use Rattle.rq_sound.specs.Counted.{AreCounted, IsCovered, CoversAim, appending, appending_in, appends_aim}
use Rattle.rq_store.proofs.Placed.{placed_more}
use Rattle.rq_sound.proofs.Claimed.{claimed_by_rows}
use Rattle.rq_sound.proofs.Going.{other_ends}
use Rattle.rq_sound.proofs.Beside.{says_end}
use Rattle.rq_sound.proofs.Alone.{used_by_holder, taken_by_holder, more_left, takes_below}
use Rattle.rq_sound.proofs.Counted.{writes_are, counted_finish}
use Rattle.rq_sound.proofs.OwnRecord.{place, row, of_order, running, going, greatest_now, idle_now, others_differ}
use Rattle.rq_sound.proofs.Standings.{stands_changed}

aim_is : (r : Row) (a : Aim) (d : Deed) → a ≡ Doing d → IsAimOf r a → r.aborting ≡ false
aim_is r a d e h = subst (IsAimOf r) e h

-- who holds an end for a deed holds it once it is done
pub holds_sends : (ends : HeldEnds) (t : Txn) (d : Deed) (s : ℕ) → HoldsFor ends t d → uses_send s (said d) ≡ true → has_held t s ends.sending ≡ true
holds_sends ends t (Append q n tag previous body) s h y = subst (λ p. has_held t p ends.sending ≡ true) (eqb-true q s y) h
holds_sends ends t (UnlinkHead q n tag body) s h y = absurd (false≢true y)
holds_sends ends t (Close q) s h y = subst (λ p. has_held t p ends.sending ≡ true) (eqb-true q s y) h
holds_sends ends t (Mark c tag previous) s h y = subst (λ p. has_held t p ends.sending ≡ true) (eqb-true (client_group c) s y) h

pub holds_takes : (ends : HeldEnds) (t : Txn) (d : Deed) (s : ℕ) → HoldsFor ends t d → uses_receive s (said d) ≡ true → has_held t s ends.receiving ≡ true
holds_takes ends t (Append q n tag previous body) s h y = absurd (false≢true y)
holds_takes ends t (UnlinkHead q n tag body) s h y = subst (λ p. has_held t p ends.receiving ≡ true) (eqb-true q s y) h
holds_takes ends t (Close q) s h y = absurd (false≢true y)
holds_takes ends t (Mark c tag previous) s h y = absurd (false≢true y)

module _ (z : Sizes) (log : List Record) (ends : HeldEnds) (rows : List Row) (i b cells : ℕ) (waiting : List ℕ) (whole : IsWhole z log) (k : AreStanding z log ends rows i b) (c : AreCounted z log rows cells waiting) (r : Row) (j : In r rows) where
  -- a deed of the sending end
  sent_may_end : (d : Deed) → HoldsFor ends r.txn d → ((e : ℕ) → uses_receive e (said d) ≡ false) → (e : ℕ) → MayEnd log e r.txn (said d)
  sent_may_end d h none e = record {
    not_ended = (k.each r j).running;
    alone_send = λ y v used. used_by_holder z log ends rows i b whole k e r.txn v (holds_sends ends r.txn d e h y) used;
    alone_receive = λ y. absurd (false≢true (sym (none e) ∙ y));
    has_more = λ y. absurd (false≢true (sym (none e) ∙ y));
  }

  ends_of_deed : (d : Deed) → has_undone log r.txn ≡ false → HoldsFor ends r.txn d → IsDeedOf z d → HasWaiting waiting d → (e : ℕ) → MayEnd log e r.txn (said d)
  ends_of_deed (Append q n tag previous body) forward h m w e = sent_may_end (Append q n tag previous body) h (λ s. refl) e
  ends_of_deed (UnlinkHead q n tag body) forward h m w e = record {
    not_ended = (k.each r j).running;
    alone_send = λ y. absurd (false≢true y);
    alone_receive = λ y v used. taken_by_holder z log ends rows i b whole k e r.txn v (subst (λ p. has_held r.txn p ends.receiving ≡ true) (eqb-true q e y) h) used;
    has_more = λ y. subst (λ p. removed p (deeds (λ u. has_commit log u || same_txn u r.txn) log) < length (added p (deeds (has_commit log) log))) (eqb-true q e y)
        (more_left z log ends rows i b whole k q r j forward (let v = takes_below z log ends rows i b whole k cells waiting c q r m j in let x : 1 ≤ waits waiting q = w in omega (arith, v, x)));
  }
  ends_of_deed (Close q) forward h m w e = sent_may_end (Close q) h (λ s. refl) e
  ends_of_deed (Mark c tag previous) forward h m w e = sent_may_end (Mark c tag previous) h (λ s. refl) e

holds_more : (ends : HeldEnds) (t : Txn) (log new : List Record) (d : Deed) → deeds (λ u. same_txn u t) new ≡ said d ∷ deeds (λ u. same_txn u t) log → HoldsFor ends t d → HoldsAll ends t log → HoldsAll ends t new
holds_more ends t log new d e h all = record {
  sends = λ s y. elim (or_cases (uses_send s (said d)) (any_use (uses_send s) (deeds (λ u. same_txn u t) log)) (subst (λ ds. any_use (uses_send s) ds ≡ true) e y)) [ inl a ↦ holds_sends ends t d s h a | inr a ↦ all.sends s a ];
  takes = λ s y. elim (or_cases (uses_receive s (said d)) (any_use (uses_receive s) (deeds (λ u. same_txn u t) log)) (subst (λ ds. any_use (uses_receive s) ds ≡ true) e y)) [ inl a ↦ holds_takes ends t d s h a | inr a ↦ all.takes s a ];
}

module _ (z : Sizes) (log : List Record) (ends : HeldEnds) (rows : List Row) (i b cells : ℕ) (waiting ws : List ℕ) (whole : IsWhole z log) (k : AreStanding z log ends rows i b) (c : AreCounted z log rows cells waiting)
    (incarnation : incarnation_of log ≡ i) (some : 1 ≤ i) (r : Row) (u : Under) (d : Deed) (at_row : found_row r.txn rows ≡ Some r) (under : r.under ≡ Some u) (aim : u.aim ≡ Doing d) (made : u.made ≡ length u.writes)
    (fewer : (g : ℕ) → waits ws g ≡ waits waiting g - took g d) where
  abbrev t : Txn
  t = r.txn

  abbrev x : Record
  x = op_end t u.number d

  abbrev f : Finished
  f = record { lsn = length log + 1; number = u.number; deed = d }

  abbrev said_deed : Deed
  said_deed = told_deed (deed_by (deed_level d) (spelled_deed d))

  here : In r rows
  here = place z log ends rows i b k incarnation some r at_row

  own : IsRow z log ends i b r
  own = row z log ends rows i b k incarnation some r at_row

  g : FollowsPlan z log ends t u × (r.number ≡ u.number) × IsAimOf r u.aim
  g = going z log ends rows i b k incarnation some r at_row u under

  forward : r.aborting ≡ false
  forward = aim_is r u.aim d aim g.2

  reads : TellsItself d
  reads = subst ReadsFor aim g.0.reads

  deed_is : said_deed ≡ d
  deed_is = ap told_deed reads

  held_here : HoldsFor ends t d
  held_here = subst (λ a. HoldsFor ends t (deed_of a)) aim g.0.held

  stored : IsDeedOf z d
  stored = subst (λ a. IsDeedOf z (deed_of a)) aim g.0.of_store

  told : TellsView d (view (items z log) (deed_sender d))
  told = subst (λ a. TellsFor a (view (items z log) (deed_sender (deed_of a)))) aim g.0.told

  covers : HasWaiting waiting d
  covers = subst (CoversAim waiting) aim (subst (IsCovered waiting) under (c.covered r here))

  plan : IsPlan (layout_of z) (Did d) (reverse (writes_of z u.writes))
  plan = subst (λ a. IsPlan (layout_of z) (turn_of a) (reverse (writes_of z u.writes))) aim g.0.plan

  may : MayFollow (layout_of z) (items z log) (OpEnd (operation t u.number) said_deed)
  may = record {
    plan = subst (IsPlan (layout_of z) (Did said_deed)) (sym (writes_are z log ends t u whole made g.0)) (subst (λ e. IsPlan (layout_of z) (Did e) (reverse (writes_of z u.writes))) (sym deed_is) plan);
    going = g.0.going;
    forward = g.0.forward;
    running = running z log ends rows i b k incarnation some r at_row;
  }

  told_here : TellsView said_deed (view (items z log) (deed_sender said_deed))
  told_here = subst (λ y. TellsView y (view (items z log) (deed_sender y))) (sym deed_is) told

  rule : EndingMay log (Some (record { txn = t; said = said d }))
  rule e = ends_of_deed z log ends rows i b cells waiting whole k c r here d (own.forward forward) held_here stored covers e

  -- the store is not over its cells
  room : claimed (items z log) + appends_of d ≤ cell_count z
  room =
      let a = claimed_by_rows z log ends rows i b whole k in
      let e = c.used in
      let v = c.bound in
      let one = one_of_sum appending_in rows r here in
      let x : appending_in r ≡ appends_of d = ap appending under ∙ ap appends_aim aim in
      omega (arith, a, e, v, one, x)

  pub whole_finish : IsWhole z (x ∷ log)
  whole_finish = record {
    legal = (may, whole.legal);
    told = (told_here, whole.told);
    rules = (subst (EndingMay log) (sym (ap (ending_by t) reads)) rule, (λ v e. absurd (false≢true e)), whole.rules);
    reads = (((d, reads), own.forward forward), whole.reads);
    in_store = (subst (IsDeedOf z) (sym deed_is) stored, whole.in_store);
    befores = (tt, whole.befores);
    based = (tt, whole.based);
    behind = (own.behind, whole.behind);
    order = (of_order z log ends rows i b k incarnation some r at_row, whole.order);
    room = (subst (λ y. claimed (items z log) + appends_of y ≤ cell_count z) (sym deed_is) room, whole.room);
    numbers = (tt, whole.numbers);
  }

  placed_now : open_deeds t (items z (x ∷ log)) ≡ placed (r.finished ++ f ∷ [])
  placed_now =
      cond-true (same_txn t t) _ _ (same_self t)
      ∙ ap (λ (n : ℕ). record { lsn = n + 1; deed = said_deed } ∷ open_deeds t (items z log)) (length-map log (item_of z))
      ∙ ap (λ (e : Deed). record { lsn = length log + 1; deed = e } ∷ open_deeds t (items z log)) deed_is
      ∙ ap (λ ps. placed_one f ∷ ps) own.done
      ∙ sym (placed_more r.finished f)

  deeds_now : deeds (λ v. same_txn v t) (x ∷ log) ≡ said d ∷ deeds (λ v. same_txn v t) log
  deeds_now = ap (λ (y : Option Deed). kept (λ v. same_txn v t) (ending_by t y) (deeds (λ v. same_txn v t) log)) reads ∙ cond-true (same_txn t t) _ _ (same_self t)

  own_now : IsRow z (x ∷ log) ends i b (row_finished f r)
  own_now = record {
    of_incarnation = own.of_incarnation;
    counted = own.counted;
    running = own.running;
    forward = own.forward;
    done = placed_now;
    held = holds_more ends t log (x ∷ log) d deeds_now held_here own.held;
    behind = own.behind;
    numbered = (let e = greatest_now z log ends rows i b k incarnation some r at_row u under in omega (arith, e));
    idle = λ n m. idle_now z log ends rows i b k incarnation some r at_row u under n;
    going = tt;
  }

  differ : (q : Row) → In q rows → q.txn ≢ t → (v : Under) → q.under ≡ Some v → deed_sender d ≢ deed_sender (deed_of v.aim)
  differ q j n v e same = others_differ z log ends rows i b k incarnation some r at_row u under q j n v e (ap (λ a. deed_sender (deed_of a)) aim ∙ same)

  pub stands_finish : AreStanding z (x ∷ log) ends (change_row t (row_finished f) rows) i b
  stands_finish = stands_changed z log (x ∷ log) ends rows i b k t r (row_finished f) at_row (λ q. refl)
      (λ q n. says_end z log t q u.number d reads (not_txn t q n))
      (λ q j n v e h. other_ends z log ends q.txn v t u.number (not_txn t q.txn n) (not_txn q.txn t (λ s. n (sym s))) (good (layout_of z) (items z log) whole.legal) h d reads (differ q j n v e))
      own_now (λ v e. absurd (none_some v e)) (λ q n h. or_from _ _ (not_txn t q n) h)
    where
      none_some : (v : Under) → None ≡ Some v → ⊥
      none_some v e = cc

  pub counts_finish : AreCounted z (x ∷ log) (change_row t (row_finished f) rows) cells ws
  counts_finish = counted_finish z log ends rows cells waiting ws t r u d whole c k.distinct at_row under aim made g.0 reads fewer differ
