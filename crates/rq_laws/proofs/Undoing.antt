-- Starts of inverses, by two stores in the same state.
use Rattle.std.proofs.Common.{◌≡◌, ℕ, ◌+◌, ◌-◌, List, [], ◌∷◌, map, reverse, refl, sym, ◌∙◌, ap, ap₂, subst, true, false, Option, Some, None, Result, Ok, Err}
use Rattle.std.specs.Result.{IfOk}
use Rattle.std.proofs.lemmas.Option.{same_Some}
use Rattle.rq_model.specs.declared.refusal.Refusal.{Refusal}
use Rattle.rq_model.specs.declared.record.Deed.{Deed}
use Rattle.rq_model.specs.declared.record.Deed.TheVariants.{Append, UnlinkHead, Close, Mark}
use Rattle.rq_model.specs.declared.txn.Sub.{Sub}
use Rattle.rq_model.specs.declared.txn.Txn.{Txn}
use Rattle.rq_model.specs.Legal.{OnFound}
use Rattle.rq_model.specs.Vocabulary.{last}
use Rattle.rq_page.specs.declared.cell.Cell.{Cell}
use Rattle.rq_page.specs.declared.client.ClientSlot.{ClientSlot}
use Rattle.rq_page.specs.declared.directory.Directory.{Directory}
use Rattle.rq_page.specs.Sizes.{Sizes}
use Rattle.rq_page.specs.Slots.Slot.{Free}
use Rattle.rq_views.specs.Items.{layout_of, operation}
use Rattle.rq_views.specs.Log.{Slots}
use Rattle.rq_views.specs.Plans.{unlink_tail_writes, put_back_writes, client_write, directory_write}
use Rattle.rq_views.specs.Plans.Turn.{Undid}
use Rattle.rq_views.specs.Stored.{slots_in}
use Rattle.rq_level.specs.declared.writes.SlotWrite.{SlotWrite}
use Rattle.rq_level.specs.Writes.{writes_of}
use Rattle.rq_txn.specs.declared.Finished.{Finished}
use Rattle.rq_txn.specs.Rows.{Row, Under, found_row}
use Rattle.rq_store.specs.State.{State}
use Rattle.rq_sound.specs.Inverses.{InverseTakesLowest}
use Rattle.rq_sound.specs.Plans.{IsPlannedFrom}
use Rattle.rq_sound.proofs.PlanFits.{same_cell}
use Rattle.rq_planner.proofs.Replies.{first_new}
use Rattle.rq_engine.specs.Aborts.{IsTurnedBack, IsUndoPlan, IsLowestUndo, IsUndoStarted, UndoSays}
use Rattle.rq_laws.specs.Alike.{AreAlike, row_told, under_told}
use Rattle.rq_laws.proofs.Slots.{client_same, sender_same}
use Rattle.rq_laws.proofs.Starts.{beside_same, lowest_same, rowless, rows_alike, same_alike, told_same}
use Rattle.rq_laws.proofs.Ending.{some_none}

-- the writes of an inverse
planned_same : (z : Sizes) (q : Slots) (rows : List Row) (us vs : List SlotWrite) (d : Deed) → q 0 ≡ Free → IsPlannedFrom z q us (Undid d) → IsPlannedFrom z q vs (Undid d)
    → InverseTakesLowest z q rows d us → InverseTakesLowest z q rows d vs → reverse (writes_of z us) ≡ reverse (writes_of z vs)
planned_same z q rows us vs (Append g n tag previous body) zero f h l m =
    let d = sender_same g g f.directory h.directory (sym f.directory_is ∙ h.directory_is) in
    let c = same_cell f.cell h.cell (sym f.tail_is ∙ ap (λ (d : Directory). q d.tail) d ∙ h.tail_is) in
    let o = beside_same q f.cell.prev h.cell.prev f.front h.front zero (ap (λ (c : Cell). c.prev) c) f.beside h.beside in
    f.writes ∙ ap (λ x. unlink_tail_writes (layout_of z) g x f.cell previous f.front) d ∙ ap (λ x. unlink_tail_writes (layout_of z) g h.directory x previous f.front) c ∙ ap (unlink_tail_writes (layout_of z) g h.directory h.cell previous) o ∙ sym h.writes
planned_same z q rows us vs (UnlinkHead g n tag body) zero f h l m =
    let d = sender_same g g f.directory h.directory (sym f.directory_is ∙ h.directory_is) in
    let o = beside_same q f.directory.head h.directory.head f.old h.old zero (ap (λ (d : Directory). d.head) d) f.beside h.beside in
    let w = lowest_same z q rows us vs f.new h.new l m (first_new z us _ f.old _ _ _ f.writes) (first_new z vs _ h.old _ _ _ h.writes) f.cell h.cell f.free h.free in
    f.writes ∙ ap (λ x. put_back_writes (layout_of z) g x f.new tag body f.old) d ∙ ap (λ x. put_back_writes (layout_of z) g h.directory x tag body f.old) w ∙ ap (put_back_writes (layout_of z) g h.directory h.new tag body) o ∙ sym h.writes
planned_same z q rows us vs (Close g) zero f h l m =
    let d = sender_same g g f.directory h.directory (sym f.directory_is ∙ h.directory_is) in
    f.writes ∙ ap (λ (d : Directory). directory_write (layout_of z) g d (record d { closed = false }) ∷ []) d ∙ sym h.writes
planned_same z q rows us vs (Mark c tag previous) zero f h l m =
    let e = client_same f.held h.held (sym f.held_is ∙ h.held_is) in
    f.writes ∙ ap (λ (k : ClientSlot). client_write (layout_of z) k (record k { count = k.count - 1; tag = previous }) ∷ []) e ∙ sym h.writes

undo_told : (z : Sizes) (q : Slots) (rows : List Row) (u v : Under) (f : Finished) → q 0 ≡ Free → IsUndoPlan z q u f → IsUndoPlan z q v f
    → InverseTakesLowest z q rows f.deed u.writes → InverseTakesLowest z q rows f.deed v.writes → u.number ≡ v.number → under_told z u ≡ under_told z v
undo_told z q rows u v f zero p r l m n = told_same z u v n (planned_same z q rows u.writes v.writes f.deed zero p.plan r.plan l m) (p.made ∙ sym r.made) (p.aim ∙ sym r.aim)

-- ---- what is next, and what is undone

turned_same : (n m : ℕ) (a b : Option Finished) (o : Option Row) → OnFound o (λ r. (r.under ≡ None) × (n ≡ r.number + 1) × (r.aborting ≡ true) × (last r.finished ≡ a)) → OnFound o (λ r. (r.under ≡ None) × (m ≡ r.number + 1) × (r.aborting ≡ true) × (last r.finished ≡ b)) → (n ≡ m) × (a ≡ b)
turned_same n m a b None p q = absurd p
turned_same n m a b (Some r) p q = (p.1 ∙ sym q.1, sym p.3 ∙ q.3)

turned : (s : State) (t u : Txn) (n m : ℕ) (a b : Option Finished) → t ≡ u → IsTurnedBack s t n a → IsTurnedBack s u m b → (n ≡ m) × (a ≡ b)
turned s t u n m a b e p q = turned_same n m a b (found_row u s.rows) (subst (λ t. IsTurnedBack s t n a) e p) q

both_started : (old : State) (sub : Sub) (x y : State) (f : IsUndoStarted old sub (IsLowestUndo old) x) (h : IsUndoStarted old sub (IsLowestUndo old) y) → f.done ≡ h.done → AreAlike x y
both_started old sub x y f h e =
    let p : IsUndoPlan old.sizes (slots_in old.sizes old.images) f.under h.done = subst (IsUndoPlan old.sizes (slots_in old.sizes old.images) f.under) e f.plan.planned in
    let l : InverseTakesLowest old.sizes (slots_in old.sizes old.images) old.rows h.done.deed f.under.writes = subst (λ (d : Finished). InverseTakesLowest old.sizes (slots_in old.sizes old.images) old.rows d.deed f.under.writes) e f.plan.lowest in
    let told = undo_told old.sizes (slots_in old.sizes old.images) old.rows f.under h.under h.done refl p h.plan.planned l h.plan.lowest (f.number ∙ sym h.number) in
    record {
      lists = ap rowless f.lists ∙ sym (ap rowless h.lists);
      rows = ap (λ (s : State). map (row_told s.sizes) s.rows) f.lists ∙ rows_alike old.sizes sub.txn f.under h.under old.rows told ∙ sym (ap (λ (s : State). map (row_told s.sizes) s.rows) h.lists);
    }

undo_says : (old : State) (t : Txn) (a b : Option Sub) (x y : State) → UndoSays old t a x → UndoSays old t b y → (a ≡ b) × AreAlike x y
undo_says old t None None x y f h = (refl, same_alike old x y f.1 h.1)
undo_says old t None (Some b) x y f h = absurd (some_none h.1.done (sym (turned old t b.txn _ _ _ _ (sym h.0) f.0.1 h.1.ready).1))
undo_says old t (Some a) None x y f h = absurd (some_none f.1.done (turned old a.txn t _ _ _ _ f.0 f.1.ready h.0.1).1)
undo_says old t (Some a) (Some b) x y f h =
    let w = turned old a.txn b.txn _ _ _ _ (f.0 ∙ sym h.0) f.1.ready h.1.ready in
    let e : a ≡ b = ap₂ operation (f.0 ∙ sym h.0) w.0 in
    let k : IsUndoStarted old a (IsLowestUndo old) y = subst (λ c. IsUndoStarted old c (IsLowestUndo old) y) (sym e) h.1 in
    let again = turned old a.txn a.txn _ _ _ _ refl f.1.ready k.ready in
    (ap Some e, both_started old a x y f.1 k (same_Some _ _ again.1))

-- starts of the same inverse answer the same and leave the same
pub undo_alike : (old old2 : State) (t : Txn) (p q : Result (Option Sub) Refusal) (x y : State) → old ≡ old2
    → IfOk p (λ a. UndoSays old t a x) → IfOk q (λ b. UndoSays old2 t b y)
    → IfOk p (λ a. IfOk q (λ b. (a ≡ b) × AreAlike x y))
undo_alike old old2 t (Err e) q x y is f h = tt
undo_alike old old2 t (Ok a) (Err e) x y is f h = tt
undo_alike old old2 t (Ok a) (Ok b) x y is f h = undo_says old t a b x y f (subst (λ s. UndoSays s t b y) (sym is) h)
