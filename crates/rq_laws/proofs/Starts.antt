-- Starts of operations, by two stores in the same state.
use Rattle.std.proofs.Common.{◌≡◌, ℕ, ◌+◌, ◌/◌, List, [], ◌∷◌, map, reverse, refl, sym, ◌∙◌, ap, ap₂, subst, true, false, Option, Some, None, Result, Ok, Err, inl, inr, arith, option_map, true≢false}
use Rattle.std.specs.Result.{IfOk}
use Rattle.std.proofs.lemmas.Bool.{cases_Bool, cases_lt}
use Rattle.rq_model.specs.Vocabulary.{same_txn}
use Rattle.rq_model.specs.declared.refusal.Refusal.{Refusal}
use Rattle.rq_model.specs.declared.record.Deed.TheVariants.{Append, UnlinkHead, Mark}
use Rattle.rq_model.specs.declared.txn.Sub.{Sub}
use Rattle.rq_model.specs.declared.txn.Txn.{Txn}
use Rattle.rq_model.specs.Legal.{OnFound}
use Rattle.rq_page.specs.declared.cell.Cell.{Cell}
use Rattle.rq_page.specs.declared.client.ClientSlot.{ClientSlot}
use Rattle.rq_page.specs.declared.directory.Directory.{Directory}
use Rattle.rq_page.specs.Sizes.{Sizes, IsCellAddress}
use Rattle.rq_page.specs.Slots.Slot.{Free}
use Rattle.rq_views.specs.Items.{layout_of, operation}
use Rattle.rq_views.specs.Log.{Slots, Write}
use Rattle.rq_views.specs.Plans.{append_writes, unlink_head_writes, client_write, directory_write}
use Rattle.rq_views.specs.Stored.{slots_in}
use Rattle.rq_level.specs.declared.writes.SlotWrite.{SlotWrite}
use Rattle.rq_level.specs.Writes.{IsFirstAt, writes_of}
use Rattle.rq_groups.specs.declared.End.{End}
use Rattle.rq_txn.specs.declared.Aim.{Aim}
use Rattle.rq_txn.specs.declared.Aim.TheVariants.{Doing}
use Rattle.rq_txn.specs.Rows.{Row, Under, found_row, change_row, change_row_one, row_started, latched_in}
use Rattle.rq_txn.proofs.Finding.{found_change_same}
use Rattle.rq_store.specs.State.{State}
use Rattle.rq_store.specs.Plans.{IsSendPlan, IsTakePlan, NoneWaits, Stands_at, WaitsFor}
use Rattle.rq_sound.specs.Lowest.{AreLatchedBelow, FirstIsLowest}
use Rattle.rq_sound.proofs.PlanFits.{same_cell}
use Rattle.rq_planner.proofs.Replies.{first_new}
use Rattle.rq_engine.specs.Answers.{HasNothingUnderWay, IsUnderWay, OnUnder}
use Rattle.rq_engine.specs.Closes.{IsClosePlan}
use Rattle.rq_engine.specs.Marks.{IsMarkPlan}
use Rattle.rq_engine.specs.Lists.{IsCloseStarted, IsMarkStarted, IsSendStarted, IsStarted, IsTakeStarted, TakeFromSays, TakeSays}
use Rattle.rq_engine.specs.Sends.{TakesLowest}
use Rattle.rq_laws.specs.Alike.{AreAlike, StartedAlike, RowTold, UnderTold, row_told, under_told}
use Rattle.rq_laws.proofs.Slots.{client_same, sender_same, used_free}

-- ---- what is told of a row

abbrev row_with : Row → UnderTold → RowTold
row_with r w = record { txn = r.txn; aborting = r.aborting; finished = r.finished; number = w.number; under = Some w }

one_alike : (z : Sizes) (t : Txn) (u v : Under) (r : Row) → under_told z u ≡ under_told z v → row_told z (change_row_one t (row_started u) r) ≡ row_told z (change_row_one t (row_started v) r)
one_alike z t u v r e = elim (cases_Bool (same_txn r.txn t)) [ inl h ↦ rw h (ap (row_with r) e) | inr h ↦ rw h refl ]

pub rows_alike : (z : Sizes) (t : Txn) (u v : Under) (rows : List Row) → under_told z u ≡ under_told z v
    → map (row_told z) (change_row t (row_started u) rows) ≡ map (row_told z) (change_row t (row_started v) rows)
rows_alike z t u v [] e = refl
rows_alike z t u v (r ∷ rows) e = ap₂ (λ a b. a ∷ b) (one_alike z t u v r e) (rows_alike z t u v rows e)

abbrev told_with : ℕ → List Write → ℕ → Aim → UnderTold
told_with n ws m a = record { number = n; writes = ws; made = m; aim = a }

pub told_same : (z : Sizes) (u v : Under) → u.number ≡ v.number → reverse (writes_of z u.writes) ≡ reverse (writes_of z v.writes) → u.made ≡ v.made → u.aim ≡ v.aim → under_told z u ≡ under_told z v
told_same z u v n w m a =
    ap (λ x. told_with x (reverse (writes_of z u.writes)) u.made u.aim) n
    ∙ ap (λ x. told_with v.number x u.made u.aim) w
    ∙ ap (λ x. told_with v.number (reverse (writes_of z v.writes)) x u.aim) m
    ∙ ap (told_with v.number (reverse (writes_of z v.writes)) v.made) a

-- ---- one operation is next

next_same : (n m : ℕ) (o : Option Row) → OnFound o (λ r. (r.under ≡ None) × (n ≡ r.number + 1)) → OnFound o (λ r. (r.under ≡ None) × (m ≡ r.number + 1)) → n ≡ m
next_same n m None p q = absurd p
next_same n m (Some r) p q = p.1 ∙ sym q.1

sub_same : (s : State) (a b : Sub) → a.txn ≡ b.txn → HasNothingUnderWay s a.txn a.number → HasNothingUnderWay s b.txn b.number → a ≡ b
sub_same s a b e p q = ap₂ operation e (next_same a.number b.number (found_row b.txn s.rows) (subst (λ t. HasNothingUnderWay s t a.number) e p) q)

abbrev pub rowless : State → State
rowless s = record s { rows = [] }

started_alike : (old : State) (end : End) (cells : ℕ) (P Q : Under → Type 0) (sub : Sub) (x y : State) (f : IsStarted old sub end cells P x) (g : IsStarted old sub end cells Q y)
    → (f.under.number ≡ g.under.number → under_told old.sizes f.under ≡ under_told old.sizes g.under) → AreAlike x y
started_alike old end cells P Q sub x y f g same =
    let told = same (f.number ∙ sym g.number) in
    record {
      lists = ap rowless f.lists ∙ sym (ap rowless g.lists);
      rows = ap (λ (s : State). map (row_told s.sizes) s.rows) f.lists ∙ rows_alike old.sizes sub.txn f.under g.under old.rows told ∙ sym (ap (λ (s : State). map (row_told s.sizes) s.rows) g.lists);
    }

-- ---- slots

pub beside_same : (q : Slots) (a b : ℕ) (o p : Option Cell) → q 0 ≡ Free → a ≡ b → Stands_at q a o → Stands_at q b p → o ≡ p
beside_same q a b None None z e f g = refl
beside_same q a b None (Some c) z e f g = absurd (used_free c (sym g ∙ ap q (sym e ∙ f) ∙ z))
beside_same q a b (Some c) None z e f g = absurd (used_free c (sym f ∙ ap q (e ∙ g) ∙ z))
beside_same q a b (Some c) (Some d) z e f g = ap Some (same_cell c d (sym f ∙ ap q e ∙ g))

-- ---- closes

close_told : (z : Sizes) (q : Slots) (u v : Under) (g : ℕ) → IsClosePlan z q u g → IsClosePlan z q v g → u.number ≡ v.number → under_told z u ≡ under_told z v
close_told z q u v g f h n =
    let d = sender_same g g f.marking.directory h.marking.directory (sym f.marking.directory_is ∙ h.marking.directory_is) in
    told_same z u v n (f.marking.writes ∙ ap (λ (d : Directory). directory_write (layout_of z) g d (record d { closed = true }) ∷ []) d ∙ sym h.marking.writes) (f.made ∙ sym h.made) (f.aim ∙ sym h.aim)

close_says : (old : State) (t : Txn) (g : ℕ) (a b : Sub) (x y : State) → IsCloseStarted old t g a x → IsCloseStarted old t g b y → (a ≡ b) × AreAlike x y
close_says old t g a b x y f h =
    let e = sub_same old a b (f.0 ∙ sym h.0) f.1.ready h.1.ready in
    let k : IsCloseStarted old t g a y = subst (λ c. IsCloseStarted old t g c y) (sym e) h in
    (e, started_alike old _ _ _ _ a x y f.1 k.1 (close_told old.sizes (slots_in old.sizes old.images) f.1.under k.1.under g f.1.plan k.1.plan))

-- starts of the same close answer the same and leave the same
pub close_alike : (old old2 : State) (t : Txn) (g : ℕ) (p q : Result Sub Refusal) (x y : State) → old ≡ old2
    → IfOk p (λ a. IsCloseStarted old t g a x) → IfOk q (λ b. IsCloseStarted old2 t g b y)
    → IfOk p (λ a. IfOk q (λ b. (a ≡ b) × AreAlike x y))
close_alike old old2 t g (Err e) q x y is f h = tt
close_alike old old2 t g (Ok a) (Err e) x y is f h = tt
close_alike old old2 t g (Ok a) (Ok b) x y is f h = close_says old t g a b x y f (subst (λ s. IsCloseStarted s t g b y) (sym is) h)

-- ---- marks

mark_told : (z : Sizes) (q : Slots) (u v : Under) (c tag : ℕ) → IsMarkPlan z q u c tag → IsMarkPlan z q v c tag → u.number ≡ v.number → under_told z u ≡ under_told z v
mark_told z q u v c tag f h n =
    let e = client_same f.tagging.held h.tagging.held (sym f.tagging.held_is ∙ h.tagging.held_is) in
    let previous : f.previous ≡ h.previous = f.tagging.previous_is ∙ ap (λ (k : ClientSlot). k.tag) e ∙ sym h.tagging.previous_is in
    told_same z u v n
    (f.tagging.writes ∙ ap (λ (k : ClientSlot). client_write (layout_of z) k (record k { count = k.count + 1; tag = tag }) ∷ []) e ∙ sym h.tagging.writes)
    (f.made ∙ sym h.made)
    (f.aim ∙ ap (λ p. Doing (Mark c tag p)) previous ∙ sym h.aim)

mark_says : (old : State) (t : Txn) (c tag : ℕ) (a b : Sub) (x y : State) → IsMarkStarted old t c tag a x → IsMarkStarted old t c tag b y → (a ≡ b) × AreAlike x y
mark_says old t c tag a b x y f h =
    let e = sub_same old a b (f.0 ∙ sym h.0) f.1.ready h.1.ready in
    let k : IsMarkStarted old t c tag a y = subst (λ s. IsMarkStarted old t c tag s y) (sym e) h in
    (e, started_alike old _ _ _ _ a x y f.1 k.1 (mark_told old.sizes (slots_in old.sizes old.images) f.1.under k.1.under c tag f.1.plan k.1.plan))

-- starts of the same mark answer the same and leave the same
pub mark_alike : (old old2 : State) (t : Txn) (c tag : ℕ) (p q : Result Sub Refusal) (x y : State) → old ≡ old2
    → IfOk p (λ a. IsMarkStarted old t c tag a x) → IfOk q (λ b. IsMarkStarted old2 t c tag b y)
    → IfOk p (λ a. IfOk q (λ b. (a ≡ b) × AreAlike x y))
mark_alike old old2 t c tag (Err e) q x y is f h = tt
mark_alike old old2 t c tag (Ok a) (Err e) x y is f h = tt
mark_alike old old2 t c tag (Ok a) (Ok b) x y is f h = mark_says old t c tag a b x y f (subst (λ s. IsMarkStarted s t c tag b y) (sym is) h)

-- ---- receives

take_told : (z : Sizes) (q : Slots) (u v : Under) (g : ℕ) → q 0 ≡ Free → IsTakePlan z q u g → IsTakePlan z q v g → u.number ≡ v.number → under_told z u ≡ under_told z v
take_told z q u v g zero f h n =
    let d = sender_same g g f.directory h.directory (sym f.directory_is ∙ h.directory_is) in
    let c = same_cell f.cell h.cell (sym f.head_is ∙ ap (λ (d : Directory). q d.head) d ∙ h.head_is) in
    let o = beside_same q f.cell.next h.cell.next f.next h.next zero (ap (λ (c : Cell). c.next) c) f.beside h.beside in
    told_same z u v n
    (f.writes ∙ ap (λ x. unlink_head_writes (layout_of z) g x f.cell f.next) d ∙ ap (λ x. unlink_head_writes (layout_of z) g h.directory x f.next) c ∙ ap (unlink_head_writes (layout_of z) g h.directory h.cell) o ∙ sym h.writes)
    (f.made ∙ sym h.made)
    (f.aim ∙ ap (λ (d : Directory). Doing (UnlinkHead g (d.received + 1) f.cell.tag f.cell.body)) d ∙ ap (λ (c : Cell). Doing (UnlinkHead g (h.directory.received + 1) c.tag c.body)) c ∙ sym h.aim)

take_says : (old : State) (t : Txn) (g : ℕ) (a b : Sub) (x y : State) → IsTakeStarted old t g a x → IsTakeStarted old t g b y → (a ≡ b) × AreAlike x y
take_says old t g a b x y f h =
    let e = sub_same old a b (f.0 ∙ sym h.0) f.2.ready h.2.ready in
    let k : IsTakeStarted old t g a y = subst (λ c. IsTakeStarted old t g c y) (sym e) h in
    (e, started_alike old _ _ _ _ a x y f.2 k.2 (take_told old.sizes (slots_in old.sizes old.images) f.2.under k.2.under g refl f.2.plan k.2.plan))

pub same_alike : (old x y : State) → x ≡ old → y ≡ old → AreAlike x y
same_alike old x y e f = let d = e ∙ sym f in record { lists = ap rowless d; rows = ap (λ (s : State). map (row_told s.sizes) s.rows) d }

from_says : (old : State) (t : Txn) (g : ℕ) (a b : Option Sub) (x y : State) → TakeFromSays old t g a x → TakeFromSays old t g b y → (a ≡ b) × AreAlike x y
from_says old t g None None x y f h = (refl, same_alike old x y f.4 h.4)
from_says old t g None (Some b) x y f h = let w = h.1.2 in let n = f.3 in absurd (omega (arith, w, n))
from_says old t g (Some a) None x y f h = let w = f.1.2 in let n = h.3 in absurd (omega (arith, w, n))
from_says old t g (Some a) (Some b) x y f h = let r = take_says old t g a b x y f h in (ap Some r.0, r.1)

-- starts of the same receive from a group answer the same and leave the same
pub from_alike : (old old2 : State) (t : Txn) (g : ℕ) (p q : Result (Option Sub) Refusal) (x y : State) → old ≡ old2
    → IfOk p (λ a. TakeFromSays old t g a x) → IfOk q (λ b. TakeFromSays old2 t g b y)
    → IfOk p (λ a. IfOk q (λ b. (a ≡ b) × AreAlike x y))
from_alike old old2 t g (Err e) q x y is f h = tt
from_alike old old2 t g (Ok a) (Err e) x y is f h = tt
from_alike old old2 t g (Ok a) (Ok b) x y is f h = from_says old t g a b x y f (subst (λ s. TakeFromSays s t g b y) (sym is) h)

abbrev endless : State → State
endless s = record s { rows = []; ends = record { sending = s.ends.sending; receiving = [] } }

none_some : (old : State) (t : Txn) (g : ℕ) → NoneWaits old t → WaitsFor old t g → ⊥
none_some old t g n w = let z = n g w.0 w.1 in let o = w.2 in omega (arith, z, o)

any_says : (old : State) (t : Txn) (a b : Option Sub) (x y : State) → TakeSays old t a x → TakeSays old t b y → StartedAlike a b x y
any_says old t None None x y f h = record { sub = refl; lists = ap endless (f.2 ∙ sym h.2) }
any_says old t None (Some b) x y f h = absurd (none_some old t h.0 f.1 h.1.1)
any_says old t (Some a) None x y f h = absurd (none_some old t f.0 h.1 f.1.1)
any_says old t (Some a) (Some b) x y f h =
    let e = sub_same old a b (f.1.0 ∙ sym h.1.0) f.1.2.ready h.1.2.ready in
    record { sub = ap Some e; lists = ap endless f.1.2.lists ∙ sym (ap endless h.1.2.lists) }

-- starts of a receive from some group answer the same
pub any_alike : (old old2 : State) (t : Txn) (p q : Result (Option Sub) Refusal) (x y : State) → old ≡ old2
    → IfOk p (λ a. TakeSays old t a x) → IfOk q (λ b. TakeSays old2 t b y)
    → IfOk p (λ a. IfOk q (λ b. StartedAlike a b x y))
any_alike old old2 t (Err e) q x y is f h = tt
any_alike old old2 t (Ok a) (Err e) x y is f h = tt
any_alike old old2 t (Ok a) (Ok b) x y is f h = any_says old t a b x y f (subst (λ s. TakeSays s t b y) (sym is) h)

-- ---- sends

lowest_at : (z : Sizes) (q : Slots) (rows : List Row) (us : List SlotWrite) (a : ℕ) → FirstIsLowest z q rows us → IsFirstAt a us → AreLatchedBelow z q rows a × (latched_in rows (a / 16) ≡ false)
lowest_at z q rows [] a l f = absurd f
lowest_at z q rows (u ∷ us) a l f = (subst (AreLatchedBelow z q rows) f l.0, ap (λ x. latched_in rows (x / 16)) (sym f) ∙ l.1)

pub lowest_same : (z : Sizes) (q : Slots) (rows : List Row) (us vs : List SlotWrite) (a b : ℕ) → FirstIsLowest z q rows us → FirstIsLowest z q rows vs → IsFirstAt a us → IsFirstAt b vs → IsCellAddress z a → IsCellAddress z b → q a ≡ Free → q b ≡ Free → a ≡ b
lowest_same z q rows us vs a b l m f g ca cb fa fb =
    let p = lowest_at z q rows us a l f in
    let r = lowest_at z q rows vs b m g in
    elim (cases_lt a b) [
      | inl lt ↦ absurd (true≢false (sym (r.0 a ca lt fa) ∙ p.1))
      | inr ge ↦
          elim (cases_lt b a) [
            | inl lt ↦ absurd (true≢false (sym (p.0 b cb lt fb) ∙ r.1))
            | inr le ↦ omega (arith, ge, le)
          ]
    ]

-- the writes of what was started
started_takes : (old x : State) (a : Sub) (u : Under) → x.rows ≡ change_row a.txn (row_started u) old.rows → IsUnderWay x a (λ r v. TakesLowest old v.writes) → TakesLowest old u.writes
started_takes old x a u e h = at (found_row a.txn old.rows) (subst (λ o. OnFound o (λ (r : Row). OnUnder a.number (λ r v. TakesLowest old v.writes) r r.under)) (ap (found_row a.txn) e ∙ found_change_same a.txn (row_started u) old.rows (λ r. refl)) h) where
  at : (o : Option Row) → OnFound (option_map (row_started u) o) (λ (r : Row). OnUnder a.number (λ r v. TakesLowest old v.writes) r r.under) → TakesLowest old u.writes
  at None k = absurd k
  at (Some r) k = k.1

send_told : (z : Sizes) (q : Slots) (rows : List Row) (u v : Under) (g tag : ℕ) (body : List ℕ) → q 0 ≡ Free → IsSendPlan z q u g tag body → IsSendPlan z q v g tag body → FirstIsLowest z q rows u.writes → FirstIsLowest z q rows v.writes → u.number ≡ v.number → under_told z u ≡ under_told z v
send_told z q rows u v g tag body zero f h l m n =
    let d = sender_same g g f.directory h.directory (sym f.directory_is ∙ h.directory_is) in
    let o = beside_same q f.directory.tail h.directory.tail f.old h.old zero (ap (λ (d : Directory). d.tail) d) f.beside h.beside in
    let w = lowest_same z q rows u.writes v.writes f.new h.new l m (first_new z u.writes _ f.old _ _ _ f.writes) (first_new z v.writes _ h.old _ _ _ h.writes) f.cell h.cell f.free h.free in
    told_same z u v n
    (f.writes ∙ ap (λ x. append_writes (layout_of z) g x f.new tag body f.old) d ∙ ap (λ x. append_writes (layout_of z) g h.directory x tag body f.old) w ∙ ap (append_writes (layout_of z) g h.directory h.new tag body) o ∙ sym h.writes)
    (f.made ∙ sym h.made)
    (f.aim ∙ ap (λ (d : Directory). Doing (Append g (d.sent + 1) tag d.last_tag body)) d ∙ sym h.aim)

send_says : (old : State) (t : Txn) (g tag : ℕ) (body : List ℕ) (a b : Sub) (x y : State) → IsSendStarted old t g tag body a x → IsSendStarted old t g tag body b y → IsUnderWay x a (λ r u. TakesLowest old u.writes) → IsUnderWay y b (λ r u. TakesLowest old u.writes) → (a ≡ b) × AreAlike x y
send_says old t g tag body a b x y f h l m =
    let e = sub_same old a b (f.0 ∙ sym h.0) f.1.ready h.1.ready in
    let k : IsSendStarted old t g tag body a y = subst (λ c. IsSendStarted old t g tag body c y) (sym e) h in
    let n : IsUnderWay y a (λ r u. TakesLowest old u.writes) = subst (λ c. IsUnderWay y c (λ r u. TakesLowest old u.writes)) (sym e) m in
    let lx = started_takes old x a f.1.under (ap (λ (s : State). s.rows) f.1.lists) l in
    let ly = started_takes old y a k.1.under (ap (λ (s : State). s.rows) k.1.lists) n in
    (e, started_alike old _ _ _ _ a x y f.1 k.1 (send_told old.sizes (slots_in old.sizes old.images) old.rows f.1.under k.1.under g tag body refl f.1.plan k.1.plan lx ly))

-- starts of the same send answer the same and leave the same
pub send_alike : (old old2 : State) (t : Txn) (g tag : ℕ) (body : List ℕ) (p q : Result Sub Refusal) (x y : State) → old ≡ old2
    → IfOk p (λ a. IsSendStarted old t g tag body a x) → IfOk q (λ b. IsSendStarted old2 t g tag body b y)
    → IfOk p (λ a. IsUnderWay x a (λ r u. TakesLowest old u.writes)) → IfOk q (λ b. IsUnderWay y b (λ r u. TakesLowest old2 u.writes))
    → IfOk p (λ a. IfOk q (λ b. (a ≡ b) × AreAlike x y))
send_alike old old2 t g tag body (Err e) q x y is f h l m = tt
send_alike old old2 t g tag body (Ok a) (Err e) x y is f h l m = tt
send_alike old old2 t g tag body (Ok a) (Ok b) x y is f h l m =
    send_says old t g tag body a b x y f (subst (λ s. IsSendStarted s t g tag body b y) (sym is) h) l (subst (λ s. IsUnderWay y b (λ r u. TakesLowest s u.writes)) (sym is) m)
