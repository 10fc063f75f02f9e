-- Whether a group is closed its directory slot tells to whoever may send to it, whatever is under way.
use Rattle.std.proofs.Common.{◌≡◌, ◌≢◌, ℕ, ◌<◌, List, [], ◌∷◌, ◌++◌, take, drop, reverse, refl, sym, ◌∙◌, ap, subst, Bool, true, false, Option, Some, None, inl, inr, nat_eq, arith}
use Rattle.std.proofs.lemmas.Bool.{cases_Bool, cases_eq, eqb-true}
use Rattle.std.proofs.lemmas.List.{reverse-append, take-append-drop}
use Rattle.rq_model.specs.declared.txn.Sub.{Sub}
use Rattle.rq_model.specs.declared.txn.Txn.{Txn}
use Rattle.rq_model.specs.declared.record.Deed.{Deed}
use Rattle.rq_model.specs.declared.record.Deed.TheVariants.{Append, UnlinkHead, Close, Mark}
use Rattle.rq_model.specs.Vocabulary.{In}
use Rattle.rq_page.specs.declared.cell.Cell.{Cell}
use Rattle.rq_page.specs.declared.directory.Directory.{Directory}
use Rattle.rq_page.specs.Sizes.{sender_count, directory_at}
use Rattle.rq_page.specs.Slots.{Slot}
use Rattle.rq_page.specs.Slots.Slot.{Free, Used, Sender, Client}
use Rattle.rq_views.specs.Log.{Slots, Write, applied, HasBefores, Places}
use Rattle.rq_views.specs.Legal.{under_way, view}
use Rattle.rq_views.specs.Plans.{IsPlan, relinked}
use Rattle.rq_views.specs.Plans.Turn.{Did, Undid}
use Rattle.rq_views.specs.Items.{items, layout_of, operation}
use Rattle.rq_views.specs.Stored.{slots_in}
use Rattle.rq_views.proofs.Idle.{idle_writes}
use Rattle.rq_views.proofs.Overlay.{put_at, put_off}
use Rattle.rq_views.proofs.Stands.{store_is_layout}
use Rattle.rq_views.proofs.Views.{good, quiet_views}
use Rattle.rq_level.specs.Writes.{writes_of}
use Rattle.rq_groups.specs.Ends.{is_free_for}
use Rattle.rq_store.specs.Fitting.{left_by}
use Rattle.rq_store.specs.Rows.{HoldsFor, is_under}
use Rattle.rq_store.proofs.Ends.{free_alone}
use Rattle.rq_txn.specs.declared.Aim.{Aim}
use Rattle.rq_txn.specs.Rows.{Under, Row, deed_of, found_row}
use Rattle.rq_store.specs.State.{State}
use Rattle.rq_store.proofs.RowLists.{found_in, unique}
use Rattle.rq_txn.specs.declared.Aim.TheVariants as aims
use Rattle.rq_sound.specs.Rows.{turn_of}
use Rattle.rq_sound.specs.Standing.{FollowsPlan, IsAsPlanned}
use Rattle.rq_sound.specs.Sound.{IsSound}
use Rattle.rq_sound.specs.Calls.{IsIdle}

-- the flag of a directory slot
abbrev flag_of : Slot → Bool
flag_of Free = false
flag_of (Used c) = false
flag_of (Sender s d) = d.closed
flag_of (Client k) = false

-- what of the writes is over the slot leaves its flag
abbrev LeaveFlag : ℕ → List Write → Type 0
LeaveFlag a [] = Unit {0}
LeaveFlag a (w ∷ ws) = (w.at ≡ a → flag_of w.after ≡ flag_of w.before) × LeaveFlag a ws

-- a close, and its inverse, are of another sender
abbrev SparesFlag : ℕ → Deed → Type 0
SparesFlag g (Append s n tag previous body) = Unit {0}
SparesFlag g (UnlinkHead s n tag body) = Unit {0}
SparesFlag g (Close s) = s ≢ g
SparesFlag g (Mark c tag previous) = Unit {0}

relinked_leave : (a at : ℕ) (o : Option Cell) (f : Cell → Cell) (ws : List Write) → LeaveFlag a ws → LeaveFlag a (relinked at o f ws)
relinked_leave a at None f ws h = h
relinked_leave a at (Some c) f ws h = (λ e. refl, h)

-- directory slots of two senders stand at two places
other_slot : (s g : ℕ) → s ≢ g → directory_at s ≢ directory_at g
other_slot s g n e = n (omega (arith, e))

do_leaves : (l : Places) (g : ℕ) (at : (s : ℕ) → l.directory_at s ≡ directory_at s) (d : Deed) (ws : List Write) → SparesFlag g d → IsPlan l (Did d) ws → LeaveFlag (directory_at g) ws
do_leaves l g at (Append s n tag previous body) ws h p = subst (LeaveFlag (directory_at g)) (sym p.writes) (λ e. refl, relinked_leave (directory_at g) p.directory.tail p.old _ _ (λ e. refl, tt))
do_leaves l g at (UnlinkHead s n tag body) ws h p = subst (LeaveFlag (directory_at g)) (sym p.writes) (λ e. refl, relinked_leave (directory_at g) p.cell.next p.next _ _ (λ e. refl, tt))
do_leaves l g at (Close s) ws h p = subst (LeaveFlag (directory_at g)) (sym p.writes) (λ e. absurd (other_slot s g h (sym (at s) ∙ e)), tt)
do_leaves l g at (Mark c tag previous) ws h p = subst (LeaveFlag (directory_at g)) (sym p.writes) (λ e. refl, tt)

undo_leaves : (l : Places) (g : ℕ) (at : (s : ℕ) → l.directory_at s ≡ directory_at s) (d : Deed) (ws : List Write) → SparesFlag g d → IsPlan l (Undid d) ws → LeaveFlag (directory_at g) ws
undo_leaves l g at (Append s n tag previous body) ws h p = subst (LeaveFlag (directory_at g)) (sym p.writes) (λ e. refl, relinked_leave (directory_at g) p.cell.prev p.front _ _ (λ e. refl, tt))
undo_leaves l g at (UnlinkHead s n tag body) ws h p = subst (LeaveFlag (directory_at g)) (sym p.writes) (λ e. refl, relinked_leave (directory_at g) p.directory.head p.old _ _ (λ e. refl, tt))
undo_leaves l g at (Close s) ws h p = subst (LeaveFlag (directory_at g)) (sym p.writes) (λ e. absurd (other_slot s g h (sym (at s) ∙ e)), tt)
undo_leaves l g at (Mark c tag previous) ws h p = subst (LeaveFlag (directory_at g)) (sym p.writes) (λ e. refl, tt)

plan_leaves : (l : Places) (g : ℕ) (at : (s : ℕ) → l.directory_at s ≡ directory_at s) (a : Aim) (ws : List Write) → SparesFlag g (deed_of a) → IsPlan l (turn_of a) ws → LeaveFlag (directory_at g) ws
plan_leaves l g at (aims.Doing d) ws h p = do_leaves l g at d ws h p
plan_leaves l g at (aims.Undoing lsn d) ws h p = undo_leaves l g at d ws h p

part_leaves : (a : ℕ) (xs ys : List Write) → LeaveFlag a (xs ++ ys) → LeaveFlag a ys
part_leaves a [] ys h = h
part_leaves a (x ∷ xs) ys h = part_leaves a xs ys h.1

applied_leaves : (a : ℕ) (ws : List Write) (q : Slots) → LeaveFlag a ws → HasBefores ws q → flag_of (applied ws q a) ≡ flag_of (q a)
applied_leaves a [] q h f = refl
applied_leaves a (w ∷ ws) q h f = elim (cases_eq a w.at) [
  | inl e ↦ ap flag_of (put_at (applied ws q) w.at w.after a e) ∙ h.0 (sym e) ∙ ap flag_of f.0 ∙ ap (λ b. flag_of (applied ws q b)) (sym e) ∙ applied_leaves a ws q h.1 f.1
  | inr ne ↦ ap flag_of (put_off (applied ws q) w.at w.after a ne) ∙ applied_leaves a ws q h.1 f.1
]

module _ (s : State) (k : IsSound s) (r : Row) (m : IsIdle s r) (g : ℕ) (free : is_free_for r.txn g s.ends.sending ≡ true) where
  -- who has a close under way, or its inverse, holds that sending end
  spares : (q : Row) (u : Under) → In q s.rows → q.under ≡ Some u → (d : Deed) → HoldsFor s.ends q.txn d → SparesFlag g d
  spares q u i e (Append c n tag previous body) h = tt
  spares q u i e (UnlinkHead c n tag body) h = tt
  spares q u i e (Close c) h = λ same.
      let own : q.txn ≡ r.txn = free_alone r.txn q.txn g s.ends.sending free (subst (λ x. HoldsFor s.ends q.txn (Close x)) same h) in
      let is : q ≡ r = unique s.rows q r k.standing.distinct i (found_in r.txn s.rows r m.at_row).0 own in
      let bad : Some u ≡ None = sym e ∙ ap (λ (y : Row). y.under) is ∙ m.idle in
      cc
  spares q u i e (Mark c tag previous) h = tt

  abbrev Leaves : Sub → Type 0
  Leaves o = LeaveFlag (directory_at g) ((left_by s.sizes s.records).writes o)

  all_leave : (o : Sub) → Leaves o
  all_leave o = at (found_row o.txn s.rows) refl where
    quiet : under_way o (items s.sizes s.records) ≡ false → Leaves o
    quiet e = subst (LeaveFlag (directory_at g)) (sym (idle_writes (layout_of s.sizes) (items s.sizes s.records) o k.log.legal e)) tt

    mine : (q : Row) → In q s.rows → q.txn ≡ o.txn → (w : Option Under) → q.under ≡ w → Leaves o
    mine q i e None u = quiet (ap (λ (t : Txn). under_way (operation t o.number) (items s.sizes s.records)) (sym e) ∙ (k.standing.each q i).idle o.number (ap (is_under o.number) u))
    mine q i e (Some v) u = elim (cases_Bool (nat_eq v.number o.number)) [
      | inr n ↦ quiet (ap (λ (t : Txn). under_way (operation t o.number) (items s.sizes s.records)) (sym e) ∙ (k.standing.each q i).idle o.number (ap (is_under o.number) u ∙ n))
      | inl y ↦
          let h : FollowsPlan s.sizes s.records s.ends q.txn v = (subst (IsAsPlanned s.sizes s.records s.ends q) u (k.standing.each q i).going).0 in
          let whole = writes_of s.sizes v.writes in
          let all : LeaveFlag (directory_at g) (reverse whole) = plan_leaves (layout_of s.sizes) g (λ c. refl) v.aim (reverse whole) (spares q v i u (deed_of v.aim) h.held) h.plan in
          let split : reverse whole ≡ reverse (drop v.made whole) ++ reverse (take v.made whole) = ap reverse (sym (take-append-drop v.made whole)) ∙ reverse-append (take v.made whole) (drop v.made whole) in
          let part : LeaveFlag (directory_at g) (reverse (take v.made whole)) = part_leaves (directory_at g) (reverse (drop v.made whole)) (reverse (take v.made whole)) (subst (LeaveFlag (directory_at g)) split all) in
          let own : Leaves (operation q.txn v.number) = subst (LeaveFlag (directory_at g)) (sym h.written) part in
          subst Leaves (ap (λ (t : Txn). operation t v.number) e ∙ ap (operation o.txn) (eqb-true v.number o.number y)) own
    ]

    at : (w : Option Row) → found_row o.txn s.rows ≡ w → Leaves o
    at None f = quiet ((k.standing.others o.txn f).idle o.number)
    at (Some q) f = let i = found_in o.txn s.rows q f in mine q i.0 i.1 q.under refl

  -- the slot has the flag that whole operations have left
  flag_quiet : flag_of ((left_by s.sizes s.records).slots (directory_at g)) ≡ flag_of ((left_by s.sizes s.records).quiet (directory_at g))
  flag_quiet =
      let h = good (layout_of s.sizes) (items s.sizes s.records) k.log.legal in
      elim (h.each (directory_at g)) [
        | inl x ↦ ap flag_of x.2 ∙ applied_leaves (directory_at g) ((left_by s.sizes s.records).writes x.0) (left_by s.sizes s.records).quiet (all_leave x.0) (h.fits x.0)
        | inr x ↦ ap flag_of x.1
      ]

  -- so it tells whether its sender's view is closed
  pub flag_is : (d : Directory) → g < sender_count s.sizes → slots_in s.sizes s.images (directory_at g) ≡ Sender g d → (view (items s.sizes s.records) g).closed ≡ d.closed
  flag_is d below at =
      let v = quiet_views (layout_of s.sizes) (items s.sizes s.records) g (store_is_layout s.sizes) k.log.legal below in
      v.shows.closed ∙ sym (ap flag_of v.at) ∙ sym flag_quiet ∙ sym (ap flag_of (k.pages (directory_at g))) ∙ ap flag_of at
