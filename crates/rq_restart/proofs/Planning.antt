-- What is due can be planned to be taken back.
use Rattle.std.proofs.Common.{◌≡◌, ℕ, ◌/◌, ◌<◌, List, [], Result, Err, Some, refl, sym, ◌∙◌, ap, subst, false, arith}
use Rattle.rq_model.specs.declared.record.Deed.{Deed}
use Rattle.rq_model.specs.declared.record.Deed.TheVariants.{Append, UnlinkHead, Close, Mark}
use Rattle.rq_model.specs.declared.record.Record.{Record}
use Rattle.rq_model.specs.declared.refusal.Refusal.{Refusal}
use Rattle.rq_model.specs.declared.refusal.Refusal.TheVariants as why
use Rattle.rq_model.specs.Deeds.{deed_by}
use Rattle.rq_page.specs.declared.directory.Directory.{Directory}
use Rattle.rq_page.specs.Sizes.{Sizes, client_slot_at, directory_at}
use Rattle.rq_page.specs.Slots.Slot.{Client, Sender}
use Rattle.rq_views.specs.Items.{told_deed}
use Rattle.rq_views.specs.Log.{Slots}
use Rattle.rq_views.specs.InStore.{IsDeedOf}
use Rattle.rq_views.specs.Plans.Turn.{Undid}
use Rattle.rq_views.specs.Stored.{slots_in}
use Rattle.rq_level.specs.declared.writes.SlotWrite.{SlotWrite}
use Rattle.rq_txn.specs.Rows.{latched_in}
use Rattle.rq_store.specs.State.{State}
use Rattle.rq_sound.specs.Groups.{TellsGroup, slots_now}
use Rattle.rq_sound.specs.Plans.{IsPlannedFrom}
use Rattle.rq_sound.specs.Sound.{IsSound}
use Rattle.rq_sound.proofs.Groups.{all_stand, shows_tag, tells_group}
use Rattle.rq_sound.proofs.Latching as latching
use Rattle.rq_sound.proofs.UsedCells.{some_free}
use Rattle.rq_sound.specs.Inverses.{InverseTakesLowest, MayBeUndone}
use Rattle.rq_planner.specs.Backs.{CanBeTakenBack, IsRefusedBack, IsTakingBack}
use Rattle.rq_analysis.specs.declared.dues.PendingUndo.{PendingUndo}
use Rattle.rq_analysis.specs.Dues.{deed_due, end_due}
use Rattle.rq_analysis.specs.Walk.{IsLastOf, ShowsUndone, StandsLast}
use Rattle.rq_level.specs.Asked.{deed_back}
use Rattle.rq_disk.specs.declared.device.PageDevice.{Ghosts}
use Rattle.rq_pool.specs.Fetching.{ReadFails}
use Rattle.rq_pool.specs.Pooled.{Pooled}
use Rattle.rq_restart.specs.Aborting.{PlanStops, blamed_on}
use Rattle.rq_restart.specs.Undoing.{IsOfReads}

-- ---- what a sound store shows to be done last, with nothing under way, can be taken back

module _ (s : State) (k : IsSound s) (none : (p : ℕ) → latched_in s.rows p ≡ false) where
  can : (d : Deed) → IsDeedOf s.sizes d → MayBeUndone s d → StandsLast s.sizes (slots_now s) d → CanBeTakenBack s.sizes (slots_now s) d
  can (Append g n tag previous body) low may last =
      let off = none (directory_at g / 16) in
      let d : Directory = latching.d s k g low off in
      let at : slots_now s (directory_at g) ≡ Sender g d = latching.at s k g low off in
      let told : TellsGroup s g d = tells_group s g d k low off at in
      let more : d.received < d.sent = (let a = told.sent in omega (arith, a, may)) in
      let is : d.sent ≡ n = (subst (λ x. IsLastOf (slots_now s) x (Append g n tag previous body)) at last).1 in
      let t = latching.tail s k g low off more in
      let c = latching.front_cell s k g low off more in
      record {
        below = low;
        directory = d;
        directory_is = at;
        some = more;
        sequence = is;
        cell = t.cell;
        tail_is = t.at;
        last = t.sequence ∙ is;
        front = c.cell;
        beside = c.there;
      }
  can (UnlinkHead g n tag body) low may last =
      let off = none (directory_at g / 16) in
      let d : Directory = latching.d s k g low off in
      let at : slots_now s (directory_at g) ≡ Sender g d = latching.at s k g low off in
      let told : TellsGroup s g d = tells_group s g d k low off at in
      let some : 0 < d.received = (let a = told.received in let m = may.0 in omega (arith, a, m)) in
      let is : d.received ≡ n = (subst (λ x. IsLastOf (slots_now s) x (UnlinkHead g n tag body)) at last).1 in
      let c = latching.head_cell s k g low off in
      let f = some_free s.sizes (slots_now s) (all_stand s k) may.1 in
      record {
        below = low;
        directory = d;
        directory_is = at;
        some = some;
        sequence = is;
        old = c.cell;
        beside = c.there;
        cell = f.0;
        is_cell = f.1;
        free = f.2;
      }
  can (Close g) low may last =
      let off = none (directory_at g / 16) in
      let at : slots_now s (directory_at g) ≡ Sender g (latching.d s k g low off) = latching.at s k g low off in
      record { below = low; directory = latching.d s k g low off; directory_is = at; closed = (subst (λ x. IsLastOf (slots_now s) x (Close g)) at last).1 }
  can (Mark c tag previous) low may last =
      let shows = shows_tag s c k low.0 (none (client_slot_at s.sizes c / 16)) in
      let is : IsLastOf (slots_now s) (Client shows.held) (Mark c tag previous) = subst (λ x. IsLastOf (slots_now s) x (Mark c tag previous)) shows.at last in
      record { below = low.0; held = shows.held; held_is = shows.at; own = is.0; some = is.1; last = is.2 }

pub shows_can : (z : Sizes) (images : List (List ℕ)) (log : List Record) (d : Deed) → IsDeedOf z d → ShowsUndone z images log d → CanBeTakenBack z (slots_in z images) d
shows_can z images log d low shows =
    let s = shows.store in
    let sizes : s.sizes ≡ z = shows.stands.sizes in
    let are : s.images ≡ images = shows.stands.images in
    let last : StandsLast s.sizes (slots_in s.sizes s.images) d = subst (λ x. StandsLast s.sizes (slots_in s.sizes x) d) (sym are) (subst (λ y. StandsLast y (slots_in y images) d) (sym sizes) shows.last) in
    let below : IsDeedOf s.sizes d = subst (λ y. IsDeedOf y d) (sym sizes) low in
    subst (λ y. CanBeTakenBack y (slots_in y images) d) sizes (subst (λ x. CanBeTakenBack s.sizes (slots_in s.sizes x) d) are (can s shows.sound (λ p. shows.stands.latches p) d below shows.may last))

-- ---- what the level plans

-- the deed that is read is what is due
deed_is : (d : PendingUndo) (deed : Deed) → deed_by d.level d.deed ≡ Some deed → deed_due d ≡ deed
deed_is d deed e = ap told_deed e

module _ (z : Sizes) (q : Slots) (due : PendingUndo) (ws : List SlotWrite) (b : IsTakingBack z q (deed_by due.level due.deed) ws) where
  pub plan_is : IsPlannedFrom z q ws (Undid (deed_due due))
  plan_is = subst (λ (d : Deed). IsPlannedFrom z q ws (Undid d)) (sym (deed_is due b.deed b.reads)) b.planned

  pub lowest_is : InverseTakesLowest z q [] (deed_due due) ws
  lowest_is = subst (λ (d : Deed). InverseTakesLowest z q [] d ws) (sym (deed_is due b.deed b.reads)) b.lowest

-- and why it plans nothing
pub why_not_planned : {X : Type 0} (z : Sizes) (images : List (List ℕ)) (due : PendingUndo) (told : Record) → told ≡ end_due due → (r : Refusal) → ((◌≡◌ {A = Result X Refusal} (Err r) (Err why.DiskRead) → ⊥) → IsRefusedBack z (slots_in z images) (deed_back told) r) → PlanStops z images due (blamed_on due.lsn r)
why_not_planned {X} z images due told is r refused = by r (λ not. subst (λ (x : Record). IsRefusedBack z (slots_in z images) (deed_back x) r) is (refused not)) where
  by : (e : Refusal) → ((◌≡◌ {A = Result X Refusal} (Err e) (Err why.DiskRead) → ⊥) → IsRefusedBack z (slots_in z images) (deed_by due.level due.deed) e) → PlanStops z images due (blamed_on due.lsn e)
  by why.NoMemory f = f (λ h. cc h)
  by why.DiskRead f = tt
  by (why.Damaged x) f = (refl, f (λ h. cc h))
  by _ f = absurd (f (λ h. cc h))

-- a read that failed is told of, and no other
pub blamed_fails : {P : Type 0} (g : Ghosts P) (lsn : ℕ) (e : Refusal) (old new : Pooled P) → ReadFails g e old new → ReadFails g (blamed_on lsn e) old new
blamed_fails g lsn why.NoMemory old new f = f
blamed_fails g lsn why.DiskRead old new f = f
blamed_fails g lsn _ old new f = f

pub blamed_reads : (lsn : ℕ) (e : Refusal) → IsOfReads (blamed_on lsn e)
blamed_reads lsn why.NoMemory = tt
blamed_reads lsn why.DiskRead = tt
blamed_reads lsn _ = tt
