-- Calls that read pages on their way.
use Rattle.std.specs.Prelude.{IfSome}
use Rattle.std.proofs.Common.{Bool, false, Option, Some, None, ◌≡◌, ◌⊎◌, ℕ, ◌/◌, ◌%◌, List, Result, Ok, Err, IfErr, refl, sym, ◌∙◌, ap, arith, inl, inr, subst, ⊎_elim}
use Rattle.std.proofs.lemmas.Bool.{cases_lt}
use Rattle.rq_model.specs.declared.refusal.Damage.TheVariants as damage
use Rattle.rq_model.specs.declared.refusal.Refusal.{Refusal}
use Rattle.rq_model.specs.declared.refusal.Refusal.TheVariants as why
use Rattle.rq_disk.specs.declared.device.PageDevice.{Ghosts}
use Rattle.rq_page.specs.Sizes.{Sizes, page_count}
use Rattle.rq_views.specs.Stored.{IsStoreSlot}
use Rattle.rq_level.specs.Lawful.{MayHaveNoPlan}
use Rattle.rq_level.specs.LevelState.{LevelState}
use Rattle.rq_pool.specs.Indexed.{AreFlaggedAlike}
use Rattle.rq_pool.specs.Pooled.{Pooled}
use Rattle.rq_pool.specs.Fetching.{Fetches, HasReadFor, IsReadAsStored, IsUnread, MayHaveRead, ReadFails, ReadsTruly}
use Rattle.rq_pool.proofs.Fetched.{is_unread, still_read, stored_after, unfetched_reads, unread_then}
use Rattle.rq_planner.specs.Answered.{AreBelow, IsFreeCell, KnowsBelow, KnowsCells}
use Rattle.rq_planner.specs.Lawful.{MayRefuse, unlatched_refusal}
use Rattle.rq_planner.proofs.Knowing.{free_kept, knows_kept, those_kept}

err_is : {X : Type 0} (e r : Refusal) → ◌≡◌ {A = Result X Refusal} (Err e) (Err r) → e ≡ r
err_is e r is = cc

-- the store has a slot at an address, or has none
stands_or_not : (z : Sizes) (a : ℕ) → IsStoreSlot z a ⊎ (IsStoreSlot z a → ⊥)
stands_or_not z a = elim (cases_lt 0 (a / 16)) [
  | inl low ↦ elim (cases_lt (a / 16) (page_count z)) [
    | inl high ↦ elim (cases_lt 0 (a % 16)) [
      | inl slot ↦ inl (record { page_low = omega (arith, low); page_high = high; slot = omega (arith, slot) })
      | inr none ↦ inr (λ s. let k = s.slot in absurd (omega (arith, k, none)))
    ]
    | inr over ↦ inr (λ s. let k = s.page_high in absurd (omega (arith, k, over)))
  ]
  | inr none ↦ inr (λ s. let k = s.page_low in absurd (omega (arith, k, none)))
]

module _ {P : Type 0} (g : Ghosts P) where
  -- What was read is the store's where a refusal is passed on, perhaps as another; but one that tells of a failed read tells of it then too
  pub truly_passed : {X Y : Type 0} (f : Refusal → Refusal) (e r : Refusal) (old mid new : Pooled P) → f why.DiskRead ≡ why.DiskRead → r ≡ f e → MayHaveRead g old mid → ReadsTruly {X = X} g old (Err r) new → ReadsTruly {X = Y} g mid (Err e) new
  truly_passed f e r old mid new same is read truly = (stored_after g old mid new read truly.0, λ failed. truly.1 (ap Err (is ∙ ap f (err_is e why.DiskRead failed) ∙ same)))

  -- an answer that is none is no failed read
  pub truly_done : {X : Type 0} (x : X) (old new : Pooled P) → IsReadAsStored g old new → ReadsTruly g old (Ok x) new
  truly_done x old new true = (true, λ is. cc is)

  -- the sizes stay
  pub sizes_read : (z : Sizes) (old new : Pooled P) → old.sizes ≡ z → MayHaveRead g old new → new.sizes ≡ z
  sizes_read z old new is read = (read.kept 0).sizes ∙ is

  alike_read : (z : Sizes) (old new : Pooled P) → old.sizes ≡ z → MayHaveRead g old new → AreFlaggedAlike z old.images new.images
  alike_read z old new is read = subst (λ (y : Sizes). AreFlaggedAlike y old.images new.images) is (read.kept 0).flags

  -- levels go on knowing the slots
  pub knows_read : (old new : Pooled P) (levels : List LevelState) → MayHaveRead g old new → KnowsCells old.sizes old.images levels → KnowsCells new.sizes new.images levels
  knows_read old new levels read h =
      let kept = read.kept 0 in
      subst (λ (z : Sizes). KnowsCells z new.images levels) (sym kept.sizes) (knows_kept old.sizes old.images new.images kept.flags levels h)

  pub below_read : (z : Sizes) (bound : ℕ) (old new : Pooled P) (levels : List LevelState) → old.sizes ≡ z → MayHaveRead g old new → KnowsBelow z old.images bound levels → KnowsBelow z new.images bound levels
  below_read z bound old new levels is read h = those_kept z old.images new.images (alike_read z old new is read) (AreBelow z bound) levels (λ a below. below.0) h

  -- a free cell stays one
  pub free_read : (z : Sizes) (o : Option ℕ) (old new : Pooled P) → old.sizes ≡ z → MayHaveRead g old new → IfSome o (IsFreeCell z old.images) → IfSome o (IsFreeCell z new.images)
  free_read z None old new is read h = tt
  free_read z (Some a) old new is read h = free_kept z old.images new.images (alike_read z old new is read) a h

  not_failed : (e : Refusal) (old new : Pooled P) → MayHaveNoPlan e → g.faults new.device ≡ g.faults old.device → ReadFails g e old new
  not_failed why.NoMemory old new h same = same
  not_failed why.Latched old new h same = same
  not_failed (why.Damaged d) old new h same = same
  not_failed _ old new h same = absurd h

  -- and then it is answered without another read
  pub reads_answered : {X : Type 0} (r : Result X Refusal) (old new : Pooled P) → MayHaveRead g old new → g.faults new.device ≡ g.faults old.device → IfErr r MayHaveNoPlan → HasReadFor g old r new
  reads_answered (Ok x) old new read same may = record { read = read; counted = same; refused = tt }
  reads_answered (Err e) old new read same may = record { read = read; counted = tt; refused = not_failed e old new may same }

  -- nothing was read
  pub reads_nothing : {X : Type 0} (r : Result X Refusal) (pages : Pooled P) → IfErr r MayHaveNoPlan → HasReadFor g pages r pages
  reads_nothing r pages may = reads_answered r pages pages (still_read g pages) refl may

  -- a call passes a refusal on
  pub reads_passed : {X Y : Type 0} (e r : Refusal) (old new : Pooled P) → (ReadFails g e old new → ReadFails g r old new) → HasReadFor {X = X} g old (Err e) new → HasReadFor {X = Y} g old (Err r) new
  reads_passed e r old new passes f = record { read = f.read; counted = tt; refused = passes f.refused }

  pub fails_alone : (e : Refusal) (old new : Pooled P) → ReadFails g e old new → ReadFails g (unlatched_refusal e) old new
  fails_alone why.Latched old new fails = fails
  fails_alone _ old new fails = fails

module _ {P : Type 0} (g : Ghosts P) (old new : Pooled P) where
  -- A look that is refused is one at a slot of the store, whose page was not read.
  module _ (a : ℕ) (e : Refusal) (stands : IsStoreSlot old.sizes a → Fetches {X = Bool} g (a / 16) old (Err e) new) (none : (IsStoreSlot old.sizes a → ⊥) → ◌≡◌ {A = Result Bool Refusal} (Err e) (Ok false) × (new ≡ old)) where
    look_stands : IsStoreSlot old.sizes a
    look_stands = ⊎_elim (λ s. s) (λ no. absurd (let is = (none no).0 in cc is)) (stands_or_not old.sizes a)

    pub look_reads : {Y : Type 0} → HasReadFor {X = Y} g old (Err e) new
    look_reads = let s = look_stands in unfetched_reads g (a / 16) old new e s.page_low s.page_high (stands s)

    pub look_unread : IsUnread g old e new
    look_unread = let s = look_stands in is_unread g (a / 16) e old new s.page_low s.page_high (stands s)

  -- a page that was not read may refuse a plan
  pub may_be_unread : (e : Refusal) → IsUnread g old e new → MayRefuse e
  may_be_unread why.DiskRead is = tt
  may_be_unread (why.Damaged (damage.Page n)) is = tt
  may_be_unread _ is = absurd is

  -- the same of any answer
  pub unread_still : {X : Type 0} (r : Result X Refusal) (first : Pooled P) → MayHaveRead g first old → IfErr r (λ e. IsUnread g old e new) → IfErr r (λ e. IsUnread g first e new)
  unread_still (Ok x) first read is = tt
  unread_still (Err e) first read is = unread_then g e first old new read is
