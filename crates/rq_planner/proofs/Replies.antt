-- What is answered to what is asked of the level of chains: its answer, over what was gathered for it.
use Rattle.std.proofs.Common.{◌≡◌, ⊎_elim, ℕ, ◌/◌, ◌<◌, ◌≤◌, ◌++◌, not, List, [], ◌∷◌, reverse, Bool, true, false, Option, Some, None, Result, Ok, Err, refl, sym, ◌∙◌, ap, subst, inl, inr, arith}
use Rattle.std.proofs.lemmas.Bool.{and_from, cases_Bool, cases_eq, cases_lt, or_from, true≢false}
use Rattle.std.proofs.Math.Bool.{or-false}
use Rattle.std.proofs.lemmas.List.{reverse-append, reverse-reverse}
use Rattle.rq_model.specs.declared.record.Deed.{Deed}
use Rattle.rq_model.specs.declared.record.Deed.TheVariants.{Append, UnlinkHead, Close as Close_deed, Mark}
use Rattle.rq_model.specs.declared.refusal.Damage.{Damage}
use Rattle.rq_model.specs.declared.refusal.Refusal.{Refusal}
use Rattle.rq_model.specs.declared.refusal.Refusal.TheVariants as why
use Rattle.rq_model.specs.declared.record.Record.TheVariants.{OpEnd}
use Rattle.rq_model.specs.declared.txn.Txn.{Txn}
use Rattle.rq_model.specs.Deeds.{deed_by, deed_level}
use Rattle.rq_page.specs.declared.cell.Cell.{Cell}
use Rattle.rq_page.specs.Sizes.{Sizes, cell_at, directory_at, place_of, sender_count}
use Rattle.rq_page.specs.Slots.Slot.{Used}
use Rattle.rq_page.proofs.Addresses.{cells_rise, places_are_cells}
use Rattle.rq_views.specs.InStore.{IsDeedOf}
use Rattle.rq_views.specs.Items.{told_deed}
use Rattle.rq_views.specs.Log.{Slots, Write}
use Rattle.rq_views.specs.Plans.{relinked}
use Rattle.rq_views.specs.Plans.Turn.{Did, Undid}
use Rattle.rq_views.specs.Stored.{is_used}
use Rattle.rq_level.specs.Asked.{job_back}
use Rattle.rq_level.specs.ChainPlans.{Plans, PlansFor, Undoes, job_wanted}
use Rattle.rq_level.specs.declared.slots.Given.{Given}
use Rattle.rq_level.specs.declared.writes.Plan.{Plan}
use Rattle.rq_level.specs.declared.writes.SlotWrite.{SlotWrite}
use Rattle.rq_level.specs.Given.{has_page}
use Rattle.rq_level.specs.LevelState.{LevelState, IsLowest, NoneToTake, flag_at}
use Rattle.rq_level.specs.Meaning.{chain_meaning}
use Rattle.rq_level.specs.Ops.{Doing, Job, doing_by}
use Rattle.rq_level.specs.Ops.Doing.{Send, Receive, Close}
use Rattle.rq_level.specs.Writes.{IsFirstAt, write_of, writes_of}
use Rattle.rq_txn.specs.Rows.{Row, latched_in}
use Rattle.rq_store.specs.State.{State}
use Rattle.rq_sound.specs.Gathering.{AreGivenFrom, IsToDo, IsWantedOf}
use Rattle.rq_sound.specs.Groups.{slots_now}
use Rattle.rq_sound.specs.Latching.{any_latched, needed}
use Rattle.rq_sound.specs.Levels.{AreLatched, IsGathered, IsUnlatchedPlan, KeepsCells}
use Rattle.rq_sound.specs.Rows.{own_slot}
use Rattle.rq_sound.specs.Sound.{IsSound}
use Rattle.rq_sound.specs.Wants.{AreGivenOf, CanUndo}
use Rattle.rq_sound.proofs.Gathering.{wants_needed}
use Rattle.rq_sound.proofs.Levels.{levels_plan, levels_refuse, writes_latched}
use Rattle.rq_sound.proofs.Wants.{levels_find}
use Rattle.rq_sound.specs.Lowest.{AreAllLatched, AreLatchedBelow, FirstIsLowest}
use Rattle.rq_planner.specs.Asked.{Asked, Task, doing_sender, known, slots_for, task_level}
use Rattle.rq_planner.specs.Asked.Asked.{Do, Undo}
use Rattle.rq_planner.specs.Asked.Task.{Chain, Tag}
use Rattle.rq_planner.specs.Answered.{ComesFrom, IsAnswered, IsDeedFor, IsHeldUp, IsNewestDeed, IsPlanBack, IsPlanFor, IsPlanned, IsPlanOf, MayBeAsked, MayPlan, MayUndo, SendTakesLowest, Wants, deed_of}

-- the first write of a plan is of the cell that it takes
takes_lowest : (z : Sizes) (q : Slots) (rows : List Row) (a : ℕ) (ws : List SlotWrite) → IsFirstAt a ws → AreLatchedBelow z q rows a → latched_in rows (a / 16) ≡ false → FirstIsLowest z q rows ws
takes_lowest z q rows a [] at lowest off = absurd at
takes_lowest z q rows a (w ∷ ws) at lowest off = (subst (AreLatchedBelow z q rows) (sym at) lowest, ap (λ n. latched_in rows (n / 16)) at ∙ off)

-- ---- each answer

-- all that is needed was given, of pages that nobody has latched
pub record HasGatheredFor (s : State) (given : List Given) (asked : Asked) : Type 0 where
  pub gathered : IsGathered s given
  pub all : AreGivenOf s given (slots_for s.sizes (slots_now s) asked)

module _ (s : State) (a : Asked) where
  pub planned_answer : (p : Plan) → IsPlanFor s a p → (IsHeldUp s a → ⊥) → IsPlanned s a (Ok p)
  planned_answer p is off = record { plan = is; free = off; causes = tt; sound = λ whole e sound may. tt }

  pub memory_answer : IsPlanned s a (Err why.NoMemory)
  memory_answer = record { plan = tt; free = tt; causes = tt; sound = λ whole e sound may x. x }

  pub latched_answer : IsHeldUp s a → IsPlanned s a (Err why.Latched)
  latched_answer held = record { plan = tt; free = tt; causes = held; sound = λ whole e sound may x. x }

  pub damaged_answer : (x : Damage) → ((whole : State) → known whole.sizes whole.images whole.rows ≡ s → IsSound whole → MayBeAsked whole a → ⊥) → IsPlanned s a (Err (why.Damaged x))
  damaged_answer x none = record { plan = tt; free = tt; causes = tt; sound = λ whole e sound may y. none whole e sound may }

-- a latch on a page of what is needed holds up what is asked
held_up : (s : State) (a : Asked) → any_latched s.rows (slots_for s.sizes (slots_now s) a) ≡ true → IsHeldUp s a
held_up s (Do (Chain (Send g tag body))) h = inl h
held_up s (Do (Chain (Receive g))) h = h
held_up s (Do (Chain (Close g))) h = h
held_up s (Do (Tag t)) h = h
held_up s (Undo (Append g n tag previous body)) h = h
held_up s (Undo (UnlinkHead g n tag body)) h = inl h
held_up s (Undo (Close_deed g)) h = sym (or-false (latched_in s.rows (directory_at g / 16))) ∙ h
held_up s (Undo (Mark c tag previous)) h = h

-- ---- latches

module _ (s : State) (given : List Given) (h : IsGathered s given) where
  off_given : (xs : List ℕ) → AreGivenOf s given xs → any_latched s.rows xs ≡ false
  off_given [] g = refl
  off_given (a ∷ xs) g = or_from (latched_in s.rows (a / 16)) (any_latched s.rows xs) (h.unlatched a (slots_now s a) g.0) (off_given xs g.1)

  pub not_latched : (xs : List ℕ) → AreGivenOf s given xs → any_latched s.rows xs ≡ true → ⊥
  not_latched xs g on = true≢false (sym on ∙ off_given xs g)

-- the cell that is taken is none of a latched page, and those below it are
module _ (s : State) (k : LevelState) (latched : List ℕ) (keeps : KeepsCells s k) (on : AreLatched s latched) (new : ℕ) (low : IsLowest s.sizes k latched new) where
  not_all : AreAllLatched s.sizes (slots_now s) s.rows → ⊥
  not_all all = let x = levels_plan.lowest s k latched new keeps on low in true≢false (sym (all new x.0 x.1) ∙ x.2)

  unlatched : latched_in s.rows (new / 16) ≡ false
  unlatched = let x = levels_plan.lowest s k latched new keeps on low in x.2

  -- those below it are
  below : AreLatchedBelow s.sizes (slots_now s) s.rows new
  below b cell less free =
      let i = places_are_cells s.sizes b cell in
      let place = place_of s.sizes b in
      let is_free : flag_at k.free place ≡ true = keeps.free place i.0 ∙ ap (λ n. not (is_used (slots_now s n))) i.1 ∙ ap (λ x. not (is_used x)) free in
      let before : place < low.place = elim (cases_lt place low.place) [
        | inl lt ↦ lt
        | inr over ↦ absurd (above place i.1 less over)
      ] in
      elim (cases_Bool (flag_at k.reserved place)) [
        | inl y ↦ ap (λ n. latched_in s.rows (n / 16)) (sym i.1) ∙ writes_latched s.rows (cell_at s.sizes place) (keeps.chosen place i.0 y)
        | inr m ↦ elim (cases_Bool (has_page (cell_at s.sizes place / 16) latched)) [
          | inl y ↦ ap (λ n. latched_in s.rows (n / 16)) (sym i.1) ∙ sym (on (cell_at s.sizes place / 16)) ∙ y
          | inr n ↦ absurd (true≢false (sym (and_from _ _ is_free (and_from _ _ (ap not m) (ap not n))) ∙ low.others place before))
        ]
      ]
    where
      above : (place : ℕ) → cell_at s.sizes place ≡ b → b < new → low.place ≤ place → ⊥
      above place at lt over = elim (cases_eq place low.place) [
        | inl same ↦ let e : b ≡ new = sym at ∙ ap (cell_at s.sizes) same ∙ sym low.at in omega (arith, e, lt)
        | inr other ↦
            let more : low.place < place = omega (arith, over, other) in
            let up = cells_rise s.sizes low.place place more in
            let a = low.at in
            omega (arith, up, a, at, lt)
      ]

-- the first write of what takes a cell is of that cell
pub first_at : (z : Sizes) (us : List SlotWrite) (ws : List Write) (w : Write) → reverse (writes_of z us) ≡ ws ++ w ∷ [] → IsFirstAt w.at us
first_at z us ws w is = at us (sym (reverse-reverse (writes_of z us)) ∙ ap reverse is ∙ reverse-append ws (w ∷ [])) where
  at : (us : List SlotWrite) → writes_of z us ≡ w ∷ reverse ws → IsFirstAt w.at us
  at [] e = cc
  at (u ∷ us) e = let h : write_of z u ≡ w = cc e in ap (λ (x : Write). x.at) h

pub first_new : (z : Sizes) (us : List SlotWrite) (beside : ℕ) (o : Option Cell) (f : Cell → Cell) (first new : Write) → reverse (writes_of z us) ≡ first ∷ relinked beside o f (new ∷ []) → IsFirstAt new.at us
first_new z us beside None f first new e = first_at z us (first ∷ []) new e
first_new z us beside (Some c) f first new e = first_at z us (first ∷ record { at = beside; before = Used c; after = Used (f c) } ∷ []) new e

-- ---- plans

-- a plan whose bytes tell this deed
pub planned_as : (s : State) (task : Task) (p : Plan) (d : Deed) → deed_by (task_level task) p.deed ≡ Some d → IsDeedFor task d → IsUnlatchedPlan s p (Did d) → SendTakesLowest s.sizes (slots_now s) s.rows task p.writes.items → IsPlanOf s task p
planned_as s task p d reads asked follows lowest =
    let is : d ≡ deed_of task p = sym (ap told_deed reads) in
    record {
      asked = subst (IsDeedFor task) is asked;
      follows = subst (λ (e : Deed). IsUnlatchedPlan s p (Did e)) is follows;
      lowest = lowest;
    }

module _ (s : State) (k : LevelState) (given : List Given) (latched : List ℕ) (keeps : KeepsCells s k) (on : AreLatched s latched) where
  do_plan : (d : Doing) (p : Plan) (after : LevelState) → HasGatheredFor s given (Do (Chain d)) → Plans (Some s.sizes) (Some d) k given latched (Ok p) after → IsPlanOf s (Chain d) p
  do_plan (Send g tag body) p after h m = planned_as s (Chain (Send g tag body)) p _ m.reads (refl, refl, refl) (levels_plan.sent s k given latched g tag body p after h.gathered keeps on m)
      (takes_lowest s.sizes (slots_now s) s.rows m.new p.writes.items
      (first_new s.sizes p.writes.items m.can.directory.tail m.can.old _ _ _ m.writes) (below s k latched keeps on m.new m.lowest) (unlatched s k latched keeps on m.new m.lowest))
  do_plan (Receive g) p after h m = planned_as s (Chain (Receive g)) p _ m.reads refl (levels_plan.received s k given g p after h.gathered m) tt
  do_plan (Close g) p after h m = planned_as s (Chain (Close g)) p _ m.reads refl (levels_plan.closed s k given g p after h.gathered m) tt

  do_free : (d : Doing) (p : Plan) (after : LevelState) → HasGatheredFor s given (Do (Chain d)) → Plans (Some s.sizes) (Some d) k given latched (Ok p) after → IsHeldUp s (Do (Chain d)) → ⊥
  do_free (Send g tag body) p after h m held = ⊎_elim (not_latched s given h.gathered (slots_for s.sizes (slots_now s) (Do (Chain (Send g tag body)))) h.all) (not_all s k latched keeps on m.new m.lowest) held
  do_free (Receive g) p after h m held = not_latched s given h.gathered (slots_for s.sizes (slots_now s) (Do (Chain (Receive g)))) h.all held
  do_free (Close g) p after h m held = not_latched s given h.gathered (slots_for s.sizes (slots_now s) (Do (Chain (Close g)))) h.all held

  undo_plan : (d : Deed) (p : Plan) (after : LevelState) → HasGatheredFor s given (Undo d) → Undoes (Some s.sizes) (Some d) k given latched (Ok p) after → IsPlanBack s d p
  undo_plan (Append g n tag previous body) p after h m = record {
    follows = levels_plan.unsent s k given g n tag previous body p after h.gathered m;
    lowest = tt;
  }
  undo_plan (UnlinkHead g n tag body) p after h m = record {
    follows = levels_plan.returned s k given latched g n tag body p after h.gathered keeps on m;
    lowest = takes_lowest s.sizes (slots_now s) s.rows m.new p.writes.items
        (first_new s.sizes p.writes.items m.can.directory.head m.can.old _ _ _ m.writes) (below s k latched keeps on m.new m.lowest) (unlatched s k latched keeps on m.new m.lowest);
  }
  undo_plan (Close_deed g) p after h m = record {
    follows = levels_plan.reopened s k given g p after h.gathered m;
    lowest = tt;
  }
  undo_plan (Mark c tag previous) p after h m = absurd m

  undo_free : (d : Deed) (p : Plan) (after : LevelState) → HasGatheredFor s given (Undo d) → Undoes (Some s.sizes) (Some d) k given latched (Ok p) after → IsHeldUp s (Undo d) → ⊥
  undo_free (Append g n tag previous body) p after h m held = not_latched s given h.gathered (slots_for s.sizes (slots_now s) (Undo (Append g n tag previous body))) h.all held
  undo_free (UnlinkHead g n tag body) p after h m held = ⊎_elim (not_latched s given h.gathered (slots_for s.sizes (slots_now s) (Undo (UnlinkHead g n tag body))) h.all) (not_all s k latched keeps on m.new m.lowest) held
  undo_free (Close_deed g) p after h m held = true≢false (sym held ∙ h.gathered.unlatched (directory_at g) (slots_now s (directory_at g)) h.all.0)
  undo_free (Mark c tag previous) p after h m held = m

-- ---- a sound store with these pages and rows

module _ (whole : State) (sound : IsSound whole) where
  abbrev bare : State
  bare = known whole.sizes whole.images whole.rows

  pub same_given : (given : List Given) (xs : List ℕ) → AreGivenOf bare given xs → AreGivenOf whole given xs
  same_given given [] h = tt
  same_given given (x ∷ xs) h = (h.0, same_given given xs h.1)

  same_keeps : (k : LevelState) → KeepsCells bare k → KeepsCells whole k
  same_keeps k h = record { sizes = h.sizes; free_count = h.free_count; chosen_count = h.chosen_count; free = h.free; chosen = h.chosen }

  module _ (k : LevelState) (given : List Given) (latched : List ℕ) (keeps : KeepsCells bare k) (on : AreLatched bare latched) (x : Damage) (after : LevelState) where
    no_doing : (d : Doing) → HasGatheredFor bare given (Do (Chain d)) → doing_sender d < sender_count whole.sizes → Plans (Some whole.sizes) (Some d) k given latched (Err (why.Damaged x)) after → MayBeAsked whole (Do (Chain d)) → ⊥
    no_doing (Send g tag body) h inside m may =
        levels_refuse.sends whole k given latched g (why.Damaged x) sound (same_keeps k keeps) on may.0
        (levels_find.sends whole given g sound inside (h.gathered.unlatched (directory_at g) (slots_now whole (directory_at g)) h.all.0) may.1 (same_given given (slots_for whole.sizes (slots_now bare) (Do (Chain (Send g tag body)))) h.all)) m.0
    no_doing (Receive g) h inside m may =
        m.0.1 (levels_find.receives whole given g sound inside (h.gathered.unlatched (directory_at g) (slots_now whole (directory_at g)) h.all.0) may (same_given given (slots_for whole.sizes (slots_now bare) (Do (Chain (Receive g)))) h.all))
    no_doing (Close g) h inside m may =
        m.0.1 (levels_find.closes whole given g sound inside (h.gathered.unlatched (directory_at g) (slots_now whole (directory_at g)) h.all.0) may (same_given given (slots_for whole.sizes (slots_now bare) (Do (Chain (Close g)))) h.all))

    finds : (d : Deed) → IsNewestDeed whole d → latched_in whole.rows (own_slot whole.sizes d / 16) ≡ false → AreGivenOf bare given (needed whole.sizes (slots_now whole) (Undid d)) → CanUndo whole.sizes given d
    finds d may off all = levels_find.undoes whole given may.row may.older (record { lsn = may.lsn; number = may.number; deed = d }) sound may.idle may.last off (same_given given (needed whole.sizes (slots_now whole) (Undid d)) all)

    no_undoing : (d : Deed) → HasGatheredFor bare given (Undo d) → deed_level d ≡ 1 → Undoes (Some whole.sizes) (Some d) k given latched (Err (why.Damaged x)) after → MayBeAsked whole (Undo d) → ⊥
    no_undoing (Append g n tag previous body) h inside m may =
        m.0.1 (finds (Append g n tag previous body) may (h.gathered.unlatched (directory_at g) (slots_now whole (directory_at g)) h.all.0) h.all)
    no_undoing (UnlinkHead g n tag body) h inside m may =
        levels_refuse.returns whole k given latched may.row may.older may.lsn may.number g n tag body (why.Damaged x) sound (same_keeps k keeps) on may.idle may.last
        (finds (UnlinkHead g n tag body) may (h.gathered.unlatched (directory_at g) (slots_now whole (directory_at g)) h.all.0) h.all) m.0
    no_undoing (Close_deed g) h inside m may =
        m.0.1 (finds (Close_deed g) may (h.gathered.unlatched (directory_at g) (slots_now whole (directory_at g)) h.all.0) h.all)
    no_undoing (Mark c tag previous) h one m may = omega (arith, one)

-- ---- what is answered

module _ (s : State) (k : LevelState) (given : List Given) (latched : List ℕ) (keeps : KeepsCells s k) (on : AreLatched s latched) (after : LevelState) where
  damaged_do : (d : Doing) (x : Damage) → HasGatheredFor s given (Do (Chain d)) → doing_sender d < sender_count s.sizes → Plans (Some s.sizes) (Some d) k given latched (Err (why.Damaged x)) after → IsPlanned s (Do (Chain d)) (Err (why.Damaged x))
  damaged_do d x h inside m = damaged_answer s (Do (Chain d)) x (λ whole e sound may. (subst (λ (t : State). KeepsCells t k → AreLatched t latched → HasGatheredFor t given (Do (Chain d)) → doing_sender d < sender_count t.sizes
      → Plans (Some t.sizes) (Some d) k given latched (Err (why.Damaged x)) after → ⊥) e
      (λ a b c f w. no_doing whole sound k given latched a b x after d c f w may) keeps on h inside m))

  damaged_undo : (d : Deed) (x : Damage) → HasGatheredFor s given (Undo d) → deed_level d ≡ 1 → Undoes (Some s.sizes) (Some d) k given latched (Err (why.Damaged x)) after → IsPlanned s (Undo d) (Err (why.Damaged x))
  damaged_undo d x h inside m = damaged_answer s (Undo d) x (λ whole e sound may. (subst (λ (t : State). KeepsCells t k → AreLatched t latched → HasGatheredFor t given (Undo d) → deed_level d ≡ 1
      → Undoes (Some t.sizes) (Some d) k given latched (Err (why.Damaged x)) after → ⊥) e
      (λ a b c f w. no_undoing whole sound k given latched a b x after d c f w may) keeps on h inside m))

  all_latched : NoneToTake s.sizes k latched → AreAllLatched s.sizes (slots_now s) s.rows
  all_latched none = levels_plan.none_to_take s k latched keeps on none

  do_refused : (d : Doing) (r : Refusal) → HasGatheredFor s given (Do (Chain d)) → doing_sender d < sender_count s.sizes → Plans (Some s.sizes) (Some d) k given latched (Err r) after → IsPlanned s (Do (Chain d)) (Err r)
  do_refused d why.NoMemory h inside m = memory_answer s (Do (Chain d))
  do_refused (Send g tag body) why.Latched h inside m = latched_answer s (Do (Chain (Send g tag body))) (inr (all_latched m.0.0))
  do_refused d (why.Damaged x) h inside m = damaged_do d x h inside m
  do_refused (Send g tag body) r h inside m = absurd m.0
  do_refused (Receive g) r h inside m = absurd m.0
  do_refused (Close g) r h inside m = absurd m.0

  undo_refused : (d : Deed) (r : Refusal) → HasGatheredFor s given (Undo d) → deed_level d ≡ 1 → Undoes (Some s.sizes) (Some d) k given latched (Err r) after → IsPlanned s (Undo d) (Err r)
  undo_refused d why.NoMemory h inside m = memory_answer s (Undo d)
  undo_refused (UnlinkHead g n tag body) why.Latched h inside m = latched_answer s (Undo (UnlinkHead g n tag body)) (inr (all_latched m.0.0))
  undo_refused d (why.Damaged x) h inside m = damaged_undo d x h inside m
  undo_refused (Append g n tag previous body) r h inside m = absurd m.0
  undo_refused (UnlinkHead g n tag body) r h inside m = absurd m.0
  undo_refused (Close_deed g) r h inside m = absurd m.0
  undo_refused (Mark c tag previous) r h one m = absurd (omega (arith, one))

  did : (d : Doing) (answer : Result Plan Refusal) → HasGatheredFor s given (Do (Chain d)) → doing_sender d < sender_count s.sizes → Plans (Some s.sizes) (Some d) k given latched answer after → IsPlanned s (Do (Chain d)) answer
  did d (Ok p) h inside m = planned_answer s (Do (Chain d)) p (do_plan s k given latched keeps on d p after h m) (do_free s k given latched keeps on d p after h m)
  did d (Err r) h inside m = do_refused d r h inside m

  undid : (d : Deed) (answer : Result Plan Refusal) → HasGatheredFor s given (Undo d) → deed_level d ≡ 1 → Undoes (Some s.sizes) (Some d) k given latched answer after → IsPlanned s (Undo d) answer
  undid d (Ok p) h inside m = planned_answer s (Undo d) p (undo_plan s k given latched keeps on d p after h m) (undo_free s k given latched keeps on d p after h m)
  undid d (Err r) h inside m = undo_refused d r h inside m

-- ---- what it wants for it

-- what the slots tell that are wanted for what is asked
abbrev pub WantsFor : State → Wants → Job → Asked → Type 0
WantsFor s want job a = (given : List Given) → AreGivenFrom s given → IsWantedOf s given (want job given) (slots_for s.sizes (slots_now s) a)

wants_do : (s : State) (job : Job) (d : Doing) → IsToDo job d → doing_sender d < sender_count s.sizes → WantsFor s job_wanted job (Do (Chain d))
wants_do s job (Send g tag body) to inside given h = wants_needed.sends s given job g tag body h to inside
wants_do s job (Receive g) to inside given h = wants_needed.receives s given job g h to inside
wants_do s job (Close g) to inside given h = wants_needed.closes s given job g h to inside

-- an answer comes from all that is needed, or from a slot that is withheld
module _ (s : State) (want : Wants) (job : Job) (a : Asked) (wants : WantsFor s want job a) (May : List Given → Result Plan Refusal → Type 0) (P : Result Plan Refusal → Type 0) (lacks : P (Err why.NoMemory)) (held : IsHeldUp s a → P (Err why.Latched))
    (all : (given : List Given) (answer : Result Plan Refusal) → HasGatheredFor s given a → May given answer → P answer) where
  pub from_wanted : (answer : Result Plan Refusal) → IsAnswered s want job May answer → P answer
  from_wanted answer h = by (want job h.given) refl answer h.comes where
    w : IsWantedOf s h.given (want job h.given) (slots_for s.sizes (slots_now s) a)
    w = wants h.given h.has.from

    by : (o : Option ℕ) → want job h.given ≡ o → (answer : Result Plan Refusal) → ComesFrom s o (May h.given) answer → P answer
    by None e answer may = all h.given answer (record { gathered = h.has.gathered; all = w.none e }) may
    by (Some b) e (Ok p) c = absurd c
    by (Some b) e (Err why.NoMemory) c = lacks
    by (Some b) e (Err why.Latched) c = held (held_up s a (w.latched b e c))
    by (Some b) e (Err (why.Damaged x)) c = absurd (c (w.of_store b e))
    by (Some b) e (Err _) c = absurd c

module _ (s : State) (k : LevelState) (keeps : KeepsCells s k) where
  pub to_do_planned : (job : Job) (d : Doing) (answer : Result Plan Refusal) → IsToDo job d → doing_sender d < sender_count s.sizes → IsAnswered s job_wanted job (MayPlan s chain_meaning k job) answer → IsPlanned s (Do (Chain d)) answer
  to_do_planned job d answer to inside h =
      from_wanted s job_wanted job (Do (Chain d)) (wants_do s job d to inside) (MayPlan s chain_meaning k job) (IsPlanned s (Do (Chain d))) (memory_answer s (Do (Chain d))) (latched_answer s (Do (Chain d)))
      (λ given answer has m. did s k given m.latched keeps m.on m.after d answer has inside (of_plan given answer m)) answer h
    where
      of_plan : (given : List Given) (answer : Result Plan Refusal) (m : MayPlan s chain_meaning k job given answer) → Plans (Some s.sizes) (Some d) k given m.latched answer m.after
      of_plan given answer m =
          subst (λ (o : Option Doing). Plans (Some s.sizes) o k given m.latched answer m.after) to.told
          (subst (λ (z : Option Sizes). Plans z (doing_by job.level job.bytes) k given m.latched answer m.after) keeps.sizes
          (subst (λ (b : Bool). PlansFor b k.sizes (doing_by job.level job.bytes) k given m.latched answer m.after) to.forward m.plans))

  module _ (t : Txn) (j : ℕ) where
    -- of what takes a deed back
    pub of_undo : (d : Deed) (deed : List ℕ) (level : ℕ) (given : List Given) (answer : Result Plan Refusal) → deed_by level deed ≡ Some d → (m : MayUndo s chain_meaning k (OpEnd t j level deed) given answer) → Undoes (Some s.sizes) (Some d) k given m.latched answer m.after
    of_undo d deed level given answer told m =
        subst (λ (o : Option Deed). Undoes (Some s.sizes) o k given m.latched answer m.after) told
        (subst (λ (z : Option Sizes). Undoes z (deed_by level deed) k given m.latched answer m.after) keeps.sizes m.undoes)

    pub wants_undo : (level : ℕ) (d : Deed) (deed : List ℕ) → deed_by level deed ≡ Some d → deed_level d ≡ 1 → IsDeedOf s.sizes d → WantsFor s job_wanted (job_back (OpEnd t j level deed)) (Undo d)
    wants_undo level d deed told one inside given h = wants_needed.undoes s given (job_back (OpEnd t j level deed)) d h (record { back = refl; told = told }) one inside

    pub to_undo_planned : (level : ℕ) (d : Deed) (deed : List ℕ) (answer : Result Plan Refusal) → deed_by level deed ≡ Some d → deed_level d ≡ 1 → IsDeedOf s.sizes d → IsAnswered s job_wanted (job_back (OpEnd t j level deed)) (MayUndo s chain_meaning k (OpEnd t j level deed)) answer → IsPlanned s (Undo d) answer
    to_undo_planned level d deed answer told one inside h =
        from_wanted s job_wanted (job_back (OpEnd t j level deed)) (Undo d) (wants_undo level d deed told one inside) (MayUndo s chain_meaning k (OpEnd t j level deed)) (IsPlanned s (Undo d)) (memory_answer s (Undo d)) (latched_answer s (Undo d))
        (λ given answer has m. undid s k given m.latched keeps m.on m.after d answer has one (of_undo d deed level given answer told m)) answer h
