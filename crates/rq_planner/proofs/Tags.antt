-- What is answered to what is asked of the level of tags: its answer, over the slot of the client.
use Rattle.std.proofs.Common.{◌≡◌, ℕ, ◌<◌, List, [], ◌∷◌, Bool, false, cond, Option, Some, Result, Ok, Err, refl, sym, ◌∙◌, ap, subst, arith}
use Rattle.rq_model.specs.declared.record.Deed.{Deed}
use Rattle.rq_model.specs.declared.record.Deed.TheVariants.{Mark}
use Rattle.rq_model.specs.declared.refusal.Damage.{Damage}
use Rattle.rq_model.specs.declared.refusal.Refusal.{Refusal}
use Rattle.rq_model.specs.declared.refusal.Refusal.TheVariants as why
use Rattle.rq_model.specs.declared.record.Record.TheVariants.{OpEnd}
use Rattle.rq_model.specs.declared.txn.Txn.{Txn}
use Rattle.rq_model.specs.Deeds.{deed_by}
use Rattle.rq_page.specs.Sizes.{Sizes, client_count, client_slot_at}
use Rattle.rq_page.specs.Slots.Slot.{Client}
use Rattle.rq_level.specs.Asked.{job_back}
use Rattle.rq_level.specs.ChainPlans.{TellsDamage}
use Rattle.rq_level.specs.declared.slots.Given.{Given}
use Rattle.rq_level.specs.declared.writes.Plan.{Plan}
use Rattle.rq_level.specs.Given.{GivenHolds}
use Rattle.rq_level.specs.LevelState.{LevelState}
use Rattle.rq_level.specs.Meaning.{kept_at, meaning_of, tag_meaning}
use Rattle.rq_level.specs.Ops.{Job, Tagging, tagging_by}
use Rattle.rq_level.specs.TagPlans.{CanUntag, IsTagPlan, IsUntagPlan, PlansTag, TagsFor, UndoesTag, client_marked, client_to_mark, client_wanted, tag_wants}
use Rattle.rq_store.specs.State.{State}
use Rattle.rq_sound.specs.Gathering.{AreGivenFrom, IsWantedOf}
use Rattle.rq_sound.specs.Groups.{slots_now}
use Rattle.rq_sound.specs.Sound.{IsSound}
use Rattle.rq_sound.specs.Wants.{AreGivenOf}
use Rattle.rq_sound.proofs.Gathering.{wants_needed}
use Rattle.rq_sound.proofs.Levels.{levels_plan}
use Rattle.rq_sound.proofs.Wants.{levels_find}
use Rattle.rq_planner.specs.Asked.{known}
use Rattle.rq_planner.specs.Asked.Asked.{Do, Undo}
use Rattle.rq_planner.specs.Asked.Task.{Tag}
use Rattle.rq_planner.specs.Answered.{IsAnswered, IsPlanBack, IsPlanned, IsPlanOf, KnowsCells, MayBeAsked, MayPlan, MayUndo, Wants}
use Rattle.rq_planner.specs.Backs.{IsJudgedBack, MarkedLast}
use Rattle.rq_planner.proofs.Knowing.{is_one}
use Rattle.rq_planner.proofs.Replies.{HasGatheredFor, WantsFor, damaged_answer, from_wanted, latched_answer, memory_answer, not_latched, planned_answer, planned_as, same_given}

-- ---- its answers

module _ (s : State) (k : LevelState) (given : List Given) (after : LevelState) where
  mark_plan : (t : Tagging) (p : Plan) → HasGatheredFor s given (Do (Tag t)) → IsTagPlan s.sizes k given t.client t.tag p after → IsPlanOf s (Tag t) p
  mark_plan t p h m = planned_as s (Tag t) p _ m.reads (refl, refl) (levels_plan.tagged s k given t.client t.tag p after h.gathered m) tt

  unmark_plan : (c tag previous : ℕ) (p : Plan) → HasGatheredFor s given (Undo (Mark c tag previous)) → IsUntagPlan s.sizes k given c tag previous p after → IsPlanBack s (Mark c tag previous) p
  unmark_plan c tag previous p h m = record {
    follows = levels_plan.untagged s k given c tag previous p after h.gathered m;
    lowest = tt;
  }

  -- a sound store's slot holds what is needed
  no_mark : (whole : State) → IsSound whole → (t : Tagging) (x : Damage) → HasGatheredFor (known whole.sizes whole.images whole.rows) given (Do (Tag t)) → t.client < client_count whole.sizes
      → PlansTag (Some whole.sizes) (Some t) k given (Err (why.Damaged x)) after → MayBeAsked whole (Do (Tag t)) → ⊥
  no_mark whole sound t x h inside m may =
      let a = client_slot_at whole.sizes t.client in
      m.0.1 (levels_find.tags whole given t.client sound inside (h.gathered.unlatched a (slots_now whole a) h.all.0) may (same_given whole sound given (a ∷ []) h.all))

  no_unmark : (whole : State) → IsSound whole → (c tag previous : ℕ) (x : Damage) → HasGatheredFor (known whole.sizes whole.images whole.rows) given (Undo (Mark c tag previous))
      → UndoesTag (Some whole.sizes) (Some (Mark c tag previous)) k given (Err (why.Damaged x)) after → MayBeAsked whole (Undo (Mark c tag previous)) → ⊥
  no_unmark whole sound c tag previous x h m may =
      let a = client_slot_at whole.sizes c in
      m.0.1 (levels_find.undoes whole given may.row may.older (record { lsn = may.lsn; number = may.number; deed = Mark c tag previous }) sound may.idle may.last (h.gathered.unlatched a (slots_now whole a) h.all.0) (same_given whole sound given (a ∷ []) h.all))

  mark_refused : (t : Tagging) (r : Refusal) → HasGatheredFor s given (Do (Tag t)) → t.client < client_count s.sizes → PlansTag (Some s.sizes) (Some t) k given (Err r) after → IsPlanned s (Do (Tag t)) (Err r)
  mark_refused t why.NoMemory h inside m = memory_answer s (Do (Tag t))
  mark_refused t (why.Damaged x) h inside m = damaged_answer s (Do (Tag t)) x (λ whole e sound may. subst (λ (u : State). HasGatheredFor u given (Do (Tag t)) → t.client < client_count u.sizes → PlansTag (Some u.sizes) (Some t) k given (Err (why.Damaged x)) after → ⊥) e
      (λ f w n. no_mark whole sound t x f w n may) h inside m)
  mark_refused t r h inside m = absurd m.0

  unmark_refused : (c tag previous : ℕ) (r : Refusal) → HasGatheredFor s given (Undo (Mark c tag previous)) → UndoesTag (Some s.sizes) (Some (Mark c tag previous)) k given (Err r) after → IsPlanned s (Undo (Mark c tag previous)) (Err r)
  unmark_refused c tag previous why.NoMemory h m = memory_answer s (Undo (Mark c tag previous))
  unmark_refused c tag previous (why.Damaged x) h m = damaged_answer s (Undo (Mark c tag previous)) x (λ whole e sound may. subst (λ (u : State). HasGatheredFor u given (Undo (Mark c tag previous)) → UndoesTag (Some u.sizes) (Some (Mark c tag previous)) k given (Err (why.Damaged x)) after → ⊥) e
      (λ f n. no_unmark whole sound c tag previous x f n may) h m)
  unmark_refused c tag previous r h m = absurd m.0

  marked : (t : Tagging) (answer : Result Plan Refusal) → HasGatheredFor s given (Do (Tag t)) → t.client < client_count s.sizes → PlansTag (Some s.sizes) (Some t) k given answer after → IsPlanned s (Do (Tag t)) answer
  marked t (Ok p) h inside m = planned_answer s (Do (Tag t)) p (mark_plan t p h m) (λ held. not_latched s given h.gathered (client_slot_at s.sizes t.client ∷ []) h.all held)
  marked t (Err r) h inside m = mark_refused t r h inside m

  unmarked : (c tag previous : ℕ) (answer : Result Plan Refusal) → HasGatheredFor s given (Undo (Mark c tag previous)) → UndoesTag (Some s.sizes) (Some (Mark c tag previous)) k given answer after → IsPlanned s (Undo (Mark c tag previous)) answer
  unmarked c tag previous (Ok p) h m = planned_answer s (Undo (Mark c tag previous)) p (unmark_plan c tag previous p h m) (λ held. not_latched s given h.gathered (client_slot_at s.sizes c ∷ []) h.all held)
  unmarked c tag previous (Err r) h m = unmark_refused c tag previous r h m

  -- ---- where the slots hold what takes a mark back

  can_be : (c tag previous : ℕ) (p : Plan) → HasGatheredFor s given (Undo (Mark c tag previous)) → IsUntagPlan s.sizes k given c tag previous p after → MarkedLast s.sizes (slots_now s) c tag
  can_be c tag previous p h m = record {
    below = m.can.below;
    held = m.can.held;
    held_is = h.gathered.as_is (client_slot_at s.sizes c) (Client m.can.held) m.can.held_is;
    own = m.can.own;
    some = m.can.some;
    last = m.can.last;
  }

  can_unmark : (c tag : ℕ) → MarkedLast s.sizes (slots_now s) c tag → AreGivenOf s given (client_slot_at s.sizes c ∷ []) → CanUntag s.sizes given c tag
  can_unmark c tag x h = record {
    below = x.below;
    held = x.held;
    held_is = subst (GivenHolds s.sizes given (client_slot_at s.sizes c)) x.held_is h.0;
    own = x.own;
    some = x.some;
    last = x.last;
  }

  not_judged : (c tag previous : ℕ) (r : Refusal) → AreGivenOf s given (client_slot_at s.sizes c ∷ []) → UndoesTag (Some s.sizes) (Some (Mark c tag previous)) k given (Err r) after → TellsDamage r → MarkedLast s.sizes (slots_now s) c tag → ⊥
  not_judged c tag previous (why.Damaged x) h m damage can = m.0.1 (can_unmark c tag can h)
  not_judged c tag previous r h m damage can = absurd damage

  judged : (c tag previous : ℕ) (answer : Result Plan Refusal) → HasGatheredFor s given (Undo (Mark c tag previous)) → UndoesTag (Some s.sizes) (Some (Mark c tag previous)) k given answer after → IsJudgedBack s.sizes (slots_now s) (Mark c tag previous) answer
  judged c tag previous (Ok p) h m = record { can = can_be c tag previous p h m; damaged = tt }
  judged c tag previous (Err r) h m = record { can = tt; damaged = λ damage can. not_judged c tag previous r h.all m damage can }

  -- a plan is of one of the store's clients
  unmark_below : (c tag previous : ℕ) (p : Plan) → UndoesTag (Some s.sizes) (Some (Mark c tag previous)) k given (Ok p) after → c < client_count s.sizes
  unmark_below c tag previous p m = m.can.below

-- ---- what it wants, and what is answered then

module _ (s : State) (k : LevelState) (sizes : k.sizes ≡ Some s.sizes) where
  abbrev want : Wants
  want = tag_wants k.sizes

  abbrev of_job : Job → Option ℕ
  of_job job = cond job.undo (client_marked (deed_by job.level job.bytes)) (client_to_mark (tagging_by job.level job.bytes))

  wants_client : (job : Job) (c : ℕ) (given : List Given) → of_job job ≡ Some c → c < client_count s.sizes → AreGivenFrom s given → IsWantedOf s given (want job given) (client_slot_at s.sizes c ∷ [])
  wants_client job c given told inside h =
      subst (λ (z : Option Sizes). IsWantedOf s given (client_wanted z (of_job job) given) (client_slot_at s.sizes c ∷ [])) (sym sizes)
      (subst (λ o. IsWantedOf s given (client_wanted (Some s.sizes) o given) (client_slot_at s.sizes c ∷ [])) (sym told) (wants_needed.tags s given c h inside))

  pub to_mark_planned : (job : Job) (t : Tagging) (answer : Result Plan Refusal) → job.undo ≡ false → tagging_by job.level job.bytes ≡ Some t → t.client < client_count s.sizes → IsAnswered s want job (MayPlan s tag_meaning k job) answer → IsPlanned s (Do (Tag t)) answer
  to_mark_planned job t answer forward told inside h =
      from_wanted s want job (Do (Tag t)) (λ given from. wants_client job t.client given client inside from) (MayPlan s tag_meaning k job) (IsPlanned s (Do (Tag t))) (memory_answer s (Do (Tag t))) (latched_answer s (Do (Tag t)))
      (λ given a has m. marked s k given m.after t a has inside (of_plan given a m)) answer h
    where
      client : of_job job ≡ Some t.client
      client = ap (λ (b : Bool). cond b (client_marked (deed_by job.level job.bytes)) (client_to_mark (tagging_by job.level job.bytes))) forward ∙ ap client_to_mark told

      of_plan : (given : List Given) (a : Result Plan Refusal) (m : MayPlan s tag_meaning k job given a) → PlansTag (Some s.sizes) (Some t) k given a m.after
      of_plan given a m =
          subst (λ (o : Option Tagging). PlansTag (Some s.sizes) o k given a m.after) told
          (subst (λ (z : Option Sizes). PlansTag z (tagging_by job.level job.bytes) k given a m.after) sizes
          (subst (λ (b : Bool). TagsFor b k.sizes (tagging_by job.level job.bytes) k given a m.after) forward m.plans))

  module _ (t : Txn) (j level : ℕ) (deed : List ℕ) (c tag previous : ℕ) (told : deed_by level deed ≡ Some (Mark c tag previous)) where
    of_undo : (given : List Given) (a : Result Plan Refusal) (m : MayUndo s tag_meaning k (OpEnd t j level deed) given a) → UndoesTag (Some s.sizes) (Some (Mark c tag previous)) k given a m.after
    of_undo given a m =
        subst (λ (o : Option Deed). UndoesTag (Some s.sizes) o k given a m.after) told
        (subst (λ (z : Option Sizes). UndoesTag z (deed_by level deed) k given a m.after) sizes m.undoes)

    wants_back : c < client_count s.sizes → WantsFor s want (job_back (OpEnd t j level deed)) (Undo (Mark c tag previous))
    wants_back inside given from = wants_client (job_back (OpEnd t j level deed)) c given (ap client_marked told) inside from

    pub to_unmark_planned : (answer : Result Plan Refusal) → c < client_count s.sizes → IsAnswered s want (job_back (OpEnd t j level deed)) (MayUndo s tag_meaning k (OpEnd t j level deed)) answer → IsPlanned s (Undo (Mark c tag previous)) answer
    to_unmark_planned answer inside h =
        from_wanted s want (job_back (OpEnd t j level deed)) (Undo (Mark c tag previous)) (wants_back inside) (MayUndo s tag_meaning k (OpEnd t j level deed)) (IsPlanned s (Undo (Mark c tag previous))) (memory_answer s (Undo (Mark c tag previous))) (latched_answer s (Undo (Mark c tag previous)))
        (λ given a has m. unmarked s k given m.after c tag previous a has (of_undo given a m)) answer h

    pub unmark_judged : (answer : Result Plan Refusal) → c < client_count s.sizes → IsAnswered s want (job_back (OpEnd t j level deed)) (MayUndo s tag_meaning k (OpEnd t j level deed)) answer → IsJudgedBack s.sizes (slots_now s) (Mark c tag previous) answer
    unmark_judged answer inside h =
        from_wanted s want (job_back (OpEnd t j level deed)) (Undo (Mark c tag previous)) (wants_back inside) (MayUndo s tag_meaning k (OpEnd t j level deed)) (IsJudgedBack s.sizes (slots_now s) (Mark c tag previous))
        (record { can = tt; damaged = λ x. absurd x }) (λ held. record { can = tt; damaged = λ x. absurd x })
        (λ given a has m. judged s k given m.after c tag previous a has (of_undo given a m)) answer h

    -- a plan is of one of the store's clients
    pub planned_below : (given : List Given) (p : Plan) → MayUndo s tag_meaning k (OpEnd t j level deed) given (Ok p) → c < client_count s.sizes
    planned_below given p m = unmark_below s k given m.after c tag previous p (of_undo given (Ok p) m)

-- the level of tags knows the sizes of a store whose slots it was told
pub tags_know : (z : Sizes) (images : List (List ℕ)) (levels : List LevelState) → KnowsCells z images levels → (kept_at levels 2).sizes ≡ Some z
unfolding meaning_of
tags_know z images levels h = h.ready 2 (is_one z images levels 2 h (omega arith))
