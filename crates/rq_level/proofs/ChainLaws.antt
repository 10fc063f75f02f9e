-- What the level of chains keeps to.
use Rattle.std.proofs.Common.{◌≡◌, ◌≢◌, ◌<◌, ℕ, ◌/◌, ◌%◌, arith, List, [], ◌∷◌, Bool, true, false, Option, None, Some, Ok, map, reverse, refl, sym, ap, ◌∙◌, subst, inl, inr}
use Rattle.std.proofs.lemmas.List.{reverse-reverse, set-set}
use Rattle.rq_model.specs.declared.record.Deed.{Deed}
use Rattle.rq_model.specs.declared.record.Deed.TheVariants.{Append, UnlinkHead, Close as Close_deed, Mark}
use Rattle.rq_model.specs.declared.record.Record.{Record}
use Rattle.rq_model.specs.declared.record.Record.TheVariants as records
use Rattle.rq_model.proofs.Deeds.{told_by_its_level}
use Rattle.rq_model.specs.Deeds.{deed_by, deed_in, deed_level}
use Rattle.rq_model.specs.Vocabulary.{In, is_some}
use Rattle.rq_page.specs.declared.cell.Cell.{Cell}
use Rattle.rq_page.specs.Cells.{free_bytes}
use Rattle.rq_page.specs.Sizes.{Sizes, IsCellAddress, place_of}
use Rattle.rq_page.specs.Slots.{Free, Slot}
use Rattle.rq_views.specs.Log.{Write}
use Rattle.rq_views.specs.Plans.{relinked}
use Rattle.rq_level.specs.Asked.{AreWanted, IsGathered, job_back, TellsDeedOf, AreNoted, AreOver, AreBackOver, AreWritten, AsksForNone, Knows, AreAsGiven, AreOverSlots, Chooses, ChoosesBack, MayChoose, AreOfSlots, AreBackOfSlots}
use Rattle.rq_level.specs.ChainPlans as chain
use Rattle.rq_level.specs.ChainPlans.{Plans, PlansFor, Undoes, chain_plans, chain_undoes, job_wanted}
use Rattle.rq_level.specs.Given.{AreGiven, given_at}
use Rattle.rq_level.specs.Lawful.{TellsDeed}
use Rattle.rq_level.specs.LevelState.{LevelState, IsLowest, is_free_slot, noted, noted_cell, reserved_at}
use Rattle.rq_level.specs.Meaning.{AreOf, Meaning, chain_meaning, level_count}
use Rattle.rq_level.specs.Ops.{Doing, Job, doing_by, doing_in}
use Rattle.rq_level.specs.Ops.Doing.{Send, Receive, Close}
use Rattle.std.proofs.lemmas.Option.{same_Some}
use Rattle.rq_level.specs.Gists.{gist_of}
use Rattle.rq_level.specs.Writes.{AreSlotWrites, writes_of}
use Rattle.rq_level.specs.declared.slots.Given.{Given}
use Rattle.rq_level.specs.declared.writes.Replies.TheVariants as replies
use Rattle.rq_level.specs.declared.writes.Plan.{Plan}
use Rattle.rq_level.specs.declared.writes.SlotWrite.{SlotWrite}
use Rattle.rq_level.proofs.Based.{IsChainPlan, IsSomething, all_each, are_over, chosen, done, holds_at, holds_free, free_is, known_free, lowest_cell, noted_there, over_slots, undone, was_given}
use Rattle.rq_level.proofs.Gathered.{IsTouched, done_touched, undone_touched}
use Rattle.rq_level.proofs.Unread.{read_of}

-- a plan is of a store whose sizes were told, and what was asked for is written
record IsOfStore (k : LevelState) (given : List Given) (latched : List ℕ) (p : Plan) (after : LevelState) (want : List Given → Option ℕ) : Type 0 where
  sizes : Sizes
  told : k.sizes ≡ Some sizes
  plan : IsChainPlan sizes k given latched p after
  touched : AreWanted want [] given → (g : Given) → In g given → IsTouched sizes k given latched p g.at

module _ (k : LevelState) (given : List Given) (latched : List ℕ) (p : Plan) (after : LevelState) where
  doing : (z : Option Sizes) (d : Option Doing) → k.sizes ≡ z → Plans z d k given latched (Ok p) after → IsOfStore k given latched p after (chain.wanted d)
  doing (Some z) d e h = record { sizes = z; told = e; plan = done z d k given latched p after h; touched = λ w. done_touched z k given latched p d after h [] given refl w }
  doing None (Some d) e h = absurd h
  doing None None e h = absurd h

  undoing : (z : Option Sizes) (d : Option Deed) → k.sizes ≡ z → Undoes z d k given latched (Ok p) after → IsOfStore k given latched p after (chain.undo_wanted d)
  undoing (Some z) d e h = record { sizes = z; told = e; plan = undone z d k given latched p after h; touched = λ w. undone_touched z k given latched p d after h [] given refl w }
  undoing None (Some d) e h = absurd h
  undoing None None e h = absurd h

  planned : (job : Job) → chain_plans k job given latched (Ok p) after → IsOfStore k given latched p after (job_wanted job)
  planned job h = by job.undo h where
    by : (undo : Bool) → PlansFor undo k.sizes (doing_by job.level job.bytes) k given latched (Ok p) after → IsOfStore k given latched p after (job_wanted (record { level = job.level; undo = undo; bytes = job.bytes }))
    by true m = absurd m
    by false m = doing k.sizes (doing_by job.level job.bytes) refl m

  backed : (told : Record) → chain_undoes k told given latched (Ok p) after → IsOfStore k given latched p after (job_wanted (job_back told))
  backed (records.OpEnd t n level deed) h = undoing k.sizes (deed_by level deed) refl h
  backed _ h = absurd h

-- what is taken back is a deed of chains
chain_deed_back : (k : LevelState) (given : List Given) (latched : List ℕ) (p : Plan) (after : LevelState) (z : Option Sizes) (d : Option Deed) → Undoes z d k given latched (Ok p) after → (e : Deed) × (d ≡ Some e) × (deed_level e ≡ 1)
chain_deed_back k given latched p after (Some z) (Some (Append s n tag previous body)) h = (Append s n tag previous body, refl, refl)
chain_deed_back k given latched p after (Some z) (Some (UnlinkHead s n tag body)) h = (UnlinkHead s n tag body, refl, refl)
chain_deed_back k given latched p after (Some z) (Some (Close_deed s)) h = (Close_deed s, refl, refl)
chain_deed_back k given latched p after (Some z) (Some (Mark c tag previous)) h = absurd h
chain_deed_back k given latched p after (Some z) None h = absurd h
chain_deed_back k given latched p after None (Some d) h = absurd h
chain_deed_back k given latched p after None None h = absurd h

pub back_read : (k : LevelState) (told : Record) (given : List Given) (latched : List ℕ) (p : Plan) (after : LevelState) → chain_undoes k told given latched (Ok p) after → TellsDeedOf 1 told
back_read k (records.OpEnd t n level deed) given latched p after h =
    let back = chain_deed_back k given latched p after k.sizes (deed_by level deed) h in
    let one : level ≡ 1 = sym (told_by_its_level level deed back.0 back.1) ∙ back.2 in
    (one, sym (ap (λ l. is_some (deed_by l deed)) one) ∙ ap is_some back.1)
back_read k _ given latched p after h = absurd h

doing_done : (k : LevelState) (given : List Given) (latched : List ℕ) (p : Plan) (after : LevelState) (undo : Bool) (z : Option Sizes) (d : Option Doing) → PlansFor undo z d k given latched (Ok p) after → (undo ≡ false) × (is_some d ≡ true)
doing_done k given latched p after true z d h = absurd h
doing_done k given latched p after false (Some z) (Some d) h = (refl, refl)
doing_done k given latched p after false (Some z) None h = absurd h
doing_done k given latched p after false None (Some d) h = absurd h
doing_done k given latched p after false None None h = absurd h

pub plan_own : (k : LevelState) (job : Job) (given : List Given) (latched : List ℕ) (p : Plan) (after : LevelState) → chain_plans k job given latched (Ok p) after → (job.level ≡ 1) × (job.undo ≡ false) × (1 < level_count)
plan_own k job given latched p after h =
    let m = doing_done k given latched p after job.undo k.sizes (doing_by job.level job.bytes) h in
    (read_of 1 job.level (doing_in job.bytes) m.1, m.0, omega arith)

-- ---- what its writes are over, and what it asks for

module _ (k : LevelState) (given : List Given) (latched : List ℕ) (p : Plan) (after : LevelState) (want : List Given → Option ℕ) (m : IsOfStore k given latched p after want) where
  of_store : AreOf k.sizes given → AreGiven m.sizes given
  of_store slots = subst (λ (o : Option Sizes). AreOf o given) m.told slots

  over : AreOf k.sizes given → AreNoted chain_meaning k given → AreOver k given latched p.writes.items
  over slots noted_so = are_over m.sizes k given latched p after m.plan m.told (of_store slots) noted_so

  holds : (q : ℕ → List ℕ) → Knows chain_meaning k q → AreOf k.sizes given → AreAsGiven q given → AreOverSlots q p.writes.items
  holds q knows slots as_is = over_slots m.sizes k given latched p after m.plan m.told q knows (of_store slots) as_is

  writes : AreWanted want [] given → AreWritten given p
  writes w = all_each (λ (g : Given). In g.at (map (λ (x : SlotWrite). x.at) p.writes.items)) given (λ g i. (m.touched w g i).written)

  spares : AreWanted want [] given → AreNoted chain_meaning k given → AsksForNone k latched given
  spares w noted_so z a told l = by (given_at a given) refl where
    by : (o : Option (List ℕ)) → given_at a given ≡ o → o ≡ None
    by None e = refl
    by (Some bytes) e =
        let here : IsTouched m.sizes k given latched p a = was_given (λ a x. IsTouched m.sizes k given latched p a) a given bytes (all_each (λ (g : Given). IsTouched m.sizes k given latched p g.at) given (m.touched w)) e in
        let same : z ≡ m.sizes = (let is : Some z ≡ Some m.sizes = sym told ∙ m.told in cc) in
        let free : is_free_slot bytes ≡ true = known_free z k latched a bytes told l (was_given (λ a x. noted k a x ≡ k) a given bytes noted_so e) in
        let nothing : here.held ≡ Free = sym (holds_at m.sizes given a here.held bytes e here.holds) ∙ holds_free m.sizes a bytes (subst (λ x. IsCellAddress x a) same (lowest_cell z k latched a l)) free in
        absurd (subst IsSomething nothing here.some)

  same_sizes : (z : Sizes) → k.sizes ≡ Some z → m.sizes ≡ z
  same_sizes z e = let is : Some m.sizes ≡ Some z = sym m.told ∙ e in cc

  takes : Chooses k given after p
  takes z w told i e = chosen m.sizes k given latched p after m.plan w i e ∙ ap (λ y. reserved_at y k w.at) (same_sizes z told)

  slots : AreOfSlots k p
  slots = record { sizes = m.sizes; told = m.told; are = m.plan.slots }

pub over_plan : (k : LevelState) (job : Job) (given : List Given) (latched : List ℕ) (p : Plan) (after : LevelState) → chain_plans k job given latched (Ok p) after → AreOf k.sizes given → AreNoted chain_meaning k given → AreOver k given latched p.writes.items
over_plan k job given latched p after h = over k given latched p after (job_wanted job) (planned k given latched p after job h)

pub over_back : (k : LevelState) (told : Record) (given : List Given) (latched : List ℕ) (p : Plan) (after : LevelState) → chain_undoes k told given latched (Ok p) after → AreOf k.sizes given → AreNoted chain_meaning k given → AreBackOver told k given latched p.writes.items
over_back k (records.OpEnd t n level deed) given latched p after h = over k given latched p after _ (backed k given latched p after (records.OpEnd t n level deed) h)
over_back k _ given latched p after h = absurd h

pub plan_holds : (q : ℕ → List ℕ) (k : LevelState) (job : Job) (given : List Given) (latched : List ℕ) (p : Plan) (after : LevelState) → chain_plans k job given latched (Ok p) after → Knows chain_meaning k q → AreOf k.sizes given → AreAsGiven q given → AreOverSlots q p.writes.items
plan_holds q k job given latched p after h = holds k given latched p after (job_wanted job) (planned k given latched p after job h) q

pub back_holds : (q : ℕ → List ℕ) (k : LevelState) (told : Record) (given : List Given) (latched : List ℕ) (p : Plan) (after : LevelState) → chain_undoes k told given latched (Ok p) after → Knows chain_meaning k q → AreOf k.sizes given → AreAsGiven q given → AreOverSlots q p.writes.items
back_holds q k told given latched p after h = holds k given latched p after (job_wanted (job_back told)) (backed k given latched p after told h) q

pub plan_writes : (k : LevelState) (job : Job) (given : List Given) (latched : List ℕ) (p : Plan) (after : LevelState) → chain_plans k job given latched (Ok p) after → IsGathered chain_meaning k.sizes job given → AreWritten given p
plan_writes k job given latched p after h = writes k given latched p after (job_wanted job) (planned k given latched p after job h)

pub back_writes : (k : LevelState) (told : Record) (given : List Given) (latched : List ℕ) (p : Plan) (after : LevelState) → chain_undoes k told given latched (Ok p) after → IsGathered chain_meaning k.sizes (job_back told) given → AreWritten given p
back_writes k told given latched p after h = writes k given latched p after (job_wanted (job_back told)) (backed k given latched p after told h)

pub plan_spares : (k : LevelState) (job : Job) (given : List Given) (latched : List ℕ) (p : Plan) (after : LevelState) → chain_plans k job given latched (Ok p) after → IsGathered chain_meaning k.sizes job given → AreNoted chain_meaning k given → after ≢ k → AsksForNone k latched given
plan_spares k job given latched p after h w noted_so ne = spares k given latched p after (job_wanted job) (planned k given latched p after job h) w noted_so

pub back_spares : (k : LevelState) (told : Record) (given : List Given) (latched : List ℕ) (p : Plan) (after : LevelState) → chain_undoes k told given latched (Ok p) after → IsGathered chain_meaning k.sizes (job_back told) given → AreNoted chain_meaning k given → after ≢ k → AsksForNone k latched given
back_spares k told given latched p after h w noted_so ne = spares k given latched p after (job_wanted (job_back told)) (backed k given latched p after told h) w noted_so

pub plan_takes : (k : LevelState) (job : Job) (given : List Given) (latched : List ℕ) (p : Plan) (after : LevelState) → chain_plans k job given latched (Ok p) after → Chooses k given after p
plan_takes k job given latched p after h = takes k given latched p after (job_wanted job) (planned k given latched p after job h)

pub back_takes : (k : LevelState) (told : Record) (given : List Given) (latched : List ℕ) (p : Plan) (after : LevelState) → chain_undoes k told given latched (Ok p) after → ChoosesBack told k given after p
back_takes k (records.OpEnd t n level deed) given latched p after h = takes k given latched p after _ (backed k given latched p after (records.OpEnd t n level deed) h)
back_takes k _ given latched p after h = absurd h

pub plan_slots : (k : LevelState) (job : Job) (given : List Given) (latched : List ℕ) (p : Plan) (after : LevelState) → chain_plans k job given latched (Ok p) after → AreOfSlots k p
plan_slots k job given latched p after h = slots k given latched p after (job_wanted job) (planned k given latched p after job h)

pub back_slots : (k : LevelState) (told : Record) (given : List Given) (latched : List ℕ) (p : Plan) (after : LevelState) → chain_undoes k told given latched (Ok p) after → AreBackOfSlots told k p
back_slots k (records.OpEnd t n level deed) given latched p after h = slots k given latched p after _ (backed k given latched p after (records.OpEnd t n level deed) h)
back_slots k _ given latched p after h = absurd h

-- ---- what a plan chooses

pub free_first : is_free_slot free_bytes ≡ true
unfolding free_bytes
free_first = refl

abbrev at_first : List Write → ℕ
at_first [] = 0
at_first (w ∷ ws) = w.at

abbrev before_first : List Write → Slot
before_first [] = Free
before_first (w ∷ ws) = w.before

from_first : (z : Sizes) (ws : List SlotWrite) (v : Write) (rest : List Write) (l k : LevelState) → writes_of z ws ≡ v ∷ rest → v.before ≡ Free → AreSlotWrites z ws → k.sizes ≡ Some z → IsCellAddress z v.at → ((x : List ℕ) → noted l v.at x ≡ noted k v.at x)
    → MayChoose chain_meaning k ws l
from_first z [] v rest l k e free are told cell h = absurd (let no : ◌≡◌ {A = List Write} [] (v ∷ rest) = e in cc)
from_first z (w ∷ ws) v rest l k e free are told cell h = inr (record {
  sizes = z;
  told = told;
  cell = subst (IsCellAddress z) (sym (ap at_first e)) cell;
  free = ap is_free_slot (free_is z (w.at / 16) (w.at % 16) w.before (are 0 w (omega arith)).before (ap before_first e ∙ free)) ∙ free_first;
  back = subst (λ n. (x : List ℕ) → noted l n x ≡ noted k n x) (sym (ap at_first e)) h;
})

-- the cell that it takes is written first
new_first : (z : Sizes) (ws : List SlotWrite) (d : Write) (at : ℕ) (o : Option Cell) (f : Cell → Cell) (v : Write) (l k : LevelState) → reverse (writes_of z ws) ≡ d ∷ relinked at o f (v ∷ []) → v.before ≡ Free → AreSlotWrites z ws → k.sizes ≡ Some z → IsCellAddress z v.at
    → ((x : List ℕ) → noted l v.at x ≡ noted k v.at x) → MayChoose chain_meaning k ws l
new_first z ws d at None f v l k e = from_first z ws v (d ∷ []) l k (sym (reverse-reverse (writes_of z ws)) ∙ ap reverse e)
new_first z ws d at (Some c) f v l k e = from_first z ws v (_ ∷ d ∷ []) l k (sym (reverse-reverse (writes_of z ws)) ∙ ap reverse e)

reservation_ends : (z : Sizes) (k : LevelState) (a : ℕ) (x : List ℕ) → k.sizes ≡ Some z → IsCellAddress z a → noted (reserved_at z k a) a x ≡ noted k a x
reservation_ends z k a x told cell =
    noted_there z (reserved_at z k a) a x told cell
    ∙ ap (λ (r : List Bool). record (noted_cell z k (place_of z a) (is_free_slot x)) { reserved = r }) (set-set k.reserved (place_of z a) true false)
    ∙ sym (noted_there z k a x told cell)

pub same_kept : (m : Meaning) (ws : List SlotWrite) (l k : LevelState) → l ≡ k → MayChoose m k ws l
same_kept m [] l k e = e
same_kept m (w ∷ ws) l k e = inl e

module _ (k : LevelState) (given : List Given) (latched : List ℕ) (p : Plan) (after : LevelState) where
  taken : (z : Sizes) (a : ℕ) → k.sizes ≡ Some z → IsLowest z k latched a → after ≡ reserved_at z k a → (x : List ℕ) → noted after a x ≡ noted k a x
  taken z a told l kept x = ap (λ (m : LevelState). noted m a x) kept ∙ reservation_ends z k a x told (lowest_cell z k latched a l)

  done_chooses : (z : Option Sizes) (d : Option Doing) → k.sizes ≡ z → Plans z d k given latched (Ok p) after → MayChoose chain_meaning k p.writes.items after
  done_chooses (Some z) (Some (Send s tag body)) told h = new_first z p.writes.items _ _ h.can.old _ _ after k h.writes refl h.slots told (lowest_cell z k latched h.new h.lowest) (taken z h.new told h.lowest h.kept)
  done_chooses (Some z) (Some (Receive s)) told h = same_kept chain_meaning p.writes.items after k h.kept
  done_chooses (Some z) (Some (Close s)) told h = same_kept chain_meaning p.writes.items after k h.kept
  done_chooses (Some z) None told h = absurd h
  done_chooses None (Some d) told h = absurd h
  done_chooses None None told h = absurd h

  undone_chooses : (z : Option Sizes) (d : Option Deed) → k.sizes ≡ z → Undoes z d k given latched (Ok p) after → MayChoose chain_meaning k p.writes.items after
  undone_chooses (Some z) (Some (Append s n tag previous body)) told h = same_kept chain_meaning p.writes.items after k h.kept
  undone_chooses (Some z) (Some (UnlinkHead s n tag body)) told h = new_first z p.writes.items _ _ h.can.old _ _ after k h.writes refl h.slots told (lowest_cell z k latched h.new h.lowest) (taken z h.new told h.lowest h.kept)
  undone_chooses (Some z) (Some (Close_deed s)) told h = same_kept chain_meaning p.writes.items after k h.kept
  undone_chooses (Some z) (Some (Mark c tag previous)) told h = absurd h
  undone_chooses (Some z) None told h = absurd h
  undone_chooses None (Some d) told h = absurd h
  undone_chooses None None told h = absurd h

pub plan_chooses : (undo : Bool) (k : LevelState) (d : Option Doing) (given : List Given) (latched : List ℕ) (p : Plan) (after : LevelState) → PlansFor undo k.sizes d k given latched (Ok p) after → MayChoose chain_meaning k p.writes.items after
plan_chooses true k d given latched p after h = absurd h
plan_chooses false k d given latched p after h = done_chooses k given latched p after k.sizes d refl h

pub back_chooses : (k : LevelState) (told : Record) (given : List Given) (latched : List ℕ) (p : Plan) (after : LevelState) → chain_undoes k told given latched (Ok p) after → MayChoose chain_meaning k p.writes.items after
back_chooses k (records.OpEnd t n level deed) given latched p after h = undone_chooses k given latched p after k.sizes (deed_by level deed) refl h
back_chooses k _ given latched p after h = absurd h

-- ---- the deed that a plan tells

deed_told : (z : Option Sizes) (d : Option Doing) (k : LevelState) (given : List Given) (latched : List ℕ) (p : Plan) (after : LevelState) → Plans z d k given latched (Ok p) after → TellsDeed 1 p.deed
deed_told (Some z) (Some (Send s tag body)) k given latched p after h = record { deed = _; spelled = h.deed; reads = h.reads }
deed_told (Some z) (Some (Receive s)) k given latched p after h = record { deed = _; spelled = h.deed; reads = h.reads }
deed_told (Some z) (Some (Close s)) k given latched p after h = record { deed = _; spelled = h.deed; reads = h.reads }
deed_told (Some z) None k given latched p after h = absurd h
deed_told None (Some d) k given latched p after h = absurd h
deed_told None None k given latched p after h = absurd h

pub plan_told : (undo : Bool) (z : Option Sizes) (d : Option Doing) (k : LevelState) (given : List Given) (latched : List ℕ) (p : Plan) (after : LevelState) → PlansFor undo z d k given latched (Ok p) after → TellsDeed 1 p.deed
plan_told true z d k given latched p after h = absurd h
plan_told false z d k given latched p after h = deed_told z d k given latched p after h

-- what its end replies, by the deed that it tells
by_deed : (p : Plan) (d e : Deed) → p.reply ≡ replies.Deed (gist_of d) → deed_in p.deed ≡ Some d → deed_in p.deed ≡ Some e → p.reply ≡ replies.Deed (gist_of e)
by_deed p d e is reads told = is ∙ ap (λ x. replies.Deed (gist_of x)) (same_Some d e (sym reads ∙ told))

pub plan_replies : (undo : Bool) (z : Option Sizes) (d : Option Doing) (k : LevelState) (given : List Given) (latched : List ℕ) (p : Plan) (after : LevelState) → PlansFor undo z d k given latched (Ok p) after → (e : Deed) → deed_in p.deed ≡ Some e → p.reply ≡ replies.Deed (gist_of e)
plan_replies true z d k given latched p after h e told = absurd h
plan_replies false (Some z) (Some (Send s tag body)) k given latched p after h e told = by_deed p _ e h.reply h.reads told
plan_replies false (Some z) (Some (Receive s)) k given latched p after h e told = by_deed p _ e h.reply h.reads told
plan_replies false (Some z) (Some (Close s)) k given latched p after h e told = by_deed p _ e h.reply h.reads told
plan_replies false (Some z) None k given latched p after h e told = absurd h
plan_replies false None (Some d) k given latched p after h e told = absurd h
plan_replies false None None k given latched p after h e told = absurd h
