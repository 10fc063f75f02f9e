-- A plan is lawful, and a refusal one that may be, by the laws of the level, whatever slots that was given.
use Rattle.std.proofs.Common.{◌≡◌, ◌<◌, ◌≤◌, ◌∙◌, ℕ, zero, suc, List, [], ◌∷◌, reverse, arith, Bool, Option, None, Some, Result, Ok, Err, IfErr, IfOk, ap, length, refl, subst, sym, true, false}
use Rattle.std.proofs.lemmas.Bool.{false≢true}
use Rattle.std.proofs.lemmas.List.{length-map, length-reverse}
use Rattle.rq_model.specs.declared.record.Deed.{Deed}
use Rattle.rq_model.specs.declared.record.Deed.TheVariants.{Append, UnlinkHead, Close as Close_deed, Mark}
use Rattle.rq_model.specs.declared.record.Record.{Record}
use Rattle.rq_model.specs.declared.record.Record.TheVariants.{OpEnd}
use Rattle.rq_model.specs.declared.refusal.Refusal.{Refusal}
use Rattle.rq_model.specs.declared.refusal.Refusal.TheVariants as why
use Rattle.rq_model.specs.declared.txn.Txn.{Txn}
use Rattle.rq_model.specs.Deeds.{deed_by, spelled_deed}
use Rattle.rq_model.specs.Vocabulary.{is_some}
use Rattle.rq_page.specs.Sizes.{Sizes}
use Rattle.rq_views.specs.Items.{told_deed}
use Rattle.rq_level.specs.Asked.{AreOfSlots, deed_back}
use Rattle.rq_views.specs.Log.{Write}
use Rattle.rq_level.specs.ChainPlans.{PlansFor, Undoes}
use Rattle.rq_level.specs.declared.slots.Given.{Given}
use Rattle.rq_level.specs.declared.writes.Plan.{Plan}
use Rattle.rq_level.specs.declared.writes.SlotWrite.{SlotWrite}
use Rattle.rq_level.specs.Lawful.{MayHaveNoPlan, TellsDeed}
use Rattle.rq_level.specs.LevelState.{LevelState}
use Rattle.rq_level.specs.Meaning.{kept_at, meaning_of}
use Rattle.rq_level.specs.Ops.{Doing, Job, Tagging, doing_by, tagging_by}
use Rattle.rq_level.specs.Ops.Doing.{Send, Receive, Close}
use Rattle.rq_level.specs.TagPlans.{TagsFor, UndoesTag}
use Rattle.rq_level.specs.Writes.{AreSlotWrites, with_plan, write_of, writes_of}
use Rattle.rq_level.proofs.EachLevel.{all_lawful}
use Rattle.rq_txn.specs.Told.{IsTold}
use Rattle.rq_planner.specs.Answered.{IsDeedFor, KnowsCells, deed_of, level_back}
use Rattle.rq_planner.specs.Asked.{Task, task_by, task_level}
use Rattle.rq_planner.specs.Asked.Task.{Chain, Tag}
use Rattle.rq_planner.specs.Lawful.{IsLawfulFor, IsLawfulInverse, MayRefuse, most_writes, most_writes_back}
use Rattle.rq_planner.proofs.Asking.{task_cases}

-- the deed that bytes tell, by its level
is_told : (level : ℕ) (bytes : List ℕ) → TellsDeed level bytes → IsTold level bytes
is_told level bytes h =
    let is : told_deed (deed_by level bytes) ≡ h.deed = ap told_deed h.reads in
    record { reads = h.reads ∙ ap (λ (e : Deed). Some e) (sym is); spelled = ap spelled_deed is ∙ sym h.spelled }

-- ---- how many writes it has

one_write : (z : Sizes) (ws : List SlotWrite) (w : Write) → reverse (writes_of z ws) ≡ w ∷ [] → length ws ≤ 1
one_write z ws w e = omega (arith, ap length e, length-reverse (writes_of z ws), length-map ws (write_of z))

chain_few : (undo : Bool) (z : Option Sizes) (d : Doing) (k : LevelState) (given : List Given) (latched : List ℕ) (p : Plan) (after : LevelState) → length p.writes.items ≤ 3 → PlansFor undo z (Some d) k given latched (Ok p) after → length p.writes.items ≤ most_writes (Chain d)
chain_few undo z (Send g tag body) k given latched p after three m = three
chain_few undo z (Receive g) k given latched p after three m = three
chain_few true z (Close g) k given latched p after three m = absurd m
chain_few false (Some z) (Close g) k given latched p after three m = one_write z p.writes.items _ m.marked.writes
chain_few false None (Close g) k given latched p after three m = absurd m

tag_few : (undo : Bool) (z : Option Sizes) (t : Tagging) (k : LevelState) (given : List Given) (p : Plan) (after : LevelState) → TagsFor undo z (Some t) k given (Ok p) after → length p.writes.items ≤ most_writes (Tag t)
tag_few true z t k given p after m = absurd m
tag_few false (Some z) t k given p after m = one_write z p.writes.items _ m.writes
tag_few false None t k given p after m = absurd m

chain_few_back : (z : Option Sizes) (d : Deed) (k : LevelState) (given : List Given) (latched : List ℕ) (p : Plan) (after : LevelState) → length p.writes.items ≤ 3 → Undoes z (Some d) k given latched (Ok p) after → length p.writes.items ≤ most_writes_back d
chain_few_back z (Append g n tag previous body) k given latched p after three m = three
chain_few_back z (UnlinkHead g n tag body) k given latched p after three m = three
chain_few_back (Some z) (Close_deed g) k given latched p after three m = one_write z p.writes.items _ m.marked.writes
chain_few_back None (Close_deed g) k given latched p after three m = absurd m
chain_few_back (Some z) (Mark c tag previous) k given latched p after three m = absurd m
chain_few_back None (Mark c tag previous) k given latched p after three m = absurd m

tag_few_back : (z : Option Sizes) (d : Deed) (k : LevelState) (given : List Given) (p : Plan) (after : LevelState) → UndoesTag z (Some d) k given (Ok p) after → length p.writes.items ≤ most_writes_back d
tag_few_back (Some z) (Mark c tag previous) k given p after m = one_write z p.writes.items _ m.writes
tag_few_back (Some z) (Append g n tag previous body) k given p after m = absurd m
tag_few_back (Some z) (UnlinkHead g n tag body) k given p after m = absurd m
tag_few_back (Some z) (Close_deed g) k given p after m = absurd m
tag_few_back None d k given p after m = absurd m

end_few_back : (n : ℕ) (k : LevelState) (t : Txn) (j level : ℕ) (deed : List ℕ) (given : List Given) (latched : List ℕ) (p : Plan) (after : LevelState) (d : Deed) → length p.writes.items ≤ 3 → deed_by level deed ≡ Some d → (meaning_of n).undoes k (OpEnd t j level deed) given latched (Ok p) after
    → length p.writes.items ≤ most_writes_back d
unfolding meaning_of
end_few_back zero k t j level deed given latched p after d three told m = absurd m
end_few_back (suc zero) k t j level deed given latched p after d three told m = chain_few_back k.sizes d k given latched p after three (subst (λ (o : Option Deed). Undoes k.sizes o k given latched (Ok p) after) told m)
end_few_back (suc (suc zero)) k t j level deed given latched p after d three told m = tag_few_back k.sizes d k given p after (subst (λ (o : Option Deed). UndoesTag k.sizes o k given (Ok p) after) told m)
end_few_back (suc (suc (suc n))) k t j level deed given latched p after d three told m = absurd m

-- what takes a deed back has no more than may be
pub few_back : (n : ℕ) (k : LevelState) (r : Record) (given : List Given) (latched : List ℕ) (answer : Result Plan Refusal) (after : LevelState) → (meaning_of n).undoes k r given latched answer after → (d : Deed) → deed_back r ≡ Some d → IfOk answer (λ p. length p.writes.items ≤ most_writes_back d)
few_back n k r given latched (Err e) after m d told = tt
few_back n k (OpEnd t j level deed) given latched (Ok p) after m d told = end_few_back n k t j level deed given latched p after d ((all_lawful n).count_undo k (OpEnd t j level deed) given latched p after m) told m
few_back n k _ given latched (Ok p) after m d told = absurd (let no : None ≡ Some d = told in cc)

-- ---- what was asked for

-- the deed of its bytes
deed_is : (task : Task) (p : Plan) (d : Deed) → deed_by (task_level task) p.deed ≡ Some d → IsDeedFor task d → IsDeedFor task (deed_of task p)
deed_is task p d reads asked = subst (IsDeedFor task) (sym (ap told_deed reads)) asked

chain_asked : (undo : Bool) (z : Option Sizes) (d : Doing) (k : LevelState) (given : List Given) (latched : List ℕ) (p : Plan) (after : LevelState) → PlansFor undo z (Some d) k given latched (Ok p) after → IsDeedFor (Chain d) (deed_of (Chain d) p)
chain_asked true z d k given latched p after m = absurd m
chain_asked false (Some z) (Send g tag body) k given latched p after m = deed_is (Chain (Send g tag body)) p _ m.reads (refl, refl, refl)
chain_asked false (Some z) (Receive g) k given latched p after m = deed_is (Chain (Receive g)) p _ m.reads refl
chain_asked false (Some z) (Close g) k given latched p after m = deed_is (Chain (Close g)) p _ m.reads refl
chain_asked false None d k given latched p after m = absurd m

tag_asked : (undo : Bool) (z : Option Sizes) (t : Tagging) (k : LevelState) (given : List Given) (p : Plan) (after : LevelState) → TagsFor undo z (Some t) k given (Ok p) after → IsDeedFor (Tag t) (deed_of (Tag t) p)
tag_asked true z t k given p after m = absurd m
tag_asked false (Some z) t k given p after m = deed_is (Tag t) p _ m.reads (refl, refl)
tag_asked false None t k given p after m = absurd m

module _ (k : LevelState) (job : Job) (given : List Given) (latched : List ℕ) (p : Plan) (after : LevelState) where
  abbrev Planned : ℕ → Type 0
  Planned n = (meaning_of n).plans k job given latched (Ok p) after

  asked_of_chains : Planned 1 → (d : Doing) → doing_by job.level job.bytes ≡ Some d → IsDeedFor (Chain d) (deed_of (Chain d) p)
  unfolding meaning_of
  asked_of_chains m d told = chain_asked job.undo k.sizes d k given latched p after (subst (λ (o : Option Doing). PlansFor job.undo k.sizes o k given latched (Ok p) after) told m)

  asked_of_tags : Planned 2 → (t : Tagging) → tagging_by job.level job.bytes ≡ Some t → IsDeedFor (Tag t) (deed_of (Tag t) p)
  unfolding meaning_of
  asked_of_tags m t told = tag_asked job.undo k.sizes t k given p after (subst (λ (o : Option Tagging). TagsFor job.undo k.sizes o k given (Ok p) after) told m)

  few_of_chains : length p.writes.items ≤ 3 → Planned 1 → (d : Doing) → doing_by job.level job.bytes ≡ Some d → length p.writes.items ≤ most_writes (Chain d)
  unfolding meaning_of
  few_of_chains three m d told = chain_few job.undo k.sizes d k given latched p after three (subst (λ (o : Option Doing). PlansFor job.undo k.sizes o k given latched (Ok p) after) told m)

  few_of_tags : Planned 2 → (t : Tagging) → tagging_by job.level job.bytes ≡ Some t → length p.writes.items ≤ most_writes (Tag t)
  unfolding meaning_of
  few_of_tags m t told = tag_few job.undo k.sizes t k given p after (subst (λ (o : Option Tagging). TagsFor job.undo k.sizes o k given (Ok p) after) told m)

  -- it has no more writes than may be
  has_few : length p.writes.items ≤ 3 → Planned job.level → (task : Task) → task_by job.level job.bytes ≡ Some task → length p.writes.items ≤ most_writes task
  has_few three m task told = task_cases (λ (x : Task). length p.writes.items ≤ most_writes x) job.level job.bytes task told
      (λ d e one. few_of_chains three (subst Planned one m) d e)
      (λ t e two. few_of_tags (subst Planned two m) t e)

  -- the deed is what was asked for, whatever slots its level was given
  is_asked : Planned job.level → (task : Task) → task_by job.level job.bytes ≡ Some task → IsDeedFor task (deed_of task p)
  is_asked m task told = task_cases (λ (x : Task). IsDeedFor x (deed_of x p)) job.level job.bytes task told
      (λ d e one. asked_of_chains (subst Planned one m) d e)
      (λ t e two. asked_of_tags (subst Planned two m) t e)

-- ---- plans

module _ (z : Sizes) (images : List (List ℕ)) (levels : List LevelState) (knows : KnowsCells z images levels) where
  -- a level that is ready for the store was told its sizes
  of_store : (n : ℕ) → n < length levels → (p : Plan) → AreOfSlots (kept_at levels n) p → AreSlotWrites z p.writes.items
  of_store n lt p of = subst (λ y. AreSlotWrites y p.writes.items) ((all_lawful n).no_others (kept_at levels n) z of.sizes (knows.ready n lt) of.told) of.are

  pub lawful_plan : (job : Job) (given : List Given) (latched : List ℕ) (answer : Result Plan Refusal) (after : LevelState) → job.level < length levels → (meaning_of job.level).plans (kept_at levels job.level) job given latched answer after → IfOk answer (IsLawfulFor z job)
  lawful_plan job given latched (Err r) after lt m = tt
  lawful_plan job given latched (Ok p) after lt m =
      let n = job.level in
      let k = kept_at levels n in
      let law = all_lawful n in
      let told = is_told n p.deed (law.told k job given latched p after m) in
      record {
        lawful = record {
          slots = of_store n lt p (law.slots k job given latched p after m);
          count = law.count k job given latched p after m;
          told = told;
          reply = law.replies k job given latched p after m (told_deed (deed_by n p.deed)) told.reads;
        };
        asked = is_asked k job given latched p after m;
        few = has_few k job given latched p after (law.count k job given latched p after m) m;
      }

  pub lawful_inverse : (told : Record) (given : List Given) (latched : List ℕ) (answer : Result Plan Refusal) (after : LevelState) → level_back told < length levels → is_some (deed_back told) ≡ true
      → (meaning_of (level_back told)).undoes (kept_at levels (level_back told)) told given latched answer after → IfOk answer (IsLawfulInverse z)
  lawful_inverse told given latched (Err r) after lt some m = tt
  lawful_inverse (OpEnd t j n deed) given latched (Ok p) after lt some m =
      let k = kept_at levels n in
      let r = OpEnd t j n deed in
      let law = all_lawful n in
      record {
        slots = of_store n lt p (law.slots_undo k r given latched p after m);
        count = law.count_undo k r given latched p after m;
        inverse = record {
          deed = law.silent k r given latched p after m;
          reply = law.replies_undo k r given latched p after m;
        };
      }
  lawful_inverse _ given latched (Ok p) after lt some m = absurd (false≢true some)

-- a level refuses for memory, a latch or damage alone
pub plan_refused : {X : Type 0} (n : ℕ) (k : LevelState) (job : Job) (given : List Given) (latched : List ℕ) (p : Plan) (answer : Result X Refusal) (after : LevelState) → (meaning_of n).plans k job given latched (with_plan p answer) after → IfErr answer MayHaveNoPlan
plan_refused n k job given latched p (Ok x) after m = tt
plan_refused n k job given latched p (Err r) after m = ((all_lawful n).refuses k job given latched r after m).0

pub undo_refused : {X : Type 0} (n : ℕ) (k : LevelState) (told : Record) (given : List Given) (latched : List ℕ) (p : Plan) (answer : Result X Refusal) (after : LevelState) → (meaning_of n).undoes k told given latched (with_plan p answer) after → IfErr answer MayHaveNoPlan
undo_refused n k told given latched p (Ok x) after m = tt
undo_refused n k told given latched p (Err r) after m = ((all_lawful n).refuses_undo k told given latched r after m).0

pub may_refuse : {X : Type 0} (answer : Result X Refusal) → IfErr answer MayHaveNoPlan → IfErr answer MayRefuse
may_refuse (Ok p) h = tt
may_refuse (Err why.NoMemory) h = tt
may_refuse (Err why.Latched) h = tt
may_refuse (Err (why.Damaged x)) h = tt
may_refuse (Err _) h = absurd h
