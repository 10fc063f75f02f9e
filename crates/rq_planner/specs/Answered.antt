-- What a store is answered that asks a level for a plan, and what levels keep of it.
use Rattle.std.specs.Prelude.{◌≡◌, ◌⊎◌, ℕ, ◌/◌, ◌%◌, ◌≤◌, ◌<◌, ◌^◌, true, false, List, [], ◌∷◌, ◌++◌, length, Option, None, Some, Result, Ok, Err, IfErr, IfOk}
use Rattle.rq_model.specs.declared.record.Deed.{Deed}
use Rattle.rq_model.specs.declared.record.Deed.TheVariants.{Append, UnlinkHead, Close as Close_deed, Mark}
use Rattle.rq_model.specs.declared.refusal.Refusal.{Refusal}
use Rattle.rq_model.specs.declared.refusal.Refusal.TheVariants as why
use Rattle.rq_model.specs.Deeds.{deed_by}
use Rattle.rq_model.specs.declared.record.Record.{Record}
use Rattle.rq_page.specs.Sizes.{IsCellAddress, Sizes, cell_count}
use Rattle.rq_page.specs.Slots.{IsSlotOf}
use Rattle.rq_page.specs.Slots.Slot.{Free}
use Rattle.rq_views.specs.Items.{items, told_deed}
use Rattle.rq_views.specs.Legal.{view}
use Rattle.rq_views.specs.Log.{Slots}
use Rattle.rq_views.specs.Plans.Turn.{Did, Undid}
use Rattle.rq_views.specs.Stored.{IsStoreSlot, slot_at, slots_in}
use Rattle.rq_level.specs.Asked.{AreWanted, job_back}
use Rattle.rq_level.specs.ChainPlans.{TellsDamage}
use Rattle.rq_level.specs.declared.slots.Given.{Given}
use Rattle.rq_level.specs.declared.writes.Plan.{Plan}
use Rattle.rq_level.specs.declared.writes.SlotWrite.{SlotWrite}
use Rattle.rq_level.specs.LevelState.{LevelState, is_free_slot}
use Rattle.rq_level.specs.Meaning.{AreTold, Meaning, kept_at, level_count, meaning_of}
use Rattle.rq_level.specs.Ops.{Job}
use Rattle.rq_level.specs.Ops.Doing.{Send, Receive, Close}
use Rattle.rq_txn.specs.declared.Finished.{Finished}
use Rattle.rq_txn.specs.Rows.{Row, latched_in}
use Rattle.rq_groups.specs.Waiting.{waits}
use Rattle.rq_store.specs.State.{State}
use Rattle.rq_sound.specs.Calls.{IsIdle}
use Rattle.rq_sound.specs.Gathering.{AreGivenFrom, with_slot}
use Rattle.rq_sound.specs.Groups.{slots_now}
use Rattle.rq_sound.specs.Latching.{any_latched, at_tail}
use Rattle.rq_sound.specs.Levels.{AreLatched, IsGathered, IsUnlatchedPlan}
use Rattle.rq_sound.specs.Sound.{IsSound}
use Rattle.rq_sound.specs.Lowest.{AreAllLatched, FirstIsLowest}
use Rattle.rq_sound.specs.Inverses.{InverseIsLatched, InverseTakesLowest}
use Rattle.rq_planner.specs.Asked.{Asked, IsOfStore, Task, asked_by, known, slots_to_do, task_level}
use Rattle.rq_planner.specs.Asked.Asked.{Do, Undo}
use Rattle.rq_planner.specs.Asked.Task.{Chain, Tag}

-- ---- by a level of any number

-- what a level asks for, by what it is to do and what it was given
abbrev pub Wants : Type 0
Wants = Job → List Given → Option ℕ

-- the level of this number, as it keeps
abbrev pub wants_of : List LevelState → ℕ → Wants
wants_of levels n = (meaning_of n).want (kept_at levels n).sizes

-- slots of the store were given, as a level wanted them, each as it is, of pages that nobody has latched
pub record HasGathered (s : State) (want : Wants) (job : Job) (given : List Given) : Type 0 where
  pub wanted : AreWanted (want job) [] given
  pub from : AreGivenFrom s given
  pub gathered : IsGathered s given

-- why it is not given the slot at this address: want of memory, or a latch on its page; or the store has no such slot
abbrev pub IsWithheld : State → ℕ → Refusal → Type 0
IsWithheld s a why.NoMemory = Unit {0}
IsWithheld s a why.Latched = latched_in s.rows (a / 16) ≡ true
IsWithheld s a (why.Damaged x) = IsStoreSlot s.sizes a → ⊥
IsWithheld s a _ = ⊥

-- the slot at this address, which is one of the store, is given behind the others, as these images hold it
pub record IsGivenMore (z : Sizes) (images : List (List ℕ)) (a : ℕ) (old new : List Given) : Type 0 where
  pub place : IsStoreSlot z a
  pub slot : IsSlotOf z (a / 16) (a % 16) (slot_at images a)
  pub more : new ≡ with_slot old a (slot_at images a)

-- Where it wants no other slot, the answer is one that it may give. Else there is no plan.
abbrev pub ComesFrom : State → (wanted : Option ℕ) → (May : Result Plan Refusal → Type 0) → Result Plan Refusal → Type 0
ComesFrom s None May answer = May answer
ComesFrom s (Some a) May (Ok p) = ⊥
ComesFrom s (Some a) May (Err r) = IsWithheld s a r

-- The answer to a job comes from slots that the level wanted for it. It may give these from all of them.
pub record IsAnswered (s : State) (want : Wants) (job : Job) (May : List Given → Result Plan Refusal → Type 0)
    (answer : Result Plan Refusal) : Type 0 where
  pub given : List Given
  pub has : HasGathered s want job given
  pub comes : ComesFrom s (want job given) (May given) answer

-- where it keeps this, to something to do
pub record MayPlan (s : State) (m : Meaning) (k : LevelState) (job : Job) (given : List Given) (answer : Result Plan Refusal)
    : Type 0 where
  pub latched : List ℕ
  pub on : AreLatched s latched
  pub after : LevelState
  pub plans : m.plans k job given latched answer after

-- and to a record that is to be taken back
pub record MayUndo (s : State) (m : Meaning) (k : LevelState) (told : Record) (given : List Given)
    (answer : Result Plan Refusal) : Type 0 where
  pub latched : List ℕ
  pub on : AreLatched s latched
  pub after : LevelState
  pub undoes : m.undoes k told given latched answer after

-- the level of what a record tells, if it tells anything that is taken back
abbrev pub level_back : Record → ℕ
level_back told = (job_back told).level

-- The answer to something to do is one of its level.
abbrev pub IsAnsweredFor : State → List LevelState → Job → Result Plan Refusal → Type 0
IsAnsweredFor s levels job answer = IsAnswered s (wants_of levels job.level) job
    (MayPlan s (meaning_of job.level) (kept_at levels job.level) job) answer

-- The answer to what takes a record back is one of its level.
abbrev pub IsAnsweredBack : State → List LevelState → Record → Result Plan Refusal → Type 0
IsAnsweredBack s levels told answer = IsAnswered s (wants_of levels (level_back told)) (job_back told)
    (MayUndo s (meaning_of (level_back told)) (kept_at levels (level_back told)) told) answer

-- These writes are of a plan of what takes a record back, over the slots as they are, where nothing is under way.
pub record IsPlannedAlone (z : Sizes) (images : List (List ℕ)) (levels : List LevelState) (told : Record) (ws : List SlotWrite)
    : Type 0 where
  pub plan : Plan
  pub are : plan.writes.items ≡ ws
  pub answered : IsAnsweredBack (known z images []) levels told (Ok plan)

-- ---- plans

-- the deed is what is asked for; what else is in it the store tells
abbrev pub IsDeedFor : Task → Deed → Type 0
IsDeedFor (Chain (Send g tag body)) (Append h n t previous b) = (h ≡ g) × (t ≡ tag) × (b ≡ body)
IsDeedFor (Chain (Receive g)) (UnlinkHead h n tag body) = h ≡ g
IsDeedFor (Chain (Close g)) (Close_deed h) = h ≡ g
IsDeedFor (Tag t) (Mark c tag previous) = (c ≡ t.client) × (tag ≡ t.tag)
IsDeedFor _ _ = ⊥

-- a message is sent into the lowest free cell on a page that nobody has latched
abbrev pub SendTakesLowest : Sizes → Slots → List Row → Task → List SlotWrite → Type 0
SendTakesLowest z q rows (Chain (Send g tag body)) ws = FirstIsLowest z q rows ws
SendTakesLowest z q rows (Chain (Receive g)) ws = Unit {0}
SendTakesLowest z q rows (Chain (Close g)) ws = Unit {0}
SendTakesLowest z q rows (Tag t) ws = Unit {0}

-- The deed that its plan tells, if it tells one. Bytes that tell none count as `Close 0`: a plan of a level tells one (`told` of
-- `IsLawfulPlan`).
abbrev pub deed_of : Task → Plan → Deed
deed_of task p = told_deed (deed_by (task_level task) p.deed)

-- The plan of what is to be done, over the slots as they are, on pages that nobody has latched.
pub record IsPlanOf (s : State) (task : Task) (p : Plan) : Type 0 where
  pub asked : IsDeedFor task (deed_of task p)
  pub follows : IsUnlatchedPlan s p (Did (deed_of task p))
  pub lowest : SendTakesLowest s.sizes (slots_now s) s.rows task p.writes.items

-- the plan of what takes back a deed
pub record IsPlanBack (s : State) (d : Deed) (p : Plan) : Type 0 where
  pub follows : IsUnlatchedPlan s p (Undid d)
  pub lowest : InverseTakesLowest s.sizes (slots_now s) s.rows d p.writes.items

abbrev pub IsPlanFor : State → Asked → Plan → Type 0
IsPlanFor s (Do task) p = IsPlanOf s task p
IsPlanFor s (Undo d) p = IsPlanBack s d p

-- ---- when there is one

-- what is asked needs a latched page, or a cell of which none is free on another
abbrev pub IsHeldUp : State → Asked → Type 0
IsHeldUp s (Do (Chain (Send g tag body))) = (any_latched s.rows (at_tail (slots_now s) g) ≡ true)
    ⊎ AreAllLatched s.sizes (slots_now s) s.rows
IsHeldUp s (Do task) = any_latched s.rows (slots_to_do s.sizes (slots_now s) task) ≡ true
IsHeldUp s (Undo d) = InverseIsLatched s.sizes (slots_now s) s.rows d

-- the deed that a transaction with nothing under way did last and has not undone
pub record IsNewestDeed (s : State) (d : Deed) : Type 0 where
  pub row : Row
  pub older : List Finished
  pub lsn : ℕ
  pub number : ℕ
  pub idle : IsIdle s row
  pub last : row.finished ≡ older ++ record { lsn = lsn; number = number; deed = d } ∷ []

-- A sound store may do it, but for latches: a send where it is not full, a receive where a message waits, a close where
-- the group is open, a mark, and what takes back the newest deed of a transaction.
abbrev pub MayBeAsked : State → Asked → Type 0
MayBeAsked s (Do (Chain (Send g tag body))) = (s.cells_in_use < cell_count s.sizes) × (length s.records ≤ 2 ^ 50)
MayBeAsked s (Do (Chain (Receive g))) = 1 ≤ waits s.waiting g
MayBeAsked s (Do (Chain (Close g))) = (view (items s.sizes s.records) g).closed ≡ false
MayBeAsked s (Do (Tag t)) = length s.records ≤ 2 ^ 50
MayBeAsked s (Undo d) = IsNewestDeed s d

-- ---- the answer

-- why there is no plan: want of memory, what the slots hold, or latches, and only where they hold it up
abbrev pub RefusesPlan : (IsHeld : Type 0) → Refusal → Type 0
RefusesPlan IsHeld why.NoMemory = Unit {0}
RefusesPlan IsHeld why.Latched = IsHeld
RefusesPlan IsHeld (why.Damaged x) = Unit {0}
RefusesPlan IsHeld r = ⊥

-- What is answered to what is asked.
pub record IsPlanned (s : State) (asked : Asked) (answer : Result Plan Refusal) : Type 0 where
  pub plan : IfOk answer (IsPlanFor s asked)
  -- it is refused as latched exactly where latches hold it up
  pub free : IfOk answer (λ p. IsHeldUp s asked → ⊥)
  pub causes : IfErr answer (RefusesPlan (IsHeldUp s asked))
  -- a sound store with these pages and rows that may do it is not refused for what its slots hold
  pub sound : (whole : State) → known whole.sizes whole.images whole.rows ≡ s → IsSound whole → MayBeAsked whole asked
      → IfErr answer (λ r. TellsDamage r → ⊥)

-- Where a job asks for something of the store, the answer is one to that.
abbrev pub IsPlannedBy : State → Job → Result Plan Refusal → Type 0
IsPlannedBy s job answer = (asked : Asked) → asked_by job ≡ Some asked → IsOfStore s.sizes asked → IsPlanned s asked answer

-- ---- what levels keep

-- Levels know those slots of a store, whatever is under way there: to note one again, as it is, changes nothing that any
-- of them keeps. There is one of each number, and each is ready for the store.
pub record KnowsThose (Those : ℕ → Type 0) (z : Sizes) (images : List (List ℕ)) (levels : List LevelState) : Type 0 where
  pub again : (i a : ℕ) → i < length levels → Those a
      → (meaning_of i).note (kept_at levels i) a (slot_at images a) ≡ kept_at levels i
  pub all : level_count ≤ length levels
  pub ready : (i : ℕ) → i < length levels → (meaning_of i).ready z (kept_at levels i)

-- they know the cells, and all its other slots
abbrev pub KnowsCells : Sizes → List (List ℕ) → List LevelState → Type 0
KnowsCells z images levels = KnowsThose (IsStoreSlot z) z images levels

-- the slots below an address
abbrev pub AreBelow : Sizes → ℕ → ℕ → Type 0
AreBelow z bound a = IsStoreSlot z a × (a < bound)

-- they know those
abbrev pub KnowsBelow : Sizes → List (List ℕ) → (bound : ℕ) → List LevelState → Type 0
KnowsBelow z images bound levels = KnowsThose (AreBelow z bound) z images levels

-- a cell of the store, which is free
abbrev pub IsFreeCell : Sizes → List (List ℕ) → ℕ → Type 0
IsFreeCell z images a = IsCellAddress z a × (slots_in z images a ≡ Free)

-- the write is over a free cell's bytes, and a free cell stands there
abbrev pub IsOverFree : Sizes → List (List ℕ) → SlotWrite → Type 0
IsOverFree z images w = (is_free_slot w.before ≡ true) × IsFreeCell z images w.at

-- where a write is over a free cell, that is told; otherwise nothing is
abbrev pub MayBeTold : Sizes → List (List ℕ) → Option SlotWrite → (old new : List LevelState) → Type 0
MayBeTold z images None old new = new ≡ old
MayBeTold z images (Some w) old new = (IsOverFree z images w × AreTold w.at w.before old new)
    ⊎ ((IsOverFree z images w → ⊥) × (new ≡ old))
