-- What levels are asked, what they plan, and what begins.
use Rattle.std.specs.Prelude.{◌≡◌, ℕ, ◌+◌, ◌^◌, ◌<◌, ◌≤◌, Bool, true, false, List, length, Option, Some, Result, Ok, Err, IfErr, IfOk}
use Rattle.rq_model.specs.declared.record.Deed.{Deed}
use Rattle.rq_model.specs.declared.record.Record.{Record}
use Rattle.rq_model.specs.declared.refusal.Refusal.{Refusal}
use Rattle.rq_model.specs.declared.refusal.Refusal.TheVariants as why
use Rattle.rq_model.specs.declared.txn.Txn.{Txn}
use Rattle.rq_model.specs.Deeds.{deed_by, TellsItself}
use Rattle.rq_model.specs.Tests.{log_full}
use Rattle.rq_page.specs.Sizes.{Sizes, client_count, sender_count}
use Rattle.rq_views.specs.Items.{told_deed}
use Rattle.rq_views.specs.Plans.Turn.{Did, Undid}
use Rattle.rq_level.specs.ChainPlans.{TellsDamage}
use Rattle.rq_level.specs.Ops.Doing.{Send, Receive, Close}
use Rattle.rq_level.specs.declared.writes.Plan.{Plan}
use Rattle.rq_level.specs.declared.writes.SlotWrite.{SlotWrite}
use Rattle.rq_level.specs.Writes.{AreSlotWrites}
use Rattle.rq_groups.specs.declared.End.{End}
use Rattle.rq_groups.specs.declared.End.TheVariants.{Receiving}
use Rattle.rq_groups.specs.Sides.{is_free_end, with_end}
use Rattle.rq_txn.specs.declared.Aim.TheVariants as aims
use Rattle.rq_txn.specs.declared.Finished.{Finished}
use Rattle.rq_txn.specs.Rows.{Under, change_row, row_started}
use Rattle.rq_store.specs.Plans.{WaitsFor}
use Rattle.rq_store.specs.State.{State, ledger_of}
use Rattle.rq_sound.specs.Groups.{slots_now}
use Rattle.rq_sound.specs.Plans.{AreUnlatched, IsPlannedFrom}
use Rattle.rq_sound.specs.Sound.{IsSound}
use Rattle.rq_level.specs.LevelState.{LevelState}
use Rattle.rq_level.specs.Ops.{Job}
use Rattle.rq_planner.specs.Answered.{IsAnsweredBack, IsAnsweredFor, IsDeedFor, IsHeldUp, KnowsCells, MayBeAsked, RefusesPlan, SendTakesLowest, deed_of}
use Rattle.rq_planner.specs.Asked.{Asked, Task, doing_sender, known}
use Rattle.rq_planner.specs.Backs.{CanBeTakenBack}
use Rattle.rq_planner.specs.Asked.Task.{Chain, Tag}
use Rattle.rq_engine.specs.Aborts.{UndoTakesLowest}
use Rattle.rq_engine.specs.Answers.{HasNothingUnderWay}
use Rattle.rq_engine.specs.Applied.{OnLatched}
use Rattle.rq_engine.specs.Closes.{close_latched}
use Rattle.rq_engine.specs.Earlier.{IsEarlier, IsSoundOver, on}
use Rattle.rq_engine.specs.Frames.{NotBegun}
use Rattle.rq_engine.specs.Marks.{mark_latched}
use Rattle.rq_engine.specs.Sends.{take_latched}

-- what the level may see of a store: its pages, and what is under way
abbrev pub known_part : State → State
known_part s = known s.sizes s.images s.rows

-- a plan of what is to be done: its slot writes in order, and the deed that its end tells
pub record Planned : Type 0 where
  pub writes : List SlotWrite
  pub deed : Deed

-- as a level planned it
abbrev pub planned_of : (level : ℕ) → Plan → Planned
planned_of level p = record { writes = p.writes.items; deed = told_deed (deed_by level p.deed) }

-- the operation that a plan begins as
abbrev pub under_plan : ℕ → Planned → Under
under_plan number plan = record { number = number; writes = plan.writes; made = 0; aim = aims.Doing plan.deed }

-- A plan of what is to be done, from the slots as they are, on pages that nobody has latched: three writes at most, and a deed
-- that its bytes tell.
pub record IsDeedPlan (s : State) (task : Task) (plan : Planned) : Type 0 where
  pub asked : IsDeedFor task plan.deed
  pub planned : IsPlannedFrom s.sizes (slots_now s) plan.writes (Did plan.deed)
  pub free : AreUnlatched s plan.writes
  pub lowest : SendTakesLowest s.sizes (slots_now s) s.rows task plan.writes
  pub count : length plan.writes ≤ 3
  pub reads : TellsItself plan.deed

-- The writes that take back a deed, which was done last by the slots as they are, on pages that nobody has latched.
pub record IsInversePlan (s : State) (d : Deed) (writes : List SlotWrite) : Type 0 where
  pub can : CanBeTakenBack s.sizes (slots_now s) d
  pub planned : IsPlannedFrom s.sizes (slots_now s) writes (Undid d)
  pub slots : AreSlotWrites s.sizes writes
  pub free : AreUnlatched s writes
  pub lowest : UndoTakesLowest s d writes

-- ---- starts

-- what is counted of it where it starts: its writes, and an end
abbrev pub records_of : Task → ℕ
records_of (Chain (Send g tag body)) = 4
records_of (Chain (Receive g)) = 4
records_of (Chain (Close g)) = 2
records_of (Tag t) = 2

-- it is of one of the store's senders or clients, and no sender has the number of a client's group
abbrev pub IsWithin : Sizes → Task → Type 0
IsWithin z (Chain d) = doing_sender d < sender_count z
IsWithin z (Tag t) = (t.client < client_count z) × (sender_count z ≤ 2 ^ 32)

-- It may start as far as its tests tell. Its transaction has nothing under way, its lock is free, and the log has room. It is
-- of a sender or a client of the store.
pub record MayStart (s : State) (t : Txn) (n : ℕ) (end : End) (task : Task) : Type 0 where
  pub ready : HasNothingUnderWay s t n
  pub free : is_free_end t end s.ends ≡ true
  pub log : log_full (ledger_of s) (records_of task) ≡ false
  pub inside : IsWithin s.sizes task

-- something is asked that may
pub record IsToStart (s : State) (t : Txn) (n : ℕ) (end : End) (asked : Option Task) : Type 0 where
  pub task : Task
  pub is : asked ≡ Some task
  pub may : MayStart s t n end task

-- an operation with this plan is under way with its lock
abbrev pub started_with : State → Txn → ℕ → End → Planned → State
started_with s t n end plan =
    record s { rows = change_row t (row_started (under_plan n plan)) s.rows; ends = with_end t end s.ends }

-- it was planned
pub record HasStarted (s : State) (t : Txn) (n : ℕ) (end : End) (task : Task) (new : State) : Type 0 where
  pub plan : Planned
  pub planned : IsDeedPlan s task plan
  pub state : new ≡ started_with s t n end plan

-- something that is to do the task has begun, whatever pages its plan was read from
pub record HasBegun (s : State) (t : Txn) (n : ℕ) (end : End) (task : Task) (new : State) : Type 0 where
  pub plan : Planned
  pub asked : IsDeedFor task plan.deed
  pub state : new ≡ started_with s t n end plan

-- the inverse of the finished operation is under way, with these writes
abbrev pub turned_back : State → Txn → ℕ → Finished → List SlotWrite → State
turned_back s t n f ws = record s {
  rows = change_row t (row_started (record { number = n; writes = ws; made = 0; aim = aims.Undoing f.lsn f.deed })) s.rows;
}

-- it was planned
pub record HasTurnedBack (s : State) (t : Txn) (n : ℕ) (f : Finished) (new : State) : Type 0 where
  pub writes : List SlotWrite
  pub planned : IsInversePlan s f.deed writes
  pub state : new ≡ turned_back s t n f writes

-- the inverse of the finished operation has begun, whatever pages its writes were planned from
pub record HasBegunBack (s : State) (t : Txn) (n : ℕ) (f : Finished) (new : State) : Type 0 where
  pub writes : List SlotWrite
  pub state : new ≡ turned_back s t n f writes

-- what a level may answer, where the levels of a store keep so much
abbrev pub LevelAnswer : Type 1
LevelAnswer = State → List LevelState → Result Plan Refusal → Type 0

-- to something that is to be done
abbrev pub to_job : Job → LevelAnswer
to_job job s levels answer = IsAnsweredFor s levels job answer

-- to a record that is to be taken back
abbrev pub to_undo : Record → LevelAnswer
to_undo told s levels answer = IsAnsweredBack s levels told answer

-- the levels of the store, which know its slots, answer so
pub record LevelsAnswer (s : State) (MayAnswer : LevelAnswer) (answer : Result Plan Refusal) : Type 0 where
  pub levels : List LevelState
  pub knows : KnowsCells s.sizes s.images levels
  pub answered : MayAnswer (known_part s) levels answer

-- it is refused as latched only where a latch holds it up, and answered only where none does
abbrev pub IsLatchedBy : {X : Type 0} → Bool → Result X Refusal → Type 0
IsLatchedBy latched (Ok x) = latched ≡ false
IsLatchedBy latched (Err r) = OnLatched (latched ≡ true) r

-- No page tells which one a close or a mark needs. So that one's latch holds it up whatever the device is.
abbrev pub IsByLatches : {X : Type 0} → State → Task → Result X Refusal → Type 0
IsByLatches s (Chain (Send g tag body)) answer = Unit {0}
IsByLatches s (Chain (Receive g)) answer = Unit {0}
IsByLatches s (Chain (Close g)) answer = IsLatchedBy (close_latched s g) answer
IsByLatches s (Tag t) answer = IsLatchedBy (mark_latched s t.client) answer

-- What is so of the plan of a task whatever slots its level was given: its deed is what is asked for, and it makes no more writes
-- than are counted of the task.
pub record IsOwnPlan (s : State) (task : Task) (answer : Result Plan Refusal) : Type 0 where
  pub asked : IfOk answer (λ p. IsDeedFor task (deed_of task p))
  pub few : IfOk answer (λ p. length p.writes.items + 1 ≤ records_of task)
  pub latched : IsByLatches s task answer

-- what is planned begins, unless memory or frames are wanting or a device fails; what is not planned is refused as it was
abbrev pub ComesOf : {X : Type 0} → Result Plan Refusal → (HasBegun : Plan → Type 0) → Result X Refusal → Type 0
ComesOf (Ok p) HasBegun (Ok x) = HasBegun p
ComesOf (Ok p) HasBegun (Err r) = NotBegun (Unit {0}) r
ComesOf (Err r) HasBegun answer = answer ≡ Err r

-- the levels are asked, and what they plan begins
pub record BeginsAsPlanned {X : Type 0} (s : State) (MayAnswer : LevelAnswer) (HasBegun : Plan → Type 0)
    (answer : Result X Refusal) : Type 0 where
  pub plan : Result Plan Refusal
  pub asked : LevelsAnswer s MayAnswer plan
  pub begun : ComesOf plan HasBegun answer

-- why nothing begins: frames are wanting or a device failed, or there is no plan
abbrev pub RefusesStart : (IsHeld : Type 0) → Refusal → Type 0
RefusesStart IsHeld why.PoolFull = Unit {0}
RefusesStart IsHeld why.DiskRead = Unit {0}
RefusesStart IsHeld why.DiskWrite = Unit {0}
RefusesStart IsHeld r = RefusesPlan IsHeld r

-- What is answered to a start of what is asked. It is refused as latched exactly where latches hold it up. Where a sound store may
-- do it, it is refused otherwise for want of memory or frames alone, or as a device failed.
pub record IsStartOf {X : Type 0} (s : State) (asked : Asked) (HasBegun : Type 0) (answer : Result X Refusal) : Type 0 where
  pub begun : IfOk answer (λ _. HasBegun)
  pub free : IfOk answer (λ _. IsHeldUp (known_part s) asked → ⊥)
  pub causes : IfErr answer (RefusesStart (IsHeldUp (known_part s) asked))
  pub sound : (e : List Record) → IsEarlier e s → IsSound (on e s) → MayBeAsked (on e s) asked
      → IfErr answer (λ r. TellsDamage r → ⊥)

-- the writes of a plan of the task
abbrev pub AreWritesFor : State → Task → List SlotWrite → Type 0
AreWritesFor s task ws = (plan : Planned) × IsDeedPlan s task plan × (plan.writes ≡ ws)

-- ---- receives from whichever sender

-- the writes of a plan of a receive of a message that waits
abbrev pub AreTakeWrites : State → Txn → List SlotWrite → Type 0
AreTakeWrites s t ws = (sender : ℕ) × WaitsFor s t sender × AreWritesFor s (Chain (Receive sender)) ws

-- a receive of a message that waits may start: its transaction has nothing under way, and the log has room
pub record MayTake (s : State) (t : Txn) (n : ℕ) : Type 0 where
  pub ready : HasNothingUnderWay s t n
  pub log : log_full (ledger_of s) 4 ≡ false

-- a receive of a message that waits has begun, and no latch held it up
pub record HasTaken (s : State) (t : Txn) (n : ℕ) (new : State) : Type 0 where
  pub sender : ℕ
  pub waits : WaitsFor s t sender
  pub free : take_latched s sender ≡ false
  pub started : HasStarted s t n (Receiving sender) (Chain (Receive sender)) new

-- a receive of a message that waits has begun, whatever pages its plan was read from
pub record HasBegunTake (s : State) (t : Txn) (n : ℕ) (new : State) : Type 0 where
  pub sender : ℕ
  pub waits : WaitsFor s t sender
  pub begun : HasBegun s t n (Receiving sender) (Chain (Receive sender)) new

-- latches hold up a receive from each sender with P of which a message waits
abbrev pub AreHeldUp : State → Txn → (ℕ → Type 0) → Type 0
AreHeldUp s t P = (g : ℕ) → P g → WaitsFor s t g → take_latched s g ≡ true

-- what is answered to a start of a receive from some sender with P
pub record IsTakeOf {X : Type 0} (s : State) (t : Txn) (n : ℕ) (P : ℕ → Type 0) (answer : Result X Refusal) (new : State)
    : Type 0 where
  pub begun : IfOk answer (λ _. HasTaken s t n new)
  pub causes : IfErr answer (RefusesStart (AreHeldUp s t P))
  pub sound : IsSoundOver s → IfErr answer (λ r. TellsDamage r → ⊥)

abbrev pub is_latch : Refusal → Bool
is_latch why.Latched = true
is_latch _ = false

-- it is refused for latches
abbrev pub is_latched : {X : Type 0} → Result X Refusal → Bool
is_latched (Ok x) = false
is_latched (Err r) = is_latch r
