-- What a level asks for before it plans, what its writes are over, which cell it chooses, and slots noted one after another.
use Rattle.std.specs.Prelude.{◌≡◌, ◌⊎◌, ◌/◌, ◌%◌, ◌+◌, ◌*◌, ℕ, true, List, [], ◌∷◌, ◌++◌, Option, None, Some, map, All}
use Rattle.rq_model.specs.declared.record.Deed.{Deed}
use Rattle.rq_model.specs.declared.record.Record.{Record}
use Rattle.rq_model.specs.declared.record.Record.TheVariants.{OpEnd, PageOp}
use Rattle.rq_model.specs.Deeds.{deed_by}
use Rattle.rq_model.specs.Vocabulary.{In, is_some}
use Rattle.rq_page.specs.Cells.{free_bytes}
use Rattle.rq_page.specs.Sizes.{Sizes, IsCellAddress}
use Rattle.rq_page.specs.Slots.{IsSlotOf}
use Rattle.rq_views.specs.Stored.{IsStoreSlot}
use Rattle.rq_level.specs.LevelState.{LevelState, IsLowest, is_free_slot, reserved_at}
use Rattle.rq_level.specs.Ops.{Job}
use Rattle.rq_level.specs.Given.{given_at}
use Rattle.rq_level.specs.PagePlans.{IsOneWrite}
use Rattle.rq_level.specs.Writes.{AreSlotWrites}
use Rattle.rq_level.specs.Meaning.{Meaning}
use Rattle.rq_level.specs.declared.slots.Given.{Given}
use Rattle.rq_level.specs.declared.writes.Plan.{Plan}
use Rattle.rq_level.specs.declared.writes.Replies.{Replies}
use Rattle.rq_level.specs.declared.writes.Replies.TheVariants as replies
use Rattle.rq_level.specs.declared.writes.SlotWrite.{SlotWrite}

-- each of the later slots was asked for, given those before it
abbrev pub AreWanted : (List Given → Option ℕ) → List Given → List Given → Type 0
AreWanted want front [] = Unit {0}
AreWanted want front (g ∷ gs) = (want front ≡ Some g.at) × AreWanted want (front ++ g ∷ []) gs

-- these slots were given as the level asked for them, from the first on
abbrev pub IsGathered : Meaning → Option Sizes → Job → List Given → Type 0
IsGathered m z job given = AreWanted (m.want z job) [] given

-- the operation that slots are asked for before a record is taken back
abbrev pub job_back : Record → Job
job_back (OpEnd t n level deed) = record { level = level; undo = true; bytes = deed }
job_back _ = record { level = 0; undo = true; bytes = [] }

-- the deed that it tells, if it tells one
abbrev pub deed_back : Record → Option Deed
deed_back told = deed_by (job_back told).level (job_back told).bytes

-- the record is an end that tells a deed of the level of this number, or a slot write where that is 0
abbrev pub TellsDeedOf : (level : ℕ) → Record → Type 0
TellsDeedOf l (OpEnd t n level deed) = (level ≡ l) × (is_some (deed_by l deed) ≡ true)
TellsDeedOf l (PageOp t n page slot x y) = l ≡ 0
TellsDeedOf l _ = ⊥

-- what was given was noted so
abbrev pub AreNoted : Meaning → LevelState → List Given → Type 0
AreNoted m k given = All (λ g. m.note k g.at g.bytes ≡ k) given

-- the end of what takes an operation back replies that it is undone; what takes a slot write back has no such end
abbrev pub reply_back : Record → Replies
reply_back (OpEnd t n level deed) = replies.Undone
reply_back _ = replies.Nothing

-- the write is of the lowest cell that may be taken, over the bytes of a free one
pub record TakesCell (k : LevelState) (latched : List ℕ) (w : SlotWrite) : Type 0 where
  pub sizes : Sizes
  pub told : k.sizes ≡ Some sizes
  pub lowest : IsLowest sizes k latched w.at
  pub free : w.before ≡ free_bytes

-- it is over what was given of its slot; where nothing was, it takes a cell
abbrev pub IsOver : LevelState → List ℕ → SlotWrite → Option (List ℕ) → Type 0
IsOver k latched w None = TakesCell k latched w
IsOver k latched w (Some bytes) = w.before ≡ bytes

abbrev pub AreOver : LevelState → List Given → List ℕ → List SlotWrite → Type 0
AreOver k given latched ws = All (λ w. IsOver k latched w (given_at w.at given)) ws

-- what takes back a slot write is over what that left, and leaves what stood there before it
abbrev pub AreBackOver : Record → LevelState → List Given → List ℕ → List SlotWrite → Type 0
AreBackOver (PageOp t n page slot x y) k given latched ws = IsOneWrite (page * 16 + slot) y x ws
AreBackOver _ k given latched ws = AreOver k given latched ws

-- where a plan writes
abbrev pub written_at : Plan → List ℕ
written_at p = map (λ w. w.at) p.writes.items

-- each of the slots is written
abbrev pub AreWritten : List Given → Plan → Type 0
AreWritten given p = All (λ g. In g.at (written_at p)) given

-- the lowest cell that may be taken is none of them
abbrev pub AsksForNone : LevelState → List ℕ → List Given → Type 0
AsksForNone k latched given = (z : Sizes) (a : ℕ) → k.sizes ≡ Some z → IsLowest z k latched a → given_at a given ≡ None

-- what is kept once the slots at these addresses are noted
abbrev pub noted_each : Meaning → (ℕ → List ℕ) → List ℕ → LevelState → LevelState
noted_each m q [] k = k
noted_each m q (a ∷ places) k = noted_each m q places (m.note k a (q a))

-- the slots are those of the store that was told, no cell is chosen, and to note a slot as it is changes nothing
pub record Knows (m : Meaning) (k : LevelState) (q : ℕ → List ℕ) : Type 0 where
  pub slots : (z : Sizes) (a : ℕ) → k.sizes ≡ Some z → IsStoreSlot z a → IsSlotOf z (a / 16) (a % 16) (q a)
  pub noted : (a : ℕ) → m.note k a (q a) ≡ k

-- what was given stands there
abbrev pub AreAsGiven : (ℕ → List ℕ) → List Given → Type 0
AreAsGiven q given = All (λ g. g.bytes ≡ q g.at) given

-- of a slot write that is taken back, what it left stands there
abbrev pub StandsYet : (ℕ → List ℕ) → Record → Type 0
StandsYet q (PageOp t n page slot x y) = q (page * 16 + slot) ≡ y
StandsYet q _ = Unit {0}

-- each write is over what its slot holds
abbrev pub AreOverSlots : (ℕ → List ℕ) → List SlotWrite → Type 0
AreOverSlots q ws = All (λ w. w.before ≡ q w.at) ws

-- a slot of which nothing was given is a cell that the plan chooses
abbrev pub Chooses : LevelState → List Given → LevelState → Plan → Type 0
Chooses k given after p = (z : Sizes) (w : SlotWrite) → k.sizes ≡ Some z → In w p.writes.items → given_at w.at given ≡ None
    → after ≡ reserved_at z k w.at

-- the cell of this write was chosen, over a free one; to note its slot gives it back
pub record IsChosen (m : Meaning) (k : LevelState) (w : SlotWrite) (after : LevelState) : Type 0 where
  pub sizes : Sizes
  pub told : k.sizes ≡ Some sizes
  pub cell : IsCellAddress sizes w.at
  pub free : is_free_slot w.before ≡ true
  pub back : (x : List ℕ) → m.note after w.at x ≡ m.note k w.at x

-- what a plan chooses is the first slot that it writes, if it chooses one
abbrev pub MayChoose : Meaning → LevelState → List SlotWrite → LevelState → Type 0
MayChoose m k [] after = after ≡ k
MayChoose m k (w ∷ ws) after = (after ≡ k) ⊎ IsChosen m k w after

-- what takes back a slot write chooses nothing
abbrev pub ChoosesBack : Record → LevelState → List Given → LevelState → Plan → Type 0
ChoosesBack (PageOp t n page slot x y) k given after p = after ≡ k
ChoosesBack _ k given after p = Chooses k given after p

-- the level was told a store, whose slots the writes are of, and they leave there what may stand there
pub record AreOfSlots (k : LevelState) (p : Plan) : Type 0 where
  pub sizes : Sizes
  pub told : k.sizes ≡ Some sizes
  pub are : AreSlotWrites sizes p.writes.items

-- of what takes an operation back
abbrev pub AreBackOfSlots : Record → LevelState → Plan → Type 0
AreBackOfSlots (OpEnd t n level deed) k p = AreOfSlots k p
AreBackOfSlots _ k p = Unit {0}
