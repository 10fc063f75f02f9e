-- What takes back a deed where nothing is under way, by what the slots hold.
use Rattle.std.specs.Prelude.{◌≡◌, ℕ, ◌<◌, true, List, [], Option, Some, Result, IfOk, IfErr}
use Rattle.rq_model.specs.declared.record.Deed.{Deed}
use Rattle.rq_model.specs.declared.record.Deed.TheVariants.{Append, UnlinkHead, Close, Mark}
use Rattle.rq_model.specs.declared.refusal.Refusal.{Refusal}
use Rattle.rq_model.specs.declared.refusal.Refusal.TheVariants as why
use Rattle.rq_model.specs.Vocabulary.{is_some}
use Rattle.rq_page.specs.declared.cell.Cell.{Cell}
use Rattle.rq_page.specs.declared.client.ClientSlot.{ClientSlot}
use Rattle.rq_page.specs.declared.directory.Directory.{Directory}
use Rattle.rq_page.specs.Sizes.{Sizes, IsCellAddress, client_count, client_slot_at, directory_at, sender_count}
use Rattle.rq_page.specs.Slots.Slot.{Client, Free, Used, Sender}
use Rattle.rq_views.specs.Log.{Slots}
use Rattle.rq_views.specs.Plans.Turn.{Undid}
use Rattle.rq_level.specs.ChainPlans.{TellsDamage}
use Rattle.rq_level.specs.declared.writes.Plan.{Plan}
use Rattle.rq_level.specs.declared.writes.SlotWrite.{SlotWrite}
use Rattle.rq_level.specs.Writes.{AreSlotWrites}
use Rattle.rq_store.specs.Plans.{Stands_at}
use Rattle.rq_sound.specs.Plans.{IsPlannedFrom}
use Rattle.rq_sound.specs.Inverses.{InverseTakesLowest}

-- of the messages that were sent for a group, the last has this number, and stands at the end of its chain
pub record SentLast (z : Sizes) (q : Slots) (g n : ℕ) : Type 0 where
  pub below : g < sender_count z
  pub directory : Directory
  pub directory_is : q (directory_at g) ≡ Sender g directory
  pub some : directory.received < directory.sent
  pub sequence : directory.sent ≡ n
  pub cell : Cell
  pub tail_is : q directory.tail ≡ Used cell
  pub last : cell.sequence ≡ n
  pub front : Option Cell
  pub beside : Stands_at q cell.prev front

-- of those that were received of it, the last has this number, and there is a cell to put it back into
pub record TakenLast (z : Sizes) (q : Slots) (g n : ℕ) : Type 0 where
  pub below : g < sender_count z
  pub directory : Directory
  pub directory_is : q (directory_at g) ≡ Sender g directory
  pub some : 0 < directory.received
  pub sequence : directory.received ≡ n
  pub old : Option Cell
  pub beside : Stands_at q directory.head old
  pub cell : ℕ
  pub is_cell : IsCellAddress z cell
  pub free : q cell ≡ Free

-- the group is closed
pub record IsShut (z : Sizes) (q : Slots) (g : ℕ) : Type 0 where
  pub below : g < sender_count z
  pub directory : Directory
  pub directory_is : q (directory_at g) ≡ Sender g directory
  pub closed : directory.closed ≡ true

-- this tag is the client's last
pub record MarkedLast (z : Sizes) (q : Slots) (c tag : ℕ) : Type 0 where
  pub below : c < client_count z
  pub held : ClientSlot
  pub held_is : q (client_slot_at z c) ≡ Client held
  pub own : held.client ≡ c
  pub some : 0 < held.count
  pub last : held.tag ≡ tag

-- The slots hold what the inverse of a deed needs: a message was sent or taken last at its end of its group; a closed group
-- is closed; a client's mark is its last.
abbrev pub CanBeTakenBack : Sizes → Slots → Deed → Type 0
CanBeTakenBack z q (Append g n tag previous body) = SentLast z q g n
CanBeTakenBack z q (UnlinkHead g n tag body) = TakenLast z q g n
CanBeTakenBack z q (Close g) = IsShut z q g
CanBeTakenBack z q (Mark c tag previous) = MarkedLast z q c tag

-- the slots do not hold that of the deed that is told
abbrev pub CannotBeTakenBack : Sizes → Slots → Option Deed → Type 0
CannotBeTakenBack z q told = (d : Deed) → told ≡ Some d → CanBeTakenBack z q d → ⊥

-- where nothing is under way: a deed that is told may want memory; damage means that it cannot be taken back
abbrev pub IsRefusedBack : Sizes → Slots → Option Deed → Refusal → Type 0
IsRefusedBack z q told why.NoMemory = is_some told ≡ true
IsRefusedBack z q told (why.Damaged x) = CannotBeTakenBack z q told
IsRefusedBack z q told _ = ⊥

-- whatever the device gave: a deed that is told may want memory or a read; else it is damage
abbrev pub MayRefuseBack : Option Deed → Refusal → Type 0
MayRefuseBack told why.NoMemory = is_some told ≡ true
MayRefuseBack told why.DiskRead = is_some told ≡ true
MayRefuseBack told (why.Damaged x) = Unit {0}
MayRefuseBack told _ = ⊥

-- a deed has a plan only where the slots hold what its inverse needs, and only otherwise is it refused as damage
pub record IsJudgedBack (z : Sizes) (q : Slots) (d : Deed) (answer : Result Plan Refusal) : Type 0 where
  pub can : IfOk answer (λ p. CanBeTakenBack z q d)
  pub damaged : IfErr answer (λ r. TellsDamage r → CanBeTakenBack z q d → ⊥)

-- The writes take back the deed that is told, over the slots as they are: it was done last at its end of its group there,
-- and a message is put back into the lowest free cell.
pub record IsTakingBack (z : Sizes) (q : Slots) (told : Option Deed) (ws : List SlotWrite) : Type 0 where
  pub deed : Deed
  pub reads : told ≡ Some deed
  pub can : CanBeTakenBack z q deed
  pub planned : IsPlannedFrom z q ws (Undid deed)
  pub slots : AreSlotWrites z ws
  pub lowest : InverseTakesLowest z q [] deed ws
