-- What the level of chains answers to an operation that is to be planned, from the slots that it was given.
use Rattle.std.specs.Prelude.{◌≡◌, ℕ, ◌+◌, ◌/◌, ◌<◌, ◌≤◌, ◌^◌, Bool, true, false, not, cond, nat_eq, List, [], ◌∷◌, reverse, Option, None, Some, Result, Ok, Err}
use Rattle.rq_model.specs.declared.record.Deed.{Deed}
use Rattle.rq_model.specs.declared.record.Deed.TheVariants.{Append, UnlinkHead, Close as Close_deed, Mark}
use Rattle.rq_model.specs.declared.record.Record.{Record}
use Rattle.rq_model.specs.declared.record.Record.TheVariants.{OpEnd}
use Rattle.rq_model.specs.declared.refusal.Damage.{Damage}
use Rattle.rq_model.specs.declared.refusal.Damage.TheVariants as damage
use Rattle.rq_model.specs.declared.refusal.Refusal.{Refusal}
use Rattle.rq_model.specs.declared.refusal.Refusal.TheVariants as why
use Rattle.rq_model.specs.Deeds.{spelled_deed, deed_by}
use Rattle.rq_page.specs.declared.cell.Cell.{Cell}
use Rattle.rq_page.specs.declared.cell.CellSlot.{CellSlot}
use Rattle.rq_page.specs.declared.cell.CellSlot.TheVariants as cells
use Rattle.rq_page.specs.declared.directory.Directory.{Directory}
use Rattle.rq_page.specs.Cells.{cell_slot_in}
use Rattle.rq_page.specs.Directories.{directory_in}
use Rattle.rq_page.specs.Sizes.{Sizes, directory_at, sender_count}
use Rattle.rq_page.specs.Slots.Slot.{Used, Sender}
use Rattle.rq_views.specs.Plans.{append_writes, unlink_head_writes, unlink_tail_writes, put_back_writes, directory_write}
use Rattle.rq_views.specs.Items.{layout_of}
use Rattle.rq_level.specs.LevelState.{LevelState, IsLowest, NoneToTake, NoneFree, SomeFree, reserved_at}
use Rattle.rq_level.specs.Ops.{Job, Doing, doing_by}
use Rattle.rq_level.specs.Ops.Doing.{Send, Receive, Close}
use Rattle.rq_level.specs.Given.{given_at, GivenHolds}
use Rattle.rq_level.specs.Writes.{writes_of, AreSlotWrites}
use Rattle.rq_level.specs.declared.slots.Given.{Given}
use Rattle.rq_level.specs.declared.writes.Gist.TheVariants as gists
use Rattle.rq_level.specs.declared.writes.Plan.{Plan}
use Rattle.rq_level.specs.declared.writes.Replies.TheVariants as replies

-- the cell that a link names was given: none where it is 0
abbrev pub Beside : Sizes → List Given → ℕ → Option Cell → Type 0
Beside z given a None = a ≡ 0
Beside z given a (Some c) = GivenHolds z given a (Used c)

-- the slots hold what a send needs
pub record CanSend (z : Sizes) (given : List Given) (s : ℕ) : Type 0 where
  pub below : s < sender_count z
  pub directory : Directory
  pub directory_is : GivenHolds z given (directory_at s) (Sender s directory)
  pub room : directory.sent ≤ 2 ^ 50
  pub old : Option Cell
  pub beside : Beside z given directory.tail old

-- the plan of a send, into the lowest free cell
pub record IsSent (z : Sizes) (k : LevelState) (given : List Given) (latched : List ℕ) (s tag : ℕ) (body : List ℕ) (p : Plan) (after : LevelState) : Type 0 where
  pub can : CanSend z given s
  pub new : ℕ
  pub lowest : IsLowest z k latched new
  pub writes : reverse (writes_of z p.writes.items) ≡ append_writes (layout_of z) s can.directory new tag body can.old
  pub slots : AreSlotWrites z p.writes.items
  pub deed : p.deed ≡ spelled_deed (Append s (can.directory.sent + 1) tag can.directory.last_tag body)
  pub reads : deed_by 1 p.deed ≡ Some (Append s (can.directory.sent + 1) tag can.directory.last_tag body)
  pub reply : p.reply ≡ replies.Deed (gists.Append s tag)
  pub kept : after ≡ reserved_at z k new

-- the slots hold what a receive needs
pub record CanReceive (z : Sizes) (given : List Given) (s : ℕ) : Type 0 where
  pub below : s < sender_count z
  pub directory : Directory
  pub directory_is : GivenHolds z given (directory_at s) (Sender s directory)
  pub some : directory.received < directory.sent
  pub used : 0 < directory.head
  pub cell : Cell
  pub head_is : GivenHolds z given directory.head (Used cell)
  pub next : Option Cell
  pub beside : Beside z given cell.next next

-- the plan of a receive
pub record IsReceived (z : Sizes) (k : LevelState) (given : List Given) (s : ℕ) (p : Plan) (after : LevelState) : Type 0 where
  pub can : CanReceive z given s
  pub writes : reverse (writes_of z p.writes.items) ≡ unlink_head_writes (layout_of z) s can.directory can.cell can.next
  pub slots : AreSlotWrites z p.writes.items
  pub deed : p.deed ≡ spelled_deed (UnlinkHead s (can.directory.received + 1) can.cell.tag can.cell.body)
  pub reads : deed_by 1 p.deed ≡ Some (UnlinkHead s (can.directory.received + 1) can.cell.tag can.cell.body)
  pub reply : p.reply ≡ replies.Deed (gists.UnlinkHead s)
  pub kept : after ≡ k

-- the slots hold what a close needs, or what opening again does: a group that is not as it shall be
pub record CanMark (z : Sizes) (given : List Given) (s : ℕ) (closed : Bool) : Type 0 where
  pub below : s < sender_count z
  pub directory : Directory
  pub directory_is : GivenHolds z given (directory_at s) (Sender s directory)
  pub other : directory.closed ≡ not closed

-- the write that closes a group or opens it again
pub record IsMarked (z : Sizes) (given : List Given) (s : ℕ) (closed : Bool) (p : Plan) : Type 0 where
  pub can : CanMark z given s closed
  pub writes : reverse (writes_of z p.writes.items) ≡ directory_write (layout_of z) s can.directory
      (record can.directory { closed = closed }) ∷ []
  pub slots : AreSlotWrites z p.writes.items

-- the plan of a close
pub record IsClosed (z : Sizes) (k : LevelState) (given : List Given) (s : ℕ) (p : Plan) (after : LevelState) : Type 0 where
  pub marked : IsMarked z given s true p
  pub deed : p.deed ≡ spelled_deed (Close_deed s)
  pub reads : deed_by 1 p.deed ≡ Some (Close_deed s)
  pub reply : p.reply ≡ replies.Deed (gists.Close s)
  pub kept : after ≡ k

-- the plan of an inverse tells no deed, and its end answers that something is undone
pub record IsInverse (p : Plan) : Type 0 where
  pub deed : p.deed ≡ []
  pub reply : p.reply ≡ replies.Undone

-- the slots hold what the inverse of a send needs: its message is the group's last
pub record CanUnlinkTail (z : Sizes) (given : List Given) (s n : ℕ) : Type 0 where
  pub below : s < sender_count z
  pub directory : Directory
  pub directory_is : GivenHolds z given (directory_at s) (Sender s directory)
  pub some : directory.received < directory.sent
  pub sequence : directory.sent ≡ n
  pub used : 0 < directory.tail
  pub cell : Cell
  pub tail_is : GivenHolds z given directory.tail (Used cell)
  pub last : cell.sequence ≡ n
  pub front : Option Cell
  pub beside : Beside z given cell.prev front

-- the plan of the inverse of a send
pub record IsTailUnlinked (z : Sizes) (k : LevelState) (given : List Given) (s n previous : ℕ) (p : Plan)
    (after : LevelState) : Type 0 where
  pub can : CanUnlinkTail z given s n
  pub writes : reverse (writes_of z p.writes.items)
      ≡ unlink_tail_writes (layout_of z) s can.directory can.cell previous can.front
  pub slots : AreSlotWrites z p.writes.items
  pub inverse : IsInverse p
  pub kept : after ≡ k

-- the slots hold what the inverse of a receive needs: its message is the last that was received
pub record CanPutBack (z : Sizes) (given : List Given) (s n : ℕ) : Type 0 where
  pub below : s < sender_count z
  pub directory : Directory
  pub directory_is : GivenHolds z given (directory_at s) (Sender s directory)
  pub some : 0 < directory.received
  pub sequence : directory.received ≡ n
  pub old : Option Cell
  pub beside : Beside z given directory.head old

-- the plan of the inverse of a receive, into the lowest free cell
pub record IsReturned (z : Sizes) (k : LevelState) (given : List Given) (latched : List ℕ) (s n tag : ℕ) (body : List ℕ)
    (p : Plan) (after : LevelState) : Type 0 where
  pub can : CanPutBack z given s n
  pub new : ℕ
  pub lowest : IsLowest z k latched new
  pub writes : reverse (writes_of z p.writes.items)
      ≡ put_back_writes (layout_of z) s can.directory new tag body can.old
  pub slots : AreSlotWrites z p.writes.items
  pub inverse : IsInverse p
  pub kept : after ≡ reserved_at z k new

-- the plan of the inverse of a close
pub record IsReopened (z : Sizes) (k : LevelState) (given : List Given) (s : ℕ) (p : Plan) (after : LevelState) : Type 0 where
  pub marked : IsMarked z given s false p
  pub inverse : IsInverse p
  pub kept : after ≡ k

-- the damage is of the page where the sender's directory slot stands
abbrev pub IsOfSender : ℕ → Damage → Type 0
IsOfSender s d = d ≡ damage.Page (directory_at s / 16)

-- why a sender's operation that takes a free cell has no plan, where the slots hold what it needs if Can
abbrev pub RefusesTaking : Sizes → LevelState → List ℕ → ℕ → Type 0 → Refusal → Type 0
RefusesTaking z k latched s Can why.NoMemory = Unit {0}
RefusesTaking z k latched s Can why.Latched = NoneToTake z k latched × SomeFree z k
RefusesTaking z k latched s Can (why.Damaged d) = IsOfSender s d × (Can → NoneFree z k)
RefusesTaking z k latched s Can _ = ⊥

-- why one that takes none has none
abbrev pub RefusesOther : ℕ → Type 0 → Refusal → Type 0
RefusesOther s Can why.NoMemory = Unit {0}
RefusesOther s Can (why.Damaged d) = IsOfSender s d × (Can → ⊥)
RefusesOther s Can _ = ⊥

-- it is told as damage
abbrev pub TellsDamage : Refusal → Type 0
TellsDamage (why.Damaged d) = Unit {0}
TellsDamage _ = ⊥

-- what can't be read, or of a store whose sizes are not known, is refused as damage
abbrev pub RefusesUnread : LevelState → Result Plan Refusal → LevelState → Type 0
RefusesUnread k (Ok p) after = ⊥
RefusesUnread k (Err r) after = TellsDamage r × (after ≡ k)

-- what the level answers, and what it keeps then
abbrev pub Plans : Option Sizes → Option Doing → LevelState → List Given → List ℕ → Result Plan Refusal → LevelState → Type 0
Plans (Some z) (Some (Send s tag body)) k given latched (Ok p) after = IsSent z k given latched s tag body p after
Plans (Some z) (Some (Send s tag body)) k given latched (Err r) after =
    RefusesTaking z k latched s (CanSend z given s) r × (after ≡ k)
Plans (Some z) (Some (Receive s)) k given latched (Ok p) after = IsReceived z k given s p after
Plans (Some z) (Some (Receive s)) k given latched (Err r) after = RefusesOther s (CanReceive z given s) r × (after ≡ k)
Plans (Some z) (Some (Close s)) k given latched (Ok p) after = IsClosed z k given s p after
Plans (Some z) (Some (Close s)) k given latched (Err r) after = RefusesOther s (CanMark z given s true) r × (after ≡ k)
Plans _ _ k given latched answer after = RefusesUnread k answer after

-- what is to be taken back is not planned as something to do
abbrev pub PlansFor : (undo : Bool) → Option Sizes → Option Doing → LevelState → List Given → List ℕ → Result Plan Refusal
    → LevelState → Type 0
PlansFor true z doing k given latched answer after = RefusesUnread k answer after
PlansFor false z doing k given latched answer after = Plans z doing k given latched answer after

abbrev pub chain_plans : LevelState → Job → List Given → List ℕ → Result Plan Refusal → LevelState → Type 0
chain_plans k job given latched answer after =
    PlansFor job.undo k.sizes (doing_by job.level job.bytes) k given latched answer after

-- the same of the inverse of what a deed tells
abbrev pub Undoes : Option Sizes → Option Deed → LevelState → List Given → List ℕ → Result Plan Refusal → LevelState → Type 0
Undoes (Some z) (Some (Append s n tag previous body)) k given latched (Ok p) after =
    IsTailUnlinked z k given s n previous p after
Undoes (Some z) (Some (Append s n tag previous body)) k given latched (Err r) after =
    RefusesOther s (CanUnlinkTail z given s n) r × (after ≡ k)
Undoes (Some z) (Some (UnlinkHead s n tag body)) k given latched (Ok p) after =
    IsReturned z k given latched s n tag body p after
Undoes (Some z) (Some (UnlinkHead s n tag body)) k given latched (Err r) after =
    RefusesTaking z k latched s (CanPutBack z given s n) r × (after ≡ k)
Undoes (Some z) (Some (Close_deed s)) k given latched (Ok p) after = IsReopened z k given s p after
Undoes (Some z) (Some (Close_deed s)) k given latched (Err r) after =
    RefusesOther s (CanMark z given s false) r × (after ≡ k)
Undoes _ _ k given latched answer after = RefusesUnread k answer after

-- a record that ends an operation tells the deed of its level
abbrev pub chain_undoes : LevelState → Record → List Given → List ℕ → Result Plan Refusal → LevelState → Type 0
chain_undoes k (OpEnd t n level deed) given latched r after = Undoes k.sizes (deed_by level deed) k given latched r after
chain_undoes k _ given latched answer after = RefusesUnread k answer after

-- ---- which slots it asks for

-- the slot, where it was not given
abbrev pub unless_given : ℕ → Option (List ℕ) → Option ℕ
unless_given a None = Some a
unless_given a (Some bytes) = None

-- the slot, and once it was given what is asked for by its bytes
abbrev pub asking : ℕ → (List ℕ → List Given → Option ℕ) → Option (List ℕ) → List Given → Option ℕ
asking a next None given = Some a
asking a next (Some bytes) given = next bytes given

-- Where the bytes of a slot lead: those of a directory slot to an end of its chain, those of a cell to one beside it. 0 is
-- nowhere.
abbrev pub Link : Type 0
Link = List ℕ → ℕ

abbrev pub to_head : Link
to_head bytes = (directory_in bytes).directory.head

abbrev pub to_tail : Link
to_tail bytes = (directory_in bytes).directory.tail

-- a free cell leads nowhere
abbrev pub link_of : (Cell → ℕ) → CellSlot → ℕ
link_of link cells.Free = 0
link_of link (cells.Used c) = link c

abbrev pub to_next : Link
to_next bytes = link_of (λ c. c.next) (cell_slot_in bytes)

abbrev pub to_prev : Link
to_prev bytes = link_of (λ c. c.prev) (cell_slot_in bytes)

-- the first that was not given of the slot at an address and of those to which links lead from there, one after the other
abbrev pub along : List Link → ℕ → List Given → Option ℕ
along [] a given = unless_given a (given_at a given)
along (link ∷ links) a given =
    asking a (λ bytes l. cond (nat_eq (link bytes) 0) None (along links (link bytes) l)) (given_at a given) given

-- where a link leads, and on from there
abbrev pub along_from : List Link → ℕ → List Given → Option ℕ
along_from links a given = cond (nat_eq a 0) None (along links a given)

abbrev pub wanted : Option Doing → List Given → Option ℕ
wanted None given = None
wanted (Some (Send s tag body)) given = along (to_tail ∷ []) (directory_at s) given
wanted (Some (Receive s)) given = along (to_head ∷ to_next ∷ []) (directory_at s) given
wanted (Some (Close s)) given = along [] (directory_at s) given

-- and for the inverse of what a deed tells
abbrev pub undo_wanted : Option Deed → List Given → Option ℕ
undo_wanted None given = None
undo_wanted (Some (Append s n tag previous body)) given = along (to_tail ∷ to_prev ∷ []) (directory_at s) given
undo_wanted (Some (UnlinkHead s n tag body)) given = along (to_head ∷ []) (directory_at s) given
undo_wanted (Some (Close_deed s)) given = along [] (directory_at s) given
undo_wanted (Some (Mark c tag previous)) given = None

abbrev pub job_wanted : Job → List Given → Option ℕ
job_wanted job given =
    cond job.undo (undo_wanted (deed_by job.level job.bytes) given) (wanted (doing_by job.level job.bytes) given)
