-- What a planned operation is over the slots that it is planned from: a send, a receive, a close, a mark, or an inverse.
use Rattle.std.specs.Prelude.{◌≡◌, ℕ, ◌+◌, ◌-◌, ◌/◌, ◌<◌, true, false, Bool, List, [], ◌∷◌, ◌++◌, map, reverse, Option}
use Rattle.rq_model.specs.declared.record.Deed.{Deed}
use Rattle.rq_model.specs.declared.record.Deed.TheVariants.{Append, UnlinkHead, Close, Mark}
use Rattle.rq_model.specs.Deeds.{TellsItself}
use Rattle.rq_model.specs.Legal.{start_of}
use Rattle.rq_model.specs.Tests.{Passes}
use Rattle.rq_page.specs.declared.cell.Cell.{Cell}
use Rattle.rq_page.specs.declared.client.ClientSlot.{ClientSlot}
use Rattle.rq_page.specs.declared.directory.Directory.{Directory}
use Rattle.rq_page.specs.Sizes.{Sizes, IsCellAddress, client_slot_at, directory_at}
use Rattle.rq_page.specs.Slots.Slot.{Free, Used, Sender, Client}
use Rattle.rq_views.specs.Items.{layout_of}
use Rattle.rq_views.specs.Log.{Slots, Write}
use Rattle.rq_views.specs.Plans.{Turn, append_writes, unlink_head_writes, unlink_tail_writes, put_back_writes, directory_write, client_write}
use Rattle.rq_views.specs.Plans.Turn.{Did, Undid}
use Rattle.rq_level.specs.declared.writes.SlotWrite.{SlotWrite}
use Rattle.rq_level.specs.Given.{has_page}
use Rattle.rq_level.specs.Writes.{writes_of}
use Rattle.rq_txn.specs.declared.Finished.{Finished}
use Rattle.rq_txn.specs.Rows as one
use Rattle.rq_store.specs.Plans.{IsSendPlan, IsTakePlan, Stands_at}
use Rattle.rq_store.specs.Rows.{HasWaiting}
use Rattle.rq_store.specs.State.{size_of, job_of, State, ledger_of}
use Rattle.rq_txn.specs.declared.Aim.{Aim}
use Rattle.rq_txn.specs.Rows.{Under, Row, latched_in}
use Rattle.rq_txn.specs.declared.Aim.TheVariants as aims
use Rattle.rq_sound.specs.Sound.{IsSound}
use Rattle.rq_sound.specs.Starts.{IsPlanned, MayDo, MayUndo}
use Rattle.rq_sound.specs.Calls.{IsIdle}
use Rattle.rq_sound.specs.Groups.{slots_now}

-- the writes of a send, into a free cell
pub record IsSend (z : Sizes) (q : Slots) (ws : List SlotWrite) (g n tag previous : ℕ) (body : List ℕ) : Type 0 where
  pub directory : Directory
  pub new : ℕ
  pub old : Option Cell
  pub directory_is : q (directory_at g) ≡ Sender g directory
  pub sequence : n ≡ directory.sent + 1
  pub previous_is : previous ≡ directory.last_tag
  pub cell : IsCellAddress z new
  pub free : q new ≡ Free
  pub beside : Stands_at q directory.tail old
  pub writes : reverse (writes_of z ws) ≡ append_writes (layout_of z) g directory new tag body old

-- those of a receive
pub record IsReceive (z : Sizes) (q : Slots) (ws : List SlotWrite) (g n tag : ℕ) (body : List ℕ) : Type 0 where
  pub directory : Directory
  pub cell : Cell
  pub next : Option Cell
  pub directory_is : q (directory_at g) ≡ Sender g directory
  pub sequence : n ≡ directory.received + 1
  pub tag_is : tag ≡ cell.tag
  pub body_is : body ≡ cell.body
  pub head_is : q directory.head ≡ Used cell
  pub beside : Stands_at q cell.next next
  pub writes : reverse (writes_of z ws) ≡ unlink_head_writes (layout_of z) g directory cell next

-- that of a close, and of its inverse
pub record IsMarking (z : Sizes) (q : Slots) (ws : List SlotWrite) (g : ℕ) (closed : Bool) : Type 0 where
  pub directory : Directory
  pub directory_is : q (directory_at g) ≡ Sender g directory
  pub writes : reverse (writes_of z ws) ≡ directory_write (layout_of z) g directory
      (record directory { closed = closed }) ∷ []

-- those of a send's inverse
pub record IsSendBack (z : Sizes) (q : Slots) (ws : List SlotWrite) (g previous : ℕ) : Type 0 where
  pub directory : Directory
  pub cell : Cell
  pub front : Option Cell
  pub directory_is : q (directory_at g) ≡ Sender g directory
  pub tail_is : q directory.tail ≡ Used cell
  pub beside : Stands_at q cell.prev front
  pub writes : reverse (writes_of z ws) ≡ unlink_tail_writes (layout_of z) g directory cell previous front

-- those of a receive's inverse, into a free cell
pub record IsReceiveBack (z : Sizes) (q : Slots) (ws : List SlotWrite) (g tag : ℕ) (body : List ℕ) : Type 0 where
  pub directory : Directory
  pub new : ℕ
  pub old : Option Cell
  pub directory_is : q (directory_at g) ≡ Sender g directory
  pub cell : IsCellAddress z new
  pub free : q new ≡ Free
  pub beside : Stands_at q directory.head old
  pub writes : reverse (writes_of z ws) ≡ put_back_writes (layout_of z) g directory new tag body old

-- that of a mark
pub record IsTagging (z : Sizes) (q : Slots) (ws : List SlotWrite) (c tag previous : ℕ) : Type 0 where
  pub held : ClientSlot
  pub held_is : q (client_slot_at z c) ≡ Client held
  pub own : held.client ≡ c
  pub previous_is : previous ≡ held.tag
  pub writes : reverse (writes_of z ws) ≡ client_write (layout_of z) held
      (record held { count = held.count + 1; tag = tag }) ∷ []

-- that of a mark's inverse, which holds the tag before it
pub record IsUntagging (z : Sizes) (q : Slots) (ws : List SlotWrite) (c previous : ℕ) : Type 0 where
  pub held : ClientSlot
  pub held_is : q (client_slot_at z c) ≡ Client held
  pub own : held.client ≡ c
  pub some : 0 < held.count
  pub writes : reverse (writes_of z ws) ≡ client_write (layout_of z) held
      (record held { count = held.count - 1; tag = previous }) ∷ []

-- the writes are those of the operation, over what the slots hold
abbrev pub IsPlannedFrom : Sizes → Slots → List SlotWrite → Turn → Type 0
IsPlannedFrom z q ws (Did (Append g n tag previous body)) = IsSend z q ws g n tag previous body
IsPlannedFrom z q ws (Did (UnlinkHead g n tag body)) = IsReceive z q ws g n tag body
IsPlannedFrom z q ws (Did (Close g)) = IsMarking z q ws g true
IsPlannedFrom z q ws (Did (Mark c tag previous)) = IsTagging z q ws c tag previous
IsPlannedFrom z q ws (Undid (Append g n tag previous body)) = IsSendBack z q ws g previous
IsPlannedFrom z q ws (Undid (UnlinkHead g n tag body)) = IsReceiveBack z q ws g tag body
IsPlannedFrom z q ws (Undid (Close g)) = IsMarking z q ws g false
IsPlannedFrom z q ws (Undid (Mark c tag previous)) = IsUntagging z q ws c previous

-- none of these writes is on a page that is latched
abbrev pub AreOff : State → List Write → Type 0
AreOff s [] = Unit {0}
AreOff s (w ∷ ws) = (latched_in s.rows (w.at / 16) ≡ false) × AreOff s ws

-- nobody has latched a page of the writes
abbrev pub AreUnlatched : State → List SlotWrite → Type 0
AreUnlatched s ws = (p : ℕ) → has_page p (map (λ w. w.at / 16) ws) ≡ true → latched_in s.rows p ≡ false

-- the next operation of a transaction with nothing under way, on pages that nobody has latched, with nothing of it made
pub record IsNew (s : State) (r : Row) (u : Under) (aim : Aim) : Type 0 where
  pub idle : IsIdle s r
  pub number : u.number ≡ r.number + 1
  pub made : u.made ≡ 0
  pub aim_is : u.aim ≡ aim
  pub free : AreUnlatched s u.writes

-- What is planned from the slots as they are may start where its pages are nobody's: a deed that passes the model's
-- tests, where it takes a message one waits; and the inverse of the newest deed of a transaction that aborts. A send or
-- a receive that is planned apart from levels is planned so.
pub record PlansMayStart : Type 0 where
  pub planned : (s : State) (r : Row) (u : Under) (d : Deed) → IsSound s → IsNew s r u (aims.Doing d)
      → IsPlannedFrom s.sizes (slots_now s) u.writes (Did d)
      → Passes (size_of s.sizes) (ledger_of s) (start_of r.txn (job_of d)) → IsPlanned s r u (Did d)
  pub deeds : (s : State) (r : Row) (u : Under) (d : Deed) → IsSound s → IsNew s r u (aims.Doing d)
      → IsPlannedFrom s.sizes (slots_now s) u.writes (Did d) → TellsItself d
      → HasWaiting s.waiting d → Passes (size_of s.sizes) (ledger_of s) (start_of r.txn (job_of d)) → MayDo s r u d
  pub inverses : (s : State) (r : Row) (u : Under) (rest : List Finished) (f : Finished) → IsSound s
      → IsNew s r u (aims.Undoing f.lsn f.deed) → IsPlannedFrom s.sizes (slots_now s) u.writes (Undid f.deed)
      → r.aborting ≡ true → r.finished ≡ rest ++ f ∷ [] → MayUndo s r u rest f
  pub sends : (z : Sizes) (q : Slots) (u : one.Under) (g tag : ℕ) (body : List ℕ) (p : IsSendPlan z q u g tag body)
      → IsPlannedFrom z q u.writes (Did (Append g (p.directory.sent + 1) tag p.directory.last_tag body))
  pub receives : (z : Sizes) (q : Slots) (u : one.Under) (g : ℕ) (p : IsTakePlan z q u g)
      → IsPlannedFrom z q u.writes (Did (UnlinkHead g (p.directory.received + 1) p.cell.tag p.cell.body))
