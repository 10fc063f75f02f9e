-- What a planned send and a planned receive are, over the slots that they are planned from.
use Rattle.std.specs.Prelude.{◌≡◌, ℕ, ◌+◌, ◌<◌, ◌≤◌, true, List, reverse, Option, Some, None}
use Rattle.rq_model.specs.declared.record.Deed.TheVariants.{Append, UnlinkHead}
use Rattle.rq_model.specs.Deeds.{TellsItself}
use Rattle.rq_page.specs.declared.cell.Cell.{Cell}
use Rattle.rq_page.specs.declared.directory.Directory.{Directory}
use Rattle.rq_page.specs.Sizes.{Sizes, IsCellAddress, directory_at, sender_count}
use Rattle.rq_page.specs.Slots.Slot.{Free, Used, Sender}
use Rattle.rq_views.specs.Log.{Slots}
use Rattle.rq_views.specs.Plans.{append_writes, unlink_head_writes}
use Rattle.rq_views.specs.Items.{layout_of}
use Rattle.rq_level.specs.Writes.{writes_of}
use Rattle.rq_txn.specs.declared.Aim.TheVariants.{Doing}
use Rattle.rq_txn.specs.Rows.{Under, deed_of}
use Rattle.rq_model.specs.declared.txn.Txn.{Txn}
use Rattle.rq_groups.specs.Ends.{is_free_for}
use Rattle.rq_groups.specs.Waiting.{waits}
use Rattle.rq_store.specs.State.{State}

-- the cell that a link names: none where it is 0
abbrev pub Stands_at : Slots → ℕ → Option Cell → Type 0
Stands_at q a None = a ≡ 0
Stands_at q a (Some c) = q a ≡ Used c

-- the operation is a send for a sender, planned from these slots, and nothing of it is made
pub record IsSendPlan (z : Sizes) (q : Slots) (u : Under) (sender tag : ℕ) (body : List ℕ) : Type 0 where
  pub directory : Directory
  pub new : ℕ
  pub old : Option Cell
  pub made : u.made ≡ 0
  pub below : sender < sender_count z
  pub directory_is : q (directory_at sender) ≡ Sender sender directory
  pub cell : IsCellAddress z new
  pub free : q new ≡ Free
  pub beside : Stands_at q directory.tail old
  pub aim : u.aim ≡ Doing (Append sender (directory.sent + 1) tag directory.last_tag body)
  pub writes : reverse (writes_of z u.writes) ≡ append_writes (layout_of z) sender directory new tag body old
  pub reads : TellsItself (deed_of u.aim)

-- the operation takes the first message of a sender's chain, planned from these slots, and nothing of it is made
pub record IsTakePlan (z : Sizes) (q : Slots) (u : Under) (sender : ℕ) : Type 0 where
  pub directory : Directory
  pub cell : Cell
  pub next : Option Cell
  pub made : u.made ≡ 0
  pub below : sender < sender_count z
  pub directory_is : q (directory_at sender) ≡ Sender sender directory
  pub head : IsCellAddress z directory.head
  pub head_is : q directory.head ≡ Used cell
  pub beside : Stands_at q cell.next next
  pub aim : u.aim ≡ Doing (UnlinkHead sender (directory.received + 1) cell.tag cell.body)
  pub writes : reverse (writes_of z u.writes) ≡ unlink_head_writes (layout_of z) sender directory cell next
  pub reads : TellsItself (deed_of u.aim)

-- a message waits for t: its receiving end is free for t, and one waits
abbrev pub WaitsFor : State → Txn → ℕ → Type 0
WaitsFor s t g = (g < sender_count s.sizes) × (is_free_for t g s.ends.receiving ≡ true) × (1 ≤ waits s.waiting g)

-- none waits for t
abbrev pub NoneWaits : State → Txn → Type 0
NoneWaits s t = (g : ℕ) → g < sender_count s.sizes → is_free_for t g s.ends.receiving ≡ true → waits s.waiting g ≡ 0
