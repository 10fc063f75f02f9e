-- What is read of senders: from their slots, without what transactions that have not ended did.
use Rattle.std.specs.Prelude.{◌≡◌, ◌⊎◌, ℕ, zero, suc, ◌-◌, ◌/◌, ◌<◌, nat_eq, Bool, false, cond, List, [], ◌∷◌, ◌++◌, length, Option, Some, None}
use Rattle.rq_model.specs.declared.message.Message.{Message}
use Rattle.rq_model.specs.declared.record.Deed.{Deed}
use Rattle.rq_model.specs.declared.record.Deed.TheVariants.{Append, UnlinkHead, Close, Mark}
use Rattle.rq_model.specs.declared.refusal.Refusal.{Refusal}
use Rattle.rq_model.specs.declared.refusal.Refusal.TheVariants.{NoMemory, DiskRead, Damaged}
use Rattle.rq_model.specs.declared.refusal.Damage.TheVariants.{Page}
use Rattle.rq_model.specs.Vocabulary.{client_group}
use Rattle.rq_model.specs.History.{Group}
use Rattle.rq_disk.specs.Device.PageAsk.{Reads}
use Rattle.rq_disk.specs.declared.device.PageDevice.{Ghosts}
use Rattle.rq_page.specs.declared.cell.Cell.{Cell}
use Rattle.rq_page.specs.declared.directory.Directory.{Directory}
use Rattle.rq_page.specs.Directories.{new_directory}
use Rattle.rq_page.specs.Sizes.{Sizes, directory_at, page_count, sender_count}
use Rattle.rq_page.specs.Slots.{Slot}
use Rattle.rq_page.specs.Slots.Slot.{Free, Used, Sender, Client}
use Rattle.rq_views.specs.Chain.{Cells}
use Rattle.rq_views.specs.Log.{cells_of}
use Rattle.rq_views.specs.Stored.{slots_in}
use Rattle.rq_pool.specs.Pooled.{Pooled}
use Rattle.rq_pool.specs.Fetching.{HasFailed, HasOutside}
use Rattle.rq_txn.specs.declared.Finished.{Finished}
use Rattle.rq_txn.specs.Rows.{Row}
use Rattle.rq_content.specs.declared.GroupContent.{GroupContent}
use Rattle.rq_content.specs.declared.earlier.Earlier.{Earlier}

-- the group that a content shows
abbrev pub group_of : GroupContent → Group
group_of g = record {
  sent = g.sent;
  last_tag = g.last_tag;
  received = g.received;
  closed = g.closed;
  rest = g.rest.items;
}

-- What a directory slot says where deeds are left out. It says how many messages were sent, and the last tag before the first
-- send that is left out. It also says whether the group is closed, and what the deeds took.
pub record Before : Type 0 where
  pub sent : ℕ
  pub previous : Option ℕ
  pub closed : Bool
  pub taken : List Message

-- the same of what the code holds
abbrev pub before_of : Earlier → Before
before_of e = record { sent = e.sent; previous = e.previous; closed = e.closed; taken = e.taken.items }

-- no deed is left out
abbrev pub start : Directory → Before
start d = record { sent = d.sent; previous = None; closed = d.closed; taken = [] }

-- the first of these two that there is
abbrev pub or_else : Option ℕ → ℕ → ℕ
or_else None n = n
or_else (Some p) n = p

-- a send that came behind this tag is left out too
abbrev pub without_send : ℕ → Before → Before
without_send tag b = record b { sent = b.sent - 1; previous = Some (or_else b.previous tag) }

-- a take of this message is left out too
abbrev pub without_take : Message → Before → Before
without_take m b = record b { taken = b.taken ++ m ∷ [] }

-- one more deed is left out, where it is of s
abbrev pub without_deed : ℕ → Deed → Before → Before
without_deed s (Append r n tag previous body) b = cond (nat_eq r s) (without_send previous b) b
without_deed s (UnlinkHead r n tag body) b = cond (nat_eq r s)
    (without_take (record { sender = s; tag = tag; body = body }) b) b
without_deed s (Close r) b = cond (nat_eq r s) (record b { closed = false }) b
without_deed s (Mark c tag previous) b = cond (nat_eq (client_group c) s) (without_send previous b) b

-- so are these, in order
abbrev pub without_all : ℕ → List Finished → Before → Before
without_all s [] b = b
without_all s (f ∷ fs) b = without_all s fs (without_deed s f.deed b)

-- so is what these transactions did, of which the oldest stands first
abbrev pub without_oldest : ℕ → List Row → Before → Before
without_oldest s [] b = b
without_oldest s (r ∷ rows) b = without_oldest s rows (without_all s r.finished b)

-- the same of transactions of which the newest stands first
abbrev pub without_rows : ℕ → List Row → Before → Before
without_rows s [] b = b
without_rows s (r ∷ rows) b = without_all s r.finished (without_rows s rows b)

-- the message of a cell, as one of s
abbrev pub message_in : ℕ → Cell → Message
message_in s c = record { sender = s; tag = c.tag; body = c.body }

-- the message of the cell that stands there, and those that its link leads to
abbrev pub follow : ℕ → Option Cell → (ℕ → List Message) → List Message
follow s None more = []
follow s (Some c) more = message_in s c ∷ more c.next

-- the messages of the cells from `at` on, n of them or as many as stand there
abbrev pub met : Cells → ℕ → ℕ → ℕ → List Message
met m s at zero = []
met m s at (suc n) = follow s (m at) (λ a. met m s a n)

-- the cells in these images
abbrev pub cells_in : Sizes → List (List ℕ) → Cells
cells_in z images = cells_of (slots_in z images)

-- what a directory slot says
abbrev pub directory_of : Slot → Directory
directory_of Free = new_directory
directory_of (Used c) = new_directory
directory_of (Sender s d) = d
directory_of (Client k) = new_directory

-- what is shown of s, by its directory slot and with deeds left out
abbrev pub shown_group : Cells → ℕ → Directory → Before → Group
shown_group m s d b = record {
  sent = b.sent;
  last_tag = or_else b.previous d.last_tag;
  received = d.received - length b.taken;
  closed = b.closed;
  rest = b.taken ++ met m s d.head (b.sent - d.received);
}

-- the directory slot of s in these images
abbrev pub read_directory : Sizes → List (List ℕ) → ℕ → Directory
read_directory z images s = directory_of (slots_in z images (directory_at s))

-- and without what these transactions did
abbrev pub read_before : Sizes → List (List ℕ) → List Row → ℕ → Before
read_before z images rows s = without_rows s rows (start (read_directory z images s))

-- what the images say of s, without what these transactions did
abbrev pub read_group : Sizes → List (List ℕ) → List Row → ℕ → Group
read_group z images rows s = shown_group (cells_in z images) s (read_directory z images s) (read_before z images rows s)

-- the page of the directory slot of s is damaged
abbrev pub damaged_for : ℕ → Refusal
damaged_for s = Damaged (Page (directory_at s / 16))

-- no damage was met: memory was wanting, or a page could not be read
abbrev pub IsNoDamage : Refusal → Type 0
IsNoDamage r = (r ≡ NoMemory) ⊎ (r ≡ DiskRead)

-- Why reading pages stopped. Their device failed in a read of a page that stands in no frame, or it did not fail. Damage is told of
-- a page of the store, and is what was to be read (`Broken`), if the device is honest.
abbrev pub ReadStops : {P : Type 0} → Ghosts P → (Broken : Refusal → Type 0) → Pooled P → Refusal → Pooled P → Type 0
ReadStops g Broken old NoMemory new = g.faults new.device ≡ g.faults old.device
ReadStops g Broken old DiskRead new = (out : HasOutside old) × HasFailed g (Reads out.page) old.device new.device
ReadStops g Broken old (Damaged (Page n)) new = (n < page_count old.sizes)
    × (g.honest new.device → Broken (Damaged (Page n))) × (g.faults new.device ≡ g.faults old.device)
ReadStops g Broken old _ new = ⊥

-- a sender's chain has fewer cells than n, and the refusal names the page of its directory slot
abbrev pub IsShort : Cells → ℕ → ℕ → ℕ → Refusal → Type 0
IsShort m s at n r = (r ≡ damaged_for s) × (length (met m s at n) < n)

-- a sender's chain has fewer cells than its directory slot says, and the refusal names the page of that slot
pub record IsBroken (z : Sizes) (images : List (List ℕ)) (rows : List Row) (r : Refusal) : Type 0 where
  pub sender : ℕ
  pub below : sender < sender_count z
  pub page : r ≡ damaged_for sender
  pub short : length (met (cells_in z images) sender (read_directory z images sender).head
      ((read_before z images rows sender).sent - (read_directory z images sender).received)) <
      (read_before z images rows sender).sent - (read_directory z images sender).received

-- why the content was not had of pages without what these transactions did
abbrev pub StopsFor : {P : Type 0} → Ghosts P → List Row → Pooled P → Refusal → Pooled P → Type 0
StopsFor g rows old r new = ReadStops g (IsBroken old.sizes old.images rows) old r new
