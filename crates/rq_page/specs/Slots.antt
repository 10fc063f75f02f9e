-- What a slot of a store holds, and which bytes are a slot.
use Rattle.std.specs.Prelude.{◌≡◌, ℕ, ◌<◌, ◌≤◌, List, Option, Some, None}
use Rattle.rq_page.specs.Sizes.{Sizes, IsLink, sender_count, sender_at, client_at}
use Rattle.rq_page.specs.Kinds.{kind_of}
use Rattle.rq_page.specs.Cells.{cell_bytes, cell_slot_bytes, cell_slot_in, free_bytes, IsCell}
use Rattle.rq_page.specs.Directories.{directory_bytes, directory_in, IsDirectorySlot}
use Rattle.rq_page.specs.Clients.{client_bytes, client_in, IsClientSlot}
use Rattle.rq_page.specs.declared.cell.Cell.{Cell}
use Rattle.rq_page.specs.declared.cell.CellSlot.{CellSlot}
use Rattle.rq_page.specs.declared.cell.CellSlot.TheVariants as cells
use Rattle.rq_page.specs.declared.client.ClientSlot.{ClientSlot}
use Rattle.rq_page.specs.declared.directory.Directory.{Directory}
use Rattle.rq_page.specs.declared.directory.DirectorySlot.{DirectorySlot}
use Rattle.rq_page.specs.declared.layout.PageKind.{PageKind}
use Rattle.rq_page.specs.declared.layout.PageKind.TheVariants as kind

-- what a slot holds: no message, a message, what the directory says of a sender, or how a client was marked
pub data Slot : Type 0 where
  Free : Slot
  Used : (cell : Cell) → Slot
  Sender : (sender : ℕ) → (directory : Directory) → Slot
  Client : (held : ClientSlot) → Slot

abbrev pub of_cell_slot : CellSlot → Slot
of_cell_slot cells.Free = Free
of_cell_slot (cells.Used c) = Used c

abbrev pub of_directory_slot : DirectorySlot → Slot
of_directory_slot x = Sender x.sender x.directory

-- the one spelling of what a slot holds
abbrev pub slot_bytes : Slot → List ℕ
slot_bytes Free = free_bytes
slot_bytes (Used c) = cell_bytes c
slot_bytes (Sender s d) = directory_bytes (record { sender = s; directory = d })
slot_bytes (Client x) = client_bytes x

-- what a slot with these bytes holds, by its page's kind
abbrev pub held_for : Option PageKind → List ℕ → Slot
held_for None bytes = Free
held_for (Some kind.Superblock) bytes = Free
held_for (Some kind.Directory) bytes = of_directory_slot (directory_in bytes)
held_for (Some kind.Cells) bytes = of_cell_slot (cell_slot_in bytes)
held_for (Some kind.Tags) bytes = Client (client_in bytes)

abbrev pub held_in : Sizes → ℕ → List ℕ → Slot
held_in l page bytes = held_for (kind_of l page) bytes

-- a used cell of a store: its sender is one of the store's, and its links name cells
pub record IsCellOf (l : Sizes) (c : Cell) : Type 0 where
  pub numbers : IsCell c
  pub sender : c.sender < sender_count l
  pub next : IsLink l c.next
  pub prev : IsLink l c.prev

-- a sender's directory slot
pub record IsDirectoryOf (l : Sizes) (sender : ℕ) (x : DirectorySlot) : Type 0 where
  pub numbers : IsDirectorySlot x
  pub own : x.sender ≡ sender
  pub head : IsLink l x.directory.head
  pub tail : IsLink l x.directory.tail

-- a client's slot
pub record IsClientOf (client : ℕ) (x : ClientSlot) : Type 0 where
  pub numbers : IsClientSlot x
  pub own : x.client ≡ client

-- what a cell's slot of a store may hold
abbrev pub MayStand : Sizes → CellSlot → Type 0
MayStand l cells.Free = Unit {0}
MayStand l (cells.Used c) = IsCellOf l c

-- the bytes are those of a cell's slot of the store
pub record HoldsCell (l : Sizes) (bytes : List ℕ) : Type 0 where
  pub held : MayStand l (cell_slot_in bytes)
  pub spelled_so : cell_slot_bytes (cell_slot_in bytes) ≡ bytes

-- the bytes are those of a sender's directory slot
pub record HoldsDirectory (l : Sizes) (sender : ℕ) (bytes : List ℕ) : Type 0 where
  pub held : IsDirectoryOf l sender (directory_in bytes)
  pub spelled_so : directory_bytes (directory_in bytes) ≡ bytes

-- the bytes are those of a client's slot
pub record HoldsClient (client : ℕ) (bytes : List ℕ) : Type 0 where
  pub held : IsClientOf client (client_in bytes)
  pub spelled_so : client_bytes (client_in bytes) ≡ bytes

abbrev pub IsSlotFor : Option PageKind → Sizes → ℕ → ℕ → List ℕ → Type 0
IsSlotFor None l page slot bytes = ⊥
IsSlotFor (Some kind.Superblock) l page slot bytes = ⊥
IsSlotFor (Some kind.Directory) l page slot bytes = HoldsDirectory l (sender_at page slot) bytes
IsSlotFor (Some kind.Cells) l page slot bytes = HoldsCell l bytes
IsSlotFor (Some kind.Tags) l page slot bytes = HoldsClient (client_at l page slot) bytes

-- the bytes are those of a slot of a page of the store behind the first, at this place
pub record IsSlotOf (l : Sizes) (page slot : ℕ) (bytes : List ℕ) : Type 0 where
  pub low : 1 ≤ slot
  pub high : slot ≤ 15
  pub held : IsSlotFor (kind_of l page) l page slot bytes

-- what a slot of a page of a kind may hold
abbrev pub MayHold : Option PageKind → Sizes → ℕ → ℕ → Slot → Type 0
MayHold (Some kind.Directory) l page slot (Sender s d) = IsDirectoryOf l (sender_at page slot)
    (record { sender = s; directory = d })
MayHold (Some kind.Cells) l page slot Free = Unit {0}
MayHold (Some kind.Cells) l page slot (Used c) = IsCellOf l c
MayHold (Some kind.Tags) l page slot (Client x) = IsClientOf (client_at l page slot) x
MayHold _ l page slot x = ⊥

-- the spelling of what a slot may hold is a slot, and tells what it holds
abbrev pub SpellingTells : Type 0
SpellingTells =
    (l : Sizes) (page slot : ℕ) (x : Slot) → 1 ≤ slot → slot ≤ 15 → MayHold (kind_of l page) l page slot x
    → (held_in l page (slot_bytes x) ≡ x) × IsSlotOf l page slot (slot_bytes x)

-- a slot is the spelling of what it holds, which may stand there
abbrev pub SlotIsSpelling : Type 0
SlotIsSpelling =
    (l : Sizes) (page slot : ℕ) (bytes : List ℕ) → IsSlotOf l page slot bytes
    → MayHold (kind_of l page) l page slot (held_in l page bytes) × (slot_bytes (held_in l page bytes) ≡ bytes)
