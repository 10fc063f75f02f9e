-- A sender's group, and the cells beside those that an operation writes.
use Rattle.std.specs.Prelude.{◌≡◌, ℕ, ◌<◌, ◌+◌, List, Option, Some, None}
use Rattle.rq_page.specs.declared.cell.Cell.{Cell}
use Rattle.rq_page.specs.Sizes.{Sizes, IsCellAddress, directory_at, sender_count}
use Rattle.rq_page.specs.Slots.{IsCellOf, IsDirectoryOf}
use Rattle.rq_page.specs.Cells.{cell_in, cell_bytes}
use Rattle.rq_chain.specs.declared.CellEntry.{CellEntry}
use Rattle.rq_chain.specs.declared.DirectoryEntry.{DirectoryEntry}

-- the cell beside, if there is one
abbrev pub cell_beside : Option CellEntry → Option Cell
cell_beside None = None
cell_beside (Some n) = Some (cell_in n.bytes.now)

-- it stands at this address, which is a cell's, and its bytes spell a cell of the store
pub record IsCellEntryAt (z : Sizes) (a : ℕ) (n : CellEntry) : Type 0 where
  pub at : n.at ≡ a
  pub address : IsCellAddress z a
  pub cell : IsCellOf z (cell_in n.bytes.now)
  pub spells : cell_bytes (cell_in n.bytes.now) ≡ n.bytes.now

-- the neighbour that a link names: none where it is 0
abbrev pub IsNeighbour : Sizes → ℕ → Option CellEntry → Type 0
IsNeighbour z a None = a ≡ 0
IsNeighbour z a (Some n) = IsCellEntryAt z a n

-- the group stands where its sender's directory slot is, and may stand there
pub record IsGroupOf (z : Sizes) (g : DirectoryEntry) : Type 0 where
  pub at : g.at ≡ directory_at g.sender
  pub sender : g.sender < sender_count z
  pub directory : IsDirectoryOf z g.sender (record { sender = g.sender; directory = g.directory })

-- the cell of a group's next message
abbrev pub cell_appended : DirectoryEntry → (tag : ℕ) → (body : List ℕ) → Cell
cell_appended g tag body = record {
  sender = g.sender;
  sequence = g.directory.sent + 1;
  tag = tag;
  next = 0;
  prev = g.directory.tail;
  body = body;
}
