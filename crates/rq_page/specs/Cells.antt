-- How a cell stands in a slot of 256 bytes.
use Rattle.std.specs.Prelude.{ℕ, ◌-◌, ◌<◌, ◌≤◌, ◌^◌, ◌==◌, if◌then◌else◌, List, ◌∷◌, ◌++◌, length, replicate, slice_index}
use Rattle.byteorder.specs.Endian.{big_bytes}
use Rattle.rq_bytes.specs.Number.{number_at, bytes_at}
use Rattle.rq_page.specs.declared.cell.Cell.{Cell}
use Rattle.rq_page.specs.declared.cell.CellSlot.{CellSlot}
use Rattle.rq_page.specs.declared.cell.CellSlot.TheVariants.{Free, Used}

-- the forty bytes before the body: state, length, sender, sequence, tag and the two links
unfoldable pub cell_front : Cell → List ℕ
cell_front c =
    1 ∷ 0 ∷ (big_bytes 2 (length c.body) ++ (big_bytes 4 c.sender ++
    (big_bytes 8 c.sequence ++ (big_bytes 8 c.tag ++ (big_bytes 8 c.next ++ big_bytes 8 c.prev)))))

-- the slot of a used cell
unfoldable pub cell_bytes : Cell → List ℕ
cell_bytes c = cell_front c ++ (c.body ++ replicate (216 - length c.body) 0)

-- the slot of a free cell
unfoldable pub free_bytes : List ℕ
free_bytes = replicate 256 0

-- the one spelling of what a cell's slot holds
abbrev pub cell_slot_bytes : CellSlot → List ℕ
cell_slot_bytes Free = free_bytes
cell_slot_bytes (Used c) = cell_bytes c

-- the numbers that a used cell may hold
pub record IsCell (c : Cell) : Type 0 where
  pub sender : c.sender < 2 ^ 32
  pub numbered : 1 ≤ c.sequence
  pub sequence : c.sequence < 2 ^ 64
  pub tag : c.tag < 2 ^ 64
  pub next : c.next < 2 ^ 64
  pub prev : c.prev < 2 ^ 64
  pub body : length c.body ≤ 216

abbrev pub IsCellSlot : CellSlot → Type 0
IsCellSlot Free = Unit {0}
IsCellSlot (Used c) = IsCell c

-- the cell whose fields stand in these bytes
unfoldable pub cell_in : List ℕ → Cell
cell_in bytes = record {
  sender = number_at 4 4 bytes;
  sequence = number_at 8 8 bytes;
  tag = number_at 8 16 bytes;
  next = number_at 8 24 bytes;
  prev = number_at 8 32 bytes;
  body = bytes_at (number_at 2 2 bytes) 40 bytes;
}

-- what a cell's slot with these bytes holds, where it holds anything
abbrev pub cell_slot_in : List ℕ → CellSlot
cell_slot_in bytes = (if slice_index bytes 0 == 0 then Free else Used (cell_in bytes))
