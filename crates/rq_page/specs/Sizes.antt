-- The sizes of a store, and where its pages, senders, cells and clients stand.
use Rattle.std.specs.Prelude.{◌≡◌, ℕ, ◌+◌, ◌-◌, ◌*◌, ◌/◌, ◌%◌, ◌<◌, ◌≤◌, ◌⊎◌}

-- how many directory, cell and tag pages a store has
pub record Sizes : Type 0 where
  pub directory : ℕ
  pub cells : ℕ
  pub tags : ℕ

-- the sizes with so many tag pages
abbrev pub with_tags : ℕ → Sizes → Sizes
with_tags n z = record z { tags = n }

-- what a store may have
pub record IsInRange (l : Sizes) : Type 0 where
  pub directory_low : 1 ≤ l.directory
  pub directory_high : l.directory ≤ 1024
  pub cells_low : 1 ≤ l.cells
  pub cells_high : l.cells ≤ 65536
  pub tags_high : l.tags ≤ 1024

-- the page behind the cells, where the tag pages begin
abbrev pub tags_from : Sizes → ℕ
tags_from l = 1 + l.directory + l.cells

abbrev pub page_count : Sizes → ℕ
page_count l = 1 + l.directory + l.cells + l.tags

abbrev pub sender_count : Sizes → ℕ
sender_count l = 15 * l.directory

abbrev pub cell_count : Sizes → ℕ
cell_count l = 15 * l.cells

abbrev pub client_count : Sizes → ℕ
client_count l = 15 * l.tags

-- the address of a slot
abbrev pub address : ℕ → ℕ → ℕ
address page slot = page * 16 + slot

-- where a sender's directory slot stands
abbrev pub directory_at : ℕ → ℕ
directory_at sender = address (1 + sender / 15) (1 + sender % 15)

-- the sender whose directory slot this is
abbrev pub sender_at : ℕ → ℕ → ℕ
sender_at page slot = 15 * (page - 1) + (slot - 1)

-- where a client's slot of a tag page stands
abbrev pub client_slot_at : Sizes → ℕ → ℕ
client_slot_at l client = address (tags_from l + client / 15) (1 + client % 15)

-- the client whose slot of a tag page this is
abbrev pub client_at : Sizes → ℕ → ℕ → ℕ
client_at l page slot = 15 * (page - tags_from l) + (slot - 1)

-- where the cell with this place among the cells stands, counted from 0
abbrev pub cell_at : Sizes → ℕ → ℕ
cell_at l place = address (1 + l.directory + place / 15) (1 + place % 15)

-- the place of a cell among the cells
abbrev pub place_of : Sizes → ℕ → ℕ
place_of l a = 15 * (a / 16 - (1 + l.directory)) + (a % 16 - 1)

-- the address is that of a slot of a cell page
pub record IsCellAddress (l : Sizes) (a : ℕ) : Type 0 where
  pub above : l.directory < a / 16
  pub below : a / 16 < tags_from l
  pub slot : 0 < a % 16

-- what may stand where a slot names another
abbrev pub IsLink : Sizes → ℕ → Type 0
IsLink l a = (a ≡ 0) ⊎ IsCellAddress l a
