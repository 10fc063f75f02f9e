-- Cells, senders and clients have addresses of their own.
use Rattle.std.specs.Prelude.{◌≡◌, ℕ, ◌/◌, ◌%◌, ◌<◌, ◌≤◌}
use Rattle.rq_page.specs.Sizes.{Sizes, IsCellAddress, page_count, tags_from, cell_count, sender_count, client_count, directory_at, sender_at, client_slot_at, client_at, cell_at, place_of}

-- each place among the cells has its own address
abbrev pub CellsHavePlaces : Type 0
CellsHavePlaces =
    (l : Sizes) (place : ℕ) → place < cell_count l
    → IsCellAddress l (cell_at l place) × (place_of l (cell_at l place) ≡ place)

-- each address of a cell is that of a place
abbrev pub PlacesAreCells : Type 0
PlacesAreCells =
    (l : Sizes) (a : ℕ) → IsCellAddress l a → (place_of l a < cell_count l) × (cell_at l (place_of l a) ≡ a)

-- later places have higher addresses
abbrev pub CellsRise : Type 0
CellsRise = (l : Sizes) (i j : ℕ) → i < j → cell_at l i < cell_at l j

-- each sender has its own directory slot
abbrev pub SendersHaveSlots : Type 0
SendersHaveSlots =
    (l : Sizes) (sender : ℕ) → sender < sender_count l
    → (1 ≤ directory_at sender / 16) × (directory_at sender / 16 ≤ l.directory) × (1 ≤ directory_at sender % 16)
    × (sender_at (directory_at sender / 16) (directory_at sender % 16) ≡ sender)

-- each client has its own slot of a tag page
abbrev pub ClientsHaveSlots : Type 0
ClientsHaveSlots =
    (l : Sizes) (client : ℕ) → client < client_count l
    → (tags_from l ≤ client_slot_at l client / 16) × (client_slot_at l client / 16 < page_count l)
    × (1 ≤ client_slot_at l client % 16) × (client_slot_at l client % 16 ≤ 15)
    × (client_at l (client_slot_at l client / 16) (client_slot_at l client % 16) ≡ client)
