-- What the level of chains keeps of a store: its sizes, and of each cell whether it is free and whether a plan has chosen it.
use Rattle.std.specs.Prelude.{◌≡◌, ℕ, ◌/◌, ◌%◌, ◌<◌, ◌≤◌, ◌&&◌, not, cond, nat_eq, nat_lt, nat_le, Bool, true, false, List, [], Option, None, Some, length, slice_index_or, slice_set}
use Rattle.rq_bytes.specs.Number.{number_at}
use Rattle.rq_page.specs.Sizes.{Sizes, tags_from, cell_count, cell_at, place_of}
use Rattle.rq_level.specs.Given.{has_page}

-- the flags of cells are by their places
pub record LevelState : Type 0 where
  pub sizes : Option Sizes
  pub free : List Bool
  pub reserved : List Bool

abbrev pub nothing_kept : LevelState
nothing_kept = record { sizes = None; free = []; reserved = [] }

-- it was told these sizes, and has flags for each cell of such a store
pub record KnowsStore (z : Sizes) (k : LevelState) : Type 0 where
  pub sizes : k.sizes ≡ Some z
  pub free : cell_count z ≤ length k.free
  pub reserved : cell_count z ≤ length k.reserved

-- it has flags for the cells of the greatest store
pub record HasRoom (k : LevelState) : Type 0 where
  pub free : 983040 ≤ length k.free
  pub reserved : 983040 ≤ length k.reserved

abbrev pub flag_at : List Bool → ℕ → Bool
flag_at flags place = slice_index_or flags place false

-- the cell with this place is free, no plan has chosen it, and its page is none of these
abbrev pub may_take : Sizes → LevelState → List ℕ → ℕ → Bool
may_take z k latched place = flag_at k.free place && (not (flag_at k.reserved place) && not (has_page (cell_at z place / 16) latched))

-- the address is that of the lowest cell that may be taken
pub record IsLowest (z : Sizes) (k : LevelState) (latched : List ℕ) (a : ℕ) : Type 0 where
  pub place : ℕ
  pub below : place < cell_count z
  pub at : a ≡ cell_at z place
  pub may : may_take z k latched place ≡ true
  pub others : (i : ℕ) → i < place → may_take z k latched i ≡ false

abbrev pub NoneToTake : Sizes → LevelState → List ℕ → Type 0
NoneToTake z k latched = (i : ℕ) → i < cell_count z → may_take z k latched i ≡ false

abbrev pub NoneFree : Sizes → LevelState → Type 0
NoneFree z k = (i : ℕ) → i < cell_count z → flag_at k.free i ≡ false

abbrev pub SomeFree : Sizes → LevelState → Type 0
SomeFree z k = (i : ℕ) × (i < cell_count z) × (flag_at k.free i ≡ true)

-- the cell at the address is chosen
abbrev pub reserved_at : Sizes → LevelState → ℕ → LevelState
reserved_at z k a = record k { reserved = slice_set k.reserved (place_of z a) true }

-- the sizes that a superblock's slot tells, where a store may have them
abbrev pub sizes_at : List ℕ → Sizes
sizes_at bytes = record { directory = number_at 4 12 bytes; cells = number_at 4 16 bytes; tags = number_at 4 20 bytes }

abbrev pub in_range : Sizes → Bool
in_range z =
    (nat_le 1 z.directory && nat_le z.directory 1024) && (nat_le 1 z.cells && nat_le z.cells 65536) && nat_le z.tags 1024

abbrev pub told_sizes : List ℕ → Option Sizes
told_sizes bytes = cond (in_range (sizes_at bytes)) (Some (sizes_at bytes)) None

abbrev pub is_cell_address : Sizes → ℕ → Bool
is_cell_address z a = nat_lt z.directory (a / 16) && (nat_lt (a / 16) (tags_from z) && nat_lt 0 (a % 16))

-- a slot of a cell page is one of a free cell where its first byte is zero
abbrev pub is_free_slot : List ℕ → Bool
is_free_slot bytes = nat_eq (slice_index_or bytes 0 0) 0

abbrev pub noted_cell : Sizes → LevelState → ℕ → Bool → LevelState
noted_cell z k place free = record k { free = slice_set k.free place free; reserved = slice_set k.reserved place false }

abbrev pub noted_in : Option Sizes → LevelState → ℕ → List ℕ → LevelState
noted_in None k a bytes = k
noted_in (Some z) k a bytes = cond (is_cell_address z a) (noted_cell z k (place_of z a) (is_free_slot bytes)) k

-- what is kept once the slot at an address is noted: slot 1 of the first page tells the sizes
abbrev pub noted : LevelState → ℕ → List ℕ → LevelState
noted k a bytes = cond (nat_eq a 1) (record k { sizes = told_sizes bytes }) (noted_in k.sizes k a bytes)
