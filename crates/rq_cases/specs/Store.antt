-- The pages of a small store, byte by byte, and the slots that a send, a receive and a close write.
use Rattle.std.specs.Prelude.{ℕ, true, zero, suc, ◌+◌, ◌==◌, ◌<◌, ◌/◌, ◌%◌, ◌^◌, if◌then◌else◌, List, [], ◌∷◌, ◌++◌}
use Rattle.std.proofs.Common.{arith}
use Rattle.rq_model.specs.Tests.{Size}
use Rattle.rq_page.specs.declared.directory.Directory.{Directory}
use Rattle.rq_page.specs.Cells.{cell_bytes, free_bytes}
use Rattle.rq_page.specs.Directories.{directory_bytes, new_directory}
use Rattle.rq_page.specs.Formatted.{formatted_slot}
use Rattle.rq_page.specs.Pages.{header_bytes}
use Rattle.rq_page.specs.Sizes.{Sizes, with_tags}
use Rattle.rq_views.specs.Chain.{directory_appended}
use Rattle.rq_views.specs.Plans.{directory_head_unlinked}
use Rattle.rq_views.specs.WorkedItems.{cell}
use Rattle.rq_level.specs.declared.writes.SlotWrite.{SlotWrite}
use Rattle.rq_store.specs.State.{size_of}

-- one directory page and one cell page: 15 senders and 15 cells
abbrev pub sizes : Sizes
sizes = record { directory = 1; cells = 1; tags = 0 }

-- what a history of it may hold: no client, as it has no tag page
abbrev pub small : Size
small = size_of sizes

-- the same with a tag page, which is for 15 clients
abbrev pub tagged : Sizes
tagged = with_tags 1 sizes

-- a page's header, and behind it its slots
abbrev pub part : ℕ → ℕ → ℕ → (ℕ → List ℕ) → ℕ → List ℕ
part lsn page kind slots zero = header_bytes lsn page kind
part lsn page kind slots (suc n) = slots (suc n)

-- so many parts from one on
abbrev pub joined : (ℕ → List ℕ) → ℕ → ℕ → List ℕ
joined parts k zero = []
joined parts k (suc n) = parts k ++ joined parts (k + 1) n

abbrev pub page_image : ℕ → ℕ → ℕ → (ℕ → List ℕ) → List ℕ
page_image lsn page kind slots = joined (part lsn page kind slots) 0 16

-- the superblock, the directory page and the cell page, each with its LSN and its slots
abbrev pub pages_with : ℕ → (ℕ → List ℕ) → ℕ → (ℕ → List ℕ) → List (List ℕ)
pages_with groups_lsn groups cells_lsn cells =
    page_image 0 0 0 (formatted_slot sizes 0) ∷ page_image groups_lsn 1 1 groups ∷ page_image cells_lsn 2 2 cells ∷ []

-- these slots with one written
abbrev pub written : ℕ → List ℕ → (ℕ → List ℕ) → ℕ → List ℕ
written n bytes slots k = if k == n then bytes else slots k

-- sender 0's part of the directory: with a message of its, and once that is taken
abbrev pub one_sent : Directory
one_sent = directory_appended new_directory 33 7

abbrev pub one_taken : Directory
one_taken = directory_head_unlinked one_sent (cell 0)

-- or with its group closed
abbrev pub one_closed : Directory
one_closed = record new_directory { closed = true }

abbrev pub group : Directory → List ℕ
group d = directory_bytes (record { sender = 0; directory = d })

-- the directory slot of sender 0 stands at 17, the first cell at 33
pub group_page : 17 / 16 < 2 ^ 32
group_page = omega arith

pub group_slot : 0 < 17 % 16
group_slot = omega arith

pub cell_page : 33 / 16 < 2 ^ 32
cell_page = omega arith

pub cell_slot : 0 < 33 % 16
cell_slot = omega arith

abbrev pub fill_cell : SlotWrite
fill_cell = record {
  at = 33;
  before = free_bytes;
  after = cell_bytes (cell 0);
  page = cell_page;
  slot = cell_slot;
}

abbrev pub count_sent : SlotWrite
count_sent = record {
  at = 17;
  before = group new_directory;
  after = group one_sent;
  page = group_page;
  slot = group_slot;
}

abbrev pub free_cell : SlotWrite
free_cell = record {
  at = 33;
  before = cell_bytes (cell 0);
  after = free_bytes;
  page = cell_page;
  slot = cell_slot;
}

abbrev pub count_taken : SlotWrite
count_taken = record {
  at = 17;
  before = group one_sent;
  after = group one_taken;
  page = group_page;
  slot = group_slot;
}

abbrev pub set_closed : SlotWrite
set_closed = record {
  at = 17;
  before = group new_directory;
  after = group one_closed;
  page = group_page;
  slot = group_slot;
}

-- the slots of the directory page and of the cell page, formatted, and as each write leaves them
abbrev pub groups_0 : ℕ → List ℕ
groups_0 = formatted_slot sizes 1

abbrev pub cells_0 : ℕ → List ℕ
cells_0 = formatted_slot sizes 2

abbrev pub cells_1 : ℕ → List ℕ
cells_1 = written 1 (cell_bytes (cell 0)) cells_0

abbrev pub groups_1 : ℕ → List ℕ
groups_1 = written 1 (group one_sent) groups_0

abbrev pub cells_2 : ℕ → List ℕ
cells_2 = written 1 free_bytes cells_1

abbrev pub groups_2 : ℕ → List ℕ
groups_2 = written 1 (group one_taken) groups_1

abbrev pub groups_closed : ℕ → List ℕ
groups_closed = written 1 (group one_closed) groups_0

-- the pages: formatted, as a send leaves them after each of its two writes, and as a receive does
abbrev pub formatted_pages : List (List ℕ)
formatted_pages = pages_with 0 groups_0 0 cells_0

-- and formatted with the tag page
abbrev pub grown_pages : List (List ℕ)
grown_pages =
    page_image 0 0 0 (formatted_slot tagged 0) ∷ page_image 0 1 1 (formatted_slot tagged 1)
    ∷ page_image 0 2 2 (formatted_slot tagged 2) ∷ page_image 0 3 3 (formatted_slot tagged 3) ∷ []

abbrev pub filled_pages : List (List ℕ)
filled_pages = pages_with 0 groups_0 2 cells_1

abbrev pub sent_pages : List (List ℕ)
sent_pages = pages_with 3 groups_1 2 cells_1

abbrev pub freed_pages : List (List ℕ)
freed_pages = pages_with 3 groups_1 6 cells_2

abbrev pub taken_pages : List (List ℕ)
taken_pages = pages_with 7 groups_2 6 cells_2

-- and as a close leaves the formatted ones
abbrev pub closed_pages : List (List ℕ)
closed_pages = pages_with 2 groups_closed 0 cells_0
