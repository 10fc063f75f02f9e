-- Addresses of cells, directory slots and clients' slots, and the kinds of their pages.
use Rattle.std.proofs.Common.{◌≡◌, ℕ, ◌<◌, ◌≤◌, Some, arith}
use Rattle.std.proofs.lemmas.Bool.Decides.{nat_tests}
use Rattle.rq_page.specs.Sizes.{Sizes, page_count, tags_from}
use Rattle.rq_page.specs.Kinds.{kind_of}
use Rattle.rq_page.specs.Places.{CellsHavePlaces, PlacesAreCells, CellsRise, SendersHaveSlots, ClientsHaveSlots}
use Rattle.rq_page.specs.declared.layout.PageKind.TheVariants as kind

pub cells_have_places : CellsHavePlaces
cells_have_places l place lt =
    (record { above = omega arith; below = omega arith; slot = omega arith }, omega arith)

pub places_are_cells : PlacesAreCells
places_are_cells l a is = (omega (arith, is.above, is.below, is.slot), omega (arith, is.above, is.below, is.slot))

pub cells_rise : CellsRise
cells_rise l i j lt = omega arith

pub senders_have_slots : SendersHaveSlots
senders_have_slots l sender lt = (omega arith, omega arith, omega arith, omega arith)

pub clients_have_slots : ClientsHaveSlots
clients_have_slots l client lt = (omega arith, omega arith, omega arith, omega arith, omega arith)

-- the kinds of pages
pub kind_directory : (l : Sizes) (page : ℕ) → 1 ≤ page → page ≤ l.directory → kind_of l page ≡ Some kind.Directory
kind_directory l page low high = grind (arith, nat_tests)

pub kind_cells : (l : Sizes) (page : ℕ) → l.directory < page → page < tags_from l → kind_of l page ≡ Some kind.Cells
kind_cells l page low high = grind (arith, nat_tests)

pub kind_tags : (l : Sizes) (page : ℕ) → tags_from l ≤ page → page < page_count l → kind_of l page ≡ Some kind.Tags
kind_tags l page low high = grind (arith, nat_tests)
