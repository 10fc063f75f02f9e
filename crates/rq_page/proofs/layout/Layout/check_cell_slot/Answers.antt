use Rattle.std.proofs.Common.{List, ℕ}
use Rattle.rq_page.specs.declared.cell.CellSlot.{CellSlot}
use Rattle.rq_page.specs.Sizes.{Sizes}
use Rattle.rq_page.proofs.Spellings.{holds_cell, held_cell}
use Rattle.rq_page.proofs.layout.Layout.check_cell_slot.Goals as goal

pub returns-in-Some : goal.returns-in-Some
returns-in-Some c =
    let l : Sizes = c.args.self.now in
    let bytes : List ℕ = c.args.bytes.now in
    let held : CellSlot = c.in-Some.held in
    let some = c.in-Some.ensures.some in
    let fits = c.fits_cell_slot.ensures in
    (λ yes. holds_cell l held bytes some.0 some.1 (fits.0 yes), λ holds. fits.1 (held_cell l held bytes some.0 some.1 holds))
