use Rattle.std.proofs.Common.{List, ℕ}
use Rattle.rq_page.specs.declared.directory.DirectorySlot.{DirectorySlot}
use Rattle.rq_page.specs.Sizes.{Sizes}
use Rattle.rq_page.proofs.Spellings.{holds_directory, held_directory}
use Rattle.rq_page.proofs.layout.Layout.check_directory_slot.Goals as goal

pub returns-in-Some : goal.returns-in-Some
returns-in-Some c =
    let l : Sizes = c.args.self.now in
    let bytes : List ℕ = c.args.bytes.now in
    let held : DirectorySlot = c.in-Some.held in
    let some = c.in-Some.ensures.some in
    let fits = c.fits_directory.ensures in
    (λ yes. holds_directory l c.args.sender held bytes some.1 (fits.0 yes), λ holds. fits.1 (held_directory l c.args.sender held bytes some.0 some.1 holds))
