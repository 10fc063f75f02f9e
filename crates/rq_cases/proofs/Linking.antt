-- The chain of a message that was sent is whole before its commit; once its cell alone is written, it is not.
use Rattle.std.proofs.Common.{◌≡◌, ℕ, ◌+◌, List, [], ◌∷◌, length, Some, refl, sym, ◌∙◌, ap, arith}
use Rattle.std.proofs.lemmas.Option.{same_Some}
use Rattle.rq_model.specs.Vocabulary.{In}
use Rattle.rq_page.specs.declared.cell.Cell.{Cell}
use Rattle.rq_page.specs.Directories.{new_directory}
use Rattle.rq_page.specs.Sizes.{directory_at}
use Rattle.rq_page.specs.Slots.{Slot}
use Rattle.rq_page.specs.Slots.Slot.{Used, Sender}
use Rattle.rq_views.specs.Chain.{Node}
use Rattle.rq_views.specs.Log.{Slots, cell_in, cells_of}
use Rattle.rq_views.specs.Stored.{is_used, slots_in}
use Rattle.rq_views.specs.WorkedItems.{cell}
use Rattle.rq_store.specs.Opening.{sent_told as count_told}
use Rattle.rq_chain_check.specs.Links.{addresses, AreLinked}
use Rattle.rq_chain_check.proofs.Chains.{linked_in}
use Rattle.rq_chain_check.proofs.Sound.{sound_linked}
use Rattle.rq_cases.specs.Store.{sizes, filled_pages, sent_pages}
use Rattle.rq_cases.specs.Run.{sent}
use Rattle.rq_cases.proofs.Pages.{cell_told}
use Rattle.rq_cases.proofs.Running.{finish_send, step_cell}

pub linked : AreLinked sizes (slots_in sizes sent_pages)
linked = sound_linked.idle sent finish_send.sound refl

none_in : (ns : List Node) (a : ℕ) → length ns ≡ 0 → In a (addresses ns) → ⊥
none_in [] a e i = i
none_in (n ∷ ns) a e i = omega (arith, e)

abbrev filled : Slots
filled = slots_in sizes filled_pages

filled_cell : filled 33 ≡ Used (cell 0)
filled_cell = step_cell.sound.pages 33 ∙ cell_told.0

-- the cell is of sender 0, whose directory slot names none
pub half_way : AreLinked sizes filled → ⊥
half_way l =
    let m = l.all 33 (ap is_used filled_cell) in
    let c = l.whole.whole m.sender m.below in
    let i = linked_in (cells_of filled) m.sender 0 (c.directory.received + 1) (l.chains m.sender) 0 33 c.linked m.met in
    let held : Some i.cell ≡ Some (cell 0) = sym i.held ∙ ap (λ (x : Slot). cell_in x) filled_cell in
    let owner : m.sender ≡ 0 = sym i.sender ∙ ap (λ (x : Cell). x.sender) (same_Some i.cell (cell 0) held) in
    let group : Sender m.sender c.directory ≡ Sender 0 new_directory = sym c.at ∙ ap (λ (s : ℕ). filled (directory_at s)) owner ∙ step_cell.sound.pages 17 in
    let none : c.directory.sent ≡ 0 = ap count_told group in
    let count = c.sent in
    none_in (l.chains m.sender) 33 (omega (arith, none, count)) m.met
