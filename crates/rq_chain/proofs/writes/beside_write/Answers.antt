use Rattle.std.proofs.Common.{◌/◌, ◌%◌, ap, ◌∙◌, subst, sym}
use Rattle.rq_page.specs.Cells.{cell_in}
use Rattle.rq_page.specs.Slots.{held_in, IsSlotOf}
use Rattle.rq_page.specs.declared.cell.CellSlot.TheVariants as cells
use Rattle.rq_chain.proofs.Slots.{cell_told, cell_place, same_write}
use Rattle.rq_chain.proofs.writes.beside_write.Goals as goal

pub returns-clause-write : goal.returns-clause-write
returns-clause-write c = λ x may e.
    let z = c.args.layout.now in
    let n = c.args.beside.now in
    let page = n.at / 16 in
    same_write n.at _ _ _ _
    (ap (held_in z page) (sym c.requires.beside.spells) ∙ (cell_told z n.at (cells.Used (cell_in n.bytes.now)) c.requires.beside.address c.requires.beside.cell).0)
    (ap (held_in z page) e ∙ (cell_told z n.at (cells.Used x) c.requires.beside.address may).0)

pub returns-clause-slots : goal.returns-clause-slots
returns-clause-slots c = λ x may e.
    let z = c.args.layout.now in
    let n = c.args.beside.now in
    record {
      place = cell_place z n.at c.requires.beside.address;
      before = subst (IsSlotOf z (n.at / 16) (n.at % 16)) c.requires.beside.spells ((cell_told z n.at (cells.Used (cell_in n.bytes.now)) c.requires.beside.address c.requires.beside.cell).1);
      after = subst (IsSlotOf z (n.at / 16) (n.at % 16)) (sym e) ((cell_told z n.at (cells.Used x) c.requires.beside.address may).1);
    }
