use Rattle.std.proofs.Common.{◌/◌, ◌%◌, ap, ◌∙◌, subst, sym}
use Rattle.rq_page.specs.Cells.{cell_in}
use Rattle.rq_page.specs.Slots.{held_in, IsSlotOf}
use Rattle.rq_page.specs.declared.cell.CellSlot.TheVariants as cells
use Rattle.rq_chain.proofs.Slots.{cell_told, cell_place, same_write}
use Rattle.rq_chain.proofs.writes.emptied.Goals as goal

pub returns-clause-write : goal.returns-clause-write
returns-clause-write c =
    let z = c.args.layout.now in
    let at = c.args.entry.now.at in
    same_write at _ _ _ _
    (ap (held_in z (at / 16)) (sym c.requires.spells) ∙ (cell_told z at (cells.Used (cell_in c.args.entry.now.bytes.now)) c.requires.address c.requires.cell).0)
    (ap (held_in z (at / 16)) c.encode.ensures ∙ (cell_told z at cells.Free c.requires.address tt).0)

pub returns-clause-slots : goal.returns-clause-slots
returns-clause-slots c =
    let z = c.args.layout.now in
    let at = c.args.entry.now.at in
    record {
      place = cell_place z at c.requires.address;
      before = subst (IsSlotOf z (at / 16) (at % 16)) c.requires.spells ((cell_told z at (cells.Used (cell_in c.args.entry.now.bytes.now)) c.requires.address c.requires.cell).1);
      after = subst (IsSlotOf z (at / 16) (at % 16)) (sym c.encode.ensures) ((cell_told z at cells.Free c.requires.address tt).1);
    }
