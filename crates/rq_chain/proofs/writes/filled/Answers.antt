use Rattle.std.proofs.Common.{◌/◌, ◌%◌, ap, ◌∙◌, subst, sym}
use Rattle.rq_page.specs.Slots.{held_in, IsSlotOf}
use Rattle.rq_page.specs.declared.cell.CellSlot.TheVariants as cells
use Rattle.rq_chain.proofs.Slots.{cell_told, cell_place, same_write}
use Rattle.rq_chain.proofs.writes.filled.Goals as goal

pub returns-clause-write : goal.returns-clause-write
returns-clause-write c = λ cell is e.
    let z = c.args.layout.now in
    let at = c.args.at in
    same_write at _ _ _ _
    (ap (held_in z (at / 16)) c.encode.ensures ∙ (cell_told z at cells.Free c.requires tt).0)
    (ap (held_in z (at / 16)) e ∙ (cell_told z at (cells.Used cell) c.requires is).0)

pub returns-clause-slots : goal.returns-clause-slots
returns-clause-slots c = λ cell is e.
    let z = c.args.layout.now in
    let at = c.args.at in
    record {
      place = cell_place z at c.requires;
      before = subst (IsSlotOf z (at / 16) (at % 16)) (sym c.encode.ensures) ((cell_told z at cells.Free c.requires tt).1);
      after = subst (IsSlotOf z (at / 16) (at % 16)) (sym e) ((cell_told z at (cells.Used cell) c.requires is).1);
    }
