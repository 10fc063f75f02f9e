use Rattle.std.proofs.Common.{replicate, ap, ◌∙◌}
use Rattle.rq_bytes.specs.Number.{overlaid}
use Rattle.rq_page.specs.Cells.{cell_bytes, cell_front}
use Rattle.rq_page.specs.declared.cell.Cell.{Cell}
use Rattle.rq_page.proofs.CellBytes.{overlaid_twice, length-cell_front}
use Rattle.rq_page.proofs.cell.spell_cell.Goals as goal

pub returns : goal.returns
unfolding cell_bytes
returns c =
    let cell : Cell = record {
      sender = c.args.sender;
      sequence = c.args.sequence;
      tag = c.args.tag;
      next = c.args.next;
      prev = c.args.prev;
      body = c.args.body.now;
    } in
    c.place-2.ensures
    ∙ ap (λ r. overlaid 40 cell.body r) (c.place.ensures ∙ ap (λ r. overlaid 0 r (replicate 256 0)) c.front.ensures)
    ∙ overlaid_twice (cell_front cell) cell.body (length-cell_front cell)
