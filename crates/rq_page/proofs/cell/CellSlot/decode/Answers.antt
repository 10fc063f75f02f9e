use Rattle.std.proofs.Common.{◌≡◌, true, List, ℕ, Some, sym, ap, ◌∙◌}
use Rattle.std.proofs.lemmas.Bool.{true≢false}
use Rattle.rq_page.specs.Cells.{cell_slot_in, cell_slot_bytes}
use Rattle.rq_page.proofs.CellBytes.{cell_slot_in-cell_slot_bytes}
use Rattle.rq_page.proofs.cell.CellSlot.decode.Goals as goal

pub returns-in_err-held-clause-only : goal.returns-in_err-held-clause-only
returns-in_err-held-clause-only c = λ held is e. absurd (c.in_err-held.ensures.none held is e)

pub returns-then-are_equal-clause-only : goal.returns-then-are_equal-clause-only
returns-then-are_equal-clause-only c = λ held is e.
    ap Some (c.in_ok-held.ensures.held ∙ ap cell_slot_in (sym e) ∙ cell_slot_in-cell_slot_bytes held is)

pub returns-else-are_equal-clause-only : goal.returns-else-are_equal-clause-only
returns-else-are_equal-clause-only c = λ held is e.
    let bytes : List ℕ = c.args.bytes.now in
    let whole : c.encode.result ≡ bytes =
    c.encode.ensures ∙ ap cell_slot_bytes (c.in_ok-held.ensures.held ∙ ap cell_slot_in (sym e) ∙ cell_slot_in-cell_slot_bytes held is) ∙ e in
    let same : c.are_equal.result ≡ true = c.are_equal.ensures.1 whole in
    absurd (true≢false (sym same ∙ c.if-are_equal.false))
