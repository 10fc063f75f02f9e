use Rattle.std.proofs.Common.{◌≡◌, ℕ, ◌+◌, ◌<◌, List, length, reverse, drop, get_or, sym, ap, ◌∙◌, arith}
use Rattle.std.proofs.lemmas.List.{at_drop_more, length-reverse}
use Rattle.rq_txn.specs.declared.Finished.{Finished}
use Rattle.rq_txn.specs.Rows.{Row, row_of}
use Rattle.rq_content.specs.Read.{Before, before_of, without_all, without_oldest}
use Rattle.rq_content.proofs.earlier.Earlier.leave_out_rows.Goals as goal

-- one transaction more is left out
one_more : (s : ℕ) (rows : List Row) (i : ℕ) (row : Row) (done : List Finished) (b now total : Before) → i < length rows → get_or rows i row ≡ row → done ≡ row.finished → now ≡ without_all s done b → without_oldest s (drop i rows) b ≡ total → without_oldest s (drop (i + 1) rows) now ≡ total
one_more s rows i row done b now total below read all left so_far =
    ap (without_oldest s (drop (i + 1) rows)) (left ∙ ap (λ fs. without_all s fs b) all) ∙ ap (λ (r : Row). without_oldest s (drop (i + 1) rows) (without_all s r.finished b)) (sym read)
    ∙ sym (at_drop_more (λ l. without_oldest s l b) rows i row below) ∙ so_far

pub loop-place-preserved : goal.loop-place-preserved
loop-place-preserved c =
    let rows = reverse c.args.transactions.now in
    let within : c.loop-place.place < length rows = omega (arith, length-reverse c.args.transactions.now, c.len-place-end.ensures) in
    one_more c.args.sender rows c.loop-place.place (row_of c.at.result.now) c.deref.result.now (before_of c.loop-place.self) (before_of c.leave_out_all.new.self) _ within (c.at.ensures (row_of c.at.result.now)) c.deref.ensures.value c.in_ok-leave_out_all.ensures c.loop-place.invariant
