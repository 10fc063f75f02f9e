use Rattle.std.proofs.Common.{arith}
use Rattle.rq_page.proofs.CellBytes.{used_in_range}
use Rattle.rq_page.proofs.cell.CellSlot.read.Goals as goal

pub returns-then-length-gt-BODY_LIMIT-clause-none : goal.returns-then-length-gt-BODY_LIMIT-clause-none
returns-then-length-gt-BODY_LIMIT-clause-none c = λ held is e.
    let range = used_in_range held c.args.bytes.now is e c.if-bytes-eq0.false in
    let long = c.u16_at-length.ensures in
    omega (arith, range.0, long)

pub returns-then-sequence-eq0-clause-none : goal.returns-then-sequence-eq0-clause-none
returns-then-sequence-eq0-clause-none c = λ held is e.
    let range = used_in_range held c.args.bytes.now is e c.if-bytes-eq0.false in
    let numbered = c.u64_at-sequence.ensures in
    omega (arith, range.1, numbered)
