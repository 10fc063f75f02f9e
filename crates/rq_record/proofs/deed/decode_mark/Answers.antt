use Rattle.std.proofs.Common.{arith}
use Rattle.rq_record.proofs.DeedParts.{mark_some, mark_only, mark_told}
use Rattle.rq_record.proofs.deed.decode_mark.Goals as goal

pub returns-clause-some : goal.returns-clause-some
returns-clause-some c = mark_some c.args.bytes.now c.mark_if_any.result (λ i. omega (arith, c.type_inv.bytes i)) c.mark_if_any.ensures

pub returns-clause-only : goal.returns-clause-only
returns-clause-only c = mark_only c.args.bytes.now c.mark_if_any.result c.mark_if_any.ensures

pub returns-clause-told : goal.returns-clause-told
returns-clause-told c = mark_told c.args.bytes.now c.mark_if_any.result c.mark_if_any.ensures
