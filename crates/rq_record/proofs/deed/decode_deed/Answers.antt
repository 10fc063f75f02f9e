use Rattle.std.proofs.Common.{arith}
use Rattle.rq_record.proofs.DeedParts.{decoded_some, decoded_only, decoded_told}
use Rattle.rq_record.proofs.deed.decode_deed.Goals as goal

pub returns-clause-some : goal.returns-clause-some
returns-clause-some c = decoded_some c.args.bytes.now c.deed_if_any.result (λ i. omega (arith, c.type_inv.bytes i)) c.deed_if_any.ensures

pub returns-clause-only : goal.returns-clause-only
returns-clause-only c = decoded_only c.args.bytes.now c.deed_if_any.result c.deed_if_any.ensures

pub returns-clause-told : goal.returns-clause-told
returns-clause-told c = decoded_told c.args.bytes.now c.deed_if_any.result c.deed_if_any.ensures
