use Rattle.std.proofs.Common.{arith}
use Rattle.rq_bytes.proofs.Compared.{same_front}
use Rattle.rq_bytes.proofs.equal.has_same_front.Goals as goal

pub returns-clause-same : goal.returns-clause-same
returns-clause-same c =
    same_front c.args.left.now c.args.right.now (λ i. omega (arith, c.type_inv.left i)) (λ i. omega (arith, c.type_inv.right i)) c.requires.left c.requires.right
    c.read_u64.result c.read_u64-3.result c.read_u64-5.result c.read_u64-7.result c.read_u64-2.result c.read_u64-4.result c.read_u64-6.result c.read_u64-8.result
    c.read_u64.ensures c.read_u64-2.ensures c.read_u64-3.ensures c.read_u64-4.ensures c.read_u64-5.ensures c.read_u64-6.ensures c.read_u64-7.ensures c.read_u64-8.ensures
