use Rattle.std.proofs.Common.{arith, w64}
use Rattle.std.proofs.lemmas.Nat.Bits.{bit_at-trailing_zeros}
use Rattle.rq_bitset.proofs.lowest.Goals as goal

pub returns-clause-set : goal.returns-clause-set
returns-clause-set c = (bit_at-trailing_zeros w64 c.args.word (omega arith) (omega arith)).1

pub returns-clause-first : goal.returns-clause-first
returns-clause-first c = (bit_at-trailing_zeros w64 c.args.word (omega arith) (omega arith)).2
