use Rattle.std.proofs.Common.{arith, w64, inl, inr}
use Rattle.std.specs.Int.{bit_not}
use Rattle.std.proofs.lemmas.Bool.{cases_lt}
use Rattle.std.proofs.lemmas.Nat.Bits.{bit_at_above, bit_at_and, bit_at_not}
use Rattle.rq_bitset.proofs.apart.Goals as goal

pub returns : goal.returns
returns c i =
    let both = bit_at_and c.args.word (bit_not w64 c.args.other) i in
    elim (cases_lt i 64) [
      | inl below ↦ omega (arith, both, bit_at_not w64 c.args.other i c.ranges.other.fits below)
      | inr above ↦ omega (arith, both, bit_at_above c.args.word 64 i c.ranges.word.fits above)
    ]
