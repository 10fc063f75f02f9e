use Rattle.rq_bitset.proofs.Marked.{marks_none}
use Rattle.rq_bitset.proofs.bit_set.BitSet.new.Goals as goal

pub returns-in-Ok : goal.returns-in-Ok
returns-in-Ok c = marks_none c.in-Ok.index 0 c.args.places c.in-Ok.ensures.none
