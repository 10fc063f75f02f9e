use Rattle.std.proofs.Common.{sym}
use Rattle.rq_bitset.proofs.Marked.{next_mark, no_mark_within, no_mark}
use Rattle.rq_bitset.proofs.bit_set.BitSet.next.Goals as goal

pub returns-then-place-self : goal.returns-then-place-self
returns-then-place-self c = rw (sym c.self.view_is) (next_mark c.self.inside.index c.self.inside.places c.args.from c.in-Some.place c.in-Some.ensures c.if-place-self.true)

pub returns-else-place-self : goal.returns-else-place-self
returns-else-place-self c = rw (sym c.self.view_is) (no_mark_within c.self.inside.index c.self.inside.places c.args.from c.in-Some.place c.in-Some.ensures c.if-place-self.false)

pub returns-in-None : goal.returns-in-None
returns-in-None c = rw (sym c.self.view_is) (no_mark c.self.inside.index c.self.inside.places c.args.from c.in-None.ensures)
