use Rattle.std.proofs.Common.{sym, ap, ◌∙◌}
use Rattle.rq_bitset.specs.Bits.{is_set}
use Rattle.rq_bitset.proofs.Marked.{mark_at, mark_past}
use Rattle.rq_bitset.proofs.bit_set.BitSet.has.Goals as goal

pub returns-then-place-self : goal.returns-then-place-self
returns-then-place-self c =
    let inside = c.self.inside in
    c.has.ensures ∙ sym (mark_at inside.index inside.places c.args.place c.if-place-self.true) ∙ ap (λ m. is_set m c.args.place) c.self.view_is

pub returns-else-place-self : goal.returns-else-place-self
returns-else-place-self c =
    let inside = c.self.inside in
    sym (mark_past inside.index 0 inside.places c.args.place c.if-place-self.false) ∙ ap (λ m. is_set m c.args.place) c.self.view_is
