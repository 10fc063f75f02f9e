use Rattle.std.proofs.Common.{sym, ap, set, ◌∙◌}
use Rattle.rq_bitset.proofs.Marked.{marks_put, marks_put_past}
use Rattle.rq_bitset.proofs.bit_set.BitSet.put.Goals as goal

pub returns-then-place-self : goal.returns-then-place-self
returns-then-place-self c =
    let inside = c.self.inside in
    marks_put inside.index c.put.new.self inside.places c.args.place c.args.marked c.put.ensures.others c.put.ensures.put ∙ ap (λ m. set m c.args.place c.args.marked) c.self.view_is

pub returns-else-place-self : goal.returns-else-place-self
returns-else-place-self c =
    let inside = c.self.inside in
    sym c.self.view_is ∙ marks_put_past inside.index inside.places c.args.place c.args.marked c.if-place-self.false ∙ ap (λ m. set m c.args.place c.args.marked) c.self.view_is
