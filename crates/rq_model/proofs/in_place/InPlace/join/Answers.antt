use Rattle.std.proofs.Common.{rules, ◌≡◌, ◌+◌, ◌-◌, ◌∙◌, length, replicate, arith}
use Rattle.rq_model.proofs.Padded.{padded_over}
use Rattle.rq_model.proofs.in_place.InPlace.join.Goals as goal

pub invariant_of-self : goal.invariant_of-self
invariant_of-self g c =
    let front : c.copy_from_slice.new.self ≡ c.args.front.now = search rules in
    let rest : c.copy_from_slice-2.new.self ≡ c.args.rest.now = search rules in
    let filled = c.fill.ensures.after (λ y h. h) in
    let zeros : c.fill.new.self ≡ replicate (g.row.N - (length c.args.front.now + length c.args.rest.now)) 0 = filled ∙ search rules in
    let size : length c.self.inside.bytes ≡ g.row.N = c.self.invariant.2 in
    rw (front, rest, zeros) (padded_over g.row.N c.args.front.now c.args.rest.now c.self.inside.bytes size (omega arith))
