use Rattle.std.proofs.Common.{rules, ◌≡◌, ◌++◌, List, ℕ, length, drop, replicate, sym, arith, subst}
use Rattle.rq_model.proofs.Padded.{IsPadded, padded}
use Rattle.rq_model.proofs.in_place.InPlace.new.Goals as goal

pub invariant_of-result : goal.invariant_of-result
invariant_of-result g c =
    let same : c.copy_from_slice.new.self ≡ c.args.bytes.now = search rules in
    subst (λ (ys : List ℕ). IsPadded g.row.N (length c.args.bytes.now) (ys ++ drop (length c.args.bytes.now) (replicate g.row.N 0))) (sym same) (padded g.row.N c.args.bytes.now (omega arith))
