use Rattle.std.proofs.Common.{◌≤◌, arith}
use Rattle.std.proofs.lemmas.Grind.{common_steps}
use Rattle.std.proofs.lemmas.Map.Keys.{ge_from_not_lt, le_from_not_gt}
use Rattle.rq_analysis.proofs.ended.last_up_to.Goals as goal

pub returns-in-Some-clause-found : goal.returns-in-Some-clause-found
returns-in-Some-clause-found c =
    let found = c.range.ensures.in_range tt in
    let one = found.3 _ _ c.in-Some.ensures.steps in
    let greatest = found.4 _ _ c.in-Some.ensures.steps in
    let begins : c.in-Some.first.now ≤ c.args.count = le_from_not_gt _ _ one.0.1 in
    record {
      there = one.1;
      begins = begins;
      last = λ g le some. ge_from_not_lt _ _ (greatest g (tt, grind (arith, common_steps, le)) some);
    }
