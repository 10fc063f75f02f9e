use Rattle.std.proofs.Common.{◌≡◌, ◌+◌, ◌∙◌, ap, arith, length}
use Rattle.rq_level.proofs.OneLevel.{by_index}
use Rattle.rq_level.proofs.levels.Levels.new.Goals as goal

pub invariant_of-result : goal.invariant_of-result
invariant_of-result g c =
    let n : length c.deref-2.result.now ≡ length c.args.all.items = ap length c.deref-2.ensures.value in
    let within = c.end_of-end.ensures.within in (
      λ i d l. by_index g.B.Level.level 0 c.args.all.items c.requires i d l ∙ (let e : 0 + i ≡ i = omega arith in e),
      c.idle_of-idle.ensures,
      omega (arith, n, within),
      λ i le lt. c.end_of-end.ensures.idle i le (omega (arith, n, lt)),
    )
