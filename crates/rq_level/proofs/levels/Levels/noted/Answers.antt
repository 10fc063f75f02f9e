use Rattle.std.proofs.Common.{arith}
use Rattle.rq_level.proofs.OneLevel.{all_told, none_told, one_told}
use Rattle.rq_level.proofs.levels.Levels.noted.Goals as goal

pub loop-level-init : goal.loop-level-init
loop-level-init g c = none_told _ c.args.at c.args.bytes.now c.args.self.now c.keepers-first.ensures.before

pub loop-level-preserved : goal.loop-level-preserved
loop-level-preserved g c =
    let within = c.keepers-first.ensures.within in
    let below = c.loop-level-test.true in
    one_told c.loop-level.level c.args.at c.args.bytes.now c.args.self.now c.loop-level.self c.tell.new.self c.loop-level.invariant (omega (arith, within, below)) c.tell.ensures

pub tell-requires : goal.tell-requires
tell-requires g c =
    let within = c.keepers-first.ensures.within in
    let below = c.loop-level-test.true in
    let count = c.loop-level.invariant.count in
    omega (arith, within, below, count)

pub returns : goal.returns
returns g c =
    let above = c.loop-level-test.false in
    all_told c.args.at c.loop-level.level c.args.bytes.now c.args.self.now c.loop-level.self c.loop-level.invariant (λ i le lt. c.keepers-first.ensures.after i (omega (arith, above, le)) lt)
