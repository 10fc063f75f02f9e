use Rattle.std.proofs.Common.{◌-◌, ap, arith, drop, length, take, List, ℕ}
use Rattle.rq_bytes.proofs.Compared.{same_on, same_whole}
use Rattle.rq_bytes.proofs.equal.are_equal.Goals as goal

pub loop-at-preserved : goal.loop-at-preserved
loop-at-preserved c = record {
  within = omega (arith, c.loop-at-test.true);
  same = same_on c.loop-at.at c.args.left.now c.args.right.now c.loop-at.invariant.same c.if-not-has_same_front.ensures.same;
}

pub returns : goal.returns
returns c = (
  λ y. same_whole c.loop-at.at c.args.left.now c.args.right.now c.loop-at.invariant.same (c.is_same.ensures.0 y),
  λ e. c.is_same.ensures.1 (ap (λ (l : List ℕ). take (length l - c.loop-at.at) (drop c.loop-at.at l)) e),
)
