use Rattle.std.proofs.Common.{rules, arith}
use Rattle.std.proofs.lemmas.Bool.{false≢true}
use Rattle.rq_log.proofs.stream.Stream.new.Goals as goal

pub invariant_of-result : goal.invariant_of-result
invariant_of-result g c = record {
  order = omega arith;
  within = omega arith;
  wide = search rules;
  none_behind = λ e h. absurd (false≢true e);
}
