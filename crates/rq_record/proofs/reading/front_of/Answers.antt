use Rattle.std.proofs.Common.{arith, rules}
use Rattle.rq_record.proofs.Fronts.{rest_within}
use Rattle.rq_record.proofs.reading.front_of.Goals as goal

pub overflow_sub-result : goal.overflow_sub-result
overflow_sub-result c = rest_within c.args.input.now c.take_record.new.into c.in-Ok.rest.now (λ i. omega (arith, c.type_inv.input i)) c.in-Ok.ensures

pub returns-in-Err-Short : goal.returns-in-Err-Short
returns-in-Err-Short c = search rules
