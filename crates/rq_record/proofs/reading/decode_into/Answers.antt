use Rattle.std.proofs.Common.{arith}
use Rattle.rq_record.specs.Decoding.{step_with}
use Rattle.rq_record.proofs.Fronts.{decoded_front, decoded_found, decoded_short, decoded_bad}
use Rattle.rq_record.proofs.reading.decode_into.Goals as goal

pub returns-clause-front : goal.returns-clause-front
returns-clause-front c = decoded_front c.args.input.now (step_with c.front_of.result c.front_of.new.into) (λ i. omega (arith, c.type_inv.input i)) c.front_of.ensures

pub returns-clause-found : goal.returns-clause-found
returns-clause-found c = decoded_found c.args.input.now (step_with c.front_of.result c.front_of.new.into) c.front_of.ensures

pub returns-clause-short : goal.returns-clause-short
returns-clause-short c = decoded_short c.args.input.now (step_with c.front_of.result c.front_of.new.into) (λ i. omega (arith, c.type_inv.input i)) c.front_of.ensures

pub returns-clause-bad : goal.returns-clause-bad
returns-clause-bad c = decoded_bad c.args.input.now (step_with c.front_of.result c.front_of.new.into) (λ i. omega (arith, c.type_inv.input i)) c.front_of.ensures
