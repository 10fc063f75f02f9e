use Rattle.std.proofs.Common.{arith, sym}
use Rattle.rq_reference.specs.Plain.{op_of}
use Rattle.rq_reference.proofs.Receives.{last_got}
use Rattle.rq_reference.proofs.scans.last.Goals as goal

pub returns : goal.returns
returns c = sym (last_got op_of c.args.acts.now c.index-acts-count.result (omega (arith, c.if-count-eq0.false)) c.index-acts-count.is)
