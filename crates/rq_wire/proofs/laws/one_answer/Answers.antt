use Rattle.rq_wire.proofs.Streams as streams
use Rattle.rq_wire.proofs.laws.one_answer.Goals as goal

pub returns : goal.returns
returns c = streams.one_answer
