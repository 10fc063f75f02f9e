use Rattle.std.proofs.Common.{arith}
use Rattle.rq_server.proofs.Waiting.{length_below, nth_below}
use Rattle.rq_server.proofs.rounds.Connections.token_at.Goals as goal

pub returns-then-self : goal.returns-then-self
returns-then-self c = let held = c.if-self.true in let n = length_below c.args.self.now.connections.capacity in rw held (λ lt. nth_below c.args.self.now.connections.capacity c.args.at (omega (arith, lt, n)))
