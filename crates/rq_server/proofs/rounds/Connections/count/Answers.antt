use Rattle.std.proofs.Common.{◌∙◌, sym}
use Rattle.rq_server.proofs.Waiting.{length_below}
use Rattle.rq_server.proofs.rounds.Connections.count.Goals as goal

pub returns-then-self : goal.returns-then-self
returns-then-self c = let held = c.if-self.true in let n = length_below c.args.self.now.connections.capacity in rw held (c.capacity.ensures.value ∙ sym n)
