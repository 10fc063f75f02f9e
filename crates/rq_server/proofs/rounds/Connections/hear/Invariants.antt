use Rattle.std.proofs.Common.{ℕ}
use Rattle.slab.specs.Slab.{get}
use Rattle.rq_server.specs.Heard.{AreHeard}
use Rattle.rq_server.proofs.rounds.Connections.hear.Given as goal

-- so far all sessions are as they were
abbrev pub invariant-loop-at : goal.invariant-loop-at
invariant-loop-at l = (token : ℕ) → AreHeard (get l.fn.self.connections token) (get l.self.connections token)
