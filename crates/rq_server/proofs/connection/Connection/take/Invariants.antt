use Rattle.rq_server.specs.Heard.{IsHeard}
use Rattle.rq_server.proofs.connection.Connection.take.Given as goal

-- the session is as it was
abbrev pub invariant-loop-request : goal.invariant-loop-request
invariant-loop-request l = IsHeard l.fn.self l.self
