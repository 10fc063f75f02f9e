use Rattle.rq_server.specs.Heard.{IsHeard}
use Rattle.rq_server.proofs.connection.Connection.hear.Given as goal

-- the session is as it was
abbrev pub invariant-loop : goal.invariant-loop
invariant-loop l = IsHeard l.fn.self l.self
