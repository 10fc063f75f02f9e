use Rattle.std.proofs.Common.{take}
use Rattle.std.specs.List.{filter_map}
use Rattle.rq_server.specs.Waiting.{IsLast, awaited_at, tokens}
use Rattle.rq_server.proofs.rounds.Connections.last_awaited.Given as goal

-- the last of those so far
abbrev pub invariant-loop-at : goal.invariant-loop-at
invariant-loop-at l = IsLast (filter_map (awaited_at l.self.connections) (take l.at (tokens l.self))) l.last
