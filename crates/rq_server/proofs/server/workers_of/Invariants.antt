use Rattle.std.proofs.Common.{◌≡◌}
use Rattle.rq_server.proofs.server.workers_of.Given as goal

-- the seat is one of the mark
abbrev pub invariant-loop-poll : goal.invariant-loop-poll
invariant-loop-poll g l = l.seat.table ≡ l.common.mark
