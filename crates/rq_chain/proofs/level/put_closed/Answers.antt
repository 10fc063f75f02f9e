use Rattle.std.proofs.Common.{arith}
use Rattle.rq_chain.proofs.Planned.{is_marked, differs}
use Rattle.rq_chain.proofs.level.put_closed.Goals as goal

pub returns-in-Ok-clause-ok : goal.returns-in-Ok-clause-ok
returns-in-Ok-clause-ok c p same =
    is_marked c.args.layout.now c.args.given.now c.args.sender c.args.closed p c.in-Some.group (omega (arith, c.if-sender-senders.false, c.senders.ensures.number)) c.in-Some.ensures.group.1 c.in-Some.ensures.holds
    (differs c.in-Some.group.directory.closed c.args.closed c.if-group-closed.false) (rw same c.in-Ok.ensures.writes) (rw same c.in-Ok.ensures.slots)
