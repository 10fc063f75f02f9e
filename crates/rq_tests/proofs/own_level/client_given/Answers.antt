use Rattle.std.proofs.Common.{arith}
use Rattle.rq_tags.proofs.Clients.{client_found, client_missing}
use Rattle.rq_tests.proofs.own_level.client_given.Goals as goal

pub returns-clause-some : goal.returns-clause-some
returns-clause-some c =
    client_found c.args.layout.now c.args.given.now c.args.client c.client_slot_of.result c.in_ok-bytes.bytes.now (omega (arith, c.if-client-clients.false, c.clients.ensures.number))
    c.requires c.client_slot_of.ensures c.in_ok-bytes.ensures c.decode.result c.decode.ensures.some

pub returns-clause-none : goal.returns-clause-none
returns-clause-none c =
    client_missing c.args.layout.now c.args.given.now c.args.client c.client_slot_of.result c.in_ok-bytes.bytes.now (omega (arith, c.if-client-clients.false, c.clients.ensures.number))
    c.requires c.client_slot_of.ensures c.in_ok-bytes.ensures c.decode.result c.decode.ensures.only
