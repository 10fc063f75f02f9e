use Rattle.std.proofs.Common.{refl}
use Rattle.rq_chain.proofs.Givens.{group_read}
use Rattle.rq_chain.proofs.given.group_given.Goals as goal

pub returns-clause-group : goal.returns-clause-group
returns-clause-group c =
    let r = group_read c.args.layout.now c.args.given.now c.args.sender c.directory_of-at.result c.in_ok-bytes.bytes.now c.read-held.result c.requires.sender c.requires.given c.directory_of-at.ensures c.in_ok-bytes.ensures c.read-held.ensures in
    (record { at = c.directory_of-at.ensures; sender = c.requires.sender; directory = r.fits }, refl)

pub returns-clause-holds : goal.returns-clause-holds
returns-clause-holds c =
    (group_read c.args.layout.now c.args.given.now c.args.sender c.directory_of-at.result c.in_ok-bytes.bytes.now c.read-held.result c.requires.sender c.requires.given c.directory_of-at.ensures c.in_ok-bytes.ensures c.read-held.ensures).holds_it
