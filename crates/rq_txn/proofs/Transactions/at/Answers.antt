use Rattle.std.proofs.Common.{arith}
use Rattle.rq_txn.proofs.Placing.{holds_key, length_seen}
use Rattle.rq_txn.proofs.Transactions.at.Goals as goal

pub index-requires-2 : goal.index-requires-2
index-requires-2 c =
    let i = c.self.inside in
    holds_key i.rows i.places.items c.args.place c.index.result.now c.self.invariant.table (omega (arith, length_seen i.rows i.places.items c.args.self.now c.self.view_is)) c.index.ensures
