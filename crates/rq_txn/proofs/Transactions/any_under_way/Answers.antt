use Rattle.std.proofs.Common.{◌∙◌}
use Rattle.rq_txn.proofs.Placing.{any_seen}
use Rattle.rq_txn.proofs.Transactions.any_under_way.Goals as goal

pub returns : goal.returns
returns c = c.any.ensures ∙ any_seen c.self.inside.rows c.self.inside.places.items c.self.inside.tally c.args.self.now c.self.invariant c.self.view_is
