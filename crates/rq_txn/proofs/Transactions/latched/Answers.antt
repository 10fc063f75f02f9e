use Rattle.std.proofs.Common.{◌∙◌}
use Rattle.rq_txn.proofs.Placing.{latched_seen}
use Rattle.rq_txn.proofs.Transactions.latched.Goals as goal

pub returns : goal.returns
returns c p = c.latched.ensures p ∙ latched_seen p c.self.inside.rows c.self.inside.places.items c.self.inside.tally c.args.self.now c.self.invariant c.self.view_is
