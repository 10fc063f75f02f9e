use Rattle.rq_inspect.specs.Keys.{txn_key}
use Rattle.rq_inspect.proofs.Keyed.{txn_removed}
use Rattle.rq_inspect.proofs.reporting.remove_txn.Goals as goal

pub returns : goal.returns
returns c = λ t. txn_removed t c.args.removed c.args.txns.now.keys c.remove.new.self.keys (c.remove.ensures.updates.0 (txn_key t))
