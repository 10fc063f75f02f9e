use Rattle.rq_inspect.specs.Keys.{txn_key}
use Rattle.rq_inspect.proofs.Keyed.{txn_added}
use Rattle.rq_inspect.proofs.reporting.add_txn.Goals as goal

pub returns-in-Ok-clause-ok : goal.returns-in-Ok-clause-ok
returns-in-Ok-clause-ok c = λ t. txn_added t c.args.added c.args.txns.now.keys c.insert.new.self.keys (c.in-Ok.ensures.updates.0 (txn_key t))
