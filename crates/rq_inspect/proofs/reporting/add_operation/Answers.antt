use Rattle.rq_inspect.specs.Keys.{operation_key}
use Rattle.rq_inspect.proofs.Keyed.{operation_added}
use Rattle.rq_inspect.proofs.reporting.add_operation.Goals as goal

pub returns-in-Ok-clause-ok : goal.returns-in-Ok-clause-ok
returns-in-Ok-clause-ok c = λ t n. operation_added t n c.args.added c.args.operations.now.keys c.insert.new.self.keys (c.in-Ok.ensures.updates.0 (operation_key t n))
