use Rattle.rq_inspect.specs.Keys.{operation_key}
use Rattle.rq_inspect.proofs.Keyed.{operation_removed}
use Rattle.rq_inspect.proofs.reporting.remove_operation.Goals as goal

pub returns : goal.returns
returns c = λ t n. operation_removed t n c.args.removed c.args.operations.now.keys c.remove.new.self.keys (c.remove.ensures.updates.0 (operation_key t n))
