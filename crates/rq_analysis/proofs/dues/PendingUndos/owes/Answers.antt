use Rattle.std.proofs.Common.{ap, sym, ◌∙◌}
use Rattle.rq_analysis.specs.Dues.{any_due, due_of}
use Rattle.rq_analysis.proofs.Stacks.{any_reverse}
use Rattle.rq_analysis.proofs.dues.PendingUndos.owes.Goals as goal

pub returns : goal.returns
returns c = c.has_due.ensures ∙ ap (any_due c.args.txn) c.deref.ensures.value ∙ sym (any_reverse (due_of c.args.txn) c.self.inside.dues.items) ∙ ap (any_due c.args.txn) c.self.view_is
