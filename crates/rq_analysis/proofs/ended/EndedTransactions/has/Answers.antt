use Rattle.std.proofs.Common.{ap, ◌∙◌}
use Rattle.std.specs.FinSet as set
use Rattle.rq_analysis.specs.Runs.{Counts}
use Rattle.rq_analysis.proofs.RuleCounts.{told}
use Rattle.rq_analysis.proofs.ended.EndedTransactions.has.Goals as goal

pub returns : goal.returns
returns c =
    told c.self.inside.runs c.args.txn.count c.first_with.result c.is_none.result c.first_with.ensures.ordered c.first_with.ensures.none c.first_with.ensures.some c.is_none.ensures
    ∙ ap (λ (x : Counts). set.contains x c.args.txn.count) c.self.view_is
